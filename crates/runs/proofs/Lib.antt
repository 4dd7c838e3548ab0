pub mod CallsDo
pub mod Turns
