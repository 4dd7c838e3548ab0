pub mod Honest
pub mod Said
