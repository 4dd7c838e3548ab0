pub mod Layout
pub mod Sound
pub mod Finalising
pub mod Steps
pub mod Checks
pub mod Follows
pub mod Laws
