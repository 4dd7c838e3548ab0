pub mod Held
pub mod Sound
pub mod Calls
pub mod Follows
pub mod Runs
pub mod Laws
