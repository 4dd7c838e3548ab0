pub mod Orders
pub mod Compacts
pub mod Adds
pub mod Worths
pub mod Rises
pub mod Seeks
pub mod Evaluates
