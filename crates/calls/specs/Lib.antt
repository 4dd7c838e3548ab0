pub mod Calls
pub mod Standing
pub mod Runs
pub mod Promise
pub mod Laws
pub mod Does
