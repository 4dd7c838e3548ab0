pub mod Circuit
pub mod Finished
