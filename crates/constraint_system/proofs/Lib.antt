pub mod Outcomes
pub mod Variables
pub mod Written
