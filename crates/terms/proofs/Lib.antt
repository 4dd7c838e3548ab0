pub mod Edits
pub mod Places
pub mod Merges
pub mod Values
