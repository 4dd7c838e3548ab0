pub mod WrittenBack
pub mod Rows
pub mod Follows
