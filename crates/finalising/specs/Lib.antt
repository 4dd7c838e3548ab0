pub mod Uses
pub mod Lent
pub mod Finishing
