pub mod Places
pub mod CellsWritten
pub mod RowsWritten
pub mod MatricesWritten
pub mod FromSound
