pub mod Accepted
pub mod Brings
pub mod Wrong
pub mod Stands
pub mod Judges
pub mod Laid
