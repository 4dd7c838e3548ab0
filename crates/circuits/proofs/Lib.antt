pub mod InUse
pub mod Triples
pub mod SoundParts
pub mod Fills
pub mod Checked
