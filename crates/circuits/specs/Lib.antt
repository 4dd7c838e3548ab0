pub mod Faults
pub mod Triples
