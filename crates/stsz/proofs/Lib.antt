pub mod Samples
pub mod Indexed
