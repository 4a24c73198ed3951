pub mod Format
pub mod Stsz
pub mod Indexed
