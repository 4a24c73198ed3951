pub mod Bounds
pub mod Cut
