pub mod Opened
pub mod Cut
