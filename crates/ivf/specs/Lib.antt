pub mod Ivf
pub mod Recorded
