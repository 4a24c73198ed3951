pub mod Repeated
pub mod Checked
