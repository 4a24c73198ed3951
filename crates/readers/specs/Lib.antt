pub mod Faults
pub mod Field
pub mod Reading
