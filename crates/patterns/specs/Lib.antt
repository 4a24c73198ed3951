pub mod Faults
pub mod Pattern
pub mod Checks
pub mod Live
