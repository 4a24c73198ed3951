pub mod Faults
pub mod Film
pub mod Steps
