pub mod Faults
pub mod Stored
pub mod Totals
pub mod Film
