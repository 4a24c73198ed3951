pub mod Faults
pub mod Rows
pub mod Listing
pub mod Cut
