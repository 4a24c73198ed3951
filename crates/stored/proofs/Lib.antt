pub mod Sizes
pub mod Fitting
