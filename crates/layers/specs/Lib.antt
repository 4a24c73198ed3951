pub mod Numbers
pub mod Delay
pub mod Buffer
pub mod Jitter
pub mod Prefix
