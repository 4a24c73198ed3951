pub mod Small
pub mod Taking
