pub mod Making
pub mod Laws
