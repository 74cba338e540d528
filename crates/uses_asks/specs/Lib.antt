pub mod Laws
pub mod Serving
