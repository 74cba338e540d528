pub mod Current
pub mod Laws
pub mod Specifier
