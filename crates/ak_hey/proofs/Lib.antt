pub mod NamedKinds
pub mod Surface
pub mod grammar
