pub mod Firsts
pub mod Rows
pub mod Texts
pub mod Surface
