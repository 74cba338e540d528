pub mod HandlerRow
pub mod Laws
pub mod Limits
pub mod Suites
pub mod Table
