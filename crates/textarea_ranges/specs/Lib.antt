pub mod Lookup
pub mod Moved
pub mod Order
pub mod Rejected
pub mod Valid
pub mod Prelude
