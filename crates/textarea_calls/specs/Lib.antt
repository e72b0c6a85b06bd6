pub mod Topics
pub mod Possible
pub mod FlagRule
pub mod Table
pub mod Keys
pub mod Edits
