pub mod Calls
pub mod Table
pub mod Course
pub mod Runs
