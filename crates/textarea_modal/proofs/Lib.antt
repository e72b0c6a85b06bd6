pub mod Courses
pub mod Ends
pub mod Runs
pub mod Edits
