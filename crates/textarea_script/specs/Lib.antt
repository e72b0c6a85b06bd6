pub mod Failures
pub mod Session
pub mod ProgramArguments
