pub mod Printed
pub mod Statuses
pub mod OneWord
