pub mod Disks
pub mod JournalSteps
pub mod JournalWrites
pub mod Journals
pub mod Recoveries
pub mod Saves
pub mod TextChanges
