pub mod Alls
pub mod Characters
pub mod Options
pub mod Replacing
