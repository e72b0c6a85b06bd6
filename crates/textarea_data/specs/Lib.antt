pub mod Cursor
pub mod Input
pub mod Scroll
