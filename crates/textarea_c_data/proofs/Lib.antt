pub mod Cells
pub mod Colors
pub mod Copied
pub mod WrittenLines
pub mod StyledTexts
pub mod Texts
