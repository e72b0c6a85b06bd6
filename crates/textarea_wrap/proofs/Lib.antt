mod Prelude
pub mod BlankLemmas
pub mod CloserLemmas
pub mod ColumnLemmas
pub mod CountedLemmas
pub mod DigitLemmas
pub mod FewestLemmas
pub mod FewestRowLemmas
pub mod FewestWordLemmas
pub mod FittingLemmas
pub mod GlyphLemmas
pub mod KeptGlyphLemmas
pub mod KeptMarkLemmas
pub mod KeptRowLemmas
pub mod KeptWordLemmas
pub mod MarkLemmas
pub mod OneWrappingLemmas
pub mod OneRowLemmas
pub mod RestLemmas
pub mod RowLemmas
pub mod PartedLemmas
pub mod VisibleLemmas
pub mod WordLemmas
mod TallyWalks
