pub mod TableOverlap
pub mod FlagLemmas
