pub mod BufferLemmas
pub mod ChangeLemmas
pub mod CharacterLemmas
pub mod FreshLemmas
