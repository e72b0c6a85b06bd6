pub mod EdgeLemmas
pub mod StopLemmas
pub mod StopPlaces
