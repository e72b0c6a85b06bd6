pub mod Drawing
mod Matches
mod HitLemmas
mod Holds
mod Numbers
mod OneFilling
mod Placeholder
mod Visible
pub mod Layers
