mod DiskLemmas
mod FileLines
mod Views
