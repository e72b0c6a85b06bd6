mod Halves
mod Heights
mod Masking
