pub mod RunArrays
