pub mod Colours
pub mod Rings
pub mod Theorems
pub mod Search
