pub mod Certain
pub mod Middle
pub mod Counting
pub mod Factors
pub mod Shown
pub mod Near
pub mod Answering
pub mod Theorems
