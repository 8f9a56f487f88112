pub mod Status
pub mod Opening
pub mod Change
pub mod Growth
pub mod Theorems
