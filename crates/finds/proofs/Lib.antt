pub mod Parity
pub mod Laws
pub mod Branches
pub mod Counts
pub mod Start
pub mod Worked
pub mod Size
pub mod Bits
