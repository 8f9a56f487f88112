pub mod Growing
pub mod Clearing
pub mod Finishing
