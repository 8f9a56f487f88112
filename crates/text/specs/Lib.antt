pub mod Show
pub mod Worked
