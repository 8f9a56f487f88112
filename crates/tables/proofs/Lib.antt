pub mod Reach
pub mod KindSets
pub mod Between
pub mod Places
pub mod KindList
pub mod Judging
pub mod Refusing
