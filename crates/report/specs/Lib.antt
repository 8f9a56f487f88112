pub mod Answer
pub mod Tells
