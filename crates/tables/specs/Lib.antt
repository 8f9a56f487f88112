pub mod Format
pub mod Kinds
pub mod First
pub mod Room
pub mod Refusals
pub mod Texts
pub mod Reading
pub mod Orders
