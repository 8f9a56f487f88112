pub mod Printing
pub mod Seriating
pub mod Verifying
