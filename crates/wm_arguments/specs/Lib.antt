pub mod ArgumentRules
pub mod ArgumentValues
pub mod Parses
