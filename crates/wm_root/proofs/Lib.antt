pub mod Crawls
pub mod Operating
pub mod Turns
