pub mod Entries
pub mod PathTexts
pub mod Paths
