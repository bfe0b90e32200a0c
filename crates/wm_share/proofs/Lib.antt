pub mod Fronts
pub mod Logs
pub mod Adding
pub mod Lists
