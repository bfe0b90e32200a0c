pub mod PublishedLists
pub mod Operations
pub mod Pools
pub mod Logs
pub mod Rules
