pub mod LocalLaws
pub mod Locals
pub mod Questions
pub mod Stores
pub mod ViewChanges
