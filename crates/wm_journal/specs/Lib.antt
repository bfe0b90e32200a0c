pub mod Areas
pub mod Gates
pub mod Records
pub mod Regions
pub mod laws
