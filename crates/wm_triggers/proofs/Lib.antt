pub mod Applied
pub mod Gone
pub mod Naming
pub mod Placing
