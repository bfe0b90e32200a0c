pub mod Agree
pub mod Applies
pub mod Moves
pub mod Naming
pub mod Turns
pub mod Written
