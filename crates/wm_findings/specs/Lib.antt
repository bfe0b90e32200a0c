pub mod Heads
pub mod Hindrances
pub mod Places
