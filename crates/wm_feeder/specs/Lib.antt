pub mod ForNow
pub mod Pauses
