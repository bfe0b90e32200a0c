mod Begun
mod Bits
pub mod Crossing
mod DueRuns
mod Flags
mod Names
mod Parting
mod Rising
mod Rounds
mod Steps
mod Turns
