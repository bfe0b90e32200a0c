pub mod Crossing
mod SeatSent
mod Sent
