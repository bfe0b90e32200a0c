pub mod Commands
pub mod Ended
pub mod Looks
pub mod MetShared
pub mod RootsSeen
pub mod SharedLaws
