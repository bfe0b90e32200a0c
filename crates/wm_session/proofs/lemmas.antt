pub mod local
pub mod session
