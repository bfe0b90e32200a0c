pub mod Apart
pub mod Folding
pub mod Looking
pub mod Once
pub mod Staying
