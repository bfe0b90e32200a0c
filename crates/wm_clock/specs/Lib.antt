pub mod Clocks
pub mod Cursors
pub mod Laws
