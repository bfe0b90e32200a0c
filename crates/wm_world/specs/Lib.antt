pub mod Headline
pub mod Laws
pub mod Passes
pub mod Refinement
pub mod Steps
pub mod Worlds
