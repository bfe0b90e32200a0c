pub mod FileDisks
pub mod FileEvents
pub mod FileLaws
