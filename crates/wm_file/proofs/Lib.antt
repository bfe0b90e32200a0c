pub mod FileExamples
pub mod FileStart
