pub mod program
