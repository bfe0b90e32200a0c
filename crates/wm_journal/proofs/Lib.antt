pub mod Appending
pub mod Contents
pub mod Laying
pub mod Opening
pub mod Reading
