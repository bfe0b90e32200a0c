pub mod Basenames
pub mod Joins
pub mod TextOrders
