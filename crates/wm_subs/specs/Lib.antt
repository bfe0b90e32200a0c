pub mod Folds
pub mod SessionLists
pub mod Subscribers
pub mod SubscriptionNames
