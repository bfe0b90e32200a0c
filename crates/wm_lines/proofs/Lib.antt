pub mod EachLemmas
pub mod KeptLemmas
pub mod ListedLemmas
mod ReplyLines
pub mod ReplyTexts
pub mod ShownTriggers
pub mod Texts
pub mod TriggerLemmas
