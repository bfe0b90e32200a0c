pub mod Advice
pub mod Braces
pub mod PartLines
pub mod RefusedParts
pub mod RefusedTerms
pub mod RefusedValues
pub mod RequestKinds
pub mod TriggerPrograms
