pub mod EventQueues
pub mod LogLaws
pub mod LogLimits
pub mod LogLines
pub mod StartTexts
