pub mod CauseLines
pub mod Causes
pub mod Shown
pub mod StartCauses
