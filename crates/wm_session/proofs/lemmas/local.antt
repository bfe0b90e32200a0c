pub mod LocalLemmas
pub mod MetLemmas
pub mod OperationLemmas
pub mod StartLemmas
pub mod WatchedLemmas
