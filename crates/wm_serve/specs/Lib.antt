pub mod AcceptQueues
pub mod AdmissionLines
pub mod ClientLines
pub mod CrawlLines
pub mod CrawlOutcomes
pub mod SentLines
pub mod SlotLines
pub mod Sockets
