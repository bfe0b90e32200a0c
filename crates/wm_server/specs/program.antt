pub mod Endings
pub mod Migrating
pub mod Programs
pub mod Systems
pub mod Words
