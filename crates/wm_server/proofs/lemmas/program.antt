mod CommandLemmas
pub mod MigrationLemmas
mod OneWordLemmas
pub mod ProgramLemmas
pub mod WordLemmas
