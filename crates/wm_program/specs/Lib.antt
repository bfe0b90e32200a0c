pub mod ProgramRuns
pub mod ProgramWords
