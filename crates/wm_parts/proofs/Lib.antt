mod KeyCounts
mod TermParts
mod ValueKinds
