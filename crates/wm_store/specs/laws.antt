-- Public laws: lemmas on the definitions, for the proofs of this crate and of those above. A reader of definitions may skip them.
pub mod Replies
pub mod Retired
