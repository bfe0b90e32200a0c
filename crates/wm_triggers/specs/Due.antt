-- Which files a trigger is for, and which run of it is due.
use Rattle.std.specs.Prelude.{ℕ, List, length, nat_lt, Option, Some, None, option_and_then, if◌then◌else◌}
use Rattle.serde_json.specs.Read.{read}
use Rattle.wm_expr.specs.Readings.{expression_of}
use Rattle.wm_expr.specs.Terms.{Term, Always}
use Rattle.wm_registry.specs.Triggers.{Definition}
use Rattle.wm_since.specs.declared.query.Answer.{Answer}

-- each file where there is no text; nothing where the text is no JSON, or no expression
abbrev pub term_in : Option (List ℕ) → Option Term
term_in None = Some Always
term_in (Some text) = option_and_then expression_of (read text)

-- the term of the files that a trigger is for
abbrev pub term_for : Definition → Option Term
term_for t = term_in t.expression

-- the run that is due by an answer: the answer itself, where it lists a file
abbrev pub run_by : Answer → Option Answer
run_by a = if nat_lt 0 (length a.files) then Some a else None
