use Rattle.std.proofs.Common.{◌∙◌, Some, None, ap, ap₂, is_some, refl, sym, true≢false}
use Rattle.clap.specs.Words.{found_of, rows_of}
use Rattle.wm_server.specs.program.Words.{migrate}
use Rattle.wm_server.proofs.lemmas.program.WordLemmas.{migrate_by_parts}
use Rattle.wm_server.proofs.program.words.migrating.Goals as goal

pub unreachable-requires : goal.unreachable-requires
unreachable-requires c = true≢false (sym c.requires ∙ ap is_some (migrate_by_parts (rows_of (found_of c.args.matches.now)) None _ c.in_default.ensures refl))

pub unreachable-requires-in_default-word_of : goal.unreachable-requires-in_default-word_of
unreachable-requires-in_default-word_of c =
    true≢false (sym c.requires ∙ ap is_some (migrate_by_parts (rows_of (found_of c.args.matches.now)) (Some c.in-Some.old.now) None c.in-Some.ensures c.in_default-word_of.ensures))

pub returns : goal.returns
returns c =
    migrate_by_parts (rows_of (found_of c.args.matches.now)) (Some c.in-Some.old.now) (Some c.in-Some-word_of.new.now) c.in-Some.ensures c.in-Some-word_of.ensures
    ∙ ap₂ (λ o n. Some (migrate o n)) (sym c.in_ok-old.ensures.ok) (sym c.in_ok-new.ensures.ok)
