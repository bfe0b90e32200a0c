use Rattle.std.proofs.Common.{◌≡◌, ◌++◌, drop, flat_map, length}
use Rattle.std.specs.Prelude.{string_bytes}
use Rattle.std.specs.Str.{chars}
use Rattle.wm_explain.specs.Shown.{shown_char}
use Rattle.wm_explain.proofs.escapes.shown.Given as goal

-- what is written so far, and what is left
abbrev pub invariant-loop-c : goal.invariant-loop-c
invariant-loop-c l = string_bytes l.line ++ flat_map shown_char (drop (length l.yielded) (chars l.text)) ≡ flat_map shown_char (chars l.text)
