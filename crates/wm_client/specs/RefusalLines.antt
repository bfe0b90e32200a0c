-- Which refusal a reply is, by how its line begins.
use Rattle.std.specs.Prelude.{◌≡◌, ◌++◌, ℕ, nat_eq, Bool, true, false, List, Option, None, Some, codes}
use Rattle.std.specs.List.{starts_with}
use Rattle.wm_disk.specs.Refusals.{refusal_text}
use Rattle.wm_disk.specs.declared.refusal.Refusal.{Refusal}

-- how the line of a refusal begins: `{"error":"17 TooMany`
abbrev pub start_of_refusal : Refusal → List ℕ
start_of_refusal r = codes "{\"error\":\"" ++ refusal_text r

-- the line begins as that of this refusal
abbrev pub is_refused_by : Refusal → List ℕ → Bool
is_refused_by r line = starts_with nat_eq line (start_of_refusal r)

-- the line begins as that of this refusal, or as that of none
abbrev pub IsRefusalOf : List ℕ → Option Refusal → Type 0
IsRefusalOf line None = (r : Refusal) → is_refused_by r line ≡ false
IsRefusalOf line (Some r) = is_refused_by r line ≡ true
