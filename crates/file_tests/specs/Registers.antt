-- For tests: the laws of a register, whose commands set it, and of a switch.
use Rattle.std.proofs.Common.{◌≡◌, ◌≢◌, ℕ, Bool, true, false, not, ◌==◌, sym, ap, ◌∙◌, eq-eqb, eqb-true, true≢false}
use Rattle.std.proofs.lemmas.Bool.{not-false}

-- the command changes the state
abbrev pub changes_register : ℕ → ℕ → Bool
changes_register state command = not (state == command)

pub idle_register : (s c : ℕ) → changes_register s c ≡ false → c ≡ s
idle_register s c h = sym (eqb-true s c (not-false (s == c) h))

pub alive_register : (s c : ℕ) → changes_register s c ≡ true → c ≢ s
alive_register s c h e = true≢false (sym h ∙ ap not (eq-eqb s c (sym e)))

-- where a command puts a switch
abbrev pub position : Bool → ℕ
position true = 1
position false = 0
