-- Tests on entries.
use Rattle.std.specs.Prelude.{◌≡◌, Bool}
use Rattle.wm_names.specs.declared.entry.Entry.{Entry}

-- the test has one value for any two entries of one path
abbrev pub PathOnly : (Entry → Bool) → Type 0
PathOnly passes = (a b : Entry) → a.path ≡ b.path → passes a ≡ passes b
