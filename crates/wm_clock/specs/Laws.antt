-- The laws of clock texts.
use Rattle.std.specs.Prelude.{◌≡◌, ◌↔◌, ℕ, List, true, Some}
use Rattle.wm_clock.specs.declared.clock_id.ClockId.{ClockId}
use Rattle.wm_clock.specs.declared.clock_spec.ClockSpec.{ClockSpec}
use Rattle.wm_clock.specs.declared.clock_spec.ClockSpec.TheVariants.{Clock}
use Rattle.wm_clock.specs.Clocks.{Names, Reads, clock_text, is_clock, spec_of}

-- no text is that of two clocks
abbrev pub OneText : Type 0
OneText = (text : List ℕ) (c d : ClockId) → Names text c → Names text d → c ≡ d

-- a clock in range is read back from its text
abbrev pub IsReadBack : Type 0
IsReadBack = (c : ClockId) → is_clock c ≡ true → spec_of (clock_text c) ≡ Some (Clock c)

-- what a text reads as is what is computed from it
abbrev pub Agree : Type 0
Agree = (text : List ℕ) (s : ClockSpec) → Reads text s ↔ (spec_of text ≡ Some s)
