-- Words of which something else is wanted than to show a fault.
use Rattle.std.proofs.Common.{◌≡◌, ◌<◌, ℕ, List, ap, arith}
use Rattle.clap.specs.Words.{Text}
use Rattle.wm_program.specs.ProgramWords.{AsksProgram, ProgramWanted, plain, serve_on, shown_status}

-- the status of a text that is shown
abbrev pub status_shown : ProgramWanted → ℕ
status_shown (serve_on file socket settings) = 0
status_shown plain = 0
status_shown (shown_status status) = status

-- where all that the words may ask for is a fault, they ask for nothing else
pub no_fault : (words : List Text) (wanted : ProgramWanted) (n : ℕ) → AsksProgram words wanted → status_shown wanted ≡ 0
    → ((w : ProgramWanted) → AsksProgram words w → w ≡ shown_status 2) → 0 < n
no_fault words wanted n asks zero all =
    let two : status_shown wanted ≡ 2 = ap status_shown (all wanted asks) in
    absurd (omega (arith, zero, two))
