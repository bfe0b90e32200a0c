-- The end of a trigger's spelling: the most files that it tells a program of, where there is such a number. Version 1 has no place for it.
use Rattle.std.specs.Prelude.{◌≡◌, ◌<◌, ◌^◌, ℕ, Bool, true, false, List, [], nat_lt, Option, Some, None}
use Rattle.byteorder.specs.Endian.{big_bytes}
use Rattle.wm_wire.specs.Spelling.{IsOptional, optional_spelling}
use Rattle.wm_registry.specs.declared.version.Version.{Version}
use Rattle.wm_registry.specs.declared.version.Version.TheVariants.{One, Two}

-- no number, or at least one
abbrev pub is_file_count : Option ℕ → Bool
is_file_count None = true
is_file_count (Some n) = nat_lt 0 n

-- a file of the version has a place for it
abbrev pub count_fits : Version → Option ℕ → Bool
count_fits One None = true
count_fits One (Some n) = false
count_fits Two most = true

-- no number, or one from 1 to 2^32 - 1, which has a place
pub record IsEnding (v : Version) (most : Option ℕ) : Type 0 where
  pub number : IsOptional (λ n. n < 2 ^ 32) (big_bytes 4) most
  pub some : is_file_count most ≡ true
  pub place : count_fits v most ≡ true

-- in version 2 a number of 32 bits that may be missing
abbrev pub ending_spelling : Version → Option ℕ → List ℕ
ending_spelling One most = []
ending_spelling Two most = optional_spelling (big_bytes 4) most
