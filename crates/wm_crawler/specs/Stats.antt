-- What a system says of a file, and what a crawl makes of it.
use Rattle.std.specs.Prelude.{ℕ, ℤ, pos, negsuc, ◌+◌, ◌*◌, ◌/◌, min, Bool, true, false, ◌==◌, cond, bit_and}
use Rattle.std.specs.declared.io.ErrorKind.{ErrorKind}
use Rattle.std.specs.declared.io.ErrorKind.TheVariants.{NotFound, NotADirectory, FilesystemLoop, InvalidFilename}
use Rattle.wm_disk.specs.Counters.{max_counter}
use Rattle.wm_names.specs.declared.entry.Kind.{Kind}
use Rattle.wm_names.specs.declared.entry.Kind.TheVariants.{File, Folder, Link, Other}
use Rattle.wm_names.specs.declared.entry.Meta.{Meta}
use Rattle.wm_crawler.specs.declared.stat.Stat.{Stat}

-- in milliseconds since 1970, of seconds and nanoseconds; 0 before it
abbrev pub milliseconds : ℤ → ℤ → ℕ
milliseconds (pos seconds) (pos nanoseconds) = min (seconds * 1000 + nanoseconds / 1000000) max_counter
milliseconds (pos seconds) (negsuc _) = 0
milliseconds (negsuc _) nanoseconds = 0

-- the type of a file stands in these bits of its mode
abbrev pub file_type_bits : ℕ → ℕ
file_type_bits mode = bit_and mode 0o170000

abbrev pub kind_of_mode : ℕ → Kind
kind_of_mode mode = let bits = file_type_bits mode in
    cond (bits == 0o100000) File (cond (bits == 0o040000) Folder (cond (bits == 0o120000) Link Other))

abbrev pub meta_of_stat : Stat → Meta
meta_of_stat stat = record { kind = kind_of_mode stat.mode; size = min stat.size max_counter; mtime_ms = milliseconds stat.seconds stat.nanoseconds }

-- no such name, or a file or a link where the path goes on
abbrev pub is_missing_kind : ErrorKind → Bool
is_missing_kind NotFound = true
is_missing_kind NotADirectory = true
is_missing_kind FilesystemLoop = true
is_missing_kind InvalidFilename = true
is_missing_kind _ = false
