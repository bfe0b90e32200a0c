-- When it is said that a wait goes on.
use Rattle.std.specs.Prelude.{◌-◌, ◌&&◌, ℕ, Bool, Option, None, Some, is_some, nat_le, not, if◌then◌else◌}

-- after one second, and then three seconds after the last time
abbrev pub is_progress_due : (told : Option ℕ) → (seconds : ℕ) → Bool
is_progress_due None seconds = nat_le 1 seconds
is_progress_due (Some told) seconds = nat_le 3 (seconds - told)

-- of a crawl: so on a terminal, and else once, after three seconds
abbrev pub is_crawl_due : (is_terminal : Bool) → (told : Option ℕ) → (seconds : ℕ) → Bool
is_crawl_due is_terminal told seconds = if is_terminal then is_progress_due told seconds else (not (is_some told) && nat_le 3 seconds)

-- of a reply: once, after half a second
abbrev pub is_reply_due : (is_told : Bool) → (millis : ℕ) → Bool
is_reply_due is_told millis = not is_told && nat_le 500 millis
