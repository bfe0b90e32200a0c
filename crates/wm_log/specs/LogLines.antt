-- What happened in a server, and the line of it.
use Rattle.std.specs.Prelude.{◌≡◌, ◌⊎◌, ◌≤◌, ◌*ℤ◌, ◌++◌, ℕ, pos, List, Option, None, Some, codes, decimal, option_map, string_bytes}
use Rattle.jiff.specs.Names.{iso_datetime_text}
use Rattle.jiff_core.specs.DateTime.{civil_nanos}
use Rattle.jiff_core.specs.declared.civil.datetime.DateTime.{DateTime}
use Rattle.wm_disk.specs.Refusals.{refusal_text}
use Rattle.wm_disk.specs.declared.refusal.Refusal.{Refusal}
use Rattle.wm_explain.specs.Shown.{shown_text}
use Rattle.wm_log.specs.StartTexts.{start_fault_text}
use Rattle.wm_log.specs.declared.event.Event.{Event}
use Rattle.wm_log.specs.declared.event.What.{What}
use Rattle.wm_log.specs.declared.event.What.TheVariants.{TookSocket, CrawlFailed, NotStarted, Exited, Killed, SessionRefused, CutOff, Forgot, StoreFailed}
use Rattle.wm_log.specs.declared.start_fault.StartFault.{StartFault}

-- the first second that no timestamp has, behind the year 9999
abbrev pub time_end : ℕ
time_end = 253402207201

-- What a clock at Greenwich shows so many seconds after 1970 began, as `2026-11-29T21:40:00Z`; the number behind the year 9999.
abbrev pub IsTimeText : (seconds : ℕ) → List ℕ → Type 0
IsTimeText seconds text = ((time : DateTime) × (civil_nanos time ≡ pos seconds *ℤ pos 1000000000) × (text ≡ iso_datetime_text time ++ codes "Z"))
    ⊎ ((time_end ≤ seconds) × (text ≡ decimal seconds))

abbrev pub spaced : (first second : List ℕ) → List ℕ
spaced first second = first ++ codes " " ++ second

abbrev pub text_number : (text : List ℕ) → (number : ℕ) → List ℕ
text_number text number = text ++ codes " " ++ decimal number

abbrev pub of_trigger : (name text : List ℕ) → List ℕ
of_trigger name text = spaced (codes "the trigger") (spaced name text)

abbrev pub refused_text : (text : List ℕ) → Refusal → List ℕ
refused_text text refusal = text ++ codes ": " ++ refusal_text refusal

abbrev pub crawl_text : Refusal → (folder : Option (List ℕ)) → List ℕ
crawl_text refusal None = refused_text (codes "a crawl failed") refusal
crawl_text refusal (Some folder) = refused_text (spaced (codes "a crawl failed at") (shown_text folder)) refusal

-- the trigger that couldn't be started, and why
abbrev pub unstarted_text : (name : List ℕ) → StartFault → List ℕ
unstarted_text name fault = spaced (codes "couldn't start the trigger") (shown_text name) ++ codes ": " ++ start_fault_text fault

abbrev pub what_text : What → List ℕ
what_text (TookSocket path) = spaced (codes "took over the socket") (shown_text (string_bytes path))
what_text (CrawlFailed refusal folder) = crawl_text refusal (option_map string_bytes folder)
what_text (NotStarted name fault) = unstarted_text (string_bytes name) fault
what_text (Exited name status) = of_trigger (shown_text (string_bytes name)) (text_number (codes "ended with status") status)
what_text (Killed name signal) = of_trigger (shown_text (string_bytes name)) (text_number (codes "was ended by signal") signal)
what_text (SessionRefused refusal) = refused_text (codes "refused a session") refusal
what_text CutOff = codes "cut off a client that didn't read"
what_text (Forgot tick) = text_number (codes "forgot paths that were deleted up to tick") tick
what_text StoreFailed = codes "the state file failed; commands that change it are refused until a restart"

-- a text, behind the path of a root if there is one
abbrev pub about : Option (List ℕ) → List ℕ → List ℕ
about None text = text
about (Some root) text = root ++ codes ": " ++ text

-- what is said of an event: its root if it has one, and what happened
abbrev pub log_text : Event → List ℕ
log_text event = about (option_map (λ p. shown_text (string_bytes p)) event.root) (what_text event.what)

-- the time, and what is said
abbrev pub IsLogLine : Event → List ℕ → Type 0
IsLogLine event line = (time : List ℕ) × IsTimeText event.time time × (line ≡ time ++ codes " " ++ log_text event ++ codes "\n")
