-- The refusals: the number, the name and the text of each.
use Rattle.std.specs.Prelude.{ℕ, ◌+◌, ◌/◌, ◌%◌, List, [], ◌∷◌, ◌++◌, nat_lt, if◌then◌else◌, codes}
use Rattle.wm_disk.specs.declared.refusal.Refusal.{Refusal}
use Rattle.wm_disk.specs.declared.refusal.Refusal.TheVariants.{BadLine, BadCommand, BadArguments, BadPath, NotWatched, NotReady, BadClock, BadExpression, BadField, BadTrigger, Full, StoreFailed, DeviceFailed, Damaged, Exhausted, NoMemory, TooMany, NoPlace, NoQuestion, Retired, OldVersion}

abbrev pub refusal_number : Refusal → ℕ
refusal_number BadLine = 1
refusal_number BadCommand = 2
refusal_number BadArguments = 3
refusal_number BadPath = 4
refusal_number NotWatched = 5
refusal_number NotReady = 6
refusal_number BadClock = 7
refusal_number BadExpression = 8
refusal_number BadField = 9
refusal_number BadTrigger = 10
refusal_number Full = 11
refusal_number StoreFailed = 12
refusal_number DeviceFailed = 13
refusal_number Damaged = 14
refusal_number Exhausted = 15
refusal_number NoMemory = 16
refusal_number TooMany = 17
refusal_number NoPlace = 18
refusal_number NoQuestion = 19
refusal_number Retired = 20
refusal_number OldVersion = 21

abbrev pub refusal_name : Refusal → List ℕ
refusal_name BadLine = codes "BadLine"
refusal_name BadCommand = codes "BadCommand"
refusal_name BadArguments = codes "BadArguments"
refusal_name BadPath = codes "BadPath"
refusal_name NotWatched = codes "NotWatched"
refusal_name NotReady = codes "NotReady"
refusal_name BadClock = codes "BadClock"
refusal_name BadExpression = codes "BadExpression"
refusal_name BadField = codes "BadField"
refusal_name BadTrigger = codes "BadTrigger"
refusal_name Full = codes "Full"
refusal_name StoreFailed = codes "StoreFailed"
refusal_name DeviceFailed = codes "DeviceFailed"
refusal_name Damaged = codes "Damaged"
refusal_name Exhausted = codes "Exhausted"
refusal_name NoMemory = codes "NoMemory"
refusal_name TooMany = codes "TooMany"
refusal_name NoPlace = codes "NoPlace"
refusal_name NoQuestion = codes "NoQuestion"
refusal_name Retired = codes "Retired"
refusal_name OldVersion = codes "OldVersion"

-- a number of one or two digits, in decimal
abbrev pub two_digits : ℕ → List ℕ
two_digits n = if nat_lt n 10 then (48 + n) ∷ [] else (48 + n / 10) ∷ (48 + n % 10) ∷ []

-- the number, a space and the name, as replies and messages show a refusal
abbrev pub refusal_text : Refusal → List ℕ
refusal_text r = two_digits (refusal_number r) ++ 32 ∷ refusal_name r
