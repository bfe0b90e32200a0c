-- What is told of an entry, by whether the folder and the name are texts.
use Rattle.std.proofs.Common.{◌≡◌, ℕ, ◌<◌, Bool, true, false, cond, [], ◌∷◌, ◌++◌, length, refl, sym, ap, arith}
use Rattle.std.specs.Str.{IsUtf8, bytes_eq, is_utf8}
use Rattle.std.proofs.lemmas.Bool.{and_right}
use Rattle.std.proofs.lemmas.List.{append_cancel_right}
use Rattle.std.proofs.lemmas.Slice.Eq.{bytes_eq-Decides}
use Rattle.std.proofs.lemmas.Str.{IsUtf8-from_is_utf8, is_utf8-from_IsUtf8}
use Rattle.std.specs.Prelude.{codes}
use Rattle.wm_feed.specs.Words.{line_as_text}
use Rattle.wm_feed.specs.Syncs.{is_new_file, no_sync, sync, sync_at}
use Rattle.wm_feed.specs.Records.{Bytes, Happened, nothing, entry, folder_alone, told_happened, told_other}

no_text : (bs : Bytes) → ¬ IsUtf8 bs → is_utf8 bs ≡ false
no_text bs h = either (is_utf8 bs) refl
  where
    either : (v : Bool) → is_utf8 bs ≡ v → is_utf8 bs ≡ false
    either true e = absurd (h (IsUtf8-from_is_utf8 bs e))
    either false e = e

pub other_folder : (folder name : Bytes) (h : Happened) → ¬ IsUtf8 folder → told_other nothing h ≡ told_happened folder name h
other_folder folder name h n = rw (no_text folder n) refl

pub other_name : (folder name : Bytes) (h : Happened) → IsUtf8 folder → ¬ IsUtf8 name → told_other (folder_alone folder) h ≡ told_happened folder name h
other_name folder name h t n = rw (is_utf8-from_IsUtf8 folder t, no_text name n) refl

pub both : (folder name : Bytes) (h : Happened) → IsUtf8 folder → IsUtf8 name → entry folder name h ≡ told_happened folder name h
both folder name h t u = rw (is_utf8-from_IsUtf8 folder t, is_utf8-from_IsUtf8 name u) refl

-- ---- a sync of that name

pub sync_text : (events name : Bytes) → 0 < length name → is_new_file events ≡ true → IsUtf8 name → sync name ≡ sync_at events name
sync_text events [] h new t = absurd (omega arith)
sync_text events (b ∷ name) h new t = rw (new, is_utf8-from_IsUtf8 (b ∷ name) t) refl

pub sync_no_text : (events name : Bytes) → ¬ IsUtf8 name → no_sync ≡ sync_at events name
sync_no_text events [] n = refl
sync_no_text events (b ∷ name) n = ap (λ v. cond v (sync (b ∷ name)) no_sync) (sym (and_right (is_new_file events) (is_utf8 (b ∷ name)) (no_text (b ∷ name) n)))

-- ---- a folder's path with the slash behind it

alike : (a b : Bool) → (a ≡ true → b ≡ true) → (b ≡ true → a ≡ true) → a ≡ b
alike true b f g = sym (f refl)
alike false true f g = g refl
alike false false f g = refl

pub same_pushed : (x : ℕ) (a b : Bytes) → bytes_eq a b ≡ bytes_eq (a ++ x ∷ []) (b ++ x ∷ [])
same_pushed x a b =
    alike (bytes_eq a b) (bytes_eq (a ++ x ∷ []) (b ++ x ∷ []))
    (λ h. (bytes_eq-Decides (a ++ x ∷ []) (b ++ x ∷ [])).1 (ap (λ l. l ++ x ∷ []) ((bytes_eq-Decides a b).0 h)))
    (λ h. (bytes_eq-Decides a b).1 (append_cancel_right a b (x ∷ []) ((bytes_eq-Decides (a ++ x ∷ []) (b ++ x ∷ [])).0 h)))

-- ---- a line that was said

pub line_of_text : (line : Bytes) → IsUtf8 line → line ≡ line_as_text line
line_of_text line t = rw (is_utf8-from_IsUtf8 line t) refl

pub line_no_text : (line : Bytes) → ¬ IsUtf8 line → codes "(a line that is no text)" ≡ line_as_text line
line_no_text line n = rw (no_text line n) refl
