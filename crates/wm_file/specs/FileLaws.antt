-- Laws of a real file's points.
-- For proofs and the ghost members of impls: a reader of definitions may skip it.
use Rattle.std.specs.Prelude.{ℕ, ◌≤◌, List, [], ◌∷◌, length, suc}
use Rattle.std.proofs.Common.{inl, inr, refl, sym, subst, arith}
use Rattle.wm_disk.specs.Contents.{Torn, Follows}
use Rattle.wm_disk.specs.Points.{Point, MayLeave}
use Rattle.wm_disk.specs.PointLaws.{torn_same, torn_done, torn_last}
use Rattle.wm_file.specs.FileEvents.{Event, wrote, write_failed, after_event, point_after, FileLeftSince}

-- this moment is one of those since an earlier one
pub file_left_now : (content : List ℕ) (events : List Event) (t : ℕ) (c : List ℕ) → MayLeave (point_after content events) c → FileLeftSince content events t c
file_left_now content [] t c now = now
file_left_now content (event ∷ earlier) t c now = inl now

-- since this moment there is no other
pub file_left_last : (content : List ℕ) (events : List Event) (c : List ℕ) → FileLeftSince content events (length events) c → MayLeave (point_after content events) c
file_left_last content [] c left = left
file_left_last content (event ∷ earlier) c (inl now) = now
file_left_last content (event ∷ earlier) c (inr before) = let le : suc (length earlier) ≤ length earlier = before.0 in absurd (omega (arith, le))

-- what a crash may leave after a write comes of what it might have left before
pub file_write_follows : (p : Point) (at : ℕ) (bytes : List ℕ) → at ≤ length p.seen → Follows (Torn at (length bytes)) (MayLeave p) (MayLeave (after_event p (wrote at bytes)))
file_write_follows p at bytes le c (inl now) = (p.seen, inl refl, subst (λ x. Torn at (length bytes) p.seen x) (sym now) (torn_done p.seen bytes at le))
file_write_follows p at bytes le c (inr torn) = let k = torn_last p.writes (record { at = at; len = length bytes }) p.durable c torn in (k.0, inr k.1, k.2)

-- and also after one that failed
pub failed_write_follows : (p : Point) (at : ℕ) (bytes : List ℕ) → Follows (Torn at (length bytes)) (MayLeave p) (MayLeave (after_event p (write_failed at bytes)))
failed_write_follows p at bytes c (inl now) = (c, inl now, torn_same at (length bytes) c)
failed_write_follows p at bytes c (inr torn) = let k = torn_last p.writes (record { at = at; len = length bytes }) p.durable c torn in (k.0, inr k.1, k.2)
