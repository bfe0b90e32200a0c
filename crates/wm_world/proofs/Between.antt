-- What a crash within an event leaves.
use Rattle.std.proofs.Common.{◌≡◌, ◌⊎◌, ⊎_elim, inl, inr, ℕ, zero, suc, List, [], ◌∷◌, ◌++◌, take, drop, refl, sym, ap, ◌∙◌, append_assoc, append-nil}
use Rattle.wm_disk.specs.Moments.{LeavesOnly, started}
use Rattle.wm_disk.specs.declared.disk.Disk as disks
use Rattle.wm_registry.specs.declared.command.Command.{Command}
use Rattle.wm_disk.specs.laws.Runs.{OnlyNow}
use Rattle.wm_world.specs.declared.other.Other.{Other}
use Rattle.wm_world.specs.Worlds.{World, in_version, registry, replay}
use Rattle.wm_world.specs.Steps.{IsPrefix, IsReached}
use Rattle.wm_world.specs.Refinement.{Disks, IsOn, KeepsPrefix}
use Rattle.wm_world.specs.Passes.{KeepsBetween, LeftBetween}
use Rattle.wm_world.proofs.Reached.{settled_reached}
use Rattle.wm_registry.specs.Laws.{AcceptedInVersion2}
use Rattle.wm_world.proofs.Replays.{Accepted, means_grown}
use Rattle.wm_store.specs.Meant.{MeansAfter}

pub take-drop : {A : Type 0} (n : ℕ) (xs : List A) → take n xs ++ drop n xs ≡ xs
take-drop zero xs = refl
take-drop (suc n) [] = refl
take-drop (suc n) (x ∷ xs) = ap (λ ys. x ∷ ys) (take-drop n xs)

module _ (law : AcceptedInVersion2) where
  -- what was found, and a prefix of some more
  pub between_from : (w : World) (afterwards found more : List Command) → IsPrefix w.kept found → IsPrefix (found ++ more) afterwards ⊎ IsPrefix (found ++ more) (w.kept ++ w.pending) → Accepted (in_version w.version (replay found)) more
      → (c : List ℕ) → MeansAfter (in_version w.version (replay found)) more c → KeepsBetween w afterwards c
  between_from w afterwards found more (grown, is) known accepted c m =
      let part : List Command = take m.count more in
      let left : List Command = drop m.count more in
      record {
        found = found ++ part;
        stays = (grown ++ part, sym (append_assoc w.kept grown part) ∙ ap (λ xs. xs ++ part) is);
        known = ⊎_elim (λ p. inr (shorter afterwards p)) (λ p. inl (shorter (w.kept ++ w.pending) p)) known;
        means = means_grown law w.version found more accepted c m;
      }
    where
      shorter : (whole : List Command) → IsPrefix (found ++ more) whole → IsPrefix (found ++ take m.count more) whole
      shorter whole (rest, e) =
          let part : List Command = take m.count more in
          let left : List Command = drop m.count more in
          (left ++ rest, sym (append_assoc (found ++ part) left rest) ∙ ap (λ xs. xs ++ rest) (append_assoc found part left ∙ ap (λ p. found ++ p) (take-drop m.count more)) ∙ e)

  -- what was kept, and a prefix of what was in flight
  pub between_before : (w : World) → IsReached w → (afterwards : List Command) (c : List ℕ) → MeansAfter (registry w) w.pending c → KeepsBetween w afterwards c
  between_before w reached afterwards c m = between_from w afterwards w.kept w.pending ([], append-nil w.kept) (inr ([], append-nil (w.kept ++ w.pending))) (settled_reached w reached).accepted c m

  -- what was kept, and a prefix of what the event adds
  pub between_more : (w : World) (afterwards more : List Command) → afterwards ≡ w.kept ++ more → Accepted (registry w) more → (c : List ℕ) → MeansAfter (registry w) more c → KeepsBetween w afterwards c
  between_more w afterwards more is accepted c m = between_from w afterwards w.kept more ([], append-nil w.kept) (inl ([], append-nil (w.kept ++ more) ∙ sym is)) accepted c m

  module _ {D : Type 0} (disk : disks.Ghosts D) where
    -- what might have been left before
    pub left_before : (other : Other D) (w : World) → IsReached w → (afterwards : List Command) (c : List ℕ) → KeepsPrefix disk other w c → LeftBetween disk other w afterwards c
    left_before other w reached afterwards c k = ⊎_elim (λ m. inl (between_before w reached afterwards c m)) (λ m. inr m) k.means

    -- a disk that isn't called
    pub stays_put : OnlyNow disk → (d : Disks D) → disk.honest d.used → (w : World) → IsReached w → (afterwards : List Command) → IsOn disk d w → LeavesOnly disk.moment disk.left_since d.used d.used (LeftBetween disk d.other w afterwards)
    stays_put only d h w reached afterwards on =
        started disk.moment disk.left_since d.used (LeftBetween disk d.other w afterwards) (λ c left. left_before d.other w reached afterwards c (on.prefix c (only d.used c h left)))
