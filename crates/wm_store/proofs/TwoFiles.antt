-- What the calls of a migration say together of the two files.
use Rattle.std.proofs.Common.{◌≡◌, ◌≢◌, ◌⊎◌, inl, inr, ◌∙◌, ℕ, List, [], ◌∷◌, refl, sym, ap, subst, arith}
use Rattle.std.specs.Prelude.{Result, Ok, Err, IfErr, IsErrAnd, IsErrOf, OnOk}
use Rattle.wm_disk.specs.Calls.{Calls, CallsDevice, EachLeft}
use Rattle.wm_disk.specs.Contents.{Only, Rose, overwritten}
use Rattle.wm_disk.specs.Moments.{LeavesOnly, started}
use Rattle.wm_disk.specs.declared.disk.Disk as disks
use Rattle.wm_disk.specs.declared.refusal.Refusal.{Refusal}
use Rattle.wm_disk.specs.declared.refusal.Refusal.TheVariants.{Damaged, DeviceFailed, NoMemory, Retired}
use Rattle.wm_disk.specs.laws.Runs.{CountsNow, OnlyNow, left_after_run, weaker}
use Rattle.wm_checkpoint.specs.Found.{ReadsDurably}
use Rattle.wm_checkpoint.specs.Layout.{sizes_1}
use Rattle.wm_checkpoint.specs.Meanings.{IsRetired, Means, MeansState}
use Rattle.wm_checkpoint.specs.Numbers.{IsNumberedTo}
use Rattle.wm_checkpoint.specs.Retirement.{IsMeantOrRetired}
use Rattle.wm_checkpoint.specs.declared.layout.Slot.TheVariants.{A}
use Rattle.wm_registry.specs.MachineLaws.{watches}
use Rattle.wm_registry.specs.Roots.{State, in_version_2}
use Rattle.wm_registry.specs.declared.version.Version.TheVariants.{One, Two}
use Rattle.wm_store.specs.Meant.{MeansRegistry}
use Rattle.wm_store.specs.Migrations.{CallsBoth, HoldsMoved, IsMeantByOldOrNew, HasMoved, MovesNow, MovesOnly, StaysRetired, WritesNeither}
use Rattle.wm_store.proofs.Meant.{means_registry, version_of}

-- whatever an `Ok` would have had
pub err_of : {T U : Type 0} (e f : Refusal) → IsErrOf {T = T} (Err e) f → IsErrOf {T = U} (Err e) f
err_of e f is = let same : e ≡ f = cc in ap (λ (x : Refusal). Err x) same

pub on_ok : {T E P Q : Type 0} (r : Result T E) → (P → Q) → OnOk r P → OnOk r Q
on_ok (Ok x) f p = f p
on_ok (Err e) f p = tt

pub on_both : {T E P Q R : Type 0} (r : Result T E) → (P → Q → R) → OnOk r P → OnOk r Q → OnOk r R
on_both (Ok x) f p q = f p q
on_both (Err e) f p q = tt

pub on_err : {T E : Type 0} {P Q : E → Type 0} (r : Result T E) → ((e : E) → P e → Q e) → IfErr r P → IfErr r Q
on_err (Ok x) f p = tt
on_err (Err e) f p = f e p

module _ {D : Type 0} (disk : disks.Ghosts D) where
  -- ---- counts

  -- two calls on the old file, of which the first didn't fail
  pub calls_then : {T : Type 0} (old mid new old_after new_after : D) (r : Result T Refusal) → (disk.honest mid → disk.honest old) → disk.failures mid ≡ disk.failures old → CallsBoth disk mid new old_after new_after r → CallsBoth disk old new old_after new_after r
  calls_then old mid new old_after new_after r honest same k = record {
    honest = (λ h. honest (k.honest.0 h), k.honest.1);
    failures_grow = (omega (arith, same, k.failures_grow.0), k.failures_grow.1);
    no_failure = on_ok r (λ p. (p.0 ∙ same, p.1)) k.no_failure;
    failed = λ is. subst (λ (n : ℕ). Rose n (disk.failures old_after) ⊎ Rose (disk.failures new) (disk.failures new_after)) same (k.failed is);
    failures_kept = on_err r (λ e p ne. ((p ne).0 ∙ same, (p ne).1)) k.failures_kept;
  }

  -- a call on the new file, behind one on the old that didn't fail
  pub calls_new : {T : Type 0} (old new old_after new_after : D) (r : Result T Refusal) → (disk.honest old_after → disk.honest old) → disk.failures old_after ≡ disk.failures old → Calls disk new new_after r → CallsBoth disk old new old_after new_after r
  calls_new old new old_after new_after r honest same k = record {
    honest = (honest, k.honest);
    failures_grow = (omega (arith, same), k.failures_grow);
    no_failure = on_ok r (λ p. (same, p)) k.no_failure;
    failed = λ is. inr (k.failed is);
    failures_kept = on_err r (λ e p ne. (same, p ne)) k.failures_kept;
  }

  -- a call on the old file that was refused, before one on the new
  pub calls_old : {T U : Type 0} (old new old_after : D) (e : Refusal) → Calls disk {T = U} old old_after (Err e) → CallsBoth disk {T = T} old new old_after new (Err e)
  calls_old old new old_after e k = record {
    honest = (k.honest, λ h. h);
    failures_grow = (k.failures_grow, omega arith);
    no_failure = tt;
    failed = λ is. inl (k.failed (err_of e DeviceFailed is));
    failures_kept = λ ne. (k.failures_kept ne, refl);
  }

  -- ---- what a crash leaves

  module _ (counts_now : CountsNow disk) (only_now : OnlyNow disk) where
    -- a disk that has had no call yet
    pub untouched : (d : D) → disk.honest d → LeavesOnly disk.moment disk.left_since d d (disk.may_leave d)
    untouched d h = started disk.moment disk.left_since d (disk.may_leave d) (λ c left. only_now d c h left)

    -- what every content has that a crash may leave, those have that it leaves after a reading
    pub stays_numbered : (old old_after : D) → disk.honest old_after → LeavesOnly disk.moment disk.left_since old old_after (disk.may_leave old) → (n : ℕ) → EachLeft disk old (IsNumberedTo sizes_1 n) → EachLeft disk old_after (IsNumberedTo sizes_1 n)
    stays_numbered old old_after h run n all c left = all c (left_after_run disk counts_now old old_after (disk.may_leave old) h run c left)

    -- the new file has had no call
    pub reads_old : {T E : Type 0} (old old_after new : D) (r : Result T E) → disk.honest new → ReadsDurably disk old old_after r → WritesNeither disk old new old_after new
    reads_old old old_after new r h k = record { old_seen = k.seen; new_seen = refl; old_left = k.any_moment; new_left = untouched new h }

    -- nor has either had one since the reading
    pub unwritten_by : {T E : Type 0} (old mid old_after new new_after : D) (r : Result T E) → disk.honest new → ReadsDurably disk old mid r → old_after ≡ mid → new_after ≡ new → WritesNeither disk old new old_after new_after
    unwritten_by old mid old_after new new_after r h k same still =
        subst (λ (d : D). WritesNeither disk old new d new_after) (sym same) (subst (λ (d : D). WritesNeither disk old new mid d) (sym still) (reads_old old mid new r h k))

    -- the registry of the old file is what a crash leaves while the old file has no call
    pub meant_still : (old new : D) (s : State) → disk.honest old → Only (disk.seen old) (disk.may_leave old) → MeansState (watches One) s (disk.seen old) → LeavesOnly disk.moment disk.left_since old old (IsMeantByOldOrNew disk new s)
    meant_still old new s h only means =
        started disk.moment disk.left_since old (IsMeantByOldOrNew disk new s) (λ c left. inl (subst (λ (x : List ℕ). MeansRegistry s x) (sym (only c (only_now old c h left))) (means_registry sizes_1 One refl s (disk.seen old) means)))

    -- while the old file is retired, once the new one holds the registry
    pub meant_by_either : (old old_after new : D) (s : State) → HoldsMoved disk new s → LeavesOnly disk.moment disk.left_since old old_after (IsMeantOrRetired (watches One) s (disk.seen old)) → LeavesOnly disk.moment disk.left_since old old_after (IsMeantByOldOrNew disk new s)
    meant_by_either old old_after new s holds run = weaker disk.moment disk.left_since old old_after (IsMeantOrRetired (watches One) s (disk.seen old)) (IsMeantByOldOrNew disk new s) run (λ c left. by c left.means)
      where
        by : (c : List ℕ) → MeansState (watches One) s c ⊎ IsRetired sizes_1 c → IsMeantByOldOrNew disk new s c
        by c (inl m) = inl (means_registry sizes_1 One refl s c m)
        by c (inr r) = inr (r, holds)

    pub numbered_still : (old old_after : D) (s : State) → disk.honest old_after → LeavesOnly disk.moment disk.left_since old old_after (IsMeantOrRetired (watches One) s (disk.seen old)) → (n : ℕ) → IsNumberedTo sizes_1 n (disk.seen old) → EachLeft disk old_after (IsNumberedTo sizes_1 n)
    numbered_still old old_after s h run n all c left = (left_after_run disk counts_now old old_after (IsMeantOrRetired (watches One) s (disk.seen old)) h run c left).numbered n all

  -- the new file was made from the registry
  pub holds_moved : (new : D) (s : State) → Only (disk.seen new) (disk.may_leave new) → Means (watches Two) (disk.seen new) A 1 (in_version_2 s) [] → HoldsMoved disk new s
  holds_moved new s only means c left = subst (λ (x : List ℕ). Means (watches Two) x A 1 (in_version_2 s) []) (sym (only c left)) means

  pub stays_retired : (old : D) → Only (disk.seen old) (disk.may_leave old) → IsRetired sizes_1 (disk.seen old) → StaysRetired disk old
  stays_retired old only retired c left = subst (λ (x : List ℕ). IsRetired sizes_1 x) (sym (only c left)) retired

  -- the old file was read, and then the calls that move its registry came
  pub moves_only : (old mid old_after new_after : D) (s : State) → MeansState (watches One) s (disk.seen old) → LeavesOnly disk.moment disk.left_since old mid (disk.may_leave old) → LeavesOnly disk.moment disk.left_since mid old_after (IsMeantByOldOrNew disk new_after s) → MovesOnly disk old old_after new_after
  moves_only old mid old_after new_after s means until from = record {
    registry = s;
    version = version_of sizes_1 One s (disk.seen old) means;
    meant = means_registry sizes_1 One refl s (disk.seen old) means;
    read = mid;
    until = until;
    from = from;
  }

  -- and were done
  pub moves_now : (old mid old_after new_after : D) (s : State) → MeansState (watches One) s (disk.seen old) → LeavesOnly disk.moment disk.left_since old mid (disk.may_leave old) → LeavesOnly disk.moment disk.left_since mid old_after (IsMeantByOldOrNew disk new_after s)
      → disk.seen mid ≡ disk.seen old → HasMoved disk mid old_after new_after s → MovesNow disk old old_after new_after
  unfolding moves_only
  moves_now old mid old_after new_after s means until from seen has = record {
    moves = moves_only old mid old_after new_after s means until from;
    holds = has.holds;
    first = has.first;
    retired = has.retired;
    gate = has.gate ∙ ap (λ (c : List ℕ). overwritten c 12 (165 ∷ [])) seen;
  }

-- the new file was made, and the device failed while the old one was retired
pub calls_cut : {D : Type 0} (disk : disks.Ghosts D) {T E : Type 0} (e : E) (old new old_after new_after : D) (r : Result T Refusal) → IsErrAnd r (λ x. x ≡ DeviceFailed) → CallsDevice disk {T = Unit} old old_after (Err e) → (disk.honest new_after → disk.honest new) → disk.failures new_after ≡ disk.failures new
    → CallsBoth disk old new old_after new_after r
calls_cut disk e old new old_after new_after (Ok x) is k honest same = absurd is
calls_cut disk e old new old_after new_after (Err x) is k honest same = record {
  honest = (k.honest, honest);
  failures_grow = (k.count.later, omega (arith, same));
  no_failure = tt;
  failed = λ from. inl k.count.failed;
  failures_kept = λ ne. absurd (ne is);
}

-- ---- a reading

-- whatever an `Ok` has
pub reads_ok : {D : Type 0} (disk : disks.Ghosts D) {T U E : Type 0} (old new : D) (x : T) (y : U) → ReadsDurably {T = T} {E = E} disk old new (Ok x) → ReadsDurably {T = U} {E = E} disk old new (Ok y)
reads_ok disk old new x y k = record { durable = k.durable; seen = k.seen; any_moment = k.any_moment }

pub reads_err : {D : Type 0} (disk : disks.Ghosts D) {T U E : Type 0} (old new : D) (e f : E) → ReadsDurably {T = T} {E = E} disk old new (Err e) → ReadsDurably {T = U} {E = E} disk old new (Err f)
reads_err disk old new e f k = record { durable = tt; seen = k.seen; any_moment = k.any_moment }

pub calls_err : {D : Type 0} (disk : disks.Ghosts D) {T U : Type 0} (old new : D) (e : Refusal) → Calls disk {T = T} old new (Err e) → Calls disk {T = U} old new (Err e)
calls_err disk old new e k = record { honest = k.honest; failures_grow = k.failures_grow; no_failure = tt; failed = λ is. k.failed (err_of e DeviceFailed is); failures_kept = k.failures_kept }

-- a reading that is refused otherwise than `20`
pub kinds_unretired : (e : Refusal) → e ≢ Retired → (e ≡ DeviceFailed) ⊎ (e ≡ NoMemory) ⊎ (e ≡ Damaged) ⊎ (e ≡ Retired) → (e ≡ DeviceFailed) ⊎ (e ≡ NoMemory) ⊎ (e ≡ Damaged)
kinds_unretired e ne (inl is) = inl is
kinds_unretired e ne (inr (inl is)) = inr (inl is)
kinds_unretired e ne (inr (inr (inl is))) = inr (inr is)
kinds_unretired e ne (inr (inr (inr is))) = absurd (ne is)

neither_damaged : (e : Refusal) → (e ≡ DeviceFailed) ⊎ (e ≡ NoMemory) → e ≡ Damaged → ⊥
neither_damaged e (inl is) d = absurd cc
neither_damaged e (inr is) d = absurd cc

-- a move is never refused `14`
pub not_damaged : {T : Type 0} (r : Result T Refusal) → IfErr r (λ e. (e ≡ DeviceFailed) ⊎ (e ≡ NoMemory)) → IsErrOf r Damaged → ⊥
not_damaged (Ok x) kinds is = absurd cc
not_damaged (Err e) kinds is = let same : e ≡ Damaged = cc in neither_damaged e kinds same
