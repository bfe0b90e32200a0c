-- How a store is opened over what its keeper found.
use Rattle.std.proofs.Common.{◌≡◌, ◌⊎◌, inl, inr, sym, ap, ◌∙◌, subst, arith, ℕ, ◌+◌, ◌≤◌, ◌<◌, List, [], ◌∷◌}
use Rattle.std.specs.Prelude.{Result, Ok, Err, IfOk, IfErr}
use Rattle.wm_disk.specs.declared.disk.Disk as disks
use Rattle.wm_disk.specs.Moments.{then_runs}
use Rattle.wm_disk.specs.declared.refusal.Refusal.{Refusal}
use Rattle.wm_disk.specs.declared.refusal.Refusal.TheVariants.{DeviceFailed, NoMemory, Exhausted, Damaged, Retired}
use Rattle.wm_disk.specs.Counters.{max_counter}
use Rattle.wm_disk.specs.laws.Runs.{CountsNow, left_after_run, weaker}
use Rattle.wm_journal.specs.Records.{taken}
use Rattle.wm_registry.specs.Commands.{command_spelling}
use Rattle.wm_registry.specs.declared.command.Command.{Command}
use Rattle.wm_registry.specs.declared.command.Command.TheVariants.{Begin}
use Rattle.wm_registry.specs.declared.reply.Reply.{Reply}
use Rattle.wm_registry.specs.declared.reply.Reply.TheVariants.{Changed, Refused}
use Rattle.wm_registry.specs.Registry.{after_command, reply_to}
use Rattle.wm_registry.specs.Roots.{State}
use Rattle.wm_registry.specs.MachineLaws.{watches, watches_in}
use Rattle.wm_checkpoint.specs.Meanings.{Means, MeansState, MeansPrefix}
use Rattle.wm_checkpoint.specs.Kept.{disk_of, state_of, slot_number_of, room_left, IsKept, Keeps}
use Rattle.wm_checkpoint.specs.Numbers.{IsNumberedTo}
use Rattle.wm_checkpoint.specs.Layout.{Sizes, sizes_1, sizes_2}
use Rattle.wm_checkpoint.specs.laws.Numbering.{number_within}
use Rattle.wm_store.specs.Beginnings.{IsUnbegun}
use Rattle.wm_store.specs.Openings.{IsBegun, FindsRegistry, IsLeftBy, IsRefusedFor}
use Rattle.wm_store.specs.Room.{journal_room, begin_len}
use Rattle.wm_store.specs.Stored.{Stored}
use Rattle.wm_store.proofs.Runs.{Leaves}
use Rattle.wm_registry.specs.declared.version.Version.{Version}
use Rattle.wm_registry.specs.Versions.{sizes_of}
use Rattle.wm_registry.specs.declared.version.Version.TheVariants.{One, Two}
use Rattle.wm_checkpoint.specs.Either.{AreDamaged, IsOpenedAs, IsRetiredAs, disk_of_either}
use Rattle.wm_store.specs.Meant.{IsDamagedFile, IsRetiredFile, MeansAfter, MeansRegistry}
use Rattle.wm_store.specs.UnderWay.{K}
use Rattle.wm_store.specs.Takings.{IsFoundBy}
use Rattle.wm_checkpoint.specs.declared.either.EitherKeeper.{EitherKeeper}
use Rattle.wm_checkpoint.specs.declared.either.EitherKeeper.TheVariants as either
use Rattle.wm_store.proofs.Meant.{means_after, means_registry, of_registry, same_version, version_of}

-- the journal's bytes: those that its commands take, and those that are left
pub journal_is : {D M V : Type 0} (disk : disks.Ghosts D) (l : Sizes) (v : Version) (keeper : K M V disk) → Keeps (watches_in l v) keeper → (k : IsKept (watches_in l v) keeper) → room_left keeper + taken (command_spelling v) k.commands ≡ journal_room
journal_is disk l v keeper kp k = omega (arith, kp.place.len_is, k.at_rest.read.end, keeper.region.within)

module _ {D M V : Type 0} (disk : disks.Ghosts D) (l : Sizes) (v : Version) (laid : l ≡ sizes_of v) (old : D) (keeper : K M V disk) (k : IsKept (watches_in l v) keeper) (seen : disk.seen (disk_of keeper) ≡ disk.seen old) where
  -- what the disk means, with the number of its slot
  raw : MeansState (watches_in l v) (state_of keeper) (disk.seen old)
  raw = record {
    slot = keeper.slot;
    number = keeper.number;
    base = k.base;
    commands = k.commands;
    means = subst (λ (x : List ℕ). Means (watches_in l v) x keeper.slot keeper.number k.base k.commands) seen k.means;
    is = k.is;
  }

  is_v : (state_of keeper).version ≡ v
  is_v = version_of l v (state_of keeper) (disk.seen old) raw

  pub means_seen : MeansRegistry (state_of keeper) (disk.seen old)
  means_seen = record {
    slot = keeper.slot;
    number = keeper.number;
    base = k.base;
    commands = k.commands;
    means = of_registry l v laid (state_of keeper).version is_v (disk.seen old) keeper.slot keeper.number k.base k.commands
        (subst (λ (x : List ℕ). Means (watches_in l v) x keeper.slot keeper.number k.base k.commands) seen k.means);
    is = k.is;
  }

  after_run : (new : D) (s : State) (cs : List Command) → Leaves disk (disk_of keeper) new (MeansPrefix (watches_in l v) s cs) → Leaves disk (disk_of keeper) new (MeansAfter s cs)
  after_run new s cs run = weaker disk.moment disk.left_since (disk_of keeper) new (MeansPrefix (watches_in l v) s cs) (MeansAfter s cs) run (means_after l v laid s cs)

  pub found : Leaves disk old (disk_of keeper) (disk.may_leave old) → (new : D) → Leaves disk (disk_of keeper) new (MeansPrefix (watches_in l v) (state_of keeper) (Begin ∷ [])) → FindsRegistry disk old new (state_of keeper)
  found until new run = record { means = means_seen; synced = disk_of keeper; until = until; from = after_run new (state_of keeper) (Begin ∷ []) run }

  -- of no Begin at any moment
  pub stays_found : Leaves disk old (disk_of keeper) (disk.may_leave old) → (new : D) → Leaves disk (disk_of keeper) new (MeansState (watches_in l v) (state_of keeper))
      → (s : State) × MeansRegistry s (disk.seen old) × Leaves disk old new (λ c. disk.may_leave old c ⊎ MeansRegistry s c)
  stays_found until new run = (
    state_of keeper,
    means_seen,
    then_runs disk.moment disk.left_since old (disk_of keeper) new (λ c. disk.may_leave old c ⊎ MeansRegistry (state_of keeper) c) (MeansState (watches_in l v) (state_of keeper))
        (weaker disk.moment disk.left_since old (disk_of keeper) (disk.may_leave old) (λ c. disk.may_leave old c ⊎ MeansRegistry (state_of keeper) c) until (λ c left. inl left)) run (λ c m. inr (means_registry l v laid (state_of keeper) c m)),
  )

  pub spent : (reply_to (state_of keeper) Begin ≡ Refused Exhausted) ⊎ (max_counter ≤ slot_number_of keeper) → (s : State) × (m : MeansRegistry s (disk.seen old)) × ((reply_to s Begin ≡ Refused Exhausted) ⊎ (max_counter ≤ m.number))
  unfolding means_seen
  spent why = (state_of keeper, means_seen, why)

  pub is_begun : Leaves disk old (disk_of keeper) (disk.may_leave old) → (store : Stored D) → Leaves disk (disk_of keeper) store.disk (MeansPrefix (watches_in l v) (state_of keeper) (Begin ∷ []))
      → reply_to (state_of keeper) Begin ≡ Changed → store.registry ≡ after_command (state_of keeper) Begin → store.number ≤ slot_number_of keeper + 1 → room_left keeper + taken (command_spelling v) k.commands ≡ journal_room
      → (begin_len ≤ room_left keeper → (store.number ≡ slot_number_of keeper) × (store.room + begin_len ≡ room_left keeper)) → (room_left keeper < begin_len → (store.number ≡ slot_number_of keeper + 1) × (store.room + begin_len ≡ journal_room)) → IsBegun disk old store
  unfolding means_seen found
  is_begun until store run is led le all stays moves =
      let same : taken (command_spelling (state_of keeper).version) k.commands ≡ taken (command_spelling v) k.commands = ap (λ (u : Version). taken (command_spelling u) k.commands) is_v in
      record {
        found = state_of keeper;
        changed = is;
        registry = led;
        opened = found until store.disk run;
        number = le;
        stays = λ fits. let s = stays (omega (arith, all, fits, same)) in (s.0, omega (arith, all, s.1, same));
        moves = λ over. moves (omega (arith, all, over, same));
      }

  pub number_of_found : (n : ℕ) → IsNumberedTo l n (disk.seen old) → slot_number_of keeper ≤ n
  unfolding raw
  number_of_found n all = number_within (disk.seen old) raw n all

-- a keeper of either version
abbrev pub E : {D : Type 0} → Type 0 → Type 0 → disks.Ghosts D → Type 0
E {D} M N disk = EitherKeeper D M N State Command Reply State Command Reply disk

-- it was found by a call that wrote nothing
abbrev pub WasFound : {D M N : Type 0} (disk : disks.Ghosts D) → D → E M N disk → Type 0
WasFound disk old (either.One keeper) = IsFoundBy disk sizes_1 One old keeper
WasFound disk old (either.Two keeper) = IsFoundBy disk sizes_2 Two old keeper

pub was_found : {D M N : Type 0} (disk : disks.Ghosts D) (old : D) (keeper : E M N disk) → IsOpenedAs (watches One) (watches Two) old keeper → (disk.honest (disk_of_either keeper) → disk.seen (disk_of_either keeper) ≡ disk.seen old)
    → (disk.honest (disk_of_either keeper) → Leaves disk old (disk_of_either keeper) (disk.may_leave old)) → (disk.honest (disk_of_either keeper) → disk.honest old) → disk.failures (disk_of_either keeper) ≡ disk.failures old → WasFound disk old keeper
was_found disk old (either.One keeper) is seen run honest same = record { opened = is; seen = seen; any_moment = run; honest = honest; failures = same }
was_found disk old (either.Two keeper) is seen run honest same = record { opened = is; seen = seen; any_moment = run; honest = honest; failures = same }

-- what was found in neither version

pub damaged_file : (c : List ℕ) → AreDamaged (watches One) (watches Two) c → IsDamagedFile c
damaged_file c d One = d.0
damaged_file c d Two = d.1

pub retired_file : (c : List ℕ) → IsRetiredAs c → IsRetiredFile c
retired_file c (inl r) = (One, r)
retired_file c (inr r) = (Two, r)

pub if_ok_both : {T E : Type 0} {P Q R : T → Type 0} (r : Result T E) → ((x : T) → P x → Q x → R x) → IfOk r P → IfOk r Q → IfOk r R
if_ok_both (Ok x) f p q = f x p q
if_ok_both (Err e) f p q = tt

-- which refusals an opening has

pub kinds_found : (x : Refusal) → (x ≡ DeviceFailed) ⊎ (x ≡ NoMemory) ⊎ (x ≡ Damaged) ⊎ (x ≡ Retired) → (x ≡ DeviceFailed) ⊎ (x ≡ NoMemory) ⊎ (x ≡ Exhausted) ⊎ (x ≡ Damaged) ⊎ (x ≡ Retired)
kinds_found x (inl h) = inl h
kinds_found x (inr (inl h)) = inr (inl h)
kinds_found x (inr (inr h)) = inr (inr (inr h))

pub kinds_begun : (x : Refusal) → (x ≡ DeviceFailed) ⊎ (x ≡ NoMemory) ⊎ (x ≡ Exhausted) → (x ≡ DeviceFailed) ⊎ (x ≡ NoMemory) ⊎ (x ≡ Exhausted) ⊎ (x ≡ Damaged) ⊎ (x ≡ Retired)
kinds_begun x (inl h) = inl h
kinds_begun x (inr (inl h)) = inr (inl h)
kinds_begun x (inr (inr h)) = inr (inr (inl h))

pub is_exhausted : (x : Refusal) → (x ≡ DeviceFailed) ⊎ (x ≡ NoMemory) ⊎ (x ≡ Exhausted) → (x ≡ DeviceFailed → ⊥) → (x ≡ NoMemory → ⊥) → x ≡ Exhausted
is_exhausted x (inl h) up room = absurd (up h)
is_exhausted x (inr (inl h)) up room = absurd (room h)
is_exhausted x (inr (inr h)) up room = h

pub not_exhausted : (x : Refusal) → (x ≡ DeviceFailed) ⊎ (x ≡ NoMemory) ⊎ (x ≡ Damaged) ⊎ (x ≡ Retired) → x ≡ Exhausted → ⊥
not_exhausted x (inl h) e = absurd cc
not_exhausted x (inr (inl h)) e = absurd cc
not_exhausted x (inr (inr (inl h))) e = absurd cc
not_exhausted x (inr (inr (inr h))) e = absurd cc

pub not_damaged : (x : Refusal) → (x ≡ DeviceFailed) ⊎ (x ≡ NoMemory) ⊎ (x ≡ Exhausted) → x ≡ Damaged → ⊥
not_damaged x (inl h) e = absurd cc
not_damaged x (inr (inl h)) e = absurd cc
not_damaged x (inr (inr h)) e = absurd cc

pub not_retired : (x : Refusal) → (x ≡ DeviceFailed) ⊎ (x ≡ NoMemory) ⊎ (x ≡ Exhausted) → x ≡ Retired → ⊥
not_retired x (inl h) e = absurd cc
not_retired x (inr (inl h)) e = absurd cc
not_retired x (inr (inr h)) e = absurd cc

pub if_err_both : {T E : Type 0} {P Q R : E → Type 0} (r : Result T E) → ((x : E) → P x → Q x → R x) → IfErr r P → IfErr r Q → IfErr r R
if_err_both (Ok x) f p q = tt
if_err_both (Err e) f p q = f e p q

-- ---- why an opening that found a registry is refused, and what it leaves

module _ {D M V : Type 0} (disk : disks.Ghosts D) (l : Sizes) (v : Version) (laid : l ≡ sizes_of v) (old : D) (keeper : K M V disk) (k : IsKept (watches_in l v) keeper) (seen : disk.seen (disk_of keeper) ≡ disk.seen old) (new : D) (e : Refusal)
    (kind : (e ≡ DeviceFailed) ⊎ (e ≡ NoMemory) ⊎ (e ≡ Exhausted)) (b : IsUnbegun disk l v keeper e new) where
  pub why_refused : IsRefusedFor disk old new e
  why_refused = record {
    damaged = λ is. absurd (not_damaged e kind is);
    retired = λ is. absurd (not_retired e kind is);
    exhausted = λ is. spent disk l v laid old keeper k seen (b.exhausted is).0;
  }

  spent_not_failed : e ≡ Exhausted → e ≡ DeviceFailed → ⊥
  spent_not_failed is d = let clash : Exhausted ≡ DeviceFailed = sym is ∙ d in absurd cc

  short_not_failed : e ≡ NoMemory → e ≡ DeviceFailed → ⊥
  short_not_failed is d = let clash : NoMemory ≡ DeviceFailed = sym is ∙ d in absurd cc

  pub left_by : CountsNow disk → disk.may_leave old (disk.seen old) → Leaves disk old (disk_of keeper) (disk.may_leave old) → disk.honest (disk_of keeper) → disk.honest new → IsLeftBy disk old new e
  left_by counts stands until was h = record {
    cut = inr (state_of keeper, found disk l v laid old keeper k seen until new (b.cut h));
    unbegun = λ no. inr (state_of keeper, means_seen disk l v laid old keeper k seen, λ c left. means_registry l v laid (state_of keeper) c (b.unbegun h no c left));
    refused = λ is. (state_of keeper, means_seen disk l v laid old keeper k seen, λ c left. means_registry l v laid (state_of keeper) c (b.unbegun h (spent_not_failed is) c left));
    still = λ is. stays_found disk l v laid old keeper k seen until new (b.still (spent_not_failed is) h);
    short = λ is. inr (stays_found disk l v laid old keeper k seen until new (b.still (short_not_failed is) h));
    seen = λ up room. ap (λ d. disk.seen d) (b.exhausted (is_exhausted e kind up room)).1 ∙ seen;
    numbered = λ s means n all.
        let same : sizes_of s.version ≡ l = ap sizes_of (same_version s (state_of keeper) (disk.seen old) means (means_seen disk l v laid old keeper k seen) ∙ is_v disk l v laid old keeper k seen) ∙ sym laid in
        let down = λ (x : List ℕ) (is : IsNumberedTo (sizes_of s.version) n x). subst (λ (z : Sizes). IsNumberedTo z n x) same is in
        λ x left. subst (λ (z : Sizes). IsNumberedTo z (n + 1) x) (sym same)
        (b.numbered h n (number_of_found disk l v laid old keeper k seen n (down (disk.seen old) (all (disk.seen old) stands))) (λ y there. down y (all y (left_after_run disk counts old (disk_of keeper) (disk.may_leave old) was until y there))) x left);
  }
