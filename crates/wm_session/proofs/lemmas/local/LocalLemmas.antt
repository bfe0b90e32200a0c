-- A front's commands, each of which is a batch of one.
use Rattle.std.proofs.Common.{◌≡◌, ◌≢◌, ◌⊎◌, ◌≤◌, ℕ, Bool, true, false, cond, List, [], ◌∷◌, get_or, Result, Err, refl, sym, ap, ◌∙◌, subst, arith, inl, inr}
use Rattle.std.proofs.lemmas.List.{append-nil}
use Rattle.wm_disk.specs.Contents.{Rose}
use Rattle.wm_disk.specs.declared.disk.Disk.{Ghosts}
use Rattle.wm_disk.specs.declared.refusal.Refusal.{Refusal}
use Rattle.wm_disk.specs.declared.refusal.Refusal.TheVariants as refusals
use Rattle.wm_disk.specs.Counters.{max_counter}
use Rattle.wm_session.specs.declared.local.root_views.RootView.{RootView}
use Rattle.wm_registry.specs.declared.command.Command.{Command}
use Rattle.wm_registry.specs.declared.reply.Reply.{Reply}
use Rattle.wm_registry.specs.declared.reply.Reply.TheVariants.{Unchanged, Refused}
use Rattle.wm_registry.specs.Roots as registry
use Rattle.wm_registry.specs.Registry.{after_command, changed, is_change, reply_to}
use Rattle.wm_registry.specs.declared.version.Version.{Version}
use Rattle.wm_store.specs.Batches.{AreAnswered, IsBatch, accepted_of, is_begin, unless_begin}
use Rattle.wm_store.specs.Stored.{Stored}
use Rattle.wm_session.specs.session.Faults.{FrontState, Submits, Lasts, Defined, Device, Memory, Spent}
use Rattle.wm_session.specs.local.LocalLaws.{stays}
use Rattle.wm_disk.specs.laws.Runs.{CountsNow, left_after_run}
use Rattle.wm_session.specs.session.Sessions.{SessionState, accepted, reply_to_command, state_after_command, views_after}
use Rattle.wm_session.specs.local.Stores.{IsOpenUnlessFailed, LeadsTo, front_state_with, state_with, views_met}
use Rattle.wm_disk.specs.Parts.{IsPartOf}
use Rattle.wm_store.specs.Meant.{MeansAfter}
use Rattle.wm_checkpoint.specs.Machines.{replayed}

-- ---- how a command is met

-- that of a working store, which isn't a `Begin`
working : (s : SessionState) (command : Command) → is_begin command ≡ false → s.has_failed ≡ false → reply_to_command s command ≡ reply_to s.registry command
working s command plain works = rw (plain, works) refl

down : (s : SessionState) (command : Command) → is_begin command ≡ false → s.has_failed ≡ true → reply_to_command s command ≡ Refused refusals.StoreFailed
down s command plain failed = rw (plain, failed) refl

met_so : (command : Command) (r : Reply) → is_begin command ≡ false → unless_begin command r ≡ r
met_so command r plain = rw plain refl

beginning : (s : SessionState) (command : Command) → is_begin command ≡ true → reply_to_command s command ≡ Refused refusals.BadArguments
beginning s command begin = rw begin refl

-- a command with this reply changes nothing
idle_after : (s : SessionState) (command : Command) (r : Reply) → reply_to_command s command ≡ r → is_change r ≡ false → state_after_command s command ≡ s
idle_after s command r is idle = let none : is_change (reply_to_command s command) ≡ false = ap is_change is ∙ idle in rw none refl

-- and one that is accepted does what its kind does
accepted_after : (s : SessionState) (command : Command) (r : Reply) → reply_to_command s command ≡ r → is_change r ≡ true → state_after_command s command ≡ accepted s command
accepted_after s command r is change = let some : is_change (reply_to_command s command) ≡ true = ap is_change is ∙ change in rw some refl

pub lasts_same : (s : FrontState) → Lasts s s
lasts_same s = record { failures = omega arith; number = omega arith }

-- a command that is refused by its kind or since nothing goes on
pub refused_so : (old : FrontState) (command : Command) (e : Refusal) → reply_to_command old.state command ≡ Refused e → Submits old command (Refused e) old
refused_so old command e is = record { way = Defined; cause = lasts_same old; reply_is = sym is; state_is = sym (idle_after old.state command (Refused e) is refl) }

pub begin_refused : (old : FrontState) (command : Command) → is_begin command ≡ true → Submits old command (Refused refusals.BadArguments) old
begin_refused old command begin = refused_so old command refusals.BadArguments (beginning old.state command begin)

pub no_room : (old : FrontState) (command : Command) → Submits old command (Refused refusals.NoMemory) old
no_room old command = record { way = Memory; cause = (lasts_same old, refl); reply_is = refl; state_is = refl }

-- ---- a batch of one

-- the one reply
one_reply : (v : Version) (number room : ℕ) (s : _) (command : Command) (replies : List Reply) → AreAnswered v number room s (command ∷ []) replies → (reply : Reply) × (replies ≡ reply ∷ [])
one_reply v number room s command [] a = absurd a
one_reply v number room s command (reply ∷ []) a = (reply, refl)
one_reply v number room s command (reply ∷ (other ∷ more)) a =
    elim a [
      | inl met ↦ absurd met.1
      | inr spent ↦ let bad : other ∷ more ≡ [] = ap (λ (l : List Reply). rest_of l) spent.2 in absurd cc
    ]
  where
    rest_of : List Reply → List Reply
    rest_of [] = []
    rest_of (r ∷ rs) = rs

-- What the store tells of a batch of one command, which isn't a `Begin`, on a store that hasn't failed.
module _ {D : Type 0} (disk : Ghosts D) (old new : Stored D) (command : Command) (plain : is_begin command ≡ false) where
  abbrev pub before : List RootView → FrontState
  before views = front_state_with disk old views

  abbrev pub behind : Reply → List RootView → FrontState
  behind reply views = front_state_with disk new (views_met reply (state_with old views) command)

  lasts : (reply : Reply) (views : List RootView) → disk.failures old.disk ≤ disk.failures new.disk → old.number ≤ new.number → Lasts (before views) (behind reply views)
  lasts reply views failures number = record { failures = failures; number = number }

  -- it was met as the registry has it
  changed_so : (reply : Reply) (views : List RootView) → reply_to_command (state_with old views) command ≡ reply → is_change reply ≡ true
      → Lasts (before views) (behind reply views) → new.failed ≡ old.failed → new.registry ≡ changed old.registry command → Submits (before views) command reply (behind reply views)
  changed_so reply views is change last failed registry = record {
    way = Defined;
    cause = last;
    reply_is = sym is;
    state_is = (λ i. record { registry = registry i; has_failed = failed i; views = ap (λ (b : Bool). cond b (views_after (state_with old views) command) views) change i }) ∙ sym (accepted_after (state_with old views) command reply is change);
  }

  -- nothing has changed
  same_so : (reply : Reply) (views : List RootView) → new ≡ old → is_change reply ≡ false → Submits (before views) command reply (before views) → Submits (before views) command reply (behind reply views)
  same_so reply views same idle s =
      subst (λ (b : Bool). Submits (before views) command reply (front_state_with disk new (cond b (views_after (state_with old views) command) views))) (sym idle)
      (subst (λ (s : Stored D). Submits (before views) command reply (front_state_with disk s views)) (sym same) s)

  kept_so : (reply : Reply) (views : List RootView) → new ≡ old → is_change reply ≡ false → reply_to_command (state_with old views) command ≡ reply → Submits (before views) command reply (behind reply views)
  kept_so reply views same idle is = same_so reply views same idle (record { way = Defined; cause = lasts_same (before views); reply_is = sym is; state_is = sym (idle_after (state_with old views) command reply is idle) })

  -- memory ran out
  pub none_so : (views : List RootView) → new ≡ old → Submits (before views) command (Refused refusals.NoMemory) (behind (Refused refusals.NoMemory) views)
  none_so views same = same_so (Refused refusals.NoMemory) views same refl (no_room (before views) command)

  -- the store had failed before
  pub down_so : (views : List RootView) → new ≡ old → old.failed ≡ true → Submits (before views) command (Refused refusals.StoreFailed) (behind (Refused refusals.StoreFailed) views)
  down_so views same failed = kept_so (Refused refusals.StoreFailed) views same refl (down (state_with old views) command plain failed)

  -- the registry is as it was, whatever calls of the disk were made
  same_state : (reply : Reply) (views : List RootView) → new.registry ≡ old.registry → new.failed ≡ old.failed → is_change reply ≡ false → (behind reply views).state ≡ state_with old views
  same_state reply views registry failed idle = λ i. record { registry = registry i; has_failed = failed i; views = ap (λ (b : Bool). cond b (views_after (state_with old views) command) views) idle i }

  idle_so : (reply : Reply) (views : List RootView) → Lasts (before views) (behind reply views) → new.registry ≡ old.registry → new.failed ≡ old.failed → is_change reply ≡ false
      → reply_to_command (state_with old views) command ≡ reply → Submits (before views) command reply (behind reply views)
  idle_so reply views last registry failed idle is = record {
    way = Defined;
    cause = last;
    reply_is = sym is;
    state_is = same_state reply views registry failed idle ∙ sym (idle_after (state_with old views) command reply is idle);
  }

  short_so : (views : List RootView) → Lasts (before views) (behind (Refused refusals.NoMemory) views) → disk.failures new.disk ≡ disk.failures old.disk → new.registry ≡ old.registry → new.failed ≡ old.failed
      → Submits (before views) command (Refused refusals.NoMemory) (behind (Refused refusals.NoMemory) views)
  short_so views last failures registry failed = record {
    way = Memory;
    cause = (last, failures);
    reply_is = refl;
    state_is = same_state (Refused refusals.NoMemory) views registry failed refl;
  }

  spent_so : (reply : Reply) (views : List RootView) → old.failed ≡ false → Lasts (before views) (behind reply views) → disk.failures new.disk ≡ disk.failures old.disk → new.registry ≡ old.registry → new.failed ≡ old.failed
      → reply ≡ Refused refusals.Exhausted → max_counter ≤ new.number → is_change (reply_to old.registry command) ≡ true → Submits (before views) command reply (behind reply views)
  spent_so reply views works last failures registry failed is spent change =
      let accepts : is_change (reply_to_command (state_with old views) command) ≡ true = ap is_change (working (state_with old views) command plain works) ∙ change in
      record { way = Spent; cause = (accepts, last, failures, spent); reply_is = is; state_is = same_state reply views registry failed (ap is_change is) }

  -- by what the reply is in a batch of one
  answered_so : (reply : Reply) (views : List RootView) → old.failed ≡ false → new.failed ≡ false → Lasts (before views) (behind reply views) → disk.failures new.disk ≡ disk.failures old.disk
      → AreAnswered old.registry.version new.number new.room old.registry (command ∷ []) (reply ∷ [])
      → new.registry ≡ replayed after_command old.registry (accepted_of (command ∷ []) (reply ∷ []))
      → (b : Bool) → is_change reply ≡ b → Submits (before views) command reply (behind reply views)
  answered_so reply views works works' last failures answered registry b change =
      let s : SessionState = state_with old views in
      elim answered [
        | inl met ↦ elim met.0 [
          | inl is ↦
              let told : reply_to_command s command ≡ reply = working s command plain works ∙ sym (is ∙ met_so command (reply_to old.registry command) plain) in
              by_change told b change
          | inr none ↦
              let is : reply ≡ Refused refusals.NoMemory = none ∙ met_so command (Refused refusals.NoMemory) plain in
              subst (λ (r : Reply). Submits (before views) command r (behind r views)) (sym is) (short_so views (lasts (Refused refusals.NoMemory) views last.failures last.number) failures (stays (ap is_change is)) (works' ∙ sym works))
        ]
        | inr spent ↦
            let is : reply ≡ Refused refusals.Exhausted = ap (λ (l : List Reply). first_of_list l) spent.2 ∙ met_so command (Refused refusals.Exhausted) plain in
            let change' : is_change (reply_to old.registry command) ≡ true = ap is_change (sym (met_so command (reply_to old.registry command) plain)) ∙ spent.1 in
            spent_so reply views works last failures (stays (ap is_change is)) (works' ∙ sym works) is spent.0.0 change'
      ]
    where
      first_of_list : List Reply → Reply
      first_of_list [] = Unchanged
      first_of_list (r ∷ rs) = r

      stays : is_change reply ≡ false → new.registry ≡ old.registry
      stays none = registry ∙ ap (λ (b : Bool). replayed after_command old.registry (cond b (command ∷ []) [])) none

      by_change : reply_to_command (state_with old views) command ≡ reply → (b : Bool) → is_change reply ≡ b → Submits (before views) command reply (behind reply views)
      by_change told true change =
          let was : is_change (reply_to old.registry command) ≡ true = ap is_change (sym (working (state_with old views) command plain works) ∙ told) ∙ change in
          let after_is : replayed after_command old.registry (command ∷ []) ≡ changed old.registry command = rw was refl in
          changed_so reply views told change last (works' ∙ sym works) (registry ∙ ap (λ (b : Bool). replayed after_command old.registry (cond b (command ∷ []) [])) change ∙ after_is)
      by_change told false none = idle_so reply views last (stays none) (works' ∙ sym works) none told

  -- the batch was answered
  pub met_alone : (replies : List Reply) (reply : Reply) (views : List RootView) → replies ≡ reply ∷ [] → old.failed ≡ false → new.failed ≡ false
      → disk.failures new.disk ≡ disk.failures old.disk → old.number ≤ new.number
      → IsBatch disk old new (command ∷ []) replies → new.registry ≡ replayed after_command old.registry (accepted_of (command ∷ []) replies)
      → Submits (before views) command reply (behind reply views)
  met_alone replies reply views one works works' failures number batch registry =
      answered_so reply views works works' (lasts reply views (omega (arith, failures)) number) failures
      (subst (λ (l : List Reply). AreAnswered old.registry.version new.number new.room old.registry (command ∷ []) l) one batch.answered)
      (subst (λ (l : List Reply). new.registry ≡ replayed after_command old.registry (accepted_of (command ∷ []) l)) one registry)
      (is_change reply) refl

  -- the device failed with the command in flight
  was_accepted : (v : Version) (number room : ℕ) (reply : Reply) → AreAnswered v number room old.registry (command ∷ []) (reply ∷ []) → (b : Bool) → is_change reply ≡ b → (cond b (command ∷ []) [] ≡ [] → ⊥) → is_change (reply_to old.registry command) ≡ true
  was_accepted v number room reply answered false change some = absurd (some refl)
  was_accepted v number room reply answered true change some =
      elim answered [
        | inl met ↦ elim met.0 [
          | inl is ↦ ap is_change (sym (is ∙ met_so command (reply_to old.registry command) plain)) ∙ change
          | inr none ↦ let bad : false ≡ true = ap is_change (sym (none ∙ met_so command (Refused refusals.NoMemory) plain)) ∙ change in absurd cc
        ]
        | inr spent ↦ ap is_change (sym (met_so command (reply_to old.registry command) plain)) ∙ spent.1
      ]

  pub device_so : (replies : List Reply) (views : List RootView) → old.failed ≡ false → new.failed ≡ true → new.registry ≡ old.registry
      → disk.failures old.disk ≤ disk.failures new.disk → Rose (disk.failures old.disk) (disk.failures new.disk) → old.number ≤ new.number
      → IsBatch disk old new (command ∷ []) replies → (accepted_of (command ∷ []) replies ≡ [] → ⊥)
      → Submits (before views) command (Refused refusals.DeviceFailed) (behind (Refused refusals.DeviceFailed) views)
  device_so replies views works failed registry failures rose number batch some =
      let one = one_reply old.registry.version new.number new.room old.registry command replies batch.answered in
      let accepts : is_change (reply_to old.registry command) ≡ true =
      was_accepted old.registry.version new.number new.room one.0 (subst (λ (l : List Reply). AreAnswered old.registry.version new.number new.room old.registry (command ∷ []) l) one.1 batch.answered) (is_change one.0) refl
      (subst (λ (l : List Reply). accepted_of (command ∷ []) l ≡ [] → ⊥) one.1 some) in
      record {
        way = Device;
        cause = (ap is_change (working (state_with old views) command plain works) ∙ accepts, works, lasts (Refused refusals.DeviceFailed) views failures number, rose);
        reply_is = refl;
        state_is = λ i. record { registry = registry i; has_failed = failed i; views = views };
      }

  -- ---- what it keeps

  taken_alone : (replies : List Reply) → IsPartOf (accepted_of (command ∷ []) replies) (command ∷ [])
  taken_alone [] = tt
  taken_alone (reply ∷ replies) =
      elim (is_change reply) as (λ b. IsPartOf (cond b (command ∷ []) []) (command ∷ [])) [
        | true ↦ inl (refl, tt)
        | false ↦ tt
      ]

  pub leads_alone : (replies : List Reply) → old.failed ≡ false → new.failed ≡ false → (disk.honest new.disk → disk.honest old.disk) → disk.failures old.disk ≤ disk.failures new.disk
      → IsBatch disk old new (command ∷ []) replies → new.registry ≡ replayed after_command old.registry (accepted_of (command ∷ []) replies) → LeadsTo disk (command ∷ []) old new
  leads_alone replies works works' honest failures batch registry =
      let all = accepted_of (command ∷ []) replies in
      record {
        later = record { honest = honest; count = failures };
        failed = λ e. let bad : false ≡ true = sym works ∙ e in absurd cc;
        still = λ e. let bad : false ≡ true = sym works ∙ e in absurd cc;
        cause = λ e f. let bad : false ≡ true = sym works' ∙ f in absurd cc;
        commits = λ e. record {
          accepted = all;
          in_flight = [];
          part = subst (λ (l : List Command). IsPartOf l (command ∷ [])) (sym (append-nil all)) (taken_alone replies);
          leaves = λ f. let bad : false ≡ true = sym works' ∙ f in absurd cc;
          registry = registry;
          works = λ f. refl;
          any_moment = inr (rw (append-nil all) batch.any_moment);
        };
      }

  pub leads_device : CountsNow disk → (replies : List Reply) → old.failed ≡ false → new.failed ≡ true → new.registry ≡ old.registry → (disk.honest new.disk → disk.honest old.disk)
      → disk.failures old.disk ≤ disk.failures new.disk → Rose (disk.failures old.disk) (disk.failures new.disk) → IsBatch disk old new (command ∷ []) replies → LeadsTo disk (command ∷ []) old new
  leads_device counts_now replies works failed registry honest failures rose batch = record {
    later = record { honest = honest; count = failures };
    failed = λ e. failed;
    still = λ e. let bad : false ≡ true = sym works ∙ e in absurd cc;
    cause = λ e f. rose;
    commits = λ e. record {
      accepted = [];
      in_flight = accepted_of (command ∷ []) replies;
      part = taken_alone replies;
      leaves = λ f h c left. subst (λ r. MeansAfter r (accepted_of (command ∷ []) replies) c) (sym registry)
          (left_after_run disk counts_now old.disk new.disk (MeansAfter old.registry (accepted_of (command ∷ []) replies)) h (batch.any_moment h) c left);
      registry = registry;
      works = λ f. let bad : false ≡ true = sym f ∙ failed in absurd cc;
      any_moment = inr batch.any_moment;
    };
  }

  pub leads_same : new ≡ old → LeadsTo disk (command ∷ []) old new
  leads_same same = subst (λ (s : Stored D). LeadsTo disk (command ∷ []) old s) (sym same) (stays disk (command ∷ []) old)

-- ---- a batch of one that was refused

first_is : (replies : List Reply) (one reply : Reply) → replies ≡ one ∷ [] → reply ≡ get_or replies 0 reply → reply ≡ one
first_is replies one reply is at = at ∙ ap (λ (l : List Reply). get_or l 0 reply) is

-- the replies to one command are the first of them
pub only_reply : (v : Version) (number room : ℕ) (s : registry.State) (command : Command) (replies : List Reply) (reply : Reply) → AreAnswered v number room s (command ∷ []) replies → reply ≡ get_or replies 0 reply → replies ≡ reply ∷ []
only_reply v number room s command replies reply answered at =
    let one = one_reply v number room s command replies answered in
    one.1 ∙ ap (λ (r : Reply). r ∷ []) (sym (first_is replies one.0 reply one.1 at))

pub err_is : {T : Type 0} (r : Result T Refusal) (a b : Refusal) → r ≡ Err a → r ≡ Err b → a ≡ b
err_is r a b p q = cc

pub not_true : (b : Bool) → (b ≡ true → ⊥) → b ≡ false
not_true true h = absurd (h refl)
not_true false h = refl

module _ {D : Type 0} (disk : Ghosts D) (old new : Stored D) (command : Command) (plain : is_begin command ≡ false) where
  -- what a store tells of a batch of one that it refused
  pub record Refuses (e : Refusal) : Type 0 where
    pub up : IsOpenUnlessFailed old
    pub registry : new.registry ≡ old.registry
    pub honest : disk.honest new.disk → disk.honest old.disk
    pub failures : disk.failures old.disk ≤ disk.failures new.disk
    pub number : old.number ≤ new.number
    pub cut : old.failed ≡ false → (replies : List Reply) × IsBatch disk old new (command ∷ []) replies × (e ≡ refusals.DeviceFailed → accepted_of (command ∷ []) replies ≡ [] → ⊥)
    pub memory : e ≡ refusals.NoMemory → new ≡ old
    pub down : e ≡ refusals.StoreFailed → ((old.failed ≡ true) ⊎ (old.closed ≡ true)) × (new ≡ old)
    pub stays_down : (old.failed ≡ true) ⊎ (old.closed ≡ true) → e ≡ refusals.StoreFailed
    pub failed : e ≡ refusals.DeviceFailed → Rose (disk.failures old.disk) (disk.failures new.disk) × (new.failed ≡ true)
    pub kinds : (e ≡ refusals.DeviceFailed) ⊎ (e ≡ refusals.NoMemory) ⊎ (e ≡ refusals.StoreFailed)

  -- it was the failure of the store
  had_failed : IsOpenUnlessFailed old → (old.failed ≡ true) ⊎ (old.closed ≡ true) → (b : Bool) → old.failed ≡ b → b ≡ true
  had_failed up (inl failed) b is = sym is ∙ failed
  had_failed up (inr closed) true is = refl
  had_failed up (inr closed) false is = let bad : false ≡ true = sym (up is) ∙ closed in absurd cc

  worked : (e : Refusal) → Refuses e → e ≢ refusals.StoreFailed → old.failed ≡ false
  worked e r other = not_true old.failed (λ failed. other (r.stays_down (inl failed)))

  pub refused_alone : (e : Refusal) (views : List RootView) → Refuses e → Submits (front_state_with disk old views) command (Refused e) (front_state_with disk new views)
  refused_alone e views r =
      elim r.kinds [
        | inl device ↦
            let works = worked e r (λ bad. let no : refusals.DeviceFailed ≡ refusals.StoreFailed = sym device ∙ bad in absurd cc) in
            let cut = r.cut works in
            subst (λ (x : Refusal). Submits (front_state_with disk old views) command (Refused x) (front_state_with disk new views)) (sym device)
            (device_so disk old new command plain cut.0 views works (r.failed device).1 r.registry r.failures (r.failed device).0 r.number cut.1 (cut.2 device))
        | inr other ↦ elim other [
          | inl memory ↦
              subst (λ (x : Refusal). Submits (front_state_with disk old views) command (Refused x) (front_state_with disk new views)) (sym memory) (none_so disk old new command plain views (r.memory memory))
          | inr down ↦
              let why = r.down down in
              subst (λ (x : Refusal). Submits (front_state_with disk old views) command (Refused x) (front_state_with disk new views)) (sym down)
              (down_so disk old new command plain views why.1 (had_failed r.up why.0 old.failed refl))
        ]
      ]

  pub refused_leads : CountsNow disk → (e : Refusal) → Refuses e → LeadsTo disk (command ∷ []) old new
  refused_leads counts_now e r =
      elim r.kinds [
        | inl device ↦
            let works = worked e r (λ bad. let no : refusals.DeviceFailed ≡ refusals.StoreFailed = sym device ∙ bad in absurd cc) in
            let cut = r.cut works in
            leads_device disk old new command plain counts_now cut.0 works (r.failed device).1 r.registry r.honest r.failures (r.failed device).0 cut.1
        | inr other ↦ elim other [
          | inl memory ↦ leads_same disk old new command plain (r.memory memory)
          | inr down ↦ leads_same disk old new command plain (r.down down).1
        ]
      ]

-- ---- the front's views

-- the views were changed as the accepted command does
pub met_with : {D : Type 0} (disk : Ghosts D) (old new : Stored D) (command : Command) (reply : Reply) (views after : List RootView)
    → Submits (front_state_with disk old views) command reply (front_state_with disk new (views_met reply (state_with old views) command)) → after ≡ views_met reply (state_with old views) command
    → Submits (front_state_with disk old views) command reply (front_state_with disk new after)
met_with disk old new command reply views after s is = subst (λ (vs : List RootView). Submits (front_state_with disk old views) command reply (front_state_with disk new vs)) (sym is) s

pub views_changed : (s : SessionState) (command : Command) (reply : Reply) (after : List RootView) → is_change reply ≡ true → after ≡ views_after s command → after ≡ views_met reply s command
views_changed s command reply after change is = is ∙ sym (ap (λ (b : Bool). cond b (views_after s command) s.views) change)

pub views_same : (s : SessionState) (command : Command) (reply : Reply) (after : List RootView) → is_change reply ≡ false → after ≡ s.views → after ≡ views_met reply s command
views_same s command reply after idle is = is ∙ sym (ap (λ (b : Bool). cond b (views_after s command) s.views) idle)
