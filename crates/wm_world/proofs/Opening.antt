-- Opening a store, and what it makes of the world.
use Rattle.std.proofs.Common.{◌≡◌, ◌≢◌, ◌⊎◌, ⊎_elim, inl, inr, ℕ, zero, suc, ◌+◌, ◌<◌, ◌≤◌, Bool, true, false, cond, List, [], ◌∷◌, ◌++◌, map, take, drop, refl, sym, ap, subst, ◌∙◌, arith, true≢false, le-leb, append-nil, MatchBool}
use Rattle.std.specs.List.{AllByRecursion}
use Rattle.wm_disk.specs.Contents.{Rose}
use Rattle.wm_disk.specs.Moments.{LeavesOnly, then_runs}
use Rattle.wm_disk.specs.declared.disk.Disk as disks
use Rattle.wm_disk.specs.declared.refusal.Refusal.{Refusal}
use Rattle.wm_disk.specs.declared.refusal.Refusal.TheVariants as refusals
use Rattle.wm_disk.specs.Counters.{max_counter}
use Rattle.wm_registry.specs.declared.command.Command.{Command}
use Rattle.wm_registry.specs.declared.command.Command.TheVariants.{Begin}
use Rattle.wm_registry.specs.declared.reply.Reply.TheVariants.{Refused}
use Rattle.wm_registry.specs.declared.root.Root.{Root}
use Rattle.wm_registry.specs.Laws.{AcceptedInVersion2, NumbersInOrder, NumbersRise}
use Rattle.wm_registry.specs.Registry.{after_command, changed, changes, empty_registry, is_change, reply_to}
use Rattle.wm_registry.specs.Roots.{State}
use Rattle.wm_registry.specs.Versions.{sizes_of}
use Rattle.wm_store.specs.Openings.{IsBegun, FindsRegistry}
use Rattle.wm_store.specs.Stored.{Stored}
use Rattle.wm_store.specs.laws.Retired.{not_retired}
use Rattle.wm_view.specs.Histories.{History, new_history}
use Rattle.wm_view.specs.Summaries.{summary}
use Rattle.wm_checkpoint.specs.Layout.{sizes_1}
use Rattle.wm_checkpoint.specs.Meanings.{IsRetired}
use Rattle.wm_checkpoint.specs.Numbers.{IsNumberedTo}
use Rattle.wm_world.specs.declared.world.World.{World as Running}
use Rattle.wm_world.specs.declared.other.Other.{Other}
use Rattle.wm_world.specs.declared.world.Server.TheVariants.{Up, Down}
use Rattle.wm_world.specs.Worlds.{World, begun_all, cannot_rise, in_version, registry, replay}
use Rattle.wm_world.specs.Steps.{IsPrefix, IsReached, Finds, OpenCutEarly, OpenCutLate, OpenEnds, OpenSpent, Opened, begin_on, opened, reopened}
use Rattle.wm_world.specs.Refinement.{Disks, IsBeside, IsDown, IsRetiredBeside, IsServer, KeepsPrefix, Simulates, Refines, disks_of_server, disks_of_world}
use Rattle.wm_world.specs.Passes.{Leaves, LeftBetween, Opens}
use Rattle.wm_disk.specs.laws.Runs.{weaker}
use Rattle.wm_world.proofs.Between.{between_from, left_before, take-drop}
use Rattle.wm_world.proofs.Moments.{Within, ids_reached}
use Rattle.wm_world.proofs.OneDisk.{alone_calls, honest_calls, honest_now, leaves_other}
use Rattle.wm_world.proofs.Others.{beside_reopened, beside_same, between_of, prefix_same, retired_of}
use Rattle.wm_world.proofs.Reached.{settled_reached}
use Rattle.wm_world.proofs.Replays.{Accepted, began, grown, means_grown, number_meant, replay_more}
use Rattle.wm_world.proofs.Shapes.{begin_accepted}
use Rattle.wm_checkpoint.specs.laws.Numbering.{numbered_more}
use Rattle.wm_world.proofs.Stores.{CountsNow, none_yet, now}
use Rattle.wm_store.specs.Meant.{IsDamagedFile, IsRetiredFile, MeansAfter, MeansRegistry}
use Rattle.wm_checkpoint.specs.Machines.{replayed}
use Rattle.wm_registry.specs.declared.version.Version.TheVariants.{One, Two}

-- where the Begin isn't accepted, it is nothing
begin_kept : (s : State) (c : List ℕ) → MeansAfter s (Begin ∷ []) c → MeansAfter s (cond (changes s Begin) (Begin ∷ []) []) c
begin_kept s c m = by (changes s Begin) refl
  where
    unmoved : changes s Begin ≡ false → (n : ℕ) → n ≤ 1 → MeansRegistry (replayed after_command s (take n (Begin ∷ []))) c → MeansRegistry s c
    unmoved e zero le k = k
    unmoved e (suc zero) le k = subst (λ t. MeansRegistry t c) (ap (λ b. cond b (changed s Begin) s) e) k
    unmoved e (suc (suc n)) le k = absurd (omega (arith, le))

    by : (b : Bool) → changes s Begin ≡ b → MeansAfter s (cond b (Begin ∷ []) []) c
    by true e = m
    by false e = none_yet s [] c (unmoved e m.count m.within m.means)

all_now : (i : ℕ) (roots : List (List ℕ × Root)) → AllByRecursion (λ (h : History). h.incarnation ≡ i) (map (λ r. new_history i r.1.number) roots)
all_now i [] = tt
all_now i (r ∷ roots) = (refl, all_now i roots)

all_over : (s : State) (i : ℕ) → s.incarnation < i → (hs : List History) → AllByRecursion (Within s) hs → AllByRecursion (λ (h : History). h.incarnation < i) hs
all_over s i low [] all = tt
all_over s i low (h ∷ hs) all = (omega (arith, all.0.incarnation, low), all_over s i low hs all.1)

-- one content has one meaning
abbrev pub OneMeaning : Type 0
OneMeaning = (c : List ℕ) (s t : State) → MeansRegistry s c → MeansRegistry t c → s ≡ t

module _ {D : Type 0} (disk : disks.Ghosts D) where
  -- a disk's law
  abbrev pub ReadsStand : Type 0
  ReadsStand = (d : D) → disk.honest d → disk.may_leave d (disk.seen d)

  module _ (law : AcceptedInVersion2) (old new : Running D) (d : D) (other : Other D) (is_down : old.server ≡ Down d other) (one : OneMeaning) (rising : NumbersRise) (ordered : NumbersInOrder) (stand : ReadsStand) where
    down_of : (w : World) → Refines disk old w → IsDown disk d other old.shown.views.items w
    down_of w s = subst (λ x. IsServer disk x old.shown.views.items w) is_down s.server

    -- what the disk means, of the commands kept and in flight
    pub record Known (w : World) : Type 0 where
      pub found : List Command
      pub finds : Finds w found
      pub means : MeansRegistry (in_version w.version (replay found)) (disk.seen d)
      pub numbered : IsNumberedTo (sizes_of w.version) w.slot (disk.seen d)

    -- what is known of the content that is there
    seen_keeps : (w : World) → Refines disk old w → disk.honest d → KeepsPrefix disk other w (disk.seen d)
    seen_keeps w s h = (down_of w s).on.prefix (disk.seen d) (stand d h)

    -- where it means some registry, it isn't retired
    pub known : (w : World) → IsReached w → Refines disk old w → disk.honest d → (found : State) → MeansRegistry found (disk.seen d) → Known w
    known w reached s h found m = by (seen_keeps w s h).means
      where
        by : MeansAfter (registry w) w.pending (disk.seen d) ⊎ IsRetiredBeside disk other w (disk.seen d) → Known w
        by (inl a) =
            let part : List Command = take a.count w.pending in
            record {
              found = w.kept ++ part;
              finds = (part, (drop a.count w.pending, take-drop a.count w.pending), refl);
              means = means_grown law w.version w.kept w.pending (settled_reached w reached).accepted (disk.seen d) a;
              numbered = (seen_keeps w s h).numbered;
            }
        by (inr moved) = absurd (not_retired found (disk.seen d) m (One, retired_of disk other w (disk.seen d) moved))

    -- before the content was durable, a crash leaves what one before might have left
    early_leaves : (e : D) (w : World) → IsReached w → (afterwards : List Command) → Refines disk old w → LeavesOnly disk.moment disk.left_since d e (disk.may_leave d) → LeavesOnly disk.moment disk.left_since d e (LeftBetween disk other w afterwards)
    early_leaves e w reached afterwards s run =
        weaker disk.moment disk.left_since d e (disk.may_leave d) (LeftBetween disk other w afterwards) run (λ c left. left_before law disk other w reached afterwards c ((down_of w s).on.prefix c left))

    -- from then on the registry that was found, or that with a Begin, which is in flight where the registry accepts it
    found_leaves : (e : D) (w : World) → IsReached w → (more afterwards : List Command) → Refines disk old w → (k : Known w) → IsPrefix (k.found ++ more) afterwards → Accepted (in_version w.version (replay k.found)) more
        → ((c : List ℕ) → MeansAfter (in_version w.version (replay k.found)) (Begin ∷ []) c → MeansAfter (in_version w.version (replay k.found)) more c) → (found : State) → FindsRegistry disk d e found
        → LeavesOnly disk.moment disk.left_since d e (LeftBetween disk other w afterwards)
    found_leaves e w reached more afterwards s k behind begins accepted found f =
        let at : found ≡ in_version w.version (replay k.found) = one (disk.seen d) found (in_version w.version (replay k.found)) f.means k.means in
        then_runs disk.moment disk.left_since d f.synced e (LeftBetween disk other w afterwards) (MeansAfter found (Begin ∷ [])) (early_leaves f.synced w reached afterwards s f.until) f.from
        (λ c m. inl (between_from law w afterwards k.found more (k.finds.0, sym k.finds.2) (inl behind) begins c (accepted c (subst (λ r. MeansAfter r (Begin ∷ []) c) at m))))

    -- the disk of the store that was opened, or of the refusal
    started_on : (e : D) (w v : World) → disks_of_server disk new.server ≡ record { used = e; other = other } → LeavesOnly disk.moment disk.left_since d e (LeftBetween disk other w (v.kept ++ v.pending)) → Leaves disk (disks_of_world disk old) w (disks_of_world disk new) v
    started_on e w v there run = leaves_other disk old new d e other (ap (disks_of_server disk) is_down) there w (v.kept ++ v.pending) run

    pub open_done : (fresh_store : Stored D) → new.server ≡ Up fresh_store other → new.shown.replies ≡ old.shown.replies → new.shown.clients ≡ old.shown.clients → new.shown.views.items ≡ map summary (begun_all fresh_store.registry)
        → (disk.honest fresh_store.disk → disk.honest d) → disk.failures fresh_store.disk ≡ disk.failures d → fresh_store.failed ≡ false → fresh_store.closed ≡ false
        → (disk.honest fresh_store.disk → IsBegun disk d fresh_store)
        → (disk.honest fresh_store.disk → (c : List ℕ) → disk.may_leave fresh_store.disk c → MeansRegistry fresh_store.registry c)
        → (disk.honest fresh_store.disk → (c : List ℕ) → disk.may_leave fresh_store.disk c → IsNumberedTo (sizes_of fresh_store.registry.version) fresh_store.number c)
        → Simulates disk opened (Opens disk) old new
    open_done store server said clients views honest faults whole open_yet begins means numbered = record {
      honest = honest_calls disk old new d store.disk other (ap (disks_of_server disk) is_down) (ap (disks_of_server disk) server) honest;
      alone = alone_calls disk old new d store.disk other (ap (disks_of_server disk) is_down) (ap (disks_of_server disk) server);
      goes = λ h w reached s.
          let there : disk.honest store.disk = honest_now disk old new d store.disk other (ap (disks_of_server disk) is_down) (ap (disks_of_server disk) server) h in
          let b = begins there in
          let k = known w reached s (honest there) b.found b.opened.means in
          let at : b.found ≡ in_version w.version (replay k.found) = one (disk.seen d) b.found (in_version w.version (replay k.found)) b.opened.means k.means in
          let accepts : changes (replay k.found) Begin ≡ true = subst (λ r. changes r Begin ≡ true) at (ap is_change b.changed) in
          let kept : List Command = k.found ++ Begin ∷ [] in
          let led : store.registry ≡ in_version w.version (replay kept) = b.registry ∙ ap (λ r. after_command r Begin) at ∙ sym (grown law w.version k.found (Begin ∷ []) (accepts, tt)) in
          let next : (replay kept).incarnation ≡ (replay k.found).incarnation + 1 = ap (λ (r : State). r.incarnation) (replay_more (empty_registry Two) k.found (Begin ∷ [])) ∙ began (replay k.found) accepts in
          let rise : (replay w.kept).incarnation ≤ (replay k.found).incarnation = subst (λ cs. (replay w.kept).incarnation ≤ (replay cs).incarnation) (sym k.finds.2) (rising Two w.kept k.finds.0).incarnation in
          let low : b.opened.means.number ≤ w.slot = number_meant b.found w.version (ap (λ (r : State). r.version) at) (disk.seen d) b.opened.means w.slot k.numbered in
          let high : store.number ≤ w.slot + 1 = omega (arith, b.number, low) in
          let v : World = record w { stage = reopened w.stage; kept = kept; pending = []; up = true; slot = w.slot + 1; histories = w.histories ++ begun_all (replay kept) } in
          let row : Opened w v = (k.found, k.finds, (omega arith, omega arith), accepts, refl) in (
            v,
            subst (λ u. MatchBool u (v ≡ w) (OpenEnds w v)) (sym (down_of w s).down) (inl row),
            record {
              server = subst (λ x. IsServer disk x new.shown.views.items v) (sym server) (record {
                up = refl;
                whole = whole;
                open_yet = open_yet;
                registry_is = led;
                number = high;
                on = record {
                  prefix = λ c left. record {
                    means = inl (none_yet (in_version w.version (replay kept)) [] c (subst (λ r. MeansRegistry r c) led (means there c left)));
                    numbered = numbered_more (sizes_of w.version) store.number (w.slot + 1) c high (subst (λ (r : State). IsNumberedTo (sizes_of r.version) store.number c) led (numbered there c left));
                  };
                  faults = faults ∙ (down_of w s).on.faults;
                  beside = beside_reopened disk other w v refl refl refl (down_of w s).on.beside;
                };
                views_are = record {
                  past = w.histories;
                  present = begun_all (replay kept);
                  all = refl;
                  over = all_over (registry w) (replay kept).incarnation (omega (arith, next, rise)) w.histories (ids_reached rising ordered w reached).within;
                  now = all_now (replay kept).incarnation (replay kept).roots;
                  shown = views ∙ ap (λ r. map summary (begun_all r)) led;
                };
              });
              replies = ap (λ r. r.items) said ∙ s.replies;
              clients = ap (λ r. r.items) clients ∙ s.clients;
            },
            record { leaves = started_on store.disk w v (ap (disks_of_server disk) server) (found_leaves store.disk w reached (Begin ∷ []) (kept ++ []) s k ([], refl) (accepts, tt) (λ c m. m) b.found b.opened); retired = λ down. inl row },
          );
    }

    module _ (later_disk : D) (server : new.server ≡ Down later_disk other) (same_views : new.shown.views ≡ old.shown.views) (said : new.shown.replies ≡ old.shown.replies) (clients : new.shown.clients ≡ old.shown.clients) (honest : disk.honest later_disk → disk.honest d) where
      stands_down : (w v : World) → v.up ≡ false → v.replies ≡ w.replies → v.clients ≡ w.clients → disk.failures later_disk ≡ v.faults → IsBeside disk other v → ((c : List ℕ) → disk.may_leave later_disk c → KeepsPrefix disk other v c) → Refines disk old w → Refines disk new v
      stands_down w v down replies cs faults beside prefix s = record {
        server = subst (λ x. IsServer disk x new.shown.views.items v) (sym server) (record { down = down; none = ap (λ r. r.items) same_views ∙ (down_of w s).none; on = record { prefix = prefix; faults = faults; beside = beside } });
        replies = ap (λ r. r.items) said ∙ s.replies ∙ sym replies;
        clients = ap (λ r. r.items) clients ∙ s.clients ∙ sym cs;
      }

      abbrev Open : World → Type 0
      Open w = (v : World) × opened w v × Refines disk new v × Opens disk (disks_of_world disk old) w (disks_of_world disk new) v

      as_row : (w v : World) → Refines disk old w → OpenEnds w v → opened w v
      as_row w v s row = subst (λ u. MatchBool u (v ≡ w) (OpenEnds w v)) (sym (down_of w s).down) row

      -- before the content was durable
      early : (w : World) → IsReached w → Refines disk old w → Rose (disk.failures d) (disk.failures later_disk) → disk.failures d ≤ disk.failures later_disk → ((c : List ℕ) → disk.may_leave later_disk c → disk.may_leave d c)
          → LeavesOnly disk.moment disk.left_since d later_disk (disk.may_leave d) → Open w
      early w reached s rose later less run =
          let down = down_of w s in
          let v : World = record w { faults = disk.failures later_disk } in
          let row : OpenCutEarly w v = (subst (λ n. Rose n (disk.failures later_disk)) down.on.faults rose, subst (λ n. n ≤ disk.failures later_disk) down.on.faults later, refl) in (
            v,
            as_row w v s (inr (inl row)),
            stands_down w v down.down refl refl refl (beside_same disk other w v refl refl refl down.on.beside)
                (λ c left. prefix_same disk other w v c (record { kept = refl; pending = refl; slot = refl; version = refl; stage = refl; down = λ e. e }) (down.on.prefix c (less c left))) s,
            record { leaves = started_on later_disk w v (ap (disks_of_server disk) server) (early_leaves later_disk w reached (w.kept ++ w.pending) s run); retired = λ is_down. inr (inl row) },
          )

      -- after it was
      late : (w : World) → IsReached w → Refines disk old w → (h : disk.honest later_disk) → Rose (disk.failures d) (disk.failures later_disk) → disk.failures d ≤ disk.failures later_disk
          → (found : State) (f : FindsRegistry disk d later_disk found) → ((c : List ℕ) → disk.may_leave later_disk c → MeansAfter found (Begin ∷ []) c)
          → ((c : List ℕ) → disk.may_leave later_disk c → IsNumberedTo (sizes_of w.version) (w.slot + 1) c) → Open w
      late w reached s h rose later found f left_means numbered =
          let down = down_of w s in
          let k = known w reached s (honest h) found f.means in
          let at : found ≡ in_version w.version (replay k.found) = one (disk.seen d) found (in_version w.version (replay k.found)) f.means k.means in
          let v : World = record w { stage = reopened w.stage; kept = k.found; pending = begin_on k.found; faults = disk.failures later_disk; slot = w.slot + 1 } in
          let row : OpenCutLate w v = (subst (λ n. Rose n (disk.failures later_disk)) down.on.faults rose, subst (λ n. n ≤ disk.failures later_disk) down.on.faults later, (omega arith, omega arith), (k.found, k.finds, refl)) in (
            v,
            as_row w v s (inr (inr (inl row))),
            stands_down w v down.down refl refl refl (beside_reopened disk other w v refl refl refl down.on.beside)
                (λ c left. record { means = inl (begin_kept (in_version w.version (replay k.found)) c (subst (λ r. MeansAfter r (Begin ∷ []) c) at (left_means c left))); numbered = numbered c left }) s,
            record {
              leaves = started_on later_disk w v (ap (disks_of_server disk) server)
                  (found_leaves later_disk w reached (begin_on k.found) (k.found ++ begin_on k.found) s k ([], append-nil (k.found ++ begin_on k.found)) (begin_accepted w.version k.found) (λ c m. begin_kept (in_version w.version (replay k.found)) c m) found f);
              retired = λ is_down. inr (inr (inl row));
            },
          )

      -- a counter is spent
      spent : (w : World) → IsReached w → Refines disk old w → (h : disk.honest later_disk) → disk.failures later_disk ≡ disk.failures d
          → (found : State) (m : MeansRegistry found (disk.seen d)) → (reply_to found Begin ≡ Refused refusals.Exhausted) ⊎ (max_counter ≤ m.number)
          → ((c : List ℕ) → disk.may_leave later_disk c → MeansRegistry found c) → ((c : List ℕ) → disk.may_leave later_disk c → IsNumberedTo (sizes_of w.version) (w.slot + 1) c)
          → LeavesOnly disk.moment disk.left_since d later_disk (λ c. disk.may_leave d c ⊎ MeansRegistry found c) → Open w
      spent w reached s h stood found m why left_means numbered run =
          let down = down_of w s in
          let k = known w reached s (honest h) found m in
          let at : found ≡ in_version w.version (replay k.found) = one (disk.seen d) found (in_version w.version (replay k.found)) m k.means in
          let v : World = record w { stage = reopened w.stage; kept = k.found; pending = []; slot = w.slot + 1 } in
          let row : OpenSpent w v = ((omega arith, omega arith), (k.found, k.finds, reason k at why, refl)) in (
            v,
            as_row w v s (inr (inr (inr (inl row)))),
            stands_down w v down.down refl refl (stood ∙ down.on.faults) (beside_reopened disk other w v refl refl refl down.on.beside)
                (λ c left. record { means = inl (none_yet (in_version w.version (replay k.found)) [] c (subst (λ r. MeansRegistry r c) at (left_means c left))); numbered = numbered c left }) s,
            record { leaves = started_on later_disk w v (ap (disks_of_server disk) server) (leaves k at); retired = λ is_down. inr (inr (inr (inl row))) },
          )
        where
          leaves : (k : Known w) → found ≡ in_version w.version (replay k.found) → LeavesOnly disk.moment disk.left_since d later_disk (LeftBetween disk other w (k.found ++ []))
          leaves k at = weaker disk.moment disk.left_since d later_disk (λ c. disk.may_leave d c ⊎ MeansRegistry found c) (LeftBetween disk other w (k.found ++ [])) run
              (λ c. ⊎_elim (λ left. left_before law disk other w reached (k.found ++ []) c ((down_of w s).on.prefix c left))
              (λ m. inl (between_from law w (k.found ++ []) k.found [] (k.finds.0, sym k.finds.2) (inl ([], append-nil (k.found ++ []))) tt c (none_yet (in_version w.version (replay k.found)) [] c (subst (λ r. MeansRegistry r c) at m)))))

          reason : (k : Known w) → found ≡ in_version w.version (replay k.found) → (reply_to found Begin ≡ Refused refusals.Exhausted) ⊎ (max_counter ≤ m.number) → (changes (replay k.found) Begin ≡ false) ⊎ (cannot_rise w.slot ≡ true)
          reason k at (inl refused) = inl (subst (λ r. changes r Begin ≡ false) at (ap is_change refused))
          reason k at (inr high) =
              let low : m.number ≤ w.slot = number_meant found w.version (ap (λ (r : State). r.version) at) (disk.seen d) m w.slot k.numbered in
              inr (le-leb max_counter w.slot (omega (arith, high, low)))

      pub open_failed : CountsNow disk → (e : Refusal) → e ≢ refusals.NoMemory
          → (e ≡ refusals.DeviceFailed) ⊎ (e ≡ refusals.NoMemory) ⊎ (e ≡ refusals.Exhausted) ⊎ (e ≡ refusals.Damaged) ⊎ (e ≡ refusals.Retired)
          → (disk.honest later_disk → LeavesOnly disk.moment disk.left_since d later_disk (disk.may_leave d) ⊎ ((found : State) × FindsRegistry disk d later_disk found))
          → (disk.honest later_disk → e ≡ refusals.Damaged → IsDamagedFile (disk.seen d)) → (disk.honest later_disk → e ≡ refusals.Retired → IsRetiredFile (disk.seen d))
          → (disk.honest later_disk → e ≡ refusals.Exhausted → (found : State) × (m : MeansRegistry found (disk.seen d)) × ((reply_to found Begin ≡ Refused refusals.Exhausted) ⊎ (max_counter ≤ m.number)))
          → (e ≡ refusals.DeviceFailed → Rose (disk.failures d) (disk.failures later_disk)) → (e ≢ refusals.DeviceFailed → disk.failures later_disk ≡ disk.failures d) → disk.failures d ≤ disk.failures later_disk
          → (disk.honest later_disk → e ≡ refusals.Exhausted → (found : State) × MeansRegistry found (disk.seen d) × ((c : List ℕ) → disk.may_leave later_disk c → MeansRegistry found c))
          → (disk.honest later_disk → e ≡ refusals.Exhausted → (found : State) × MeansRegistry found (disk.seen d) × LeavesOnly disk.moment disk.left_since d later_disk (λ c. disk.may_leave d c ⊎ MeansRegistry found c))
          → (disk.honest later_disk → (s : State) → MeansRegistry s (disk.seen d) → (n : ℕ) → ((c : List ℕ) → disk.may_leave d c → IsNumberedTo (sizes_of s.version) n c) → (c : List ℕ) → disk.may_leave later_disk c → IsNumberedTo (sizes_of s.version) (n + 1) c)
          → Simulates disk opened (Opens disk) old new
      open_failed counts e memory kinds cut damaged retired exhausted failed stood later only still numbered = record {
        honest = honest_calls disk old new d later_disk other (ap (disks_of_server disk) is_down) (ap (disks_of_server disk) server) honest;
        alone = alone_calls disk old new d later_disk other (ap (disks_of_server disk) is_down) (ap (disks_of_server disk) server);
        goes = λ h w reached s. by (honest_now disk old new d later_disk other (ap (disks_of_server disk) is_down) (ap (disks_of_server disk) server) h) w reached s kinds;
      }
        where
          all_numbered : (h : disk.honest later_disk) (w : World) → IsReached w → Refines disk old w → (found : State) → MeansRegistry found (disk.seen d) → (c : List ℕ) → disk.may_leave later_disk c → IsNumberedTo (sizes_of w.version) (w.slot + 1) c
          all_numbered h w reached s found m c left =
              let k = known w reached s (honest h) found m in
              numbered h (in_version w.version (replay k.found)) k.means w.slot (λ x there. ((down_of w s).on.prefix x there).numbered) c left

          device : (h : disk.honest later_disk) (w : World) → IsReached w → Refines disk old w → e ≡ refusals.DeviceFailed → LeavesOnly disk.moment disk.left_since d later_disk (disk.may_leave d) ⊎ ((found : State) × FindsRegistry disk d later_disk found) → Open w
          device h w reached s is (inl run) = early w reached s (failed is) later (now disk counts d later_disk (disk.may_leave d) h run) run
          device h w reached s is (inr (found, f)) = late w reached s h (failed is) later found f (now disk counts f.synced later_disk (MeansAfter found (Begin ∷ [])) h f.from) (all_numbered h w reached s found f.means)

          is_device : Refusal → Bool
          is_device refusals.DeviceFailed = true
          is_device _ = false

          not_device : (other_refusal : Refusal) → is_device other_refusal ≡ false → e ≡ other_refusal → e ≢ refusals.DeviceFailed
          not_device other_refusal isnt is d = true≢false (sym (ap is_device (sym is ∙ d)) ∙ isnt)

          -- the content that is there is retired: nothing happened
          retired_stays : (h : disk.honest later_disk) (w : World) → IsReached w → Refines disk old w → e ≡ refusals.Retired → LeavesOnly disk.moment disk.left_since d later_disk (disk.may_leave d) ⊎ ((found : State) × FindsRegistry disk d later_disk found)
              → MeansAfter (registry w) w.pending (disk.seen d) ⊎ IsRetiredBeside disk other w (disk.seen d) → Open w
          retired_stays h w reached s is left (inl m) = absurd (not_retired _ (disk.seen d) m.means (retired h is))
          retired_stays h w reached s is (inr (found, f)) (inr moved) = absurd (not_retired found (disk.seen d) f.means (retired h is))
          retired_stays h w reached s is (inl run) (inr moved) =
              let down = down_of w s in (
                w,
                as_row w w s (inr (inr (inr (inr (between_of disk other w (disk.seen d) moved, refl))))),
                stands_down w w down.down refl refl (stood (not_device refusals.Retired refl is) ∙ down.on.faults) down.on.beside (λ c left. down.on.prefix c (now disk counts d later_disk (disk.may_leave d) h run c left)) s,
                record {
                  leaves = started_on later_disk w w (ap (disks_of_server disk) server) (early_leaves later_disk w reached (w.kept ++ w.pending) s run);
                  retired = λ was_down. inr (inr (inr (inr (subst (λ (x : Disks D). IsRetired sizes_1 (disk.seen x.used)) (sym (ap (disks_of_server disk) is_down)) (retired_of disk other w (disk.seen d) moved)))));
                },
              )

          no_damage : disk.honest later_disk → (w : World) → e ≡ refusals.Damaged → MeansAfter (registry w) w.pending (disk.seen d) ⊎ IsRetiredBeside disk other w (disk.seen d) → ⊥
          no_damage h w is (inl m) = let s = replayed after_command (registry w) (take m.count w.pending) in (damaged h is s.version).0 s m.means
          no_damage h w is (inr moved) = (damaged h is One).1 (retired_of disk other w (disk.seen d) moved)

          by : disk.honest later_disk → (w : World) → IsReached w → Refines disk old w → (e ≡ refusals.DeviceFailed) ⊎ (e ≡ refusals.NoMemory) ⊎ (e ≡ refusals.Exhausted) ⊎ (e ≡ refusals.Damaged) ⊎ (e ≡ refusals.Retired) → Open w
          by h w reached s (inl is) = device h w reached s is (cut h)
          by h w reached s (inr (inl is)) = absurd (memory is)
          by h w reached s (inr (inr (inl is))) =
              let x = exhausted h is in
              let o = only h is in
              let q = still h is in
              let same : o.0 ≡ x.0 = one (disk.seen d) o.0 x.0 o.1 x.1 in
              let also : q.0 ≡ x.0 = one (disk.seen d) q.0 x.0 q.1 x.1 in
              spent w reached s h (stood (not_device refusals.Exhausted refl is)) x.0 x.1 x.2 (λ c left. subst (λ r. MeansRegistry r c) same (o.2 c left)) (all_numbered h w reached s x.0 x.1)
              (subst (λ (r : State). LeavesOnly disk.moment disk.left_since d later_disk (λ c. disk.may_leave d c ⊎ MeansRegistry r c)) also q.2)
          by h w reached s (inr (inr (inr (inl is)))) = absurd (no_damage h w is (seen_keeps w s (honest h)).means)
          by h w reached s (inr (inr (inr (inr is)))) = retired_stays h w reached s is (cut h) (seen_keeps w s (honest h)).means
