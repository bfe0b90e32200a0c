-- Calls of the store, and what they make of the world.
use Rattle.std.proofs.Common.{◌≡◌, ◌≢◌, ◌⊎◌, inl, inr, ℕ, ◌+◌, ◌-◌, ◌<◌, ◌≤◌, Bool, true, false, ◌&&◌, List, [], ◌∷◌, ◌++◌, length, map, nat_le, refl, sym, ap, subst, ◌∙◌, arith, true≢false, append_assoc, append-nil, le-leb, MatchBool}
use Rattle.std.proofs.lemmas.Bool.{lt-leb}
use Rattle.std.proofs.lemmas.List.{map-append}
use Rattle.std.specs.List.{AllByRecursion, range_with_len}
use Rattle.wm_disk.specs.Contents.{Rose}
use Rattle.wm_disk.specs.Moments.{LeavesOnly}
use Rattle.wm_disk.specs.declared.disk.Disk as disks
use Rattle.wm_disk.specs.declared.refusal.Refusal.{Refusal}
use Rattle.wm_disk.specs.declared.refusal.Refusal.TheVariants as refusals
use Rattle.wm_disk.specs.Counters.{max_counter}
use Rattle.wm_checkpoint.specs.Meanings.{Means}
use Rattle.wm_checkpoint.specs.declared.layout.Slot.{Slot}
use Rattle.wm_checkpoint.specs.laws.Numbering.{means_numbered, numbered_more}
use Rattle.wm_registry.specs.declared.command.Command.{Command}
use Rattle.wm_registry.specs.declared.reply.Reply.{Reply}
use Rattle.wm_registry.specs.MachineLaws.{watches}
use Rattle.wm_registry.specs.Registry.{after_command}
use Rattle.wm_registry.specs.Versions.{sizes_of}
use Rattle.wm_registry.specs.Roots.{State}
use Rattle.wm_store.specs.Batches.{AreAnswered, IsOutOfMemory, accepted_of}
use Rattle.wm_store.specs.Stored.{Stored}
use Rattle.wm_view.specs.Histories.{History, new_history}
use Rattle.wm_view.specs.Summaries.{Summary, summary}
use Rattle.wm_checkpoint.specs.Numbers.{IsNumberedTo}
use Rattle.wm_world.specs.declared.world.World.{World as Running}
use Rattle.wm_world.specs.declared.other.Other.{Other}
use Rattle.wm_world.specs.declared.other.Other.TheVariants.{Nothing}
use Rattle.wm_world.specs.declared.world.Server.TheVariants.{Up, Down}
use Rattle.wm_world.specs.Worlds.{World, begun_between, in_version, registry, replay, without_answer}
use Rattle.wm_world.specs.Steps.{BatchCut, BatchDone, Checkpointed, Cut, IsReached, batch, checkpointed, down}
use Rattle.wm_world.specs.Refinement.{AreHonest, AreViews, IsServer, IsUp, Simulates, Refines, disk_of_server, disks_of_server, disks_of_world}
use Rattle.wm_world.specs.Passes.{KeepsBetween, Leaves, LeftBetween, Raises, Switches}
use Rattle.wm_disk.specs.laws.Runs.{weaker, OnlyNow}
use Rattle.wm_world.proofs.Batching.{answered_more, same_incarnation}
use Rattle.wm_world.proofs.Between.{between_before, between_more}
use Rattle.wm_world.proofs.Calls.{nothing}
use Rattle.wm_world.proofs.Reached.{pending_is_own}
use Rattle.wm_world.proofs.OneDisk.{alone_calls, honest_calls, honest_now, leaves_calls}
use Rattle.wm_world.proofs.Others.{beside_same}
use Rattle.wm_registry.specs.Laws.{AcceptedInVersion2}
use Rattle.wm_world.proofs.Replays.{Accepted, accepted_batch, grown}
use Rattle.wm_registry.specs.Limits.{max_batch}
use Rattle.wm_store.specs.Meant.{MeansAfter, MeansRegistry}
use Rattle.wm_checkpoint.specs.Machines.{replayed}

-- ---- contents

-- nothing of the commands is there yet
pub none_yet : (s : State) (commands : List Command) (c : List ℕ) → MeansRegistry s c → MeansAfter s commands c
none_yet s commands c m = record { count = 0; within = omega arith; means = m }

-- ---- views of a batch

all_begun_in : (i : ℕ) (ns : List ℕ) → AllByRecursion (λ (h : History). h.incarnation ≡ i) (map (new_history i) ns)
all_begun_in i [] = tt
all_begun_in i (n ∷ ns) = (refl, all_begun_in i ns)

all_both : {A : Type 0} (P : A → Type 0) (xs ys : List A) → AllByRecursion P xs → AllByRecursion P ys → AllByRecursion P (xs ++ ys)
all_both P [] ys a b = b
all_both P (x ∷ xs) ys a b = (a.0, all_both P xs ys a.1 b)

all_each : {A : Type 0} (P Q : A → Type 0) → ((x : A) → P x → Q x) → (xs : List A) → AllByRecursion P xs → AllByRecursion Q xs
all_each P Q f [] h = tt
all_each P Q f (x ∷ xs) h = (f x h.0, all_each P Q f xs h.1)

-- more histories of this incarnation
views_more : (views : List Summary) (w v : World) (more : List History) → (registry v).incarnation ≡ (registry w).incarnation → v.histories ≡ w.histories ++ more
    → AllByRecursion (λ (h : History). h.incarnation ≡ (registry v).incarnation) more → AreViews views w → AreViews (views ++ map summary more) v
views_more views w v more same grown these a = record {
  past = a.past;
  present = a.present ++ more;
  all = grown ∙ ap (λ hs. hs ++ more) a.all ∙ append_assoc a.past a.present more;
  over = subst (λ i. AllByRecursion (λ (h : History). h.incarnation < i) a.past) (sym same) a.over;
  now = all_both (λ (h : History). h.incarnation ≡ (registry v).incarnation) a.present more (subst (λ i. AllByRecursion (λ (h : History). h.incarnation ≡ i) a.present) (sym same) a.now) these;
  shown = ap (λ vs. vs ++ map summary more) a.shown ∙ sym (map-append summary a.present more);
}

module _ {D : Type 0} (disk : disks.Ghosts D) where
  -- a disk's law
  abbrev pub CountsNow : Type 0
  CountsNow = (d : D) (t : ℕ) (c : List ℕ) → disk.honest d → t ≤ disk.moment d → disk.may_leave d c → disk.left_since d t c

  pub now : CountsNow → (old new : D) (P : List ℕ → Type 0) → disk.honest new → LeavesOnly disk.moment disk.left_since old new P → (c : List ℕ) → disk.may_leave new c → P c
  now law old new P h run c left = run.each c (law new (disk.moment old) c h run.later left)

module _ {D : Type 0} (disk : disks.Ghosts D) (law : AcceptedInVersion2) where
  up_of : (old : Running D) (before : Stored D) (other : Other D) (w : World) → old.server ≡ Up before other → Refines disk old w → IsUp disk before other old.shown.views.items w
  up_of old before other w is s = subst (λ x. IsServer disk x old.shown.views.items w) is s.server

  fits : (w : World) (commands : List Command) → w.up ≡ true → length commands ≤ max_batch → (w.up && nat_le (length commands) max_batch) ≡ true
  fits w commands up short = λ i. up i && le-leb (length commands) max_batch short i

  -- a call that leaves what was meant
  stays_meant : (w : World) → IsReached w → (registry_then : State) (before after : D) (afterwards : List Command) → registry_then ≡ registry w → LeavesOnly disk.moment disk.left_since before after (MeansRegistry registry_then)
      → LeavesOnly disk.moment disk.left_since before after (KeepsBetween w afterwards)
  stays_meant w reached registry_then before after afterwards is run =
      weaker disk.moment disk.left_since before after (MeansRegistry registry_then) (KeepsBetween w afterwards) run
      (λ c m. between_before law w reached afterwards c (none_yet (registry w) w.pending c (subst (λ r. MeansRegistry r c) is m)))

  -- ---- commands

  module _ (old new : Running D) (before after : Stored D) (other : Other D) (commands : List Command) (replies : List Reply) (is_up : old.server ≡ Up before other) (short : length commands ≤ max_batch) where
    pub batch_done : new.server ≡ Up after other → new.shown.replies.items ≡ replies → new.shown.clients ≡ old.shown.clients
        → new.shown.views.items ≡ old.shown.views.items ++ map summary (map (new_history after.registry.incarnation) (range_with_len before.registry.next (after.registry.next - before.registry.next)))
        → AreAnswered before.registry.version after.number after.room before.registry commands replies → (IsOutOfMemory replies → ⊥)
        → after.registry ≡ replayed after_command before.registry (accepted_of commands replies)
        → (disk.honest after.disk → disk.honest before.disk) → disk.failures after.disk ≡ disk.failures before.disk
        → after.failed ≡ false → after.closed ≡ false → after.number ≤ before.number + length commands
        → (disk.honest after.disk → (c : List ℕ) → disk.may_leave after.disk c → MeansRegistry after.registry c)
        → (before.failed ≡ false → disk.honest after.disk → (c : List ℕ) → disk.may_leave after.disk c → IsNumberedTo (sizes_of before.registry.version) (before.number + length commands) c)
        → (disk.honest after.disk → LeavesOnly disk.moment disk.left_since before.disk after.disk (MeansAfter before.registry (accepted_of commands replies)))
        → Simulates disk (batch commands) (Leaves disk) old new
    batch_done server said clients views answered long led honest faults whole open_yet number means numbered leaves = record {
      honest = honest_calls disk old new before.disk after.disk other (ap (disks_of_server disk) is_up) (ap (disks_of_server disk) server) honest;
      alone = alone_calls disk old new before.disk after.disk other (ap (disks_of_server disk) is_up) (ap (disks_of_server disk) server);
      goes = λ h w reached s.
          let up = up_of old before other w is_up s in
          let there : disk.honest after.disk = (subst (λ x. AreHonest disk (disks_of_server disk x)) server h).0 in
          let more : List Command = accepted_of commands replies in
          let met_before : AreAnswered (registry w).version after.number after.room (registry w) commands replies = subst (λ (r : State). AreAnswered r.version after.number after.room r commands replies) up.registry_is answered in
          let accepted : Accepted (registry w) more = accepted_batch (registry w).version after.number after.room (registry w) commands replies met_before in
          let same_after : in_version w.version (replay (w.kept ++ more)) ≡ replayed after_command (registry w) more = grown law w.version w.kept more accepted in
          let led_to : after.registry ≡ in_version w.version (replay (w.kept ++ more)) = led ∙ ap (λ r. replayed after_command r more) up.registry_is ∙ sym same_after in
          let high : after.number ≤ w.slot + length commands = omega (arith, number, up.number) in
          let v : World = record w {
            kept = w.kept ++ more;
            replies = replies;
            slot = w.slot + length commands;
            histories = w.histories ++ begun_between (registry w) (replay (w.kept ++ more));
          } in
          let met : AreAnswered (registry w).version v.slot 0 (registry w) commands replies = answered_more (registry w).version after.number after.room v.slot (registry w) commands replies high met_before in
          let same : (replay (w.kept ++ more)).incarnation ≡ (registry w).incarnation = ap (λ (r : State). r.incarnation) same_after ∙ same_incarnation (registry w).version v.slot (registry w) commands replies met in
          let done : BatchDone w commands v = (replies, met, long, (omega arith, omega arith), refl) in (
            v,
            subst (λ b. MatchBool b (BatchDone w commands v ⊎ BatchCut w commands v) (v ≡ w)) (sym (fits w commands up.up short)) (inl done),
            record {
              server = subst (λ x. IsServer disk x new.shown.views.items v) (sym server) (record {
                up = up.up;
                whole = whole;
                open_yet = open_yet;
                registry_is = led_to;
                number = high;
                on = record {
                  prefix = λ c left. record {
                    means = inl (none_yet (registry v) w.pending c (subst (λ r. MeansRegistry r c) led_to (means there c left)));
                    numbered = numbered_more (sizes_of w.version) (before.number + length commands) v.slot c (omega (arith, up.number)) (subst (λ (r : State). IsNumberedTo (sizes_of r.version) (before.number + length commands) c) up.registry_is (numbered up.whole there c left));
                  };
                  faults = faults ∙ up.on.faults;
                  beside = beside_same disk other w v refl refl refl up.on.beside;
                };
                views_are = subst (λ vs. AreViews vs v) (sym (views ∙ (λ i. old.shown.views.items ++ map summary (map (new_history (led_to i).incarnation) (range_with_len (up.registry_is i).next ((led_to i).next - (up.registry_is i).next))))))
                    (views_more old.shown.views.items w v (begun_between (registry w) (replay (w.kept ++ more))) same refl (all_begun_in (replay (w.kept ++ more)).incarnation _) up.views_are);
              });
              replies = said;
              clients = ap (λ r. r.items) clients ∙ s.clients;
            },
            leaves_calls disk old new before.disk after.disk other (ap (disks_of_server disk) is_up) (ap (disks_of_server disk) server) w (v.kept ++ v.pending)
                (weaker disk.moment disk.left_since before.disk after.disk (MeansAfter before.registry more) (KeepsBetween w (v.kept ++ v.pending)) (leaves there)
                (λ c m. between_more law w (v.kept ++ v.pending) more (ap (λ p. (w.kept ++ more) ++ p) (pending_is_own w reached up.up) ∙ append-nil (w.kept ++ more)) accepted c (subst (λ r. MeansAfter r more c) up.registry_is m))),
          );
    }

  -- what a store that failed leaves: the server is down with these commands in flight
  module _ (old new : Running D) (before after : Stored D) (other : Other D) (is_up : old.server ≡ Up before other) (server : new.server ≡ Down after.disk other) (gone : new.shown.views.items ≡ []) (said : new.shown.replies ≡ old.shown.replies)
      (lost : new.shown.clients.items ≡ map without_answer old.shown.clients.items) (honest : disk.honest after.disk → disk.honest before.disk) where
    abbrev cut_to : World → ℕ → List Command → World
    cut_to w by pending = record (down w) { pending = pending; faults = disk.failures after.disk; slot = w.slot + by }

    cut_stands : (w : World) (by : ℕ) (pending : List Command) → Refines disk old w
        → ((c : List ℕ) → disk.may_leave after.disk c → MeansAfter before.registry pending c)
        → ((c : List ℕ) → disk.may_leave after.disk c → IsNumberedTo (sizes_of before.registry.version) (before.number + by) c) → Refines disk new (cut_to w by pending)
    cut_stands w by pending s means numbered =
        let up = up_of old before other w is_up s in
        record {
          server = subst (λ x. IsServer disk x new.shown.views.items (cut_to w by pending)) (sym server) (record {
            down = refl;
            none = gone;
            on = record {
              prefix = λ c left. record {
                means = inl (subst (λ r. MeansAfter r pending c) up.registry_is (means c left));
                numbered = numbered_more (sizes_of w.version) (before.number + by) (w.slot + by) c (omega (arith, up.number)) (subst (λ (r : State). IsNumberedTo (sizes_of r.version) (before.number + by) c) up.registry_is (numbered c left));
              };
              faults = refl;
              beside = beside_same disk other w (cut_to w by pending) refl refl refl up.on.beside;
            };
          });
          replies = ap (λ r. r.items) said ∙ s.replies;
          clients = lost ∙ ap (λ cs. map without_answer cs) s.clients;
        }

    is_cut : (w : World) (by : ℕ) (pending : List Command) → Refines disk old w → Rose (disk.failures before.disk) (disk.failures after.disk) → disk.failures before.disk ≤ disk.failures after.disk
        → Cut by w pending (cut_to w by pending)
    is_cut w by pending s rose later =
        let faults = (up_of old before other w is_up s).on.faults in
        (subst (λ n. Rose n (disk.failures after.disk)) faults rose, subst (λ n. n ≤ disk.failures after.disk) faults later, (omega arith, omega arith), refl)

    is_honest : AreHonest disk (disks_of_world disk new) → AreHonest disk (disks_of_world disk old)
    is_honest = honest_calls disk old new before.disk after.disk other (ap (disks_of_server disk) is_up) (ap (disks_of_server disk) server) honest

    none_beside : (disks_of_world disk old).other ≡ Nothing → (disks_of_world disk new).other ≡ Nothing
    none_beside = alone_calls disk old new before.disk after.disk other (ap (disks_of_server disk) is_up) (ap (disks_of_server disk) server)

    still_there : AreHonest disk (disks_of_world disk new) → disk.honest after.disk
    still_there = honest_now disk old new before.disk after.disk other (ap (disks_of_server disk) is_up) (ap (disks_of_server disk) server)

    leaves_cut : (w : World) (afterwards : List Command) → LeavesOnly disk.moment disk.left_since before.disk after.disk (KeepsBetween w afterwards)
        → LeavesOnly disk.moment disk.left_since (disks_of_world disk old).used (disks_of_world disk new).used (LeftBetween disk (disks_of_world disk old).other w afterwards) × ((disks_of_world disk new).other ≡ (disks_of_world disk old).other)
    leaves_cut = leaves_calls disk old new before.disk after.disk other (ap (disks_of_server disk) is_up) (ap (disks_of_server disk) server)

    -- only a failure of the device takes down a store that was whole
    device : (w : World) (e : Refusal) → Refines disk old w → (e ≡ refusals.DeviceFailed) ⊎ (e ≡ refusals.NoMemory) ⊎ (e ≡ refusals.StoreFailed) → e ≢ refusals.NoMemory
        → (e ≡ refusals.StoreFailed → (before.failed ≡ true) ⊎ (before.closed ≡ true)) → e ≡ refusals.DeviceFailed
    device w e s (inl d) memory closed = d
    device w e s (inr (inl m)) memory closed = absurd (memory m)
    device w e s (inr (inr x)) memory closed = by (closed x)
      where
        up : IsUp disk before other old.shown.views.items w
        up = up_of old before other w is_up s

        by : (before.failed ≡ true) ⊎ (before.closed ≡ true) → e ≡ refusals.DeviceFailed
        by (inl f) = absurd (true≢false (sym f ∙ up.whole))
        by (inr f) = absurd (true≢false (sym f ∙ up.open_yet))

    pub batch_cut : CountsNow disk → (commands : List Command) (e : Refusal) → length commands ≤ max_batch
        → (e ≡ refusals.DeviceFailed) ⊎ (e ≡ refusals.NoMemory) ⊎ (e ≡ refusals.StoreFailed) → e ≢ refusals.NoMemory → (e ≡ refusals.StoreFailed → (before.failed ≡ true) ⊎ (before.closed ≡ true))
        → (before.failed ≡ false → (replies : List Reply) × (AreAnswered before.registry.version after.number after.room before.registry commands replies
        × (disk.honest after.disk → LeavesOnly disk.moment disk.left_since before.disk after.disk (MeansAfter before.registry (accepted_of commands replies)))
        × (e ≡ refusals.DeviceFailed → accepted_of commands replies ≡ [] → ⊥)))
        → (e ≡ refusals.DeviceFailed → Rose (disk.failures before.disk) (disk.failures after.disk)) → disk.failures before.disk ≤ disk.failures after.disk
        → after.number ≤ before.number + length commands
        → (before.failed ≡ false → disk.honest after.disk → (c : List ℕ) → disk.may_leave after.disk c → IsNumberedTo (sizes_of before.registry.version) (before.number + length commands) c)
        → Simulates disk (batch commands) (Leaves disk) old new
    batch_cut counts commands e short kinds memory closed flight rose later number numbered = record {
      honest = is_honest;
      alone = none_beside;
      goes = λ h w reached s.
          let up = up_of old before other w is_up s in
          let d : e ≡ refusals.DeviceFailed = device w e s kinds memory closed in
          let f = flight up.whole in
          let replies : List Reply = f.0 in
          let pending : List Command = accepted_of commands replies in
          let v : World = cut_to w (length commands) pending in
          let high : after.number ≤ v.slot = omega (arith, number, up.number) in
          let met_before : AreAnswered (registry w).version after.number after.room (registry w) commands replies = subst (λ (r : State). AreAnswered r.version after.number after.room r commands replies) up.registry_is f.1.0 in
          let accepted : Accepted (registry w) pending = accepted_batch (registry w).version after.number after.room (registry w) commands replies met_before in
          let met : AreAnswered (registry w).version v.slot 0 (registry w) commands replies = answered_more (registry w).version after.number after.room v.slot (registry w) commands replies high met_before in
          let there = still_there h in
          let cut : BatchCut w commands v = (replies, met, f.1.2 d, is_cut w (length commands) pending s (rose d) later) in (
            v,
            subst (λ b. MatchBool b (BatchDone w commands v ⊎ BatchCut w commands v) (v ≡ w)) (sym (fits w commands up.up short)) (inr cut),
            cut_stands w (length commands) pending s (λ c left. now disk counts before.disk after.disk (MeansAfter before.registry pending) there (f.1.1 there) c left) (numbered up.whole there),
            leaves_cut w (w.kept ++ pending)
                (weaker disk.moment disk.left_since before.disk after.disk (MeansAfter before.registry pending) (KeepsBetween w (w.kept ++ pending)) (f.1.1 there)
                (λ c m. between_more law w (w.kept ++ pending) pending refl accepted c (subst (λ r. MeansAfter r pending c) up.registry_is m))),
          );
    }

    pub checkpoint_cut : CountsNow disk → (e : Refusal) → (e ≡ refusals.DeviceFailed) ⊎ (e ≡ refusals.NoMemory) ⊎ (e ≡ refusals.Exhausted) ⊎ (e ≡ refusals.StoreFailed) → e ≢ refusals.NoMemory → e ≢ refusals.Exhausted
        → (e ≡ refusals.StoreFailed → (before.failed ≡ true) ⊎ (before.closed ≡ true))
        → (before.failed ≡ false → disk.honest after.disk → LeavesOnly disk.moment disk.left_since before.disk after.disk (MeansRegistry before.registry))
        → (e ≡ refusals.DeviceFailed → Rose (disk.failures before.disk) (disk.failures after.disk)) → disk.failures before.disk ≤ disk.failures after.disk
        → (before.failed ≡ false → disk.honest after.disk → (c : List ℕ) → disk.may_leave after.disk c → IsNumberedTo (sizes_of before.registry.version) (before.number + 1) c)
        → Simulates disk checkpointed (Switches disk) old new
    checkpoint_cut counts e kinds memory counter closed leaves rose later numbered = record {
      honest = is_honest;
      alone = none_beside;
      goes = λ h w reached s.
          let up = up_of old before other w is_up s in
          let d : e ≡ refusals.DeviceFailed = device w e s (three kinds) memory closed in
          let v : World = cut_to w 1 [] in
          let there = still_there h in (
            v,
            subst (λ b. MatchBool b (Checkpointed w v ⊎ Cut 1 w [] v) (v ≡ w)) (sym up.up) (inr (is_cut w 1 [] s (rose d) later)),
            cut_stands w 1 [] s (λ c left. none_yet before.registry [] c (now disk counts before.disk after.disk (MeansRegistry before.registry) there (leaves up.whole there) c left)) (numbered up.whole there),
            record {
              leaves = leaves_cut w (w.kept ++ []) (stays_meant w reached before.registry before.disk after.disk (w.kept ++ []) up.registry_is (leaves up.whole there));
              done = λ up. absurd (true≢false (sym up));
              spent = λ up. absurd (true≢false (sym up));
            },
          );
    }
      where
        three : (e ≡ refusals.DeviceFailed) ⊎ (e ≡ refusals.NoMemory) ⊎ (e ≡ refusals.Exhausted) ⊎ (e ≡ refusals.StoreFailed) → (e ≡ refusals.DeviceFailed) ⊎ (e ≡ refusals.NoMemory) ⊎ (e ≡ refusals.StoreFailed)
        three (inl a) = inl a
        three (inr (inl a)) = inr (inl a)
        three (inr (inr (inl a))) = absurd (counter a)
        three (inr (inr (inr a))) = inr (inr a)

  -- ---- a checkpoint

  -- the content means the registry of the store, under the store's number
  abbrev IsCounted : Stored D → List ℕ → Type 0
  IsCounted store c = (m : MeansRegistry store.registry c) × (m.number ≡ store.number)

  counted_in : (w : World) (store : Stored D) → store.registry ≡ registry w → ((c : List ℕ) → disk.may_leave store.disk c → IsCounted store c)
      → (c : List ℕ) → disk.may_leave store.disk c → (m : MeansRegistry (registry w) c) × (m.number ≡ store.number)
  counted_in w store is counted c left = subst (λ r. (m : MeansRegistry r c) × (m.number ≡ store.number)) is (counted c left)

  module _ (old new : Running D) (before after : Stored D) (other : Other D) (is_up : old.server ≡ Up before other) (server : new.server ≡ Up after other) (said : new.shown.replies ≡ old.shown.replies) (clients : new.shown.clients ≡ old.shown.clients) (views : new.shown.views ≡ old.shown.views) where
    pub checkpoint_done : (disk.honest after.disk → disk.honest before.disk) → disk.failures after.disk ≡ disk.failures before.disk → after.failed ≡ false → after.closed ≡ false
        → after.number ≡ before.number + 1 → after.registry ≡ before.registry
        → (disk.honest after.disk → (slot : Slot) × ((c : List ℕ) → disk.may_leave after.disk c → Means (watches after.registry.version) c slot after.number after.registry []))
        → (before.failed ≡ false → disk.honest before.disk → (c : List ℕ) → disk.may_leave before.disk c → IsCounted before c)
        → (before.failed ≡ false → disk.honest after.disk → LeavesOnly disk.moment disk.left_since before.disk after.disk (MeansRegistry before.registry)) → Simulates disk checkpointed (Switches disk) old new
    checkpoint_done honest faults whole open_yet number same means counted leaves = record {
      honest = honest_calls disk old new before.disk after.disk other (ap (disks_of_server disk) is_up) (ap (disks_of_server disk) server) honest;
      alone = alone_calls disk old new before.disk after.disk other (ap (disks_of_server disk) is_up) (ap (disks_of_server disk) server);
      goes = λ h w reached s.
          let up = up_of old before other w is_up s in
          let there : disk.honest after.disk = (subst (λ x. AreHonest disk (disks_of_server disk x)) server h).0 in
          let m = means there in
          let v : World = record w { slot = w.slot + 1 } in
          let led : after.registry ≡ registry w = same ∙ up.registry_is in
          let high : after.number ≤ w.slot + 1 = omega (arith, number, up.number) in (
            v,
            subst (λ b. MatchBool b (Checkpointed w v ⊎ Cut 1 w [] v) (v ≡ w)) (sym up.up) (inl (inl refl)),
            record {
              server = subst (λ x. IsServer disk x new.shown.views.items v) (sym server) (record {
                up = up.up;
                whole = whole;
                open_yet = open_yet;
                registry_is = led;
                number = high;
                on = record {
                  prefix = λ c left. record {
                    means = inl (none_yet (registry w) w.pending c (subst (λ r. MeansRegistry r c) led (record { slot = m.0; number = after.number; base = after.registry; commands = []; means = m.1 c left; is = refl })));
                    numbered = numbered_more (sizes_of w.version) after.number (w.slot + 1) c high (subst (λ (r : State). IsNumberedTo (sizes_of r.version) after.number c) led (means_numbered (watches after.registry.version) c m.0 after.number after.registry [] (m.1 c left)));
                  };
                  faults = faults ∙ up.on.faults;
                  beside = beside_same disk other w v refl refl refl up.on.beside;
                };
                views_are = subst (λ vs. AreViews vs.items v) (sym views) (record { past = up.views_are.past; present = up.views_are.present; all = up.views_are.all; over = up.views_are.over; now = up.views_are.now; shown = up.views_are.shown });
              });
              replies = ap (λ r. r.items) said ∙ s.replies;
              clients = ap (λ r. r.items) clients ∙ s.clients;
            },
            record {
              leaves = leaves_calls disk old new before.disk after.disk other (ap (disks_of_server disk) is_up) (ap (disks_of_server disk) server) w (w.kept ++ w.pending) (stays_meant w reached before.registry before.disk after.disk (w.kept ++ w.pending) up.registry_is (leaves up.whole there));
              done = λ alive rose. subst (λ x. Raises disk (disk_of_server disk x) w (disk_of_server disk new.server)) (sym is_up) (subst (λ x. Raises disk before.disk w (disk_of_server disk x)) (sym server) (record {
                slot = m.0;
                number = before.number;
                before = counted_in w before up.registry_is (counted up.whole (honest there));
                afterwards = λ c left. subst (λ (r : State). Means (watches r.version) c m.0 (before.number + 1) r []) led (subst (λ n. Means (watches after.registry.version) c m.0 n after.registry []) number (m.1 c left));
              }));
              spent = λ alive stayed. absurd (omega (arith, stayed));
            },
          );
    }

    -- the counter is spent: nothing happens
    pub checkpoint_spent : after ≡ before → max_counter ≤ before.number
        → (before.failed ≡ false → disk.honest before.disk → (c : List ℕ) → disk.may_leave before.disk c → IsCounted before c)
        → (before.failed ≡ false → disk.honest after.disk → LeavesOnly disk.moment disk.left_since before.disk after.disk (MeansRegistry before.registry)) → Simulates disk checkpointed (Switches disk) old new
    checkpoint_spent same spent counted leaves = record {
      honest = honest_calls disk old new before.disk after.disk other (ap (disks_of_server disk) is_up) (ap (disks_of_server disk) server) (subst (λ (x : Stored D). disk.honest x.disk → disk.honest before.disk) (sym same) (λ h. h));
      alone = alone_calls disk old new before.disk after.disk other (ap (disks_of_server disk) is_up) (ap (disks_of_server disk) server);
      goes = λ h w reached s.
          let up = up_of old before other w is_up s in (
            w,
            subst (λ b. MatchBool b (Checkpointed w w ⊎ Cut 1 w [] w) (w ≡ w)) (sym up.up) (inl (inr (le-leb max_counter w.slot (omega (arith, spent, up.number)), refl))),
            record {
              server = subst (λ vs. IsServer disk new.server vs.items w) (sym views) (subst (λ x. IsServer disk x old.shown.views.items w) (sym (server ∙ ap (λ x. Up x other) same ∙ sym is_up)) s.server);
              replies = ap (λ r. r.items) said ∙ s.replies;
              clients = ap (λ r. r.items) clients ∙ s.clients;
            },
            record {
              leaves = leaves_calls disk old new before.disk after.disk other (ap (disks_of_server disk) is_up) (ap (disks_of_server disk) server) w (w.kept ++ w.pending)
                  (stays_meant w reached before.registry before.disk after.disk (w.kept ++ w.pending) up.registry_is (leaves up.whole (subst (λ x. AreHonest disk (disks_of_server disk x)) server h).0));
              done = λ alive rose. absurd (omega (arith, rose));
              spent = λ alive stayed c left.
                  let is = counted_in w before up.registry_is (counted up.whole (subst (λ x. AreHonest disk (disks_of_server disk x)) (server ∙ ap (λ x. Up x other) same) h).0) c (subst (λ x. disk.may_leave (disk_of_server disk x) c) is_up left) in
                  (is.0, subst (λ n. max_counter ≤ n) (sym is.1) spent);
            },
          );
    }

  pub too_long : OnlyNow disk → (world : Running D) (commands : List Command) → max_batch < length commands → Simulates disk (batch commands) (Leaves disk) world world
  too_long only world commands long =
      nothing disk only law world (batch commands)
      (λ w reached s. subst (λ b. MatchBool b (BatchDone w commands w ⊎ BatchCut w commands w) (w ≡ w)) (sym (unfit w.up (nat_le (length commands) max_batch) (leb-not (length commands) long))) refl)
    where
      unfit : (a b : Bool) → b ≡ false → (a && b) ≡ false
      unfit true b e = e
      unfit false b e = refl

      leb-not : (n : ℕ) → max_batch < n → nat_le n max_batch ≡ false
      leb-not n low = lt-leb n max_batch low
