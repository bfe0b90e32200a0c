-- Migrating the file in use, and what it makes of the world.
use Rattle.std.proofs.Common.{◌≡◌, ◌⊎◌, ⊎_elim, inl, inr, ℕ, ◌≤◌, Bool, true, false, not, ◌&&◌, List, [], take, refl, sym, ap, subst, ◌∙◌, true≢false, append-nil, MatchBool}
use Rattle.wm_disk.specs.Calls.{EachLeft}
use Rattle.wm_disk.specs.Contents.{Rose}
use Rattle.wm_disk.specs.declared.disk.Disk as disks
use Rattle.wm_checkpoint.specs.Layout.{sizes_1, sizes_2}
use Rattle.wm_checkpoint.specs.Machines.{replayed}
use Rattle.wm_checkpoint.specs.Meanings.{Means, MeansState}
use Rattle.wm_checkpoint.specs.Numbers.{IsNumberedTo}
use Rattle.wm_checkpoint.specs.declared.layout.Slot.TheVariants.{A}
use Rattle.wm_checkpoint.specs.laws.Numbering.{means_numbered, numbered_more}
use Rattle.wm_registry.specs.declared.command.Command.{Command}
use Rattle.wm_registry.specs.declared.version.Version.{Version}
use Rattle.wm_registry.specs.declared.version.Version.TheVariants.{One, Two}
use Rattle.wm_registry.specs.Laws.{AcceptedInVersion2, NumbersInOrder, NumbersRise}
use Rattle.wm_registry.specs.MachineLaws.{watches}
use Rattle.wm_registry.specs.Registry.{after_command}
use Rattle.wm_registry.specs.Roots.{State, in_version_2}
use Rattle.wm_registry.specs.VersionLaws.{same_version_after}
use Rattle.wm_registry.specs.Versions.{sizes_of}
use Rattle.wm_store.specs.Meant.{MeansAfter, MeansRegistry}
use Rattle.wm_store.specs.Migrations.{HaveNoRegistry, HoldsMoved, IsMeantByOldOrNew, IsMigrated, MigratesOnly, MovesNow, MovesOnly, StaysRetired, WasMoved, WritesNeither}
use Rattle.wm_store.specs.Stored.{Stored}
use Rattle.wm_store.specs.laws.Retired.{not_retired}
use Rattle.wm_world.specs.declared.other.Other.{Other}
use Rattle.wm_world.specs.declared.other.Other.TheVariants.{Nothing, New, Old}
use Rattle.wm_world.specs.declared.world.World.{World as Running}
use Rattle.wm_world.specs.declared.world.Server.TheVariants.{Up, Down}
use Rattle.wm_world.specs.Worlds.{Before, Between, After, Stage, World, in_version, registry, replay}
use Rattle.wm_world.specs.Steps.{Finds, IsReached, MigrateEnds, OneFailed, fits_migration, is_to_migrate, migrated}
use Rattle.wm_world.specs.Refinement.{AreHonest, Disks, IsBeside, IsDown, IsRetiredBeside, IsServer, IsUp, KeepsPrefix, Simulates, Refines, disks_of_server, disks_of_world}
use Rattle.wm_world.specs.Passes.{Migrates, MigratesIfFit}
use Rattle.wm_world.proofs.Opening.{Known, OneMeaning, ReadsStand, known}
use Rattle.wm_world.proofs.Others.{LeavesNoMore, prefix_later, prefix_same}
use Rattle.wm_world.proofs.Reached.{settled_reached}
use Rattle.wm_world.proofs.Stores.{CountsNow, none_yet, now}

-- a migration that doesn't fit
unfit_row : (w : World) → fits_migration w ≡ false → migrated w w
unfit_row w e = subst (λ b. MatchBool b (MigrateEnds w w) (w ≡ w)) (sym e) refl

-- one that does
fitting : (w : World) → w.up ≡ false → is_to_migrate w.stage ≡ true → fits_migration w ≡ true
fitting w down begun = λ i. not (down i) && begun i

fit_row : (w v : World) → fits_migration w ≡ true → MigrateEnds w v → migrated w v
fit_row w v fit m = subst (λ b. MatchBool b (MigrateEnds w v) (v ≡ w)) (sym fit) m

both_false : (a b : Bool) → b ≡ false → (a && b) ≡ false
both_false true b e = e
both_false false b e = refl

to_migrate : (stage : Stage) → (stage ≡ Before) ⊎ (stage ≡ Between) → is_to_migrate stage ≡ true
to_migrate stage is = ⊎_elim (λ e. ap is_to_migrate e) (λ e. ap is_to_migrate e) is

module _ {D : Type 0} (disk : disks.Ghosts D) where
  -- the server and the disks stay, where the migration doesn't fit
  pub migrate_unfit : (old new : Running D) → new.server ≡ old.server → new.shown ≡ old.shown → ((w : World) → Refines disk old w → fits_migration w ≡ false) → Simulates disk migrated (MigratesIfFit disk) old new
  migrate_unfit old new same shown unfit = record {
    honest = λ h. subst (λ x. AreHonest disk (disks_of_server disk x)) same h;
    alone = λ e. ap (λ x. (disks_of_server disk x).other) same ∙ e;
    goes = λ h w reached s. (
      w,
      unfit_row w (unfit w s),
      record {
        server = subst (λ x. IsServer disk x new.shown.views.items w) (sym same) (subst (λ x. IsServer disk old.server x.views.items w) (sym shown) s.server);
        replies = ap (λ x. x.replies.items) shown ∙ s.replies;
        clients = ap (λ x. x.clients.items) shown ∙ s.clients;
      },
      subst (λ b. MatchBool b (Migrates disk (disks_of_world disk old) w (disks_of_world disk new) w) (disks_of_world disk new ≡ disks_of_world disk old)) (sym (unfit w s)) (ap (disks_of_server disk) same),
    );
  }

  pub migrate_up : (old new : Running D) (store : Stored D) (other : Other D) → old.server ≡ Up store other → new.server ≡ Up store other → new.shown ≡ old.shown → Simulates disk migrated (MigratesIfFit disk) old new
  migrate_up old new store other was is shown = migrate_unfit old new (is ∙ sym was) shown
      (λ w s. let here : IsUp disk store other old.shown.views.items w = subst (λ x. IsServer disk x old.shown.views.items w) was s.server in ap (λ b. not b && is_to_migrate w.stage) here.up)

  -- there is no new disk
  pub migrate_beside : (old new : Running D) (d : D) (other : Other D) → old.server ≡ Down d other → new.server ≡ Down d other → new.shown ≡ old.shown → ((w : World) → IsBeside disk other w → is_to_migrate w.stage ≡ false) → Simulates disk migrated (MigratesIfFit disk) old new
  migrate_beside old new d other was is shown isnt = migrate_unfit old new (is ∙ sym was) shown
      (λ w s. let here : IsDown disk d other old.shown.views.items w = subst (λ x. IsServer disk x old.shown.views.items w) was s.server in both_false (not w.up) (is_to_migrate w.stage) (isnt w here.on.beside))

  abbrev is_new : Other D → Bool
  is_new Nothing = false
  is_new (New d) = true
  is_new (Old d) = false

  module _ (law : AcceptedInVersion2) (old_world new_world : Running D) (old new : D) (was : old_world.server ≡ Down old (New new)) (one : OneMeaning) (rising : NumbersRise) (ordered : NumbersInOrder) (stand : ReadsStand disk) (counts : CountsNow disk)
      (old_after new_after : D) (shown : new_world.shown ≡ old_world.shown) (honest : (disk.honest old_after → disk.honest old) × (disk.honest new_after → disk.honest new)) where
    abbrev disks_were : Disks D
    disks_were = record { used = old; other = New new }

    were : disks_of_world disk old_world ≡ disks_were
    were = ap (disks_of_server disk) was

    none_before : (disks_of_world disk old_world).other ≡ Nothing → ⊥
    none_before e = true≢false (ap is_new (sym (ap (λ (d : Disks D). d.other) were) ∙ e))

    down_of : (w : World) → Refines disk old_world w → IsDown disk old (New new) old_world.shown.views.items w
    down_of w s = subst (λ x. IsServer disk x old_world.shown.views.items w) was s.server

    -- what the old file's content means
    known_of : (w : World) → IsReached w → Refines disk old_world w → disk.honest old_after → (found : State) → MeansRegistry found (disk.seen old) → Known disk law old_world new_world old (New new) was one rising ordered stand w
    known_of w reached s h found m = known disk law old_world new_world old (New new) was one rising ordered stand w reached s (honest.0 h) found m

    seen_means : (w : World) → Refines disk old_world w → disk.honest old_after → MeansAfter (registry w) w.pending (disk.seen old) ⊎ IsRetiredBeside disk (New new) w (disk.seen old)
    seen_means w s h = ((down_of w s).on.prefix (disk.seen old) (stand old (honest.0 h))).means

    abbrev Migrated : World → Type 0
    Migrated w = (v : World) × migrated w v × Refines disk new_world v × MigratesIfFit disk (disks_of_world disk old_world) w (disks_of_world disk new_world) v

    -- the world that stands at the end, with the server down
    stands_down : (d : D) (other : Other D) → new_world.server ≡ Down d other → (w v : World) → v.up ≡ false → v.replies ≡ w.replies → v.clients ≡ w.clients → disk.failures d ≡ v.faults → IsBeside disk other v → EachLeft disk d (KeepsPrefix disk other v) → Refines disk old_world w → Refines disk new_world v
    stands_down d other server w v down replies cs faults beside prefix s = record {
      server = subst (λ x. IsServer disk x new_world.shown.views.items v) (sym server) (record { down = down; none = ap (λ r. r.views.items) shown ∙ (down_of w s).none; on = record { prefix = prefix; faults = faults; beside = beside } });
      replies = ap (λ r. r.replies.items) shown ∙ s.replies ∙ sym replies;
      clients = ap (λ r. r.clients.items) shown ∙ s.clients ∙ sym cs;
    }

    fit : (w : World) → Refines disk old_world w → fits_migration w ≡ true
    fit w s = fitting w (down_of w s).down (to_migrate w.stage (down_of w s).on.beside.0)

    fits : (w v : World) → Refines disk old_world w → MigrateEnds w v → migrated w v
    fits w v s m = fit_row w v (fit w s) m

    passes : (w v : World) (e : Disks D) → Refines disk old_world w → disks_of_world disk new_world ≡ e → Migrates disk disks_were w e v → MigratesIfFit disk (disks_of_world disk old_world) w (disks_of_world disk new_world) v
    passes w v e s is m = subst (λ b. MatchBool b (Migrates disk (disks_of_world disk old_world) w (disks_of_world disk new_world) v) (disks_of_world disk new_world ≡ disks_of_world disk old_world)) (sym (fit w s))
        (subst (λ x. Migrates disk x w (disks_of_world disk new_world) v) (sym were) (subst (λ x. Migrates disk disks_were w x v) (sym is) m))

    -- ---- done

    module _ (server : new_world.server ≡ Down new_after (Old old_after)) (same : (disk.failures old_after ≡ disk.failures old) × (disk.failures new_after ≡ disk.failures new)) where
      abbrev disks_done : Disks D
      disks_done = record { used = new_after; other = Old old_after }

      goes_on : (w : World) → IsReached w → Refines disk old_world w → (found : List Command) → Finds w found → EachLeft disk new_after (λ c. Means (watches Two) c A 1 (in_version Two (replay found)) []) → StaysRetired disk old_after
          → WritesNeither disk old new old_after new_after ⊎ ((m : MovesOnly disk old old_after new_after) × (m.registry ≡ in_version w.version (replay found))) → Migrated w
      goes_on w reached s found finds holds retired leaves =
          let down = down_of w s in
          let v : World = record w { version = Two; stage = After; kept = found; pending = []; faults = w.other_faults; other_faults = w.faults } in (
            v,
            fits w v s (inl (found, finds, refl)),
            stands_down new_after (Old old_after) server w v down.down refl refl (same.1 ∙ down.on.beside.2) (refl, refl, same.0 ∙ down.on.faults, retired)
                (λ c left. record {
                  means = inl (none_yet (registry v) [] c (record { slot = A; number = 1; base = registry v; commands = []; means = holds c left; is = refl }));
                  numbered = numbered_more sizes_2 1 w.slot c (settled_reached w reached).first (means_numbered (watches Two) c A 1 (registry v) [] (holds c left));
                }) s,
            passes w v disks_done s (ap (disks_of_server disk) server) (record { new_before = new; beside = refl; old = old_after; new = new_after; disks = inl refl; leaves = leaves }),
          )

      by_moving : (w : World) → IsReached w → Refines disk old_world w → disk.honest old_after → MovesNow disk old old_after new_after → Migrated w
      by_moving w reached s h m =
          let k = known_of w reached s h m.moves.registry m.moves.meant in
          let at : m.moves.registry ≡ in_version w.version (replay k.found) = one (disk.seen old) m.moves.registry (in_version w.version (replay k.found)) m.moves.meant k.means in
          goes_on w reached s k.found k.finds (λ c left. subst (λ r. Means (watches Two) c A 1 (in_version_2 r) []) at (m.holds c left)) m.retired (inr (m.moves, at))

      by_finding : (w : World) → IsReached w → Refines disk old_world w → disk.honest old_after → disk.honest new_after → WasMoved disk old new old_after new_after → MeansAfter (registry w) w.pending (disk.seen old) ⊎ IsRetiredBeside disk (New new) w (disk.seen old) → Migrated w
      by_finding w reached s h k m (inl a) = absurd (not_retired _ (disk.seen old) a.means (One, m.was))
      by_finding w reached s h k m (inr moved) = goes_on w reached s w.kept ([], (w.pending, refl), sym (append-nil w.kept)) (λ c left. moved.holds c (now disk counts new new_after (disk.may_leave new) k m.writes.new_left c left)) m.retired (inl m.writes)

      pub migrate_done : (disk.honest old_after → disk.honest new_after → IsMigrated disk old new old_after new_after) → Simulates disk migrated (MigratesIfFit disk) old_world new_world
      migrate_done is_migrated = record {
        honest = λ h. subst (AreHonest disk) (sym were) (was_honest (subst (λ x. AreHonest disk (disks_of_server disk x)) server h));
        alone = λ e. absurd (none_before e);
        goes = λ h w reached s.
            let k : AreHonest disk disks_done = subst (λ x. AreHonest disk (disks_of_server disk x)) server h in
            ⊎_elim (λ m. by_moving w reached s k.1 m) (λ m. by_finding w reached s k.1 k.0 m (seen_means w s k.1)) (is_migrated k.1 k.0);
      }
        where
          was_honest : AreHonest disk disks_done → AreHonest disk disks_were
          was_honest h = (honest.0 h.1, honest.1 h.0)

    -- ---- cut

    module _ (server : new_world.server ≡ Down old_after (New new_after)) (grow : (disk.failures old ≤ disk.failures old_after) × (disk.failures new ≤ disk.failures new_after))
        (rose : Rose (disk.failures old) (disk.failures old_after) ⊎ Rose (disk.failures new) (disk.failures new_after)) where
      abbrev disks_cut : Disks D
      disks_cut = record { used = old_after; other = New new_after }

      one_failed : (w v : World) → v.faults ≡ disk.failures old_after → v.other_faults ≡ disk.failures new_after → Refines disk old_world w → OneFailed w v
      one_failed w v faults other_faults s =
          let on = (down_of w s).on in
          let count = on.beside.2 in (
            ⊎_elim (λ r. inl (subst (λ n. Rose n v.faults) on.faults (subst (λ n. Rose (disk.failures old) n) (sym faults) r))) (λ r. inr (subst (λ n. Rose n v.other_faults) count (subst (λ n. Rose (disk.failures new) n) (sym other_faults) r))) rose,
            subst (λ n. n ≤ v.faults) on.faults (subst (λ n. disk.failures old ≤ n) (sym faults) grow.0),
            subst (λ n. n ≤ v.other_faults) count (subst (λ n. disk.failures new ≤ n) (sym other_faults) grow.1),
          )

      cut_early : (w : World) → Refines disk old_world w → disk.honest old_after → disk.honest new_after → WritesNeither disk old new old_after new_after → Migrated w
      cut_early w s h k m =
          let down = down_of w s in
          let v : World = record w { faults = disk.failures old_after; other_faults = disk.failures new_after } in
          let less : LeavesNoMore disk (New new) (New new_after) = λ c left. now disk counts new new_after (disk.may_leave new) k m.new_left c left in (
            v,
            fits w v s (inr (inl (one_failed w v refl refl s, refl))),
            stands_down old_after (New new_after) server w v down.down refl refl refl (down.on.beside.0, down.on.beside.1, refl)
                (λ c left. prefix_same disk (New new_after) w v c (record { kept = refl; pending = refl; slot = refl; version = refl; stage = refl; down = λ e. e })
                (prefix_later disk (New new) (New new_after) w c less (down.on.prefix c (now disk counts old old_after (disk.may_leave old) h m.old_left c left)))) s,
            passes w v disks_cut s (ap (disks_of_server disk) server) (record { new_before = new; beside = refl; old = old_after; new = new_after; disks = inr refl; leaves = inl m }),
          )

      cut_late : (w : World) → IsReached w → Refines disk old_world w → disk.honest old_after → ((n : ℕ) → EachLeft disk old (IsNumberedTo sizes_1 n) → EachLeft disk old_after (IsNumberedTo sizes_1 n)) → MovesOnly disk old old_after new_after → Migrated w
      cut_late w reached s h numbered m =
          let down = down_of w s in
          let k = known_of w reached s h m.registry m.meant in
          let at : m.registry ≡ in_version w.version (replay k.found) = one (disk.seen old) m.registry (in_version w.version (replay k.found)) m.meant k.means in
          let v : World = record w { stage = Between; kept = k.found; pending = []; faults = disk.failures old_after; other_faults = disk.failures new_after } in
          let sized : EachLeft disk old (IsNumberedTo sizes_1 w.slot) = λ c left. subst (λ (u : Version). IsNumberedTo (sizes_of u) w.slot c) down.on.beside.1 (down.on.prefix c left).numbered in (
            v,
            fits w v s (inr (inr (one_failed w v refl refl s, (k.found, k.finds, refl)))),
            stands_down old_after (New new_after) server w v down.down refl refl refl (inr refl, down.on.beside.1, refl)
                (λ c left. record {
                  means = ⊎_elim (λ r. inl (none_yet (registry v) [] c (subst (λ x. MeansRegistry x c) at r)))
                      (λ r. inr (record { stage = refl; down = down.down; none = refl; retired = r.0; holds = subst (λ x. HoldsMoved disk new_after x) at r.1 }))
                      (now disk counts m.read old_after (IsMeantByOldOrNew disk new_after m.registry) h m.from c left);
                  numbered = subst (λ (u : Version). IsNumberedTo (sizes_of u) w.slot c) (sym down.on.beside.1) (numbered w.slot sized c left);
                }) s,
            passes w v disks_cut s (ap (disks_of_server disk) server) (record { new_before = new; beside = refl; old = old_after; new = new_after; disks = inr refl; leaves = inr (m, at) }),
          )

      pub migrate_cut : (disk.honest old_after → disk.honest new_after → MigratesOnly disk old new old_after new_after)
          → (disk.honest old_after → (n : ℕ) → EachLeft disk old (IsNumberedTo sizes_1 n) → EachLeft disk old_after (IsNumberedTo sizes_1 n)) → Simulates disk migrated (MigratesIfFit disk) old_world new_world
      migrate_cut any_moment numbered = record {
        honest = λ h. subst (AreHonest disk) (sym were) (was_honest (subst (λ x. AreHonest disk (disks_of_server disk x)) server h));
        alone = λ e. absurd (none_before e);
        goes = λ h w reached s.
            let k : AreHonest disk disks_cut = subst (λ x. AreHonest disk (disks_of_server disk x)) server h in
            ⊎_elim (λ m. cut_early w s k.0 k.1 m) (λ m. cut_late w reached s k.0 (numbered k.0) m) (any_moment k.0 k.1);
      }
        where
          was_honest : AreHonest disk disks_cut → AreHonest disk disks_were
          was_honest h = (honest.0 h.0, honest.1 h.1)

    -- ---- refused: never, since the old file means a registry, or the new one does

    module _ (server : new_world.server ≡ Down old_after (New new_after)) where
      was_there : (w : World) → Refines disk old_world w → (h : disk.honest old_after) (k : disk.honest new_after) → HaveNoRegistry (disk.seen old) (disk.seen new) → MeansAfter (registry w) w.pending (disk.seen old) ⊎ IsRetiredBeside disk (New new) w (disk.seen old) → ⊥
      was_there w s h k (inl damaged) (inl a) =
          let found : State = replayed after_command (registry w) (take a.count w.pending) in
          let version : found.version ≡ One = same_version_after (registry w) (take a.count w.pending) ∙ (down_of w s).on.beside.1 in
          damaged.0 found (subst (λ (u : Version). MeansState (watches u) found (disk.seen old)) version a.means)
      was_there w s h k (inl damaged) (inr moved) = damaged.1 moved.retired
      was_there w s h k (inr (retired, none)) (inl a) = not_retired _ (disk.seen old) a.means (One, retired)
      was_there w s h k (inr (retired, none)) (inr moved) =
          let r : State = in_version Two (replay w.kept) in
          none r refl (record { slot = A; number = 1; base = r; commands = []; means = moved.holds (disk.seen new) (stand new (honest.1 k)); is = refl })

      pub migrate_refused : (disk.honest old_after → disk.honest new_after → HaveNoRegistry (disk.seen old) (disk.seen new)) → Simulates disk migrated (MigratesIfFit disk) old_world new_world
      migrate_refused none = record {
        honest = λ h. subst (AreHonest disk) (sym were) (was_honest (subst (λ x. AreHonest disk (disks_of_server disk x)) server h));
        alone = λ e. absurd (none_before e);
        goes = λ h w reached s.
            let k : AreHonest disk (record { used = old_after; other = New new_after }) = subst (λ x. AreHonest disk (disks_of_server disk x)) server h in
            absurd (was_there w s k.0 k.1 (none k.0 k.1) (seen_means w s k.0));
      }
        where
          was_honest : AreHonest disk (record { used = old_after; other = New new_after }) → AreHonest disk disks_were
          was_honest h = (honest.0 h.0, honest.1 h.1)
