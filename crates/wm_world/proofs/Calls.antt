-- Calls that leave the store as it is.
use Rattle.std.proofs.Common.{◌≡◌, ℕ, zero, suc, arith, ◌<◌, ◌≤◌, Bool, true, false, cond, List, [], ◌∷◌, ◌++◌, length, get_or, set, Option, Some, None, option_map, is_some, refl, sym, ap, subst, ◌∙◌, true≢false, nat_le, ◌&&◌, ◌⊎◌, MatchBool}
use Rattle.std.specs.List.{AllByRecursion}
use Rattle.std.specs.Option.{option_map_or}
use Rattle.wm_disk.specs.declared.disk.Disk as disks
use Rattle.wm_names.specs.Paths.{Path}
use Rattle.wm_disk.specs.Moments.{LeavesOnly}
use Rattle.wm_expr.specs.declared.expr.Expr.{Expr}
use Rattle.wm_expr.specs.Meanings.{is_path_only}
use Rattle.wm_expr.specs.Views.{term}
use Rattle.wm_registry.specs.declared.command.Command.{Command}
use Rattle.wm_registry.specs.declared.root.Root.{Root}
use Rattle.wm_registry.specs.Roots.{State, root_at}
use Rattle.wm_store.specs.Stored.{Stored}
use Rattle.wm_view.specs.declared.op.Op.{Op}
use Rattle.wm_view.specs.Histories.{History, after_operation}
use Rattle.wm_view.specs.Steps.{step}
use Rattle.wm_view.specs.Summaries.{Summary}
use Rattle.wm_world.specs.declared.connection.Connection.{Connection}
use Rattle.wm_world.specs.declared.world.World.{World as Running}
use Rattle.wm_world.specs.declared.other.Other.{Other}
use Rattle.wm_world.specs.declared.other.Other.TheVariants.{Nothing}
use Rattle.wm_world.specs.declared.world.Server.{Server}
use Rattle.wm_world.specs.declared.world.Server.TheVariants.{Up, Down}
use Rattle.wm_world.specs.Worlds.{World, at_first, connected, is_of, registry, without_answer}
use Rattle.wm_world.specs.Steps.{BatchCut, BatchDone, Checkpointed, Cut, IsReached, OpenEnds, asking, batch, changed_at, checkpointed, down, opened, operated, receiving, with_client}
use Rattle.wm_world.specs.Refinement.{AreHonest, AreViews, Disks, IsDown, IsOn, IsServer, IsUp, Simulates, Refines, asking_by, disk_of_world, disk_of_server, disks_of_server, disks_of_world, is_root, number_at}
use Rattle.wm_world.specs.Passes.{Leaves, LeftBetween, Opens, Switches}
use Rattle.wm_disk.specs.laws.Runs.{OnlyNow}
use Rattle.wm_world.proofs.Between.{stays_put}
use Rattle.wm_world.proofs.Clients.{Good, good_reached}
use Rattle.wm_world.proofs.Others.{SameKept, beside_same, prefix_same, same_registry}
use Rattle.wm_world.proofs.Reached.{settled_reached}
use Rattle.wm_registry.specs.Laws.{AcceptedInVersion2}
use Rattle.wm_since.specs.Laws.{AnswersApply, AnswersBySummary}
use Rattle.wm_world.proofs.Refining.{StepsAgree, asking_same, changed_none, changed_set, views_operated}
use Rattle.wm_store.specs.Meant.{MeansAfter, MeansRegistry}

cond_same : {A : Type 0} (b : Bool) (x : A) → x ≡ cond b x x
cond_same true x = refl
cond_same false x = refl

-- an item that is there doesn't depend on the default
get_same : {A : Type 0} (xs : List A) (n : ℕ) (d e : A) → n < length xs → get_or xs n d ≡ get_or xs n e
get_same [] n d e low = absurd (omega (arith, low))
get_same (x ∷ xs) zero d e low = refl
get_same (x ∷ xs) (suc n) d e low = get_same xs n d e (omega (arith, low))

all_at : {A : Type 0} (P : A → Type 0) (xs : List A) (n : ℕ) (x : A) → AllByRecursion P xs → n < length xs → x ≡ get_or xs n x → P x
all_at {A = A} P xs n x all low is = subst P (sym is) (there xs n all low)
  where
    there : (ys : List A) (m : ℕ) → AllByRecursion P ys → m < length ys → P (get_or ys m x)
    there [] m a l = absurd (omega (arith, l))
    there (y ∷ ys) zero a l = a.0
    there (y ∷ ys) (suc m) a l = there ys m a.1 (omega (arith, l))

-- a state with nothing in flight
pub whole : (state : State) (c : List ℕ) → MeansRegistry state c → MeansAfter state [] c
whole state c m = record { count = 0; within = omega arith; means = m }

-- the row's world differs in nothing that the disk and the store know of
pub record Alike (w v : World) : Type 0 where
  pub kept : v.kept ≡ w.kept
  pub pending : v.pending ≡ w.pending
  pub slot : v.slot ≡ w.slot
  pub up : v.up ≡ w.up
  pub faults : v.faults ≡ w.faults
  pub version : v.version ≡ w.version
  pub stage : v.stage ≡ w.stage
  pub other_faults : v.other_faults ≡ w.other_faults

alike_kept : (w v : World) → Alike w v → SameKept w v
alike_kept w v a = record { kept = a.kept; pending = a.pending; slot = a.slot; version = a.version; stage = a.stage; down = λ e. a.up ∙ e }

module _ {D : Type 0} (disk : disks.Ghosts D) where
  on_alike : (d : Disks D) (w v : World) → Alike w v → IsOn disk d w → IsOn disk d v
  on_alike d w v a on = record {
    prefix = λ c left. prefix_same disk d.other w v c (alike_kept w v a) (on.prefix c left);
    faults = on.faults ∙ sym a.faults;
    beside = beside_same disk d.other w v a.stage a.version a.other_faults on.beside;
  }

  pub server_alike : (s : Server D) (views views2 : List Summary) (w v : World) → Alike w v → ((w.up ≡ true) → AreViews views w → AreViews views2 v) → (views ≡ [] → views2 ≡ []) → IsServer disk s views w → IsServer disk s views2 v
  server_alike (Up store other) views views2 w v a goes none up = record {
    up = a.up ∙ up.up;
    whole = up.whole;
    open_yet = up.open_yet;
    registry_is = up.registry_is ∙ sym (same_registry w v (alike_kept w v a));
    number = subst (λ n. store.number ≤ n) (sym a.slot) up.number;
    on = on_alike (record { used = store.disk; other = other }) w v a up.on;
    views_are = goes up.up up.views_are;
  }
  server_alike (Down d other) views views2 w v a goes none down = record { down = a.up ∙ down.down; none = none down.none; on = on_alike (record { used = d; other = other }) w v a down.on }

  pub on_of : (s : Server D) (views : List Summary) (w : World) → IsServer disk s views w → IsOn disk (disks_of_server disk s) w
  on_of (Up store other) views w up = up.on
  on_of (Down d other) views w down = down.on

module _ {D : Type 0} (disk : disks.Ghosts D) (only : OnlyNow disk) (law : AcceptedInVersion2) where
  -- the server stays, and the disks aren't called
  pub same_disks : (old new : Running D) → new.server ≡ old.server → AreHonest disk (disks_of_world disk new) → (w : World) → IsReached w → (afterwards : List Command) → Refines disk old w
      → LeavesOnly disk.moment disk.left_since (disk_of_world disk old) (disk_of_world disk new) (LeftBetween disk (disks_of_world disk old).other w afterwards) × ((disks_of_world disk new).other ≡ (disks_of_world disk old).other)
  same_disks old new server h w reached afterwards s = (
    subst (λ x. LeavesOnly disk.moment disk.left_since (disk_of_world disk old) (disk_of_server disk x) (LeftBetween disk (disks_of_world disk old).other w afterwards)) (sym server)
        (stays_put law disk only (disks_of_world disk old) (subst (λ x. disk.honest (disk_of_server disk x)) server h.0) w reached afterwards (on_of disk old.server old.shown.views.items w s.server)),
    ap (λ x. (disks_of_server disk x).other) server,
  )

  -- the disks are what they were
  honest_same : (old new : Running D) → new.server ≡ old.server → AreHonest disk (disks_of_world disk new) → AreHonest disk (disks_of_world disk old)
  honest_same old new server h = subst (λ x. AreHonest disk (disks_of_server disk x)) server h

  alone_same : (old new : Running D) → new.server ≡ old.server → (disks_of_world disk old).other ≡ Nothing → (disks_of_world disk new).other ≡ Nothing
  alone_same old new server e = ap (λ x. (disks_of_server disk x).other) server ∙ e

  -- ---- nothing happens

  pub nothing : (world : Running D) (row : World → World → Type 0) → ((w : World) → IsReached w → Refines disk world w → row w w) → Simulates disk row (Leaves disk) world world
  nothing world row stays = record { honest = λ h. h; alone = λ e. e; goes = λ h w reached s. (w, stays w reached s, s, same_disks world world refl h w reached (w.kept ++ w.pending) s) }

  -- an event that doesn't fit
  module _ (old new : Running D) (same : new.server ≡ old.server) (shown : new.shown ≡ old.shown) where
    still : (w : World) → Refines disk old w → Refines disk new w
    still w s = record {
      server = subst (λ x. IsServer disk x new.shown.views.items w) (sym same) (subst (λ x. IsServer disk old.server x.views.items w) (sym shown) s.server);
      replies = ap (λ x. x.replies.items) shown ∙ s.replies;
      clients = ap (λ x. x.clients.items) shown ∙ s.clients;
    }

    pub unfit : (row : World → World → Type 0) → ((w : World) → Refines disk old w → row w w) → Simulates disk row (Leaves disk) old new
    unfit row stays = record {
      honest = honest_same old new same;
      alone = alone_same old new same;
      goes = λ h w reached s. (w, stays w s, still w s, same_disks old new same h w reached (w.kept ++ w.pending) s);
    }

  module _ (old new : Running D) (d : D) (other : Other D) (was : old.server ≡ Down d other) (is : new.server ≡ Down d other) (shown : new.shown ≡ old.shown) where
    down_at : (w : World) → Refines disk old w → w.up ≡ false
    down_at w s = let here : IsDown disk d other old.shown.views.items w = subst (λ x. IsServer disk x old.shown.views.items w) was s.server in here.down

    pub commands_down : (commands : List Command) → Simulates disk (batch commands) (Leaves disk) old new
    commands_down commands = unfit old new (is ∙ sym was) shown (batch commands)
        (λ w s. subst (λ b. MatchBool (b && nat_le (length commands) 64) (BatchDone w commands w ⊎ BatchCut w commands w) (w ≡ w)) (sym (down_at w s)) refl)

    pub checkpoint_down : Simulates disk checkpointed (Switches disk) old new
    checkpoint_down = record {
      honest = honest_same old new (is ∙ sym was);
      alone = alone_same old new (is ∙ sym was);
      goes = λ h w reached s.
          let down : w.up ≡ false = down_at w s in (
            w,
            subst (λ b. MatchBool b (Checkpointed w w ⊎ Cut 1 w [] w) (w ≡ w)) (sym down) refl,
            still old new (is ∙ sym was) shown w s,
            record {
              leaves = same_disks old new (is ∙ sym was) h w reached (w.kept ++ w.pending) s;
              done = λ up rose. absurd (true≢false (sym up ∙ down));
              spent = λ up stayed. absurd (true≢false (sym up ∙ down));
            },
          );
    }

  pub open_up : (old new : Running D) (store : Stored D) (other : Other D) → old.server ≡ Up store other → new.server ≡ Up store other → new.shown ≡ old.shown → Simulates disk opened (Opens disk) old new
  open_up old new store other was is shown = record {
    honest = honest_same old new (is ∙ sym was);
    alone = alone_same old new (is ∙ sym was);
    goes = λ h w reached s.
        let here : IsUp disk store other old.shown.views.items w = subst (λ x. IsServer disk x old.shown.views.items w) was s.server in (
          w,
          subst (λ b. MatchBool b (w ≡ w) (OpenEnds w w)) (sym here.up) refl,
          still old new (is ∙ sym was) shown w s,
          record { leaves = same_disks old new (is ∙ sym was) h w reached (w.kept ++ w.pending) s; retired = λ down. absurd (true≢false (sym here.up ∙ down)) },
        );
  }

  is_down : (world : Running D) (w : World) → ((store : Stored D) (other : Other D) → world.server ≡ Up store other → ⊥) → Refines disk world w → w.up ≡ false
  is_down world w not_up s = by world.server refl s.server
    where
      by : (server : Server D) → world.server ≡ server → IsServer disk server world.shown.views.items w → w.up ≡ false
      by (Up store other) e up = absurd (not_up store other e)
      by (Down d other) e down = down.down

  pub while_down : (world : Running D) (f : World → World) → ((store : Stored D) (other : Other D) → world.server ≡ Up store other → ⊥) → Simulates disk (λ w v. v ≡ cond w.up (f w) w) (Leaves disk) world world
  while_down world f not_up = nothing world (λ w v. v ≡ cond w.up (f w) w) (λ w reached s. sym (ap (λ b. cond b (f w) w) (is_down world w not_up s)))

  -- ---- views

  pub operate_none : (world : Running D) (path : Path) (op : Op) → number_at world.server path ≡ None → Simulates disk (λ w v. v ≡ cond w.up (operated path op w) w) (Leaves disk) world world
  operate_none world path op none = nothing world (λ w v. v ≡ cond w.up (operated path op w) w) (λ w reached s. by w world.server none s.server)
    where
      by : (w : World) (server : Server D) → number_at server path ≡ None → IsServer disk server world.shown.views.items w → w ≡ cond w.up (operated path op w) w
      by w (Up store other) e up =
          let gone : w ≡ operated path op w = at (root_at path (registry w)) (ap (λ s. option_map (λ (r : Root). r.number) (root_at path s)) (sym up.registry_is) ∙ e) in
          cond_same w.up w ∙ ap (λ x. cond w.up x w) gone
        where
          at : (o : Option Root) → option_map (λ (r : Root). r.number) o ≡ None → w ≡ option_map_or (λ root. record w { histories = at_first (is_of (registry w).incarnation root.number) (λ h. after_operation h op) w.histories }) o w
          at None q = refl
          at (Some root) q = absurd (true≢false (ap is_some q))
      by w (Down d other) e down = sym (ap (λ b. cond b (operated path op w) w) down.down)

  pub operate_some : StepsAgree → (old new : Running D) (path : Path) (op : Op) (n : ℕ) → number_at old.server path ≡ Some n → new.server ≡ old.server → new.shown.replies ≡ old.shown.replies → new.shown.clients ≡ old.shown.clients
      → new.shown.views.items ≡ at_first (is_root n) (λ s. step s op) old.shown.views.items → Simulates disk (λ w v. v ≡ cond w.up (operated path op w) w) (Leaves disk) old new
  operate_some agrees old new path op n some server replies clients views = record {
    honest = honest_same old new server;
    alone = alone_same old new server;
    goes = λ h w reached s.
        let v : World = record w { histories = at_first (is_of (registry w).incarnation n) (λ x. after_operation x op) w.histories } in (
          v,
          by w old.server some s.server,
          record {
            server = subst (λ x. IsServer disk x new.shown.views.items v) (sym server) (subst (λ ss. IsServer disk old.server ss v) (sym views)
                (server_alike disk old.server old.shown.views.items (at_first (is_root n) (λ s. step s op) old.shown.views.items) w v (record { kept = refl; pending = refl; slot = refl; up = refl; faults = refl; version = refl; stage = refl; other_faults = refl })
                (λ up are. views_operated agrees old.shown.views.items w n op (settled_reached w reached).made are) (λ e. ap (at_first (is_root n) (λ s. step s op)) e) s.server));
            replies = ap (λ r. r.items) replies ∙ s.replies;
            clients = ap (λ r. r.items) clients ∙ s.clients;
          },
          same_disks old new server h w reached (v.kept ++ v.pending) s,
        );
  }
    where
      by : (w : World) (server : Server D) → number_at server path ≡ Some n → IsServer disk server old.shown.views.items w
          → record w { histories = at_first (is_of (registry w).incarnation n) (λ x. after_operation x op) w.histories } ≡ cond w.up (operated path op w) w
      by w (Up store other) e up =
          at (root_at path (registry w)) (ap (λ s. option_map (λ (r : Root). r.number) (root_at path s)) (sym up.registry_is) ∙ e) ∙ sym (ap (λ b. cond b (operated path op w) w) up.up)
        where
          at : (o : Option Root) → option_map (λ (r : Root). r.number) o ≡ Some n
              → record w { histories = at_first (is_of (registry w).incarnation n) (λ x. after_operation x op) w.histories } ≡ option_map_or (λ root. record w { histories = at_first (is_of (registry w).incarnation root.number) (λ h. after_operation h op) w.histories }) o w
          at None q = absurd (true≢false (ap is_some (sym q)))
          at (Some root) q = ap (λ m. record w { histories = at_first (is_of (registry w).incarnation m) (λ x. after_operation x op) w.histories }) (sym (ap (λ o. option_map_or (λ m. m) o n) q))
      by w (Down d other) e down = absurd (true≢false (ap is_some (sym e)))

  -- ---- clients

  pub only_clients : (old new : Running D) (row : World → World → Type 0) (cs : World → List Connection) → new.server ≡ old.server → new.shown.replies ≡ old.shown.replies → new.shown.views ≡ old.shown.views
      → ((w : World) → IsReached w → Refines disk old w → new.shown.clients.items ≡ cs w) → ((w : World) → IsReached w → Refines disk old w → row w (record w { clients = cs w })) → Simulates disk row (Leaves disk) old new
  only_clients old new row cs server replies views clients rows = record {
    honest = honest_same old new server;
    alone = alone_same old new server;
    goes = λ h w reached s.
        let v : World = record w { clients = cs w } in (
          v,
          rows w reached s,
          record {
            server = subst (λ x. IsServer disk x new.shown.views.items v) (sym server) (subst (λ vs. IsServer disk old.server vs.items v) (sym views)
                (server_alike disk old.server old.shown.views.items old.shown.views.items w v (record { kept = refl; pending = refl; slot = refl; up = refl; faults = refl; version = refl; stage = refl; other_faults = refl })
                (λ up are. record { past = are.past; present = are.present; all = are.all; over = are.over; now = are.now; shown = are.shown }) (λ e. e) s.server));
            replies = ap (λ r. r.items) replies ∙ s.replies;
            clients = clients w reached s;
          },
          same_disks old new server h w reached (v.kept ++ v.pending) s,
        );
  }

  module _ (old new : Running D) (n : ℕ) (x : Connection) (server : new.server ≡ old.server) (replies : new.shown.replies ≡ old.shown.replies) (views : new.shown.views ≡ old.shown.views)
      (low : n < length old.shown.clients.items) (at : new.shown.clients.items ≡ set old.shown.clients.items n x) where
    -- the client with the number became what f makes of it
    pub one_client : (f : World → Connection → Connection) → ((w : World) → IsReached w → Refines disk old w → x ≡ f w (get_or old.shown.clients.items n x)) → (row : World → World → Type 0)
        → ((w : World) → IsReached w → Refines disk old w → row w (with_client (f w) n w)) → Simulates disk row (Leaves disk) old new
    one_client f is row rows = only_clients old new row (λ w. changed_at (f w) n w.clients) server replies views
        (λ w reached s.
        at ∙ ap (λ y. set old.shown.clients.items n y) (is w reached s) ∙ sym (changed_set (f w) n old.shown.clients.items x low) ∙ ap (λ cs. changed_at (f w) n cs) s.clients)
        rows

  -- no client has the number
  pub too_many : (world : Running D) (n : ℕ) (f : World → Connection → Connection) (w : World) → length world.shown.clients.items ≤ n → Refines disk world w → w ≡ with_client (f w) n w
  too_many world n f w high s = ap (λ cs. record w { clients = cs }) (sym (changed_none (f w) n w.clients (subst (λ cs. length cs ≤ n) s.clients high)))

  pub ask_none : (world : Running D) (n : ℕ) → length world.shown.clients.items ≤ n → Simulates disk (λ w v. v ≡ cond w.up (with_client (asking w) n w) w) (Leaves disk) world world
  ask_none world n high = nothing world (λ w v. v ≡ cond w.up (with_client (asking w) n w) w) (λ w reached s. cond_same w.up w ∙ ap (λ x. cond w.up x w) (too_many world n asking w high s))

  pub ask_one : AnswersBySummary → (old new : Running D) (n : ℕ) (x c : Connection) (store : Stored D) (other : Other D) → old.server ≡ Up store other → new.server ≡ old.server → new.shown.replies ≡ old.shown.replies → new.shown.views ≡ old.shown.views → n < length old.shown.clients.items
      → new.shown.clients.items ≡ set old.shown.clients.items n x → c ≡ get_or old.shown.clients.items n c → x ≡ asking_by store.registry old.shown.views.items c → Simulates disk (λ w v. v ≡ cond w.up (with_client (asking w) n w) w) (Leaves disk) old new
  ask_one told old new n x c store other is_up server replies views low at is asked =
      one_client old new n x server replies views low at asking
      (λ w reached s.
      let up : IsUp disk store other old.shown.views.items w = subst (λ y. IsServer disk y old.shown.views.items w) is_up s.server in
      asked ∙ ap (λ r. asking_by r old.shown.views.items c) up.registry_is ∙ asking_same told old.shown.views.items w c (settled_reached w reached).made up.views_are
      ∙ ap (asking w) (is ∙ get_same old.shown.clients.items n c x low))
      (λ w v. v ≡ cond w.up (with_client (asking w) n w) w)
      (λ w reached s.
      let up : IsUp disk store other old.shown.views.items w = subst (λ y. IsServer disk y old.shown.views.items w) is_up s.server in
      sym (ap (λ b. cond b (with_client (asking w) n w) w) up.up))

  pub receive_one : AnswersApply → (old new : Running D) (n : ℕ) (x c : Connection) → new.server ≡ old.server → new.shown.replies ≡ old.shown.replies → new.shown.views ≡ old.shown.views → n < length old.shown.clients.items
      → new.shown.clients.items ≡ set old.shown.clients.items n x → c ≡ get_or old.shown.clients.items n c → (c.mirror.asked ≡ is_some c.answer → x ≡ receiving c) → Simulates disk (λ w v. v ≡ with_client receiving n w) (Leaves disk) old new
  receive_one applies old new n x c server replies views low at is received =
      one_client old new n x server replies views low at (λ w. receiving)
      (λ w reached s.
      received (all_at (λ d. d.mirror.asked ≡ is_some d.answer) old.shown.clients.items n c (subst (λ cs. AllByRecursion (λ d. d.mirror.asked ≡ is_some d.answer) cs) (sym s.clients) (asked w.histories w.clients (good_reached applies w reached))) low is)
      ∙ ap receiving (is ∙ get_same old.shown.clients.items n c x low))
      (λ w v. v ≡ with_client receiving n w) (λ w reached s. refl)
    where
      asked : (hs : List History) (cs : List Connection) → AllByRecursion (Good hs) cs → AllByRecursion (λ (d : Connection). d.mirror.asked ≡ is_some d.answer) cs
      asked hs [] h = tt
      asked hs (d ∷ ds) h = (h.0.asked, asked hs ds h.1)

  pub lose_one : (old new : Running D) (n : ℕ) (x c : Connection) → new.server ≡ old.server → new.shown.replies ≡ old.shown.replies → new.shown.views ≡ old.shown.views → n < length old.shown.clients.items
      → new.shown.clients.items ≡ set old.shown.clients.items n x → c ≡ get_or old.shown.clients.items n c → x ≡ without_answer c → Simulates disk (λ w v. v ≡ with_client without_answer n w) (Leaves disk) old new
  lose_one old new n x c server replies views low at is lost =
      one_client old new n x server replies views low at (λ w. without_answer) (λ w reached s. lost ∙ ap without_answer (is ∙ get_same old.shown.clients.items n c x low)) (λ w v. v ≡ with_client without_answer n w) (λ w reached s. refl)

  pub connect_none : (world : Running D) (path : Path) (test : Expr) → is_path_only (term test) ≡ false
      → Simulates disk (λ w v. v ≡ cond (is_path_only (term test)) (record w { clients = w.clients ++ connected path test ∷ [] }) w) (Leaves disk) world world
  connect_none world path test other = nothing world (λ w v. v ≡ cond (is_path_only (term test)) (record w { clients = w.clients ++ connected path test ∷ [] }) w)
      (λ w reached s. sym (ap (λ b. cond b (record w { clients = w.clients ++ connected path test ∷ [] }) w) other))

  pub connect_one : (old new : Running D) (path : Path) (test : Expr) → is_path_only (term test) ≡ true → new.server ≡ old.server → new.shown.replies ≡ old.shown.replies → new.shown.views ≡ old.shown.views
      → new.shown.clients.items ≡ old.shown.clients.items ++ connected path test ∷ [] → Simulates disk (λ w v. v ≡ cond (is_path_only (term test)) (record w { clients = w.clients ++ connected path test ∷ [] }) w) (Leaves disk) old new
  connect_one old new path test only server replies views pushed =
      only_clients old new (λ w v. v ≡ cond (is_path_only (term test)) (record w { clients = w.clients ++ connected path test ∷ [] }) w) (λ w. w.clients ++ connected path test ∷ []) server replies views
      (λ w reached s. pushed ∙ ap (λ cs. cs ++ connected path test ∷ []) s.clients)
      (λ w reached s. sym (ap (λ b. cond b (record w { clients = w.clients ++ connected path test ∷ [] }) w) only))
