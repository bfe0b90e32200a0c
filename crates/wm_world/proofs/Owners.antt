-- A client's clock is one of its own root, so its list is that of the root's files.
use Rattle.std.proofs.Common.{◌≡◌, Bool, true, false, cond, List, [], ◌∷◌, ◌++◌, Option, Some, None, refl, sym, ap, subst, ◌∙◌, append_assoc, append-nil, MatchOption}
use Rattle.std.specs.List.{AllByRecursion}
use Rattle.wm_names.specs.Paths.{Path}
use Rattle.wm_clock.specs.declared.clock_id.ClockId.{ClockId}
use Rattle.wm_expr.specs.declared.expr.Expr.{Expr}
use Rattle.wm_expr.specs.Meanings.{is_path_only}
use Rattle.wm_expr.specs.Views.{term}
use Rattle.wm_registry.specs.declared.command.Command.{Command}
use Rattle.wm_view.specs.Histories.{History, is_ready}
use Rattle.wm_since.specs.declared.query.Answer.{Answer}
use Rattle.wm_since.specs.Answers.{answer_to}
use Rattle.wm_since.specs.Clients.{next_question}
use Rattle.wm_since.specs.Laws.{AnswersApply}
use Rattle.wm_world.specs.declared.connection.Connection.{Connection}
use Rattle.wm_world.specs.declared.event.Event.{Event}
use Rattle.wm_world.specs.Worlds.{World, connected, is_of, live, registry, wants, without_answer}
use Rattle.wm_world.specs.Steps.{IsPrefix, Run, answer_about, applied, asking, receiving, with_answer}
use Rattle.wm_world.specs.Laws.{ClientHolds, ClientsHold, IsClockAt, MatchesAt}
use Rattle.wm_world.proofs.Clients.{Good, good_reached}
use Rattle.wm_world.proofs.EachClient.{Lasts, all_on, each_client}
use Rattle.wm_world.proofs.Growing.{found_is, of_ids}
use Rattle.wm_world.proofs.Kept.{kept_stays}
use Rattle.wm_world.proofs.Moments.{live_found}
use Rattle.wm_world.proofs.Shapes.{all_reached}

-- the clock at which a client stands, and that of the answer on its way
record Own (kept : List Command) (c : Connection) : Type 0 where
  held : MatchOption c.mirror.clock (Unit {0}) (IsClockAt kept c.mirror.root)
  coming : MatchOption c.answer (Unit {0}) (λ a. IsClockAt kept c.mirror.root a.clock)

-- ---- what is kept grows

clock_on : (kept more : List Command) → IsPrefix kept more → (path : Path) (k : ClockId) → IsClockAt kept path k → IsClockAt more path k
clock_on kept more (rest, whole) path k i = record {
  part = i.part;
  begins = (i.begins.0 ++ rest, sym (append_assoc i.part i.begins.0 rest) ∙ ap (λ cs. cs ++ rest) i.begins.1 ∙ whole);
  root = i.root;
  there = i.there;
  number = i.number;
  incarnation = i.incarnation;
}

own_on : (kept more : List Command) → IsPrefix kept more → (c : Connection) → Own kept c → Own more c
own_on kept more grows c o = record { held = on_clock c.mirror.clock o.held; coming = on_answer c.answer o.coming }
  where
    on_clock : (k : Option ClockId) → MatchOption k (Unit {0}) (IsClockAt kept c.mirror.root) → MatchOption k (Unit {0}) (IsClockAt more c.mirror.root)
    on_clock None h = tt
    on_clock (Some k) h = clock_on kept more grows c.mirror.root k h

    on_answer : (a : Option Answer) → MatchOption a (Unit {0}) (λ a. IsClockAt kept c.mirror.root a.clock) → MatchOption a (Unit {0}) (λ a. IsClockAt more c.mirror.root a.clock)
    on_answer None h = tt
    on_answer (Some a) h = clock_on kept more grows c.mirror.root a.clock h

-- ---- one client

own_without : (kept : List Command) (c : Connection) → Own kept c → Own kept (without_answer c)
own_without kept c o = record { held = o.held; coming = tt }

own_receiving : (kept : List Command) (c : Connection) → Own kept c → Own kept (receiving c)
own_receiving kept c o = by c.answer o.coming
  where
    by : (a : Option Answer) → MatchOption a (Unit {0}) (λ a. IsClockAt kept c.mirror.root a.clock) → Own kept (applied c a)
    by None h = o
    by (Some a) h = record { held = h; coming = tt }

own_connected : (kept : List Command) (path : Path) (test : Expr) → is_path_only (term test) ≡ true → Own kept (connected path test)
own_connected kept path test only = record { held = tt; coming = tt }

own_asking : (w : World) (c : Connection) → Own w.kept c → Own w.kept (asking w c)
own_asking w c o = either c.mirror.asked
  where
    about : (l : Option History) → live w c.mirror.root ≡ l → Own w.kept (with_answer c (answer_about c l))
    about None e = o
    about (Some h) e = ready (is_ready h)
      where
        ready : (b : Bool) → Own w.kept (with_answer c (cond b (Some (answer_to (wants c) h (next_question c.mirror))) None))
        ready true =
            let f = live_found w c.mirror.root h e in
            let ids = of_ids (registry w).incarnation f.0.number h (found_is (is_of (registry w).incarnation f.0.number) w.histories h f.2) in
            record {
              held = o.held;
              coming = record { part = w.kept; begins = ([], append-nil w.kept); root = f.0; there = f.1; number = sym ids.1; incarnation = sym ids.0 };
            }
        ready false = o

    either : (b : Bool) → Own w.kept (cond b c (with_answer c (answer_about c (live w c.mirror.root))))
    either true = o
    either false = about (live w c.mirror.root) refl

-- ---- all clients

lasts : (w : World) → Lasts (Own w.kept) w
lasts w = record { without = own_without w.kept; receives = own_receiving w.kept; begins = own_connected w.kept; asks = own_asking w }

own_run : (old : World) (events : List Event) (new : World) → AllByRecursion (Own old.kept) old.clients → Run old events new → AllByRecursion (Own new.kept) new.clients
own_run old [] new g e = subst (λ (w : World). AllByRecursion (Own w.kept) w.clients) e g
own_run old (event ∷ events) new g (mid, step, run) =
    own_run mid events new (all_on (Own old.kept) (Own mid.kept) (own_on old.kept mid.kept (kept_stays old mid (event ∷ []) (mid, step, refl))) mid.clients (each_client (Own old.kept) old event mid (lasts old) g step)) run

both_hold : (w : World) (cs : List Connection) → AllByRecursion (Good w.histories) cs → AllByRecursion (Own w.kept) cs → AllByRecursion (ClientHolds w) cs
both_hold w [] g o = tt
both_hold w (c ∷ cs) g o = (by c.mirror.clock g.0.held o.0.held, both_hold w cs g.1 o.1)
  where
    by : (k : Option ClockId) → MatchOption k (c.mirror.files ≡ []) (MatchesAt w.histories (wants c) c.mirror.files) → MatchOption k (Unit {0}) (IsClockAt w.kept c.mirror.root)
        → MatchOption k (c.mirror.files ≡ []) (λ k. MatchesAt w.histories (wants c) c.mirror.files k × IsClockAt w.kept c.mirror.root k)
    by None m i = m
    by (Some k) m i = (m, i)

pub clients_hold : AnswersApply → ClientsHold
clients_hold applies w (events, leads) = both_hold w w.clients (good_reached applies w (events, leads)) (all_reached (λ v. AllByRecursion (Own v.kept) v.clients) (λ v stage faults other. tt) own_run events w leads)
