-- Each history has an id of its own, in range, and one clock text names one moment.
use Rattle.std.proofs.Common.{◌≡◌, inl, inr, ℕ, zero, suc, ◌+◌, ◌-◌, ◌<◌, ◌≤◌, Bool, true, false, cond, ◌&&◌, List, [], ◌∷◌, ◌++◌, map, find, Option, Some, None, nat_lt, nat_le, ◌==◌, refl, sym, ap, subst, ◌∙◌, arith, true≢false, ne_eqb, eq-eqb, lt-ltb, le-leb, ltb-true}
use Rattle.std.specs.List.{AllByRecursion, IsDistinct, range_with_len}
use Rattle.wm_disk.specs.Counters.{max_counter}
use Rattle.wm_clock.specs.declared.clock_id.ClockId.{ClockId}
use Rattle.wm_clock.specs.Clocks.{clock_text, is_number}
use Rattle.wm_clock.specs.Laws.{OneText}
use Rattle.wm_registry.specs.declared.version.Version.TheVariants.{Two}
use Rattle.wm_registry.specs.declared.command.Command.{Command}
use Rattle.wm_registry.specs.declared.root.Root.{Root}
use Rattle.wm_registry.specs.Roots.{State, root_at}
use Rattle.wm_names.specs.Paths.{Path}
use Rattle.std.specs.Option.{option_map_or}
use Rattle.wm_registry.specs.Spelling.{numbers_of}
use Rattle.wm_view.specs.Histories.{History, IsMade, after_operation, new_history, is_ready, newest, tick_of, up_to}
use Rattle.wm_view.specs.HistoryLaws.{TickInRange}
use Rattle.wm_view.specs.declared.op.Op.{Op}
use Rattle.wm_since.specs.Answers.{answer_to, clock_of}
use Rattle.wm_since.specs.declared.query.Answer.{Answer}
use Rattle.wm_since.specs.Clients.{next_question}
use Rattle.wm_world.specs.declared.event.Event.{Event}
use Rattle.wm_registry.specs.declared.version.Version.{Version}
use Rattle.wm_world.specs.Worlds.{Stage, World, at_first, begun_all, begun_between, begun_on, history_in, in_version, is_of, live, registry, replay, wants}
use Rattle.wm_world.specs.Steps.{IsReached, Run}
use Rattle.wm_world.specs.Laws.{Gives, InRange, IsAmong, OneMoment, OneMomentOfAnswers, SameMoment}
use Rattle.wm_world.proofs.Growing.{Extends, extends_after, ids_of, of_ids, same_Some, same_ticks, Some≢None}
use Rattle.wm_registry.specs.Laws.{NumbersInOrder, NumbersRise}
use Rattle.wm_registry.specs.Numbers.{InOrder, Rises}
use Rattle.wm_world.proofs.Reached.{all_both, all_each, all_first, settled_reached}
use Rattle.wm_world.proofs.Shapes.{IsGrown, IsUp, Shape, all_reached, grows_run, leads_on, shape}

-- ---- ids

-- a history of an incarnation and a root that this registry has had
pub record Within (s : State) (h : History) : Type 0 where
  pub begun : 0 < h.incarnation
  pub incarnation : h.incarnation ≤ s.incarnation
  pub some : 0 < h.root
  pub root : h.root < s.next

abbrev pub Other : History → History → Type 0
Other h g = is_of h.incarnation h.root g ≡ false

abbrev pub Apart : List History → Type 0
Apart [] = Unit {0}
Apart (h ∷ hs) = AllByRecursion (Other h) hs × Apart hs

-- what every state of a run keeps of its histories' ids
pub record Ids (w : World) : Type 0 where
  pub begun : w.up ≡ true → 0 < (registry w).incarnation
  pub within : AllByRecursion (Within (registry w)) w.histories
  pub apart : Apart w.histories

within_rises : (s t : State) → Rises s t → (h : History) → Within s h → Within t h
within_rises s t r h w = record { begun = w.begun; incarnation = omega (arith, r.incarnation, w.incarnation); some = w.some; root = omega (arith, r.next, w.root) }

within_after : (s : State) (f : History → History) → ((h : History) → Extends h (f h)) → (h : History) → Within s h → Within s (f h)
within_after s f on h w =
    let e = on h in
    record {
      begun = subst (λ n. 0 < n) e.incarnation w.begun;
      incarnation = subst (λ n. n ≤ s.incarnation) e.incarnation w.incarnation;
      some = subst (λ n. 0 < n) e.root w.some;
      root = subst (λ n. n < s.next) e.root w.root;
    }

-- ---- apart

apart_both : (gs hs : List History) → Apart gs → Apart hs → AllByRecursion (λ g. AllByRecursion (Other g) hs) gs → Apart (gs ++ hs)
apart_both [] hs a b c = b
apart_both (g ∷ gs) hs a b c = (all_both (Other g) gs hs a.0 c.0, apart_both gs hs a.1 b c.1)

apart_first : (test : History → Bool) (f : History → History) → ((h : History) → Extends h (f h)) → (hs : List History) → Apart hs → Apart (at_first test f hs)
apart_first test f on [] a = tt
apart_first test f on (h ∷ hs) a = elim (test h) as (λ b. Apart (cond b (f h ∷ hs) (h ∷ at_first test f hs))) [
  | true ↦ (all_each (Other h) (Other (f h)) (λ g o. (λ i. (g.incarnation == sym (on h).incarnation i) && (g.root == sym (on h).root i)) ∙ o) hs a.0, a.1)
  | false ↦ (all_first (Other h) test f (λ g o. (λ i. (sym (on g).incarnation i == h.incarnation) && (sym (on g).root i == h.root)) ∙ o) hs a.0, apart_first test f on hs a.1)
]

both_false : (a b : Bool) → b ≡ false → (a && b) ≡ false
both_false true b e = e
both_false false b e = refl

other_root : (h g : History) → (g.root ≡ h.root → ⊥) → Other h g
other_root h g d = both_false (g.incarnation == h.incarnation) (g.root == h.root) (ne_eqb g.root h.root d)

other_incarnation : (h g : History) → (g.incarnation ≡ h.incarnation → ⊥) → Other h g
other_incarnation h g d = ap (λ b. b && (g.root == h.root)) (ne_eqb g.incarnation h.incarnation d)

-- ---- the histories of a batch

-- begun in this incarnation, at numbers from a up to b
pub record BegunIn (i a b : ℕ) (h : History) : Type 0 where
  pub incarnation : h.incarnation ≡ i
  pub low : a ≤ h.root
  pub high : h.root < b

range_begun : (i a n : ℕ) → AllByRecursion (BegunIn i a (a + n)) (map (new_history i) (range_with_len a n))
range_begun i a zero = tt
range_begun i a (suc n) = (
  record { incarnation = refl; low = omega arith; high = omega arith },
  all_each (BegunIn i (a + 1) ((a + 1) + n)) (BegunIn i a (a + suc n)) (λ h b. record { incarnation = b.incarnation; low = omega (arith, b.low); high = omega (arith, b.high) }) (map (new_history i) (range_with_len (a + 1) n)) (range_begun i (a + 1) n),
)

range_apart : (i a n : ℕ) → Apart (map (new_history i) (range_with_len a n))
range_apart i a zero = tt
range_apart i a (suc n) = (
  all_each (BegunIn i (a + 1) ((a + 1) + n)) (Other (new_history i a)) (λ h b. other_root (new_history i a) h (λ e. let low : a + 1 ≤ h.root = b.low in omega (arith, e, low))) (map (new_history i) (range_with_len (a + 1) n)) (range_begun i (a + 1) n),
  range_apart i (a + 1) n,
)

-- ---- the histories of a start

roots_begun : (i b : ℕ) (roots : List (List ℕ × Root)) → AllByRecursion (λ r. (0 < r.1.number) × (r.1.number < b)) roots → AllByRecursion (BegunIn i 1 b) (map (λ r. new_history i r.1.number) roots)
roots_begun i b [] h = tt
roots_begun i b (r ∷ roots) h = (record { incarnation = refl; low = omega (arith, h.0.0); high = h.0.1 }, roots_begun i b roots h.1)

roots_apart : (i : ℕ) (roots : List (List ℕ × Root)) → IsDistinct ◌==◌ (numbers_of roots) → Apart (map (λ r. new_history i r.1.number) roots)
unfolding IsDistinct
roots_apart i [] h = tt
roots_apart i (r ∷ roots) h = (others roots h.0, roots_apart i roots h.1)
  where
    others : (qs : List (List ℕ × Root)) → AllByRecursion (λ n. (r.1.number == n) ≡ false) (numbers_of qs) → AllByRecursion (Other (new_history i r.1.number)) (map (λ q. new_history i q.1.number) qs)
    others [] d = tt
    others (q ∷ qs) d = (other_root (new_history i r.1.number) (new_history i q.1.number) (λ e. true≢false (sym (eq-eqb r.1.number q.1.number (sym e)) ∙ d.0)), others qs d.1)

-- ---- one step, and a run

-- histories of a later number, or of a later incarnation, are other than those that were
later_apart : (s : State) (gs hs : List History) → AllByRecursion (Within s) gs → ((g h : History) → Within s g → IsAmong h hs → Other g h) → AllByRecursion (λ g. AllByRecursion (Other g) hs) gs
later_apart s gs hs w other = all_each (Within s) (λ g. AllByRecursion (Other g) hs) (λ g k. each g k hs (λ h m. m)) gs w
  where
    each : (g : History) → Within s g → (ks : List History) → ((h : History) → IsAmong h ks → IsAmong h hs) → AllByRecursion (Other g) ks
    each g k [] into = tt
    each g k (h ∷ ks) into = (other g h k (into h (inl refl)), each g k ks (λ x m. into x (inr m)))

pub all_among : (P : History → Type 0) (hs : List History) → AllByRecursion P hs → (h : History) → IsAmong h hs → P h
all_among P [] a h m = absurd m
all_among P (g ∷ gs) a h (inl e) = subst P (sym e) a.0
all_among P (g ∷ gs) a h (inr m) = all_among P gs a.1 h m

-- what a state keeps of its histories, where the registry is this
pub record Kept (s : State) (hs : List History) : Type 0 where
  pub within : AllByRecursion (Within s) hs
  pub apart : Apart hs

kept_rises : (s t : State) (hs : List History) → Rises s t → Kept s hs → Kept t hs
kept_rises s t hs r k = record { within = all_each (Within s) (Within t) (within_rises s t r) hs k.within; apart = k.apart }

kept_first : (s : State) (test : History → Bool) (op : Op) (hs : List History) → Kept s hs → Kept s (at_first test (λ h. after_operation h op) hs)
kept_first s test op hs k = record {
  within = all_first (Within s) test (λ h. after_operation h op) (within_after s (λ h. after_operation h op) (λ h. extends_after h op)) hs k.within;
  apart = apart_first test (λ h. after_operation h op) (λ h. extends_after h op) hs k.apart;
}

kept_batch : (s t : State) (hs : List History) → Rises s t → 0 < s.incarnation → 0 < s.next → Kept s hs → Kept t (hs ++ begun_between s t)
kept_batch s t hs r begun some k =
    let new = begun_between s t in
    let low : s.next ≤ t.next = r.next in
    let is = range_begun t.incarnation s.next (t.next - s.next) in
    record {
      within = all_both (Within t) hs new (all_each (Within s) (Within t) (within_rises s t r) hs k.within)
          (all_each (BegunIn t.incarnation s.next (s.next + (t.next - s.next))) (Within t) (λ h b. record {
            begun = omega (arith, b.incarnation, begun, r.incarnation);
            incarnation = omega (arith, b.incarnation);
            some = omega (arith, b.low, some);
            root = omega (arith, b.high, low);
          }) new is);
      apart = apart_both hs new k.apart (range_apart t.incarnation s.next (t.next - s.next))
          (later_apart s hs new k.within (λ g h w m. other_root g h (λ e.
          let b = all_among (BegunIn t.incarnation s.next (s.next + (t.next - s.next))) new is h m in
          let l : s.next ≤ h.root = b.low in
          let u : g.root < s.next = w.root in
          omega (arith, e, l, u))));
    }

kept_start : (s t : State) (hs : List History) → Rises s t → s.incarnation < t.incarnation → InOrder t → Kept s hs → Kept t (hs ++ begun_all t)
kept_start s t hs r later o k =
    let new = begun_all t in
    let is = roots_begun t.incarnation t.next t.roots o.roots in
    record {
      within = all_both (Within t) hs new (all_each (Within s) (Within t) (within_rises s t r) hs k.within)
          (all_each (BegunIn t.incarnation 1 t.next) (Within t) (λ h b. record {
            begun = omega (arith, b.incarnation, later);
            incarnation = omega (arith, b.incarnation);
            some = omega (arith, b.low);
            root = b.high;
          }) new is);
      apart = apart_both hs new k.apart (roots_apart t.incarnation t.roots o.apart)
          (later_apart s hs new k.within (λ g h w m. other_incarnation g h (λ e.
          let b = all_among (BegunIn t.incarnation 1 t.next) new is h m in
          let i : h.incarnation ≡ t.incarnation = b.incarnation in
          let u : g.incarnation ≤ s.incarnation = w.incarnation in
          omega (arith, e, i, u, later))));
    }

pub ids_start : (v : Version) (stage : Stage) (faults other_faults : ℕ) → Ids (begun_on v stage faults other_faults)
ids_start v stage faults other_faults = record { begun = λ t. absurd (true≢false (sym t)); within = tt; apart = tt }

module _ (rising : NumbersRise) (ordered : NumbersInOrder) where
  rises : (old new : World) → Shape old new → Rises (registry old) (registry new)
  rises old new s =
      let r : Rises (replay old.kept) (replay new.kept) = subst (λ k. Rises (replay old.kept) (replay k)) (sym s.kept) (rising Two old.kept s.more) in
      record { incarnation = r.incarnation; next = r.next }

  in_order_in : (v : Version) (kept : List Command) → InOrder (in_version v (replay kept))
  in_order_in v kept = let o = ordered Two kept in record { incarnation = o.incarnation; some = o.some; next = o.next; roots = o.roots; apart = o.apart }

  kept_grown : (old new : World) → Shape old new → Ids old → Kept (registry new) new.histories
  kept_grown old new s ids = by s.histories
    where
      before : Kept (registry old) old.histories
      before = record { within = ids.within; apart = ids.apart }

      r : Rises (registry old) (registry new)
      r = rises old new s

      to : (hs : List History) → new.histories ≡ hs → Kept (registry new) hs → Kept (registry new) new.histories
      to hs e k = subst (λ ks. Kept (registry new) ks) (sym e) k

      by : IsGrown old new → Kept (registry new) new.histories
      by (inl e) = to old.histories e (kept_rises (registry old) (registry new) old.histories r before)
      by (inr (inl (test, op, e))) = to _ e (kept_first (registry new) test op old.histories (kept_rises (registry old) (registry new) old.histories r before))
      by (inr (inr (inl (up, e)))) = to _ e (kept_batch (registry old) (registry new) old.histories r (ids.begun up) (ordered Two old.kept).some before)
      by (inr (inr (inr (part, later, e)))) = to _ e (kept_start (registry old) (registry new) old.histories r (omega (arith, (rising Two old.kept part).incarnation, later)) (in_order_in new.version new.kept) before)

  pub ids_shape : (old new : World) → Shape old new → Ids old → Ids new
  ids_shape old new s ids =
      let k = kept_grown old new s ids in
      record { begun = λ t. begins (s.up t); within = k.within; apart = k.apart }
    where
      begins : IsUp old new → 0 < (registry new).incarnation
      begins (inl (up, p)) = let b : 0 < (registry old).incarnation = ids.begun up in let r = rises old new s in omega (arith, b, r.incarnation)
      begins (inr (clear, b)) = b

  pub ids_run : (old : World) (events : List Event) (new : World) → Ids old → Run old events new → Ids new
  ids_run old [] new i e = subst (λ w. Ids w) e i
  ids_run old (event ∷ events) new i (mid, step, run) = ids_run mid events new (ids_shape old mid (shape old event mid step) i) run

  pub ids_reached : (w : World) → IsReached w → Ids w
  ids_reached w (events, leads) = all_reached Ids ids_start ids_run events w leads

-- ---- one moment

-- a history of a state is the one that its id finds
pub found_apart : (hs : List History) (h : History) → Apart hs → IsAmong h hs → history_in hs h.incarnation h.root ≡ Some h
found_apart [] h a m = absurd m
found_apart (g ∷ gs) h a (inl e) =
    ap (λ b. cond b (Some g) (find (is_of h.incarnation h.root) gs)) (ids_of h.incarnation h.root g (ap (λ (k : History). k.incarnation) (sym e)) (ap (λ (k : History). k.root) (sym e))) ∙ ap Some (sym e)
found_apart (g ∷ gs) h a (inr m) =
    ap (λ b. cond b (Some g) (find (is_of h.incarnation h.root) gs)) (turned (is_of h.incarnation h.root g) refl) ∙ found_apart gs h a.1 m
  where
    apart : Other g h
    apart = all_among (Other g) gs a.0 h m

    turned : (b : Bool) → is_of h.incarnation h.root g ≡ b → b ≡ false
    turned true t = let i = of_ids h.incarnation h.root g t in absurd (true≢false (sym (ids_of g.incarnation g.root h (sym i.0) (sym i.1)) ∙ apart))
    turned false t = refl

pub goes_on : (old : World) (events : List Event) (new : World) → IsReached old → Run old events new → IsReached new
goes_on old events new (before, leads) run = (before ++ events, leads_on before old events new leads run)

-- ---- answers

found_among : (i r : ℕ) (hs : List History) (h : History) → history_in hs i r ≡ Some h → IsAmong h hs
found_among i r [] h e = absurd (Some≢None h (sym e))
found_among i r (g ∷ gs) h e = by (λ q. found_among i r gs h q) (is_of i r g) e
  where
    by : (history_in gs i r ≡ Some h → IsAmong h gs) → (b : Bool) → cond b (Some g) (history_in gs i r) ≡ Some h → IsAmong h (g ∷ gs)
    by rest true q = inl (sym (same_Some g h q))
    by rest false q = inr (rest q)

pub live_found : (w : World) (path : Path) (h : History) → live w path ≡ Some h → (root : Root) × (root_at path (registry w) ≡ Some root) × (history_in w.histories (registry w).incarnation root.number ≡ Some h)
live_found w path h e = by (root_at path (registry w)) refl e
  where
    by : (o : Option Root) → root_at path (registry w) ≡ o → option_map_or (λ root. history_in w.histories (registry w).incarnation root.number) o None ≡ Some h
        → (root : Root) × (root_at path (registry w) ≡ Some root) × (history_in w.histories (registry w).incarnation root.number ≡ Some h)
    by None f q = absurd (Some≢None h (sym q))
    by (Some root) f q = (root, f, q)

record GivenAbout (w : World) (a : Answer) (h : History) : Type 0 where
  among : IsAmong h w.histories
  ready : is_ready h ≡ true
  clock : a.clock ≡ clock_of h

given_about : (w : World) (a : Answer) (h : History) → Gives w a h → GivenAbout w a h
given_about w a h g =
    let f = live_found w g.client.mirror.root h g.about in
    let is = by (is_ready h) refl g.answer in
    record { among = found_among (registry w).incarnation f.0.number w.histories h f.2; ready = is.0; clock = is.1 }
  where
    by : (b : Bool) → is_ready h ≡ b → cond b (Some (answer_to (wants g.client) h (next_question g.client.mirror))) None ≡ Some a → (is_ready h ≡ true) × (a.clock ≡ clock_of h)
    by true r q = (r, ap (λ (x : Answer). x.clock) (sym (same_Some _ a q)))
    by false r q = absurd (Some≢None a (sym q))

-- ---- clocks in range

both : (a b : Bool) → a ≡ true → b ≡ true → (a && b) ≡ true
both a b e f = λ i. e i && f i

is_in_range : (n : ℕ) → 0 < n → n ≤ max_counter → is_number n ≡ true
is_in_range n low high = both (nat_lt 0 n) (nat_le n max_counter) (lt-ltb 0 n low) (le-leb n max_counter high)

module _ (rising : NumbersRise) (ordered : NumbersInOrder) where
  one_id : (old new : World) (events : List Event) (g h : History) → IsReached old → Run old events new → IsAmong g old.histories → IsAmong h new.histories → clock_of g ≡ clock_of h → SameMoment g h
  one_id old new events g h reached run mg mh e =
      let before : Ids old = ids_reached rising ordered old reached in
      let after : Ids new = ids_run rising ordered old events new before run in
      let i : g.incarnation ≡ h.incarnation = ap (λ (c : ClockId). c.incarnation) e in
      let r : g.root ≡ h.root = ap (λ (c : ClockId). c.root) e in
      let t : tick_of g ≡ tick_of h = ap (λ (c : ClockId). c.tick) e in
      let later = grows_run old events new run g.incarnation g.root g (found_apart old.histories g before.apart mg) in
      let is_h : later.0 ≡ h = same_Some later.0 h (sym later.1 ∙ (λ j. history_in new.histories (i j) (r j)) ∙ found_apart new.histories h after.apart mh) in
      let ext : Extends g h = subst (λ k. Extends g k) is_h later.2 in
      record { incarnation = i; root = r; tick = t; maps = λ u le. ap (λ ts. newest (up_to u ts)) (sym (same_ticks g h ext t)) }

  module _ (ticks : TickInRange) where
    pub in_range : InRange
    in_range w h reached m ready =
        let ids = ids_reached rising ordered w reached in
        let within = all_among (Within (registry w)) w.histories ids.within h m in
        let made = all_among IsMade w.histories (settled_reached w reached).made h m in
        let order = ordered Two w.kept in
        both (is_number h.incarnation && is_number h.root) (is_number (tick_of h))
        (both (is_number h.incarnation) (is_number h.root)
        (is_in_range h.incarnation within.begun (omega (arith, within.incarnation, order.incarnation)))
        (is_in_range h.root within.some (omega (arith, within.root, order.next))))
        (is_in_range (tick_of h) (ltb-true 0 (tick_of h) ready) (ticks h made))

    module _ (texts : OneText) where
      pub one_moment : OneMoment
      one_moment old new events g h text reached run mg mh tg th =
          one_id old new events g h reached run mg mh
          (texts text (clock_of g) (clock_of h) (tg.1, in_range old g reached mg tg.0) (th.1, in_range new h (goes_on old events new reached run) mh th.0))

      pub one_moment_of_answers : OneMomentOfAnswers
      one_moment_of_answers old new events a b g h reached run ga hb e =
          let x = given_about old a g ga in
          let y = given_about new b h hb in
          one_moment old new events g h (clock_text a.clock) reached run x.among y.among (x.ready, ap clock_text x.clock) (y.ready, e ∙ ap clock_text y.clock)
