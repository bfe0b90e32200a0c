-- Each step keeps the rule of the reply queue.
use Rattle.std.proofs.lemmas.List.{take-append-le, length-append}
use Rattle.std.proofs.Common.{◌≡◌, ◌≢◌, ◌≤◌, length, arith, ℕ, zero, suc, true, false, true≢false, Option, Some, None, List, [], ◌∷◌, ◌++◌, set, ⊎_elim, refl, sym, ap, ◌∙◌, subst, append_assoc, append-nil}
use mathlib.Core.Option.{some, some-ne-none, some-injective}
use lib.ListN.{get_elem?}
use Rattle.crossbeam_queue.specs.Fifo.{Pushes, PushesAfter, Pops, PopsFrom, Forks}
use Rattle.crossbeam_queue.proofs.Lists.{at_set, at_snoc}
use Rattle.wm_registry.specs.Roots.{State}
use Rattle.wm_groupcommit.specs.declared.queued.Call.{Call}
use Rattle.wm_groupcommit.specs.declared.queued.Answer.{Answer}
use Rattle.wm_groupcommit.specs.declared.locked.deliveries.Delivery.{Delivery}
use Rattle.wm_groupcommit.specs.declared.locked.deliveries.ReplyView.{ReplyView}
use Rattle.wm_checkpoint.specs.Machines.{replayed}
use Rattle.wm_registry.specs.Registry.{after_command}
use Rattle.wm_groupcommit.specs.Books.{Right, AllRight, IsShownAt, commands_of, state_at}
use Rattle.wm_groupcommit.specs.ReplyQueues.{reply_view, unnamed, end_to, newcomer, StartsWith, KeepsBase, RightFor, IsLater, answers_in, base_of, list_of, AreTo, AreShownFor, IsShownFor, FitsEnd, Replying, with_given, Gave, Dropped, Took}
use Rattle.wm_groupcommit.proofs.Answering.{AllRight-front}

pub StartsWith-all : (l : List Call) → StartsWith l l
StartsWith-all l = ([], sym (append-nil l))

pub StartsWith-trans : (a b c : List Call) → StartsWith b a → StartsWith c b → StartsWith c a
StartsWith-trans a b c x y = (x.0 ++ y.0, y.1 ∙ ap (λ l. l ++ y.0) x.1 ∙ append_assoc a x.0 y.0)

pub KeepsBase-all : (b : Option State) → KeepsBase b b
KeepsBase-all None = tt
KeepsBase-all (Some x) = refl

pub KeepsBase-trans : (a b c : Option State) → KeepsBase a b → KeepsBase b c → KeepsBase a c
KeepsBase-trans None b c x y = tt
KeepsBase-trans (Some s) b c x y = subst (λ o. KeepsBase o c) x y

pub AllRight-append : (base : State) (l : List Call) (xs ys : List Answer) → AllRight base l xs → AllRight base l ys → AllRight base l (xs ++ ys)
AllRight-append base l [] ys x y = y
AllRight-append base l (a ∷ xs) ys x y = (x.0, AllRight-append base l xs ys x.1 y)

pub RightFor-later : (b c : Option State) (l m : List Call) (xs : List Answer) → KeepsBase b c → StartsWith m l → RightFor b l xs → RightFor c m xs
RightFor-later None None l m xs k s r = r
RightFor-later None (Some y) l m xs k s r = subst (λ as'. AllRight y m as') (sym r) tt
RightFor-later (Some x) c l m xs k s r =
    subst (λ o. RightFor o m xs) (sym k) (subst (λ n. AllRight x n xs) (sym s.1) (AllRight-front x l s.0 xs r))

RightFor-append : (b : Option State) (l : List Call) (xs ys : List Answer) → RightFor b l xs → RightFor b l ys → RightFor b l (xs ++ ys)
RightFor-append None l xs ys x y = ap (λ as'. as' ++ ys) x ∙ y
RightFor-append (Some s) l xs ys x y = AllRight-append s l xs ys x y

RightFor-head : (b : Option State) (l : List Call) (x : Answer) (xs : List Answer) → RightFor b l (x ∷ xs) → RightFor b l (x ∷ [])
RightFor-head None l x xs r = absurd (cc)
RightFor-head (Some s) l x xs r = (r.0, tt)

RightFor-rest : (b : Option State) (l : List Call) (x : Answer) (xs : List Answer) → RightFor b l (x ∷ xs) → RightFor b l xs
RightFor-rest None l x xs r = absurd (cc)
RightFor-rest (Some s) l x xs r = r.1

answers_in-push : (items : List Delivery) (x : Delivery) → answers_in (items ++ x ∷ []) ≡ answers_in items ++ x.answer ∷ []
answers_in-push [] x = refl
answers_in-push (i ∷ items) x = ap (λ l. i.answer ∷ l) (answers_in-push items x)

AreTo-push : (seat : Option ℕ) (xs : List Answer) (a : Answer) → AreTo seat xs → seat ≡ Some a.call.seat → AreTo seat (xs ++ a ∷ [])
AreTo-push seat [] a h e = (e, tt)
AreTo-push seat (x ∷ xs) a h e = (h.0, AreTo-push seat xs a h.1 e)

some_seat : (n : ℕ) → None ≡ Some n → ⊥
some_seat n e = cc

-- a queue of no seat yet holds nothing
nothing_to : (n : ℕ) (xs : List Answer) → AreTo None xs → AreTo (Some n) xs
nothing_to n [] h = tt
nothing_to n (a ∷ xs) h = absurd (some_seat a.call.seat h.0)

-- ---- a registry that is shown

some_same : (r s : State) → Some s ≡ Some r → r ≡ s
some_same r s e = cc

base_kept : (b c : Option State) (base : State) → KeepsBase b c → b ≡ Some base → c ≡ Some base
base_kept None c base k e = absurd (cc)
base_kept (Some x) c base k e = k ∙ e

shown-later : (b c : Option State) (l m : List Call) (x : Delivery) → KeepsBase b c → StartsWith m l → IsShownFor b l x → IsShownFor c m x
shown-later b c l m x k s shown = λ r e.
    let here = shown r e in
    let n = x.answer.at in
    let same : state_at here.0 m n ≡ state_at here.0 l n = ap (λ (list : List Call). state_at here.0 list n) s.1 ∙ ap (λ (list : List Call). replayed after_command here.0 (commands_of list)) (take-append-le n l s.0 here.2) in (
      here.0,
      base_kept b c here.0 k here.1,
      subst (λ (list : List Call). n ≤ length list) (sym s.1) (omega (arith, here.2, length-append l s.0)),
      here.3 ∙ sym same,
    )

shown-longer : (b c : Option State) (l m : List Call) (items : List Delivery) → KeepsBase b c → StartsWith m l → AreShownFor b l items → AreShownFor c m items
shown-longer b c l m [] k s h = tt
shown-longer b c l m (x ∷ items) k s h = (shown-later b c l m x k s h.0, shown-longer b c l m items k s h.1)

shown-push : (b : Option State) (l : List Call) (items : List Delivery) (x : Delivery) → AreShownFor b l items → IsShownFor b l x → AreShownFor b l (items ++ x ∷ [])
shown-push b l [] x h e = (e, tt)
shown-push b l (y ∷ items) x h e = (h.0, shown-push b l items x h.1 e)

shown_now : (x : Delivery) (registry : Option State) → x.registry ≡ registry → IsShownAt x.seen.value.base (list_of x) x.answer.at registry → IsShownFor (base_of x) (list_of x) x
shown_now x None is h = λ r e. let bad : None ≡ Some r = sym is ∙ e in absurd (cc)
shown_now x (Some s) is h = λ r e. let same : Some s ≡ Some r = sym is ∙ e in (x.seen.value.base, refl, h.0, some_same r s same ∙ h.1)

abbrev Ends : Option ℕ → ℕ → Option State → List Call → List ReplyView → Type 0
Ends seat writer base list views = (port : ℕ) (v : ReplyView) → get_elem? views port ≡ some v → FitsEnd seat writer base list port v

ends_set : (seat : Option ℕ) (writer : ℕ) (base : Option State) (list : List Call) (views : List ReplyView) (port : ℕ) (w : ReplyView) → FitsEnd seat writer base list port w
    → ((j : ℕ) (u : ReplyView) → j ≢ port → get_elem? views j ≡ some u → FitsEnd seat writer base list j u) → Ends seat writer base list (set views port w)
ends_set seat writer base list views port w mine others j u e =
    ⊎_elim (λ (x : (j ≡ port) × (w ≡ u)). subst (λ (y : ℕ × ReplyView). FitsEnd seat writer base list y.0 y.1) (λ i. (sym x.0 i, x.1 i)) mine) (λ (x : (j ≢ port) × (get_elem? views j ≡ some u)). others j u x.0 x.1) (at_set views port j w u e)

off : false ≡ true → ⊥
off e = true≢false (sym e)

pub begins : Replying [] (unnamed ∷ [])
begins = (None, 0, None, [], one, refl, tt, tt)
  where
    one : (port : ℕ) (v : ReplyView) → get_elem? (unnamed ∷ []) port ≡ some v → FitsEnd None 0 None [] port v
    one zero v e = subst (FitsEnd None 0 None [] 0) (some-injective _ _ e) ((refl, λ _. refl), (λ _. (refl, refl, refl)), (tt, StartsWith-all []), refl)
    one (suc port) v e = absurd (some-ne-none v (sym e))

-- the queue of no seat gets one, and its only end becomes two
pub forks : (n port : ℕ) → Forks Replying port unnamed (end_to n) (newcomer n)
forks n port items views h at =
    let mine = h.4 port unnamed at in
    let here : port ≡ h.1 = mine.0.1 (sym mine.0.0) in
    let mine' : FitsEnd (Some n) h.1 h.2 h.3 port (end_to n) = ((refl, λ e. absurd (some_seat n (sym e))), (λ _. (here, (mine.1 refl).1, (mine.1 refl).2)), mine.2, refl) in
    let alone = λ (j : ℕ) (u : ReplyView) (apart : j ≢ port) (e : get_elem? views j ≡ some u). absurd (apart ((h.4 j u e).0.1 (sym mine.0.0) ∙ sym here)) in (
      Some n,
      h.1,
      h.2,
      h.3,
      λ j u e. ⊎_elim (λ was. ends_set (Some n) h.1 h.2 h.3 views port (end_to n) mine' alone j u was)
          (λ (same : newcomer n ≡ u). subst (FitsEnd (Some n) h.1 h.2 h.3 j) same ((refl, λ e'. absurd (some_seat n (sym e'))), (λ x. absurd (off x)), (tt, (h.3, refl)), refl)) (at_snoc (set views port (end_to n)) (newcomer n) u j e),
      h.5,
      nothing_to n (answers_in items) (subst (λ s. AreTo s (answers_in items)) (sym mine.0.0) h.6),
      h.7,
    )

pub gives : (n port : ℕ) (v : ReplyView) (x : Delivery) → v.writes ≡ true → IsLater v (base_of x) (list_of x) → Right x.seen.value.base (list_of x) x.answer → v.seat ≡ Some x.answer.call.seat
    → IsShownAt x.seen.value.base (list_of x) x.answer.at x.registry → Pushes Replying n port v x (λ w. Gave v x w)
gives n port v x may later right own shown items views _ h at =
    let mine = h.4 port v at in
    let known = mine.1 may in
    let w = with_given v x in
    let keeps : KeepsBase h.2 (base_of x) = subst (λ b. KeepsBase b (base_of x)) known.1 later.0 in
    let longer : StartsWith (list_of x) h.3 = subst (λ l. StartsWith (list_of x) l) known.2 later.1 in
    let queued : RightFor (base_of x) (list_of x) (answers_in items) = RightFor-later h.2 (base_of x) h.3 (list_of x) (answers_in items) keeps longer h.5 in (
      w,
      (
        h.0,
        h.1,
        base_of x,
        list_of x,
        ends_set h.0 h.1 (base_of x) (list_of x) views port w
            (mine.0, (λ _. (known.0, refl, refl)), (refl, StartsWith-all (list_of x)), RightFor-later v.base (base_of x) v.list (list_of x) v.got later.0 later.1 mine.3)
            (λ j u apart e.
            let theirs = h.4 j u e in (
              theirs.0,
              (λ k. absurd (apart ((theirs.1 k).0 ∙ sym known.0))),
              (KeepsBase-trans u.base h.2 (base_of x) theirs.2.0 keeps, StartsWith-trans u.list h.3 (list_of x) theirs.2.1 longer),
              theirs.3,
            )),
        subst (λ l. RightFor (base_of x) (list_of x) l) (sym (answers_in-push items x)) (RightFor-append (base_of x) (list_of x) (answers_in items) (x.answer ∷ []) queued (right, tt)),
        subst (AreTo h.0) (sym (answers_in-push items x)) (AreTo-push h.0 (answers_in items) x.answer h.6 (sym mine.0.0 ∙ own)),
        shown-push (base_of x) (list_of x) items x (shown-longer h.2 (base_of x) h.3 (list_of x) items keeps longer h.7) (shown_now x x.registry refl shown),
      ),
      refl,
    )

pub gets : (port : ℕ) (v : ReplyView) → Pops Replying port v (Took v)
gets port v x items views h at =
    let mine = h.4 port v at in
    let got = v.got ++ x.answer ∷ [] in
    let w = reply_view v.writes v.seat h.2 h.3 got v.given in
    let right : RightFor h.2 h.3 got = RightFor-append h.2 h.3 v.got (x.answer ∷ []) (RightFor-later v.base h.2 v.list h.3 v.got mine.2.0 mine.2.1 mine.3) (RightFor-head h.2 h.3 x.answer (answers_in items) h.5) in (
      w,
      (
        h.0,
        h.1,
        h.2,
        h.3,
        ends_set h.0 h.1 h.2 h.3 views port w (mine.0, (λ k. ((mine.1 k).0, refl, refl)), (KeepsBase-all h.2, StartsWith-all h.3), right) (λ j u _ e. h.4 j u e),
        RightFor-rest h.2 h.3 x.answer (answers_in items) h.5,
        h.6.1,
        h.7.1,
      ),
      (refl, refl, mine.0.0 ∙ h.6.0, mine.2, refl, right, h.7.0),
    )

-- the oldest that is queued is dropped
pub drops : (n port : ℕ) (v : ReplyView) → PopsFrom Replying n port v (Dropped v)
drops n port v x items views full h at =
    (v, (h.0, h.1, h.2, h.3, ends_set h.0 h.1 h.2 h.3 views port v (h.4 port v at) (λ j u _ e. h.4 j u e), RightFor-rest h.2 h.3 x.answer (answers_in items) h.5, h.6.1, h.7.1), refl)

-- and then this is handed over
pub gives_behind : (n port : ℕ) (v : ReplyView) (x : Delivery) → Pushes Replying n port v x (Gave v x) → PushesAfter Replying n port (Dropped v) x Gave
gives_behind n port v x push old w same = subst (λ u. Pushes Replying n port u x (Gave u x)) (sym same) push
