-- The viewer of a root at its place among the viewers of a session.
use Rattle.std.proofs.Common.{◌≡◌, ◌∙◌, ◌⊎◌, inl, inr, ◌<◌, ◌+◌, ℕ, List, [], ◌∷◌, ◌++◌, length, get_or, take, drop, true, false, ap, sym, subst, refl, zero, suc, arith, rules, append_assoc}
use Rattle.std.specs.Prelude.{Result}
use Rattle.std.specs.List.{list_any}
use Rattle.std.proofs.Common.{slice_set}
use Rattle.std.proofs.lemmas.List.{drop_more, take-append-drop}
use Rattle.wm_disk.specs.declared.refusal.Refusal.{Refusal}
use mathlib.Core.List.{IsPrefix}
use Rattle.wm_view.specs.declared.op.Op.{Op}
use Rattle.wm_share.specs.PublishedLists.{PublishedList, ViewerState, Begins}
use Rattle.wm_front.specs.RootsSeen.{IsViewerPlaced, IsSeenMore, IsShownBy, ViewerList, is_viewer_of}

-- what lies outside of a list
nobody : ViewerState
nobody = record { list = record { share = record { number = 0; incarnation = 0; root = 0 }; operations = [] }; is_disconnected = false }

parted : {X : Type 0} (xs : List X) (i : ℕ) (d : X) → i < length xs → xs ≡ take i xs ++ get_or xs i d ∷ drop (i + 1) xs
parted xs i d lt = sym (take-append-drop i xs) ∙ ap (λ l. take i xs ++ l) (drop_more xs i d lt)

taken : {X : Type 0} (xs : List X) (i : ℕ) → i < length xs → i ≡ length (take i xs)
taken [] i lt = absurd (omega (arith, lt))
taken (x ∷ xs) zero lt = refl
taken (x ∷ xs) (suc i) lt = ap (λ (n : ℕ). suc n) (taken xs i (omega (arith, lt)))

numbered : (number : ℕ) (v : ViewerState) → is_viewer_of number v ≡ true → v.list.share.root ≡ number
numbered number v is = search (rules, is)

-- it stands there already
pub found_there : (number place : ℕ) (all : ViewerList) → place < length all → list_any (is_viewer_of number) (take place all) ≡ false
    → ((d : ViewerState) → is_viewer_of number (get_or all place d) ≡ true) → IsViewerPlaced number place all all
found_there number place all lt first is = record {
  before = take place all;
  after = drop (place + 1) all;
  viewer = get_or all place nobody;
  had = inl (parted all place nobody lt);
  place_is = taken all place lt;
  within = lt;
  now_is = parted all place nobody lt;
  first = first;
  own = numbered number (get_or all place nobody) (is nobody);
}

longer : {X : Type 0} (xs : List X) (x : X) → length xs < length (xs ++ x ∷ [])
longer [] x = omega arith
longer (y ∷ xs) x = let less = longer xs x in omega (arith, less)

-- it is taken behind the others
pub taken_behind : (number place : ℕ) (all now : ViewerList) (v : ViewerState) → list_any (is_viewer_of number) all ≡ false → place ≡ length all → now ≡ all ++ v ∷ [] → is_viewer_of number v ≡ true → IsViewerPlaced number place all now
taken_behind number place all now v none is pushed own = record {
  before = all;
  after = [];
  viewer = v;
  had = inr (refl, refl);
  place_is = is;
  within = subst (λ (l : ViewerList). place < length l) (sym pushed) (subst (λ (n : ℕ). n < length (all ++ v ∷ [])) (sym is) (longer all v));
  now_is = pushed;
  first = none;
  own = numbered number v own;
}

-- ---- what is done at the place

more_begun : (a b c : List Op) → IsPrefix a b → IsPrefix b c → IsPrefix a c
more_begun a b c x y = (x.0 ++ y.0, sym (append_assoc a x.0 y.0) ∙ ap (λ (l : List Op). l ++ y.0) x.1 ∙ y.1)

pub begins_then : (a b c : PublishedList) → Begins a b → Begins b c → Begins a c
begins_then a b c x y = (x.0 ∙ y.0, more_begun a.operations b.operations c.operations x.1 y.1)

at_length : {X : Type 0} (before after : List X) (x d : X) → get_or (before ++ x ∷ after) (length before) d ≡ x
at_length [] after x d = refl
at_length (y ∷ before) after x d = at_length before after x d

set_length : {X : Type 0} (before after : List X) (x y : X) → slice_set (before ++ x ∷ after) (length before) y ≡ before ++ y ∷ after
set_length [] after x y = refl
set_length (z ∷ before) after x y = ap (λ l. z ∷ l) (set_length before after x y)

-- the viewer at the place has seen more, and does so
pub done_at : (number place : ℕ) (old mid now : ViewerList) (x new : ViewerState) (Does : ViewerState → ViewerState → Type 0) → IsViewerPlaced number place old mid
    → x ≡ get_or mid place x → now ≡ slice_set mid place new → Begins x.list new.list → Does x new → (more : IsSeenMore number old now) × Does more.viewer more.new
done_at number place old mid now x new Does p at set sees does =
    let here : p.viewer ≡ x =
    sym (at_length p.before p.after p.viewer x) ∙ ap (λ (l : ViewerList). get_or l (length p.before) x) (sym p.now_is) ∙ ap (λ (n : ℕ). get_or mid n x) (sym p.place_is) ∙ sym at in (
      record {
        before = p.before;
        after = p.after;
        viewer = x;
        new = new;
        had = subst (λ (v : ViewerState). (old ≡ p.before ++ v ∷ p.after) ⊎ ((old ≡ p.before) × (p.after ≡ []))) here p.had;
        now_is = set ∙ ap (λ (n : ℕ). slice_set mid n new) p.place_is ∙ ap (λ (l : ViewerList). slice_set l (length p.before) new) p.now_is ∙ set_length p.before p.after p.viewer new;
        first = p.first;
        own = subst (λ (v : ViewerState). v.list.share.root ≡ number) here p.own;
        sees = sees;
      },
      does,
    )

-- and shows so
pub shown_at : {A : Type 0} (number place : ℕ) (old mid now : ViewerList) (x new : ViewerState) (result : Result A Refusal) (Shows : ViewerState → ViewerState → Type 0) → IsViewerPlaced number place old mid
    → x ≡ get_or mid place x → now ≡ slice_set mid place new → Begins x.list new.list → Shows x new → IsShownBy number old result now Shows
shown_at number place old mid now x new result Shows p at set sees shows = inr (done_at number place old mid now x new Shows p at set sees shows)

-- and no more than that is known of it
pub seen_at : (number place : ℕ) (old now : ViewerList) (x new : ViewerState) → IsViewerPlaced number place old old → x ≡ get_or old place x → now ≡ slice_set old place new → Begins x.list new.list → IsSeenMore number old now
seen_at number place old now x new p at set sees = (done_at number place old old now x new (λ before after. Unit {0}) p at set sees tt).0
