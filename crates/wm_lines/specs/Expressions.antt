-- Terms as lists of steps: by this code two terms are told apart.
use Rattle.std.specs.Prelude.{◌≡◌, ℕ, List, [], ◌∷◌, refl}
use Rattle.std.proofs.Common.{ap, ◌∙◌}
use Rattle.std.specs.Coded.{Coded, code_by}
use Rattle.wm_names.specs.declared.entry.Kind.{Kind}
use Rattle.wm_expr.specs.declared.expr.Scope.{Scope}
use Rattle.wm_expr.specs.declared.expr.Comparison.{Comparison}
use Rattle.wm_expr.specs.Terms.{Term, Always, Never, Not, AllOf, AnyOf, Name, Suffix, OfType, Exists, Empty, Size, Match, Terms, no_more, more}

-- what is done with the terms so far, of which the last stands first
pub data TermStep : Type 0 where
  put_always : TermStep
  put_never : TermStep
  put_name : List (List ℕ) → Scope → TermStep
  put_suffix : List (List ℕ) → TermStep
  put_type : Kind → TermStep
  put_exists : TermStep
  put_empty : TermStep
  put_size : Comparison → ℕ → TermStep
  put_match : List ℕ → Scope → TermStep
  put_none : TermStep
  negate : TermStep
  take_one : TermStep
  make_anyof : TermStep

abbrev mutual
  pub steps : Term → List TermStep → List TermStep
  steps Always rest = put_always ∷ rest
  steps Never rest = put_never ∷ rest
  steps (Not x) rest = steps x (negate ∷ rest)
  steps (AllOf xs) rest = steps_all xs rest
  steps (AnyOf xs) rest = steps_all xs (make_anyof ∷ rest)
  steps (Name names scope) rest = put_name names scope ∷ rest
  steps (Suffix suffixes) rest = put_suffix suffixes ∷ rest
  steps (OfType kind) rest = put_type kind ∷ rest
  steps Exists rest = put_exists ∷ rest
  steps Empty rest = put_empty ∷ rest
  steps (Size op n) rest = put_size op n ∷ rest
  steps (Match pattern scope) rest = put_match pattern scope ∷ rest

  pub steps_all : Terms → List TermStep → List TermStep
  steps_all no_more rest = put_none ∷ rest
  steps_all (more x xs) rest = steps_all xs (steps x (take_one ∷ rest))

abbrev pub negated : List Term → List Term
negated [] = []
negated (x ∷ ts) = Not x ∷ ts

abbrev pub with_one : Term → List Term → List Term
with_one x (AllOf xs ∷ ts) = AllOf (more x xs) ∷ ts
with_one x ts = ts

abbrev pub one_taken : List Term → List Term
one_taken [] = []
one_taken (x ∷ ts) = with_one x ts

abbrev pub made_anyof : List Term → List Term
made_anyof (AllOf xs ∷ ts) = AnyOf xs ∷ ts
made_anyof ts = ts

abbrev pub done : TermStep → List Term → List Term
done put_always ts = Always ∷ ts
done put_never ts = Never ∷ ts
done (put_name names scope) ts = Name names scope ∷ ts
done (put_suffix suffixes) ts = Suffix suffixes ∷ ts
done (put_type kind) ts = OfType kind ∷ ts
done put_exists ts = Exists ∷ ts
done put_empty ts = Empty ∷ ts
done (put_size op n) ts = Size op n ∷ ts
done (put_match pattern scope) ts = Match pattern scope ∷ ts
done put_none ts = AllOf no_more ∷ ts
done negate ts = negated ts
done take_one ts = one_taken ts
done make_anyof ts = made_anyof ts

abbrev pub all_done : List TermStep → List Term → List Term
all_done [] ts = ts
all_done (s ∷ rest) ts = all_done rest (done s ts)

abbrev pub first_term : List Term → Term
first_term [] = Always
first_term (x ∷ ts) = x

abbrev mutual
  pub steps_are_done : (x : Term) (rest : List TermStep) (ts : List Term) → all_done (steps x rest) ts ≡ all_done rest (x ∷ ts)
  steps_are_done Always rest ts = refl
  steps_are_done Never rest ts = refl
  steps_are_done (Not x) rest ts = steps_are_done x (negate ∷ rest) ts
  steps_are_done (AllOf xs) rest ts = all_are_done xs rest ts
  steps_are_done (AnyOf xs) rest ts = all_are_done xs (make_anyof ∷ rest) ts
  steps_are_done (Name names scope) rest ts = refl
  steps_are_done (Suffix suffixes) rest ts = refl
  steps_are_done (OfType kind) rest ts = refl
  steps_are_done Exists rest ts = refl
  steps_are_done Empty rest ts = refl
  steps_are_done (Size op n) rest ts = refl
  steps_are_done (Match pattern scope) rest ts = refl

  pub all_are_done : (xs : Terms) (rest : List TermStep) (ts : List Term) → all_done (steps_all xs rest) ts ≡ all_done rest (AllOf xs ∷ ts)
  all_are_done no_more rest ts = refl
  all_are_done (more x xs) rest ts = all_are_done xs (steps x (take_one ∷ rest)) ts ∙ steps_are_done x (take_one ∷ rest) (AllOf xs ∷ ts)

-- a term is stored as its steps
abbrev pub term_code : Coded (List TermStep) → Coded Term
term_code code = code_by (List TermStep) code (λ x. steps x []) (λ l. first_term (all_done l [])) (λ x. ap first_term (steps_are_done x [] []))
