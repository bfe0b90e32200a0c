use Rattle.std.proofs.Common.{◌≡◌, ◌&&◌, ◌++◌, ◌∷◌, [], Bool, true, false, Err, None, refl, sym, ap, ◌∙◌, append_assoc}
use Rattle.std.specs.FinMap.{find, put}
use Rattle.std.proofs.lemmas.Result.{err_from_is_err_and}
use Rattle.wm_names.specs.Entries.{covers}
use Rattle.wm_names.specs.Paths.{Path, path_cmp, is_rel_path}
use Rattle.wm_names.specs.declared.subtree.Subtree.{Subtree}
use Rattle.wm_view.specs.Files.{Files}
use Rattle.wm_view.specs.Listings.{Found}
use Rattle.wm_lines.specs.ListingLines.{are_below}
use Rattle.wm_lines.specs.PairLines.{by_text}
use Rattle.wm_lines.proofs.ListedLemmas.{Entries, Turn, below_fails, below_more, new_refused, turn}
use Rattle.wm_lines.proofs.listing.read_paths.Goals as goal

and_false : (b : Bool) → (b && false) ≡ false
and_false true = refl
and_false false = refl

pub returns-in_err-path-clause-refused : goal.returns-in_err-path-clause-refused
returns-in_err-path-clause-refused c =
    let p = err_from_is_err_and c.from_residual.result c.from_residual.ensures.1 in
    let text = c.in-Some.text.now.now in
    let whole = c.loop-text.invariant.whole ∙ ap (λ (rest : Entries). c.loop-text.listing.files ++ by_text rest) c.in-Some.ensures.steps in
    rw (p.1, p.2) (λ ne.
    let kind = c.in_err-path.ensures.kinds ne in
    let bad = c.in_err-path.ensures.refused.0 (ap (λ x. Err x) kind) in
    (kind, ap (are_below c.args.subtree) whole ∙ below_fails c.args.subtree c.loop-text.listing.files (by_text c.next.new.self) text c.in-Some.meta.now (ap (λ (b : Bool). b && covers c.args.subtree text) bad)))

pub loop-text-preserved : goal.loop-text-preserved
loop-text-preserved c =
    let text = c.in-Some.text.now.now in
    let meta = c.in-Some.meta.now in
    let files = c.loop-text.listing.files in
    let rest = by_text c.next.new.self in
    let now : Turn (by_text c.args.files.now.entries) files rest text meta =
    turn c.args.files.now.entries files rest text meta c.into_iter-text-iterator.ensures.into_iter_gives.5
    (c.loop-text.invariant.whole ∙ ap (λ (l : Entries). files ++ by_text l) c.in-Some.ensures.steps) in
    let added : c.add.new.self.files ≡ files ++ (text, meta) ∷ [] =
    ap (λ (f : Found). f.files) c.in_ok-add.ensures.ok.2 ∙ (ap (λ (q : Path). put path_cmp q meta files) c.in_ok-path.ensures.ok.0 ∙ now.last) in
    let below : covers c.args.subtree text ≡ true =
    ap (λ (s : Subtree). covers s text) (sym c.loop-text.invariant.part) ∙ (ap (λ (q : Path). covers c.loop-text.listing.subtree q) (sym c.in_ok-path.ensures.ok.0) ∙ c.in_ok-add.ensures.ok.0) in
    record {
      whole = now.whole ∙ (sym (append_assoc files ((text, meta) ∷ []) rest) ∙ ap (λ (l : Files). l ++ rest) (sym added));
      part = ap (λ (f : Found). f.subtree) c.in_ok-add.ensures.ok.2 ∙ c.loop-text.invariant.part;
      good = ap (are_below c.args.subtree) added ∙ below_more c.args.subtree files text meta c.loop-text.invariant.good c.in_ok-path.ensures.ok.1 below;
    }

pub returns-in_err-add-clause-refused : goal.returns-in_err-add-clause-refused
returns-in_err-add-clause-refused c =
    let p = err_from_is_err_and c.from_residual-in_err-add.result c.from_residual-in_err-add.ensures.1 in
    let text = c.in-Some.text.now.now in
    let meta = c.in-Some.meta.now in
    let files = c.loop-text.listing.files in
    let rest = by_text c.next.new.self in
    let now : Turn (by_text c.args.files.now.entries) files rest text meta =
    turn c.args.files.now.entries files rest text meta c.into_iter-text-iterator.ensures.into_iter_gives.5
    (c.loop-text.invariant.whole ∙ ap (λ (l : Entries). files ++ by_text l) c.in-Some.ensures.steps) in
    let same = c.in_ok-path.ensures.ok.0 in
    let new : find path_cmp c.in_ok-path.path files ≡ None = ap (λ (q : Path). find path_cmp q files) same ∙ now.new in
    rw (p.1, p.2) (λ ne.
    let why = new_refused c.loop-text.listing c.in_ok-path.path _ c.in_err-add.ensures.refused new ne in
    let outside : covers c.args.subtree text ≡ false =
    ap (λ (s : Subtree). covers s text) (sym c.loop-text.invariant.part) ∙ (ap (λ (q : Path). covers c.loop-text.listing.subtree q) (sym same) ∙ why.1) in
    (why.0, ap (are_below c.args.subtree) now.whole ∙ below_fails c.args.subtree files rest text meta (ap (λ (b : Bool). is_rel_path text && b) outside ∙ and_false (is_rel_path text))))
