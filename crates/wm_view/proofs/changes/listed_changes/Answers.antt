use Rattle.std.proofs.Common.{◌≡◌, ◌∷◌, ◌+◌, T, cond, drop, Some, option_and_then, sym, ap, subst, ◌∙◌}
use Rattle.std.specs.BTreeMap.{get, is_at, IsOrdered}
use Rattle.std.specs.FinMap.{find, is_sorted}
use Rattle.std.specs.Option.{option_or}
use Rattle.wm_names.specs.Paths.{Path, path_cmp}
use Rattle.wm_names.specs.declared.entry.Meta.{Meta}
use Rattle.wm_view.specs.KnownPaths.{told}
use Rattle.wm_view.specs.Changes.{listed_change}
use Rattle.wm_view.specs.Steps.{known_or}
use Rattle.wm_view.specs.laws.Lists.{drop_here}
use Rattle.wm_view.proofs.Plans.{change_turn, same_turn}
use Rattle.wm_view.proofs.Recrawls.{drop_sorted}
use Rattle.wm_view.proofs.changes.listed_changes.Goals as goal
use Rattle.wm_view.proofs.changes.listed_changes.Goals.{in-Some+in_ok-path+in_ok-insert, in_default}

pub loop-entry-preserved : goal.loop-entry-preserved
loop-entry-preserved c =
    let ks = told c.args.paths.now in
    let b = c.args.begun_at in
    let t = c.args.tick in
    let m = c.args.moment in
    let files = c.args.files.now in
    let i = c.loop-entry.entry-index in
    let x : Path × Meta = c.entry-item.result in
    let rest = drop (i + 1) files in
    let e : drop i files ≡ x ∷ rest = drop_here files i x c.loop-entry-test.true c.entry-item.is in
    let s : T (is_sorted path_cmp (x ∷ rest)) = subst (λ l. T (is_sorted path_cmp l)) e (drop_sorted files i c.requires.files) in
    let change = λ (q : Path). listed_change (known_or ks q) b t m in
    let had = λ (p : Path). get path_cmp c.loop-entry.changes p in
    let before : (p : Path) → option_or (option_and_then (change p) (find path_cmp p (x ∷ rest))) (had p) ≡ option_and_then (change p) (find path_cmp p files) = λ p.
    ap (λ l. option_or (option_and_then (change p) (find path_cmp p l)) (had p)) (sym e) ∙ c.loop-entry.invariant.so_far p in
    let found : c.listed_change.result ≡ change x.0 x.1 = c.listed_change.ensures ∙ ap (λ k. listed_change k b t m x.1) c.known_or-known.ensures in
    elim c.match-listed_change.branch [
      | in-Some+in_ok-path+in_ok-insert w ↦ record {
        so_far = λ p.
            ap (λ g. option_or (option_and_then (change p) (find path_cmp p rest)) (get path_cmp g p)) w.changes-is
            ∙ ap (option_or (option_and_then (change p) (find path_cmp p rest))) (w.in_ok-insert.ensures.updates.0 p ∙ ap (λ q. cond (is_at (path_cmp q) p) (Some w.in-Some.known) (had p)) w.in_ok-path.ensures)
            ∙ change_turn x rest s change p (had p) w.in-Some.known (sym w.in-Some.is ∙ found)
            ∙ before p;
        ordered = subst (IsOrdered path_cmp) (sym w.changes-is) w.in_ok-insert.ensures.ordered;
      }
      | in_default w ↦ record {
        so_far = λ p.
            ap (λ g. option_or (option_and_then (change p) (find path_cmp p rest)) (get path_cmp g p)) w.changes-is
            ∙ same_turn x rest s change p (had p) (sym w.in_default.is ∙ found)
            ∙ before p;
        ordered = subst (IsOrdered path_cmp) (sym w.changes-is) c.loop-entry.invariant.ordered;
      }
    ]
