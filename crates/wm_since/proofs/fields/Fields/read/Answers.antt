use Rattle.std.proofs.Common.{rules, ◌≡◌, ◌<◌, ℕ, true, List, Some, None, cond, length, map, filter, sym, ap, subst, ◌∙◌}
use Rattle.wm_since.specs.declared.field.Field.{Field}
use Rattle.wm_since.specs.Fields.{by_name, are_ordered, is_among, field_name}
use Rattle.wm_since.proofs.Naming.{part_in_order, some_fields}
use Rattle.wm_since.proofs.fields.Fields.read.Goals as goal

pub invariant_of-result : goal.invariant_of-result
invariant_of-result c =
    let names : List (List ℕ) = map (λ n. n.now) c.args.names.now in
    let yes : c.are_fields.result ≡ true = search rules in
    subst (λ (fields : List Field). (0 < length fields) × (are_ordered fields ≡ true)) (sym c.in_ok-fields.ensures)
    (some_fields names (sym c.are_fields.ensures ∙ yes), part_in_order names)

pub returns-clause-exact : goal.returns-clause-exact
returns-clause-exact c =
    let names : List (List ℕ) = map (λ n. n.now) c.args.names.now in
    let yes : c.are_fields.result ≡ true = search rules in
    ap (λ b. cond b (Some (filter (λ x. is_among (field_name x) names) by_name)) None) (sym c.are_fields.ensures ∙ yes)
    ∙ ap (λ (fields : List Field). Some fields) (sym c.in_ok-fields.ensures)
