-- What is no root: the bytes begin with the parts of no root within its limits.
use Rattle.std.proofs.Common.{◌≡◌, ℕ, ◌^◌, ◌<◌, List, ◌++◌, drop, sym, subst, ◌∙◌, arith}
use Rattle.std.proofs.lemmas.List.{length-append}
use Rattle.byteorder.specs.Endian.{big_bytes}
use Rattle.wm_wire.specs.Laws.{alone_u64}
use Rattle.wm_wire.specs.ListLaws.{alone_list}
use Rattle.wm_wire.specs.PairLaws.{alone_pair}
use Rattle.wm_wire.specs.Spelling.{text, Alone, BeginsWith, NoneBegins, IsList, IsPair, list_spelling, pair_spelling}
use Rattle.wm_registry.specs.PathSpelling.{IsPath, alone_path}
use Rattle.wm_registry.specs.Spelling.{IsTrigger, IsRoot, trigger_spelling, root_spelling}
use Rattle.wm_registry.specs.StateLaws.{short_root}
use Rattle.wm_registry.specs.TriggerLaws.{alone_trigger}
use Rattle.wm_registry.specs.Triggers.{Definition}
use Rattle.wm_registry.specs.declared.root.Root.{Root}
use Rattle.wm_registry.specs.declared.version.Version.{Version}

-- ---- a path, and a number with triggers, as they are read one after another

abbrev pub EndFits : Version → ℕ × List Definition → Type 0
EndFits v = IsPair (λ n. n < 2 ^ 64) (big_bytes 8) (IsList 64 (IsTrigger v) (trigger_spelling v)) (list_spelling (trigger_spelling v))

abbrev pub end_spelling : Version → ℕ × List Definition → List ℕ
end_spelling v = pair_spelling (big_bytes 8) (list_spelling (trigger_spelling v))

abbrev pub PartsFit : Version → List ℕ × (ℕ × List Definition) → Type 0
PartsFit v = IsPair IsPath text (EndFits v) (end_spelling v)

abbrev pub parts_spelling : Version → List ℕ × (ℕ × List Definition) → List ℕ
parts_spelling v = pair_spelling text (end_spelling v)

-- the root of these parts, and the parts of a root
abbrev pub root_of : List ℕ × (ℕ × List Definition) → List ℕ × Root
root_of p = (p.0, record { number = p.1.0; triggers = p.1.1 })

abbrev pub parts_of : List ℕ × Root → List ℕ × (ℕ × List Definition)
parts_of x = (x.0, (x.1.number, x.1.triggers))

parts_fit : (v : Version) (x : List ℕ × Root) → IsRoot v x → PartsFit v (parts_of x)
parts_fit v x h =
    let whole = short_root v x h in
    let behind = length-append (text x.0) (big_bytes 8 x.1.number ++ list_spelling (trigger_spelling v) x.1.triggers) in
    record {
      first = h.path;
      second = record { first = omega (arith, h.number); second = h.triggers; short = omega (arith, whole, behind) };
      short = whole;
    }

alone_parts : (v : Version) → Alone (PartsFit v) (parts_spelling v)
alone_parts v = alone_pair IsPath text (EndFits v) (end_spelling v) alone_path
    (alone_pair (λ n. n < 2 ^ 64) (big_bytes 8) (IsList 64 (IsTrigger v) (trigger_spelling v)) (list_spelling (trigger_spelling v)) alone_u64 (alone_list 64 (IsTrigger v) (trigger_spelling v) (alone_trigger v)))

pub no_parts : (v : Version) (bytes : List ℕ) → NoneBegins (PartsFit v) (parts_spelling v) bytes → NoneBegins (IsRoot v) (root_spelling v) bytes
no_parts v bytes none x rest h e = none (parts_of x) rest (parts_fit v x h) e

-- where the parts that were read are those of no root, no root begins the bytes
pub no_root : (v : Version) (bytes : List ℕ) (p : List ℕ × (ℕ × List Definition)) (size : ℕ) → BeginsWith (PartsFit v) (parts_spelling v) bytes p size → (IsRoot v (root_of p) → ⊥) → NoneBegins (IsRoot v) (root_spelling v) bytes
no_root v bytes p size b wrong x rest h e =
    let same : parts_of x ≡ p = alone_parts v (parts_of x) p rest (drop size bytes) (parts_fit v x h) b.known (sym e ∙ b.parts) in
    wrong (subst (λ q. IsRoot v (root_of q)) same h)
