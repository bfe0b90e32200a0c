use Rattle.std.proofs.Common.{◌≡◌, ◌<◌, ◌^◌, sym, ◌∙◌, subst}
use Rattle.byteorder.specs.Endian.{big_bytes}
use Rattle.wm_wire.specs.Spelling.{NoneBegins, IsOptional, optional_spelling}
use Rattle.wm_registry.specs.Endings.{IsEnding, ending_spelling}
use Rattle.wm_registry.specs.declared.version.Version.{Version}
use Rattle.wm_registry.specs.declared.version.Version.TheVariants.{Two}
use Rattle.wm_registry.proofs.ending.EndingWire.take.Goals as goal

pub returns-in_default : goal.returns-in_default
returns-in_default g c =
    let none : NoneBegins (IsOptional (λ n. n < 2 ^ 32) (big_bytes 4)) (optional_spelling (big_bytes 4)) c.args.bytes.now = rw c.in_default.is at c.in_ok-most-in-Two.ensures in
    let two : Two ≡ g.V.Filed.version = sym c.in-Two.is ∙ c.kept_version.ensures in
    subst (λ (v : Version). NoneBegins (IsEnding v) (ending_spelling v) c.args.bytes.now) two (λ value rest h e. none value rest h.number e)
