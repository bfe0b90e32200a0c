use Rattle.std.proofs.Common.{◌≡◌, ◌+◌, refl, sym, ◌∙◌, ap, subst, arith, ℕ, List, ◌++◌, ◌∷◌, [], true, false, length, Bool}
use Rattle.std.specs.Prelude.{if◌then◌else◌}
use Rattle.wm_journal.specs.Records.{taken}
use Rattle.wm_registry.specs.Commands.{command_spelling}
use Rattle.wm_registry.specs.declared.command.Command.{Command}
use Rattle.wm_registry.specs.declared.reply.Reply.{Reply}
use Rattle.wm_registry.specs.Registry.{is_change}
use Rattle.wm_store.specs.UnderWay.{with_command}
use Rattle.wm_store.proofs.batch.Batch.push.Goals as goal
use Rattle.wm_registry.specs.declared.version.Version.{Version}

grown : (group : List Command) (c : Command) (r : Reply) → is_change r ≡ true → group ++ (c ∷ []) ≡ with_command group c r
grown group c r is = ap (λ (b : Bool). if b then group ++ (c ∷ []) else group) (sym is)

same : (group : List Command) (c : Command) (r : Reply) → is_change r ≡ false → group ≡ with_command group c r
same group c r is = ap (λ (b : Bool). if b then group ++ (c ∷ []) else group) (sym is)

takes : (version : Version) (size n : ℕ) (c : Command) (r : Reply) → n ≡ length (command_spelling version c) → is_change r ≡ true → size + (n + 1) ≡ size + taken (command_spelling version) (with_command [] c r)
takes version size n c r e is = omega (arith, e, ap (taken (command_spelling version)) (grown [] c r is))

takes_none : (version : Version) (size : ℕ) (c : Command) (r : Reply) → is_change r ≡ false → size ≡ size + taken (command_spelling version) (with_command [] c r)
takes_none version size c r is = omega (arith, ap (taken (command_spelling version)) (same [] c r is))

pub returns : goal.returns
returns g c =
    let old = c.args.self.now in
    let is : is_change c.args.reply ≡ true = sym c.if-not-is_change.ensures in
    let group = c.push_reserved-2.ensures in
    let pushed = c.push_reserved.ensures in
    record {
      next = refl;
      group = group.items ∙ ap (λ (x : Command). old.group.items ++ (x ∷ [])) c.new.ensures ∙ grown old.group.items c.args.command c.args.reply is;
      size = subst (λ (u : Version). old.size + (c.size_as.result + 1) ≡ old.size + taken (command_spelling u) (with_command [] c.args.command c.args.reply)) c.kept_version.ensures (takes c.kept_version.result old.size c.size_as.result c.args.command c.args.reply c.size_as.ensures.exact is);
      replies = pushed.items;
      first = refl;
      refused = refl;
      before = refl;
      len = pushed.len;
      group_len = omega (arith, group.len, pushed.len, c.requires.len);
      room = record { replies = omega (arith, pushed.capacity); group = omega (arith, group.capacity) };
    }
