use Rattle.std.proofs.Common.{◌≡◌, true, false, is_some, List, [], ◌∷◌, ◌++◌, sym, ap, ◌∙◌}
use Rattle.wm_registry.specs.declared.command.Command.TheVariants as commands
use Rattle.wm_registry.specs.Registry.{is_change, reply_to}
use Rattle.wm_registry.specs.Roots.{State, is_watched}
use Rattle.wm_registry.specs.Triggers.{Definition}
use Rattle.wm_registry.proofs.Changing.{watched_more}
use Rattle.wm_registry.proofs.registry.Registry.watch.Goals as goal

pub invariant_of-self : goal.invariant_of-self
invariant_of-self c =
    let s : State = record { version = c.self.inside.version; incarnation = c.self.inside.incarnation; next = c.self.inside.next; roots = c.self.inside.roots.entries } in
    let path = c.args.path.now in
    let put = c.in-Ok-true.ensures.added c.in-Ok-true.field-0-test in
    let new : is_watched path c.args.self.now ≡ false = ap (is_watched path) (sym c.self.view_is) ∙ ap is_some put.0 in
    let met = c.reply_to_another-reply.ensures new in
    let changes : is_change c.reply_to_another-reply.result ≡ true = sym c.if-not-is_change.ensures in
    let accepted : is_change (reply_to s (commands.Watch path)) ≡ true = ap (λ (st : State). is_change (reply_to st (commands.Watch path))) c.self.view_is ∙ sym (ap is_change met) ∙ changes in
    let roots = put.1 ∙ ap (λ (ts : List Definition). s.roots ++ (path, record { number = s.next; triggers = ts }) ∷ []) c.new.ensures in
    watched_more s path c.put_new.new.roots.entries c.self.inside.size c.path_size.result c.self.invariant.0 c.self.invariant.1 c.path_size.ensures.fits accepted c.path_size.ensures.exact roots
