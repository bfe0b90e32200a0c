use Rattle.std.proofs.Common.{Some, None, if◌then◌else◌, refl, sym, ap}
use Rattle.wm_registry.specs.Triggers.{is_named}
use Rattle.wm_registry.specs.declared.reply.Reply.TheVariants.{Changed, Unchanged}
use Rattle.wm_registry.proofs.Branches.{same_place}
use Rattle.wm_registry.proofs.Sizes.{none_passes, some_passes}
use Rattle.wm_registry.proofs.meeting.reply_to_trigger_del.Goals as goal

pub returns-in-Some : goal.returns-in-Some
returns-in-Some c =
    let name = c.args.name.now in
    let triggers = c.args.root.now.triggers in
    let place = same_place name name c.as_slice.result.now triggers (Some c.in-Some.field-0) refl c.as_slice.ensures.value c.in-Some.ensures in
    sym (ap (λ b. if b then Changed else Unchanged) (some_passes (is_named name) triggers c.in-Some.field-0 place))

pub returns-in-None : goal.returns-in-None
returns-in-None c =
    let name = c.args.name.now in
    let triggers = c.args.root.now.triggers in
    let place = same_place name name c.as_slice.result.now triggers None refl c.as_slice.ensures.value c.in-None.ensures in
    sym (ap (λ b. if b then Changed else Unchanged) (none_passes (is_named name) triggers place))
