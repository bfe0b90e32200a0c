use Rattle.std.proofs.Common.{◌∙◌, rules}
use Rattle.wm_client.proofs.Asking.{asks_root}
use Rattle.wm_client.proofs.syncing.ask_once.Goals as goal

pub returns-clause-told : goal.returns-clause-told
returns-clause-told g c input known =
    let told = c.read_line.ensures.told (search rules) input known in
    asks_root input c.deref-2.result.now _ _ c.in_ok-root_in.field-0 (c.deref-2.ensures.value ∙ told.0) told.1 c.in_ok-root_in.ensures
