use Rattle.std.proofs.Common.{[], ◌∷◌, sym, refl, ◌∙◌}
use Rattle.wm_session.specs.local.Locals.{front_state_of, session_state_of}
use Rattle.wm_session.specs.local.LocalLaws.{stays}
use Rattle.wm_session.proofs.lemmas.local.LocalLemmas.{begin_refused, met_with, no_room, views_changed, views_same}
use Rattle.wm_session.proofs.lemmas.local.MetLemmas.{submitted}
use Rattle.wm_session.proofs.local.local_front.LocalFrontFront.submit.Goals as goal

pub returns-in-Begin : goal.returns-in-Begin
returns-in-Begin g c = record {
  met = submitted (front_state_of g.D.Disk) _ _ _ _ (begin_refused (front_state_of g.D.Disk c.args.self.now) c.args.command (rw c.in-Begin.is refl));
  later = stays g.D.Disk (c.args.command ∷ []) c.args.self.now.store;
}

pub returns-in_default-view_change : goal.returns-in_default-view_change
returns-in_default-view_change g c = record {
  met = submitted (front_state_of g.D.Disk) _ _ _ _ (no_room (front_state_of g.D.Disk c.args.self.now) c.args.command);
  later = stays g.D.Disk (c.args.command ∷ []) c.args.self.now.store;
}

pub returns-then-is_err : goal.returns-then-is_err
returns-then-is_err g c = record {
  met = submitted (front_state_of g.D.Disk) _ _ _ _ (rw c.try_reserve.ensures.items (no_room (front_state_of g.D.Disk c.args.self.now) c.args.command));
  later = stays g.D.Disk (c.args.command ∷ []) c.args.self.now.store;
}

pub returns-then-is_change : goal.returns-then-is_change
returns-then-is_change g c =
    let s = session_state_of c.args.self.now in
    let reply = c.commit_alone-reply.result in
    record {
      met = submitted (front_state_of g.D.Disk) _ _ _ _ (met_with g.D.Disk c.args.self.now.store c.commit_alone-reply.new.store c.args.command reply c.args.self.now.views.items c.change_views.new.views.items
          (c.commit_alone-reply.ensures.met c.args.self.now.views.items)
          (views_changed s c.args.command reply c.change_views.new.views.items (sym c.is_change.ensures ∙ c.if-is_change.true) (c.change_views.ensures s c.args.command c.in-Ok.ensures c.try_reserve.ensures.items)));
      later = c.commit_alone-reply.ensures.later;
    }

pub returns-else-is_change : goal.returns-else-is_change
returns-else-is_change g c =
    let s = session_state_of c.args.self.now in
    let reply = c.commit_alone-reply.result in
    record {
      met = submitted (front_state_of g.D.Disk) _ _ _ _ (met_with g.D.Disk c.args.self.now.store c.commit_alone-reply.new.store c.args.command reply c.args.self.now.views.items c.try_reserve.new.self.items
          (c.commit_alone-reply.ensures.met c.args.self.now.views.items)
          (views_same s c.args.command reply c.try_reserve.new.self.items (sym c.is_change.ensures ∙ c.if-is_change.false) c.try_reserve.ensures.items));
      later = c.commit_alone-reply.ensures.later;
    }
