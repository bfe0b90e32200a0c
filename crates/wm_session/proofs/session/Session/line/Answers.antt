use Rattle.std.proofs.Common.{List, [], true, false, refl, subst}
use Rattle.std.proofs.lemmas.List.{append-nil}
use Rattle.wm_lines.specs.Lines.{request_of_line}
use Rattle.wm_registry.specs.declared.command.Command.{Command}
use Rattle.wm_session.specs.session.Asked.{asked_by}
use Rattle.wm_session.proofs.lemmas.session.DueLemmas.{line_exactly}
use Rattle.wm_session.proofs.session.Session.line.Goals as goal

pub returns-then-is_whole-clause-ok : goal.returns-then-is_whole-clause-ok
returns-then-is_whole-clause-ok g c = record {
  faults = c.reply-faults.result;
  between = c.reply-faults.new.out.items;
  mid = c.reply-faults.new.self.front;
  left = c.reply-faults.new.self.subscriptions;
  answers = rw c.in_ok-try_reserve.ensures.items at c.reply-faults.ensures.met;
  whole = true;
  tells = rw c.if-is_whole.true at c.tell_due-is_whole.ensures.told;
  faults_are = refl;
}

pub returns-else-is_whole-clause-ok : goal.returns-else-is_whole-clause-ok
returns-else-is_whole-clause-ok g c = record {
  faults = c.reply-faults.result;
  between = c.reply-faults.new.out.items;
  mid = c.reply-faults.new.self.front;
  left = c.reply-faults.new.self.subscriptions;
  answers = rw c.in_ok-try_reserve.ensures.items at c.reply-faults.ensures.met;
  whole = false;
  tells = rw c.if-is_whole.false at c.tell_due-is_whole.ensures.told;
  faults_are = refl;
}

pub returns-then-is_whole-clause-own : goal.returns-then-is_whole-clause-own
returns-then-is_whole-clause-own g c = λ state own.
    line_exactly g.F.Front.met state own c.args.self.now.front c.args.self.now.subscriptions c.args.moment c.args.line.now _ c.args.out.now.items _ c.tell_due-is_whole.new.self.front c.tell_due-is_whole.new.self.subscriptions (returns-then-is_whole-clause-ok g c)

pub returns-else-is_whole-clause-own : goal.returns-else-is_whole-clause-own
returns-else-is_whole-clause-own g c = λ state own.
    line_exactly g.F.Front.met state own c.args.self.now.front c.args.self.now.subscriptions c.args.moment c.args.line.now _ c.args.out.now.items _ c.tell_due-is_whole.new.self.front c.tell_due-is_whole.new.self.subscriptions (returns-else-is_whole-clause-ok g c)

pub returns-then-is_whole-clause-later : goal.returns-then-is_whole-clause-later
returns-then-is_whole-clause-later g c =
    let asked : List Command = asked_by (request_of_line c.args.line.now) in
    subst (λ l. g.F.Front.leads_to c.args.self.now.front l c.tell_due-is_whole.new.self.front) (append-nil asked)
    (g.met.F.Front.goes_on c.args.self.now.front c.reply-faults.new.self.front c.tell_due-is_whole.new.self.front asked [] c.reply-faults.ensures.later c.tell_due-is_whole.ensures.later)

pub returns-else-is_whole-clause-later : goal.returns-else-is_whole-clause-later
returns-else-is_whole-clause-later g c =
    let asked : List Command = asked_by (request_of_line c.args.line.now) in
    subst (λ l. g.F.Front.leads_to c.args.self.now.front l c.tell_due-is_whole.new.self.front) (append-nil asked)
    (g.met.F.Front.goes_on c.args.self.now.front c.reply-faults.new.self.front c.tell_due-is_whole.new.self.front asked [] c.reply-faults.ensures.later c.tell_due-is_whole.ensures.later)
