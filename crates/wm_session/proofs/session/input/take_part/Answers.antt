use Rattle.std.proofs.Common.{◌≡◌, subst, rules, length}
use Rattle.std.specs.Io.BufRead.{FillKeeps}
use Rattle.wm_session.proofs.lemmas.session.InputLemmas.{nothing_taken, end_taken, closed_taken, open_taken, shown_parts, kept_known}
use Rattle.wm_session.proofs.session.input.take_part.Goals as goal

pub returns-in-Err-clause-taken : goal.returns-in-Err-clause-taken
returns-in-Err-clause-taken g c = λ rest e.
    nothing_taken c.args.line.now.items c.args.is_lost.now _ rest (search rules) (kept_known _ _ rest e c.fill_buf.follows.holds-at-none.0)

pub returns-then-is_empty-clause-taken : goal.returns-then-is_empty-clause-taken
returns-then-is_empty-clause-taken g c = λ rest e.
    let none : length c.in-Ok.shown.now ≡ 0 = search rules in
    end_taken c.args.line.now.items c.args.is_lost.now _ rest (search rules) (kept_known _ _ rest e c.fill_buf.follows.holds-at-none.0) ((rw e at c.in-Ok.ensures.end) none)

pub returns-then-is_closed-clause-taken : goal.returns-then-is_closed-clause-taken
returns-then-is_closed-clause-taken g c = λ rest e.
    let rested = c.fill_buf.follows.lender-at-none in
    let filled = subst (FillKeeps _ (g.R.Read.remaining rested) (g.R.BufRead.consumable_len rested)) c.in-Ok.is c.fill_buf.follows.holds-at-none in
    let len = c.through_newline-len in
    let parts = shown_parts _ _ _ _ c.in-Ok.shown.now len.result.0 rest e len.ensures.bound c.in-Ok.ensures.front filled.0 filled.1 c.consume.ensures.bytes in
    closed_taken c.args.line.now.items c.keep.new.line.items c.args.is_lost.now c.keep.new.is_lost _ _ c.in-Ok.shown.now len.result.0 rest len.ensures.bound parts
    (rw c.if-is_closed.true at len.ensures.splits) (rw c.split_at.ensures.front at c.keep.ensures.kept)

pub returns-else-is_closed-clause-taken : goal.returns-else-is_closed-clause-taken
returns-else-is_closed-clause-taken g c = λ rest e.
    let rested = c.fill_buf.follows.lender-at-none in
    let filled = subst (FillKeeps _ (g.R.Read.remaining rested) (g.R.BufRead.consumable_len rested)) c.in-Ok.is c.fill_buf.follows.holds-at-none in
    let len = c.through_newline-len in
    let parts = shown_parts _ _ _ _ c.in-Ok.shown.now len.result.0 rest e len.ensures.bound c.in-Ok.ensures.front filled.0 filled.1 c.consume.ensures.bytes in
    open_taken c.args.line.now.items c.keep.new.line.items c.args.is_lost.now c.keep.new.is_lost _ _ c.in-Ok.shown.now len.result.0 rest parts
    (rw c.if-is_closed.false at len.ensures.splits) (rw c.split_at.ensures.front at c.keep.ensures.kept)
