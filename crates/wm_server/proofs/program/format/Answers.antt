use Rattle.std.proofs.Common.{inl, inr, refl}
use Rattle.wm_server.proofs.program.format.Goals as goal

pub returns-in_default-written-clause-runs : goal.returns-in_default-written-clause-runs
returns-in_default-written-clause-runs g c = inr (inl (
  refl,
  record {
    begun = c.create.new.self;
    before = c.in-Ok.file;
    after = c.write_format-written.new.disk;
    created = c.in-Ok.ensures;
    closed = c.close.ensures;
    formatted = c.in_default-written.ensures.formatted;
    durable = c.in_default-written.ensures.durable;
    shows = c.in_default-written.ensures.shows;
  },
))
