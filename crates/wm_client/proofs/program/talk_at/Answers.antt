use Rattle.wm_client.proofs.program.talk_at.Goals as goal

pub returns : goal.returns
returns g c = c.synced_talk.ensures.whole
