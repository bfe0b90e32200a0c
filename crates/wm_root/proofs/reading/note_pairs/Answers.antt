use Rattle.wm_root.proofs.reading.note_pairs.Goals as goal

pub returns : goal.returns
returns c = λ whole. ((c.note.ensures.complete whole).0, c.note.ensures.kept whole)
