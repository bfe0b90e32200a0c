use Rattle.wm_server.proofs.laws.every_restart.Goals as goal

pub returns : goal.returns
returns g c old middle new was left found last asked again honest first second =
    let content = g.D.Disk.seen middle in
    c.every_file.ensures content found left second.means (first.kept content (g.met.D.Disk.reads_stand middle honest))
