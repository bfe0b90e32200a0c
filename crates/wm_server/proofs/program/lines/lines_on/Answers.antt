use Rattle.wm_server.proofs.program.lines.lines_on.Goals as goal

pub returns-in-Served-clause-served : goal.returns-in-Served-clause-served
returns-in-Served-clause-served g c = λ zero h input e. c.serve_lines-ending.ensures.served c.in-Served.is h input e

pub returns-in-Served-clause-answered : goal.returns-in-Served-clause-answered
returns-in-Served-clause-answered g c = λ zero input e. c.serve_lines-ending.ensures.answered c.in-Served.is input e
