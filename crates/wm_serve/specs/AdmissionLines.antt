-- What a server writes when sessions may come.
use Rattle.std.specs.Prelude.{ℕ, List, codes}

-- the line that says that the server is ready
abbrev pub ready_bytes : List ℕ
ready_bytes = codes "ready\n"
