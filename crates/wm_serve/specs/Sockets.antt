-- Which file at the path of its socket a server removes.
use Rattle.std.specs.Prelude.{◌&&◌, ◌==◌, Bool, false, Option, Some}
use Rattle.wm_serve.specs.declared.socket.server_socket.Identity.{Identity}

-- both files are known, and have the same device and inode
abbrev pub is_own_file : Option Identity → Option Identity → Bool
is_own_file (Some own) (Some found) = (own.device == found.device) && (own.inode == found.inode)
is_own_file own found = false
