-- What is said of places: of a root, of a folder that can't be read, and of a socket at which no server answers. The path stands first, or what is wrong.
use Rattle.std.specs.Prelude.{◌++◌, ℕ, Bool, true, List, codes, decimal}
use Rattle.wm_explain.specs.CauseLines.{cause_line}
use Rattle.wm_explain.specs.Shown.{shown_text}
use Rattle.wm_explain.specs.declared.lines.Cause.{Cause}
use Rattle.wm_explain.specs.declared.lines.Cause.TheVariants.{Fixed}
use Rattle.wm_explain.specs.declared.lines.Trouble.TheVariants.{Denied, NoFolder, NoServer, Unserved}
use Rattle.wm_findings.specs.declared.places.RootFound.{RootFound}
use Rattle.wm_findings.specs.declared.places.RootFound.TheVariants as found
use Rattle.wm_findings.specs.declared.places.Unfed.{Unfed}
use Rattle.wm_findings.specs.declared.places.Unfed.TheVariants as unfed

abbrev pub place_line : (path text : List ℕ) → List ℕ
place_line path text = shown_text path ++ codes ": " ++ text ++ codes "\n"

-- ---- a root that is watched

abbrev pub link_said : (folder : List ℕ) → List ℕ
link_said folder = codes "a symbolic link leads to " ++ folder ++ codes "; the two paths are two roots, and 'wm watch' takes the latter"

abbrev pub root_line : List ℕ → RootFound → List ℕ
root_line root found.Nothing = place_line root (codes "no folder is there, so the root has no files: it is filled once a folder is made there, and 'wm unwatch ROOT' or [\"watch-del\",ROOT] ends the watch")
root_line root found.File = place_line root (codes "this is a file and no folder, so the root has no files: it is filled once a folder is made there, and 'wm unwatch ROOT' or [\"watch-del\",ROOT] ends the watch")
root_line root found.Unreadable = place_line root (codes "this folder can't be read: give the server's user the right to it, or watch a folder below")
root_line root (found.Link folder) = place_line root (link_said (shown_text folder.now))

-- a root that can't be fed
abbrev pub fed_line : List ℕ → Unfed → List ℕ
fed_line root unfed.Nothing = place_line root (codes "nothing is there: make the folder, and start wmfeed again")
fed_line root unfed.File = place_line root (codes "this is no folder: wmfeed takes SOCKET first, and then the folder ROOT")
fed_line root unfed.Unreadable = place_line root (codes "the folder can't be read; it is tried again")
fed_line root unfed.Uncrawled = place_line root (codes "the server can't read a folder of it, which 'wm status' names; it is tried again")

-- ---- folders that can't be read

abbrev pub unread_line : (folder : List ℕ) → List ℕ
unread_line folder = place_line folder (codes "the folder can't be read; what is in it isn't listed, or is known from before")

-- so many more, which aren't named
abbrev pub more_said : (count : ℕ) → List ℕ
more_said count = codes "and " ++ decimal count ++ codes " more folders below it can't be read"

abbrev pub more_line : (root : List ℕ) → (count : ℕ) → List ℕ
more_line root count = place_line root (more_said count)

-- ---- a socket

abbrev pub start_said : (socket : List ℕ) → List ℕ
start_said socket = codes "'wm up' starts one, or 'watchmand serve STATE " ++ socket ++ codes "'\n"

abbrev pub no_answer : (socket cause : List ℕ) → List ℕ
no_answer socket cause = socket ++ codes " (" ++ cause ++ codes "): "

abbrev pub no_server : (socket cause : List ℕ) → List ℕ
no_server socket cause = (codes "no server answers at " ++ no_answer socket cause) ++ start_said socket

abbrev pub away_line : (socket : List ℕ) → List ℕ
away_line socket = codes "no server answers at " ++ socket ++ codes " (its folder isn't there): 'wm up' makes its own folder and starts one\n"

-- there is no right to a socket that may be another user's
abbrev pub denied_line : List ℕ → (is_of_another : Bool) → List ℕ
denied_line socket true = place_line socket (codes "this is another user's, and there is no right to it: name the socket of your own server, which 'wm up' starts")
denied_line socket own = cause_line socket (Fixed Denied)

-- a server may be started if nobody listens; any other cause has its own line
abbrev pub server_line : List ℕ → Cause → (is_of_another : Bool) → List ℕ
server_line socket (Fixed NoServer) other = no_server (shown_text socket) (codes "no such file")
server_line socket (Fixed Unserved) other = no_server (shown_text socket) (codes "nobody listens there")
server_line socket (Fixed NoFolder) other = away_line (shown_text socket)
server_line socket (Fixed Denied) other = denied_line socket other
server_line socket cause other = cause_line socket cause
