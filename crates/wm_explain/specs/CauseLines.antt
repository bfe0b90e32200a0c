-- What is said of a cause. The path stands first.
use Rattle.std.specs.Prelude.{◌++◌, List, codes, decimal, ℕ}
use Rattle.wm_explain.specs.Shown.{shown_text}
use Rattle.wm_explain.specs.declared.lines.Cause.{Cause}
use Rattle.wm_explain.specs.declared.lines.Cause.TheVariants.{NoFile, Damaged, Watchmand, Program, LongPath, Fixed}
use Rattle.wm_explain.specs.declared.lines.Trouble.{Trouble}
use Rattle.wm_explain.specs.declared.lines.Trouble.TheVariants.{NoFolder, Denied, IsFolder, NoRegularFile, Locked, NoStateFile, IsDamaged, IsRetired, HasMoved, NoSuchFile, NoTarget, NotTarget, IsThere, NotMade, Listened, NoSocket, NoServer, Unserved}

abbrev pub trouble_text : Trouble → List ℕ
trouble_text NoFolder = codes "its folder isn't there"
trouble_text Denied = codes "there is no right to it"
trouble_text IsFolder = codes "this is a folder"
trouble_text NoRegularFile = codes "this is no regular file"
trouble_text Locked = codes "another program has it"
trouble_text NoStateFile = codes "this is no state file of watchmand"
trouble_text IsDamaged = codes "this state file is damaged"
trouble_text IsRetired = codes "its registry was migrated; serve the file into which it was"
trouble_text HasMoved = codes "this state file has version 2 already"
trouble_text NoSuchFile = codes "no such file"
trouble_text NoTarget = codes "no such file, and it can't be made, or OLD was migrated into another"
trouble_text NotTarget = codes "OLD was migrated into another file, or this one is damaged"
trouble_text IsThere = codes "is there already"
trouble_text NotMade = codes "can't be made: look at the rights of its folder and at the disk"
trouble_text Listened = codes "a server listens there"
trouble_text NoSocket = codes "this is no socket"
trouble_text NoServer = codes "no such file (is the server running?)"
trouble_text Unserved = codes "nobody listens there (is the server running?)"

-- the path, and what is said of it
abbrev pub said_of_path : (path text : List ℕ) → List ℕ
said_of_path path text = path ++ codes ": " ++ text ++ codes "\n"

-- the path, and which program has it
abbrev pub holder_said : (path program : List ℕ) → (process : ℕ) → List ℕ
holder_said path program process = path ++ codes ": another " ++ program ++ codes " has it (pid " ++ decimal process ++ codes ")\n"

-- the command that makes a state file at a path
abbrev pub command : (path : List ℕ) → List ℕ
command path = codes "'watchmand format " ++ path ++ codes "'"

-- a text, a command and what it does
abbrev pub advice : (text command effect : List ℕ) → List ℕ
advice text command effect = text ++ codes " " ++ command ++ codes " " ++ effect

-- a path that is too long isn't repeated
abbrev pub long_said : (bytes : ℕ) → List ℕ
long_said bytes = codes "socket: the path has " ++ decimal bytes ++ codes " bytes, at most 107\n"

-- only what is damaged is to be moved away
abbrev pub line_with : List ℕ → Cause → List ℕ
line_with path NoFile = said_of_path path (advice (codes "no such file;") (command path) (codes "makes it"))
line_with path Damaged = said_of_path path (advice (codes "this state file is damaged; put a copy back, or move it away and") (command path) (codes "makes a new one"))
line_with path (Watchmand process) = holder_said path (codes "watchmand") process
line_with path (Program process) = holder_said path (codes "program") process
line_with path (LongPath bytes) = long_said bytes
line_with path (Fixed trouble) = said_of_path path (trouble_text trouble)

abbrev pub cause_line : List ℕ → Cause → List ℕ
cause_line path cause = line_with (shown_text path) cause
