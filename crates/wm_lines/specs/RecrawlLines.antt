-- Lines of a server of sockets: what every line may ask, and beside it a crawl.
use Rattle.std.specs.Prelude.{ℕ, List, [], Bool, false, Option, Some, None, is_none, Result, Ok, Err, if◌then◌else◌, codes}
use Rattle.std.specs.Option.{option_map_or}
use Rattle.std.specs.Str.{bytes_eq}
use Rattle.serde_json.specs.Data.{Data}
use Rattle.serde_json.specs.Find.{at, as_str}
use Rattle.wm_disk.specs.declared.refusal.Refusal.{Refusal}
use Rattle.wm_disk.specs.declared.refusal.Refusal.TheVariants.{BadArguments, BadLine, BadPath}
use Rattle.wm_names.specs.Paths.{is_root_path}
use Rattle.wm_names.specs.declared.subtree.Subtree.{Subtree}
use Rattle.wm_lines.specs.Arguments.{text_at}
use Rattle.wm_lines.specs.Lines.{request_of, value_of_line}
use Rattle.wm_lines.specs.ListingLines.{subtree_of}
use Rattle.wm_lines.specs.declared.recrawl.ServerRequest.{ServerRequest}
use Rattle.wm_lines.specs.declared.recrawl.ServerRequest.TheVariants.{Common, Recrawl}
use Rattle.wm_lines.specs.declared.request.Request.{Request}

-- the part that is named: the whole root where none is
abbrev pub top_in : Option Data → Option (List ℕ)
top_in None = Some []
top_in (Some d) = as_str d

abbrev pub recrawl_at : List ℕ → Option Subtree → Result ServerRequest Refusal
recrawl_at root None = Err BadPath
recrawl_at root (Some subtree) = if is_root_path root then Ok (Recrawl root subtree) else Err BadPath

abbrev pub recrawl_with : Option (List ℕ) → Option (List ℕ) → Result ServerRequest Refusal
recrawl_with (Some root) (Some top) = recrawl_at root (subtree_of top)
recrawl_with _ _ = Err BadArguments

-- `recrawl` with a root path, or with that and a part of the root
abbrev pub recrawl_request : Data → Result ServerRequest Refusal
recrawl_request d = if is_none (at 3 d) then recrawl_with (text_at 1 d) (top_in (at 2 d)) else Err BadArguments

abbrev pub asks_recrawl : Option (List ℕ) → Bool
asks_recrawl name = option_map_or (λ text. bytes_eq text (codes "recrawl")) name false

abbrev pub common : Result Request Refusal → Result ServerRequest Refusal
common (Ok request) = Ok (Common request)
common (Err e) = Err e

abbrev pub server_request_of : Data → Result ServerRequest Refusal
server_request_of d = if asks_recrawl (text_at 0 d) then recrawl_request d else common (request_of d)

abbrev pub server_request_of_text : Option Data → Result ServerRequest Refusal
server_request_of_text None = Err BadLine
server_request_of_text (Some d) = server_request_of d

-- a line, with its newline if it has one
abbrev pub server_request_of_line : List ℕ → Result ServerRequest Refusal
server_request_of_line line = server_request_of_text (value_of_line line)
