-- Of what kind a request is, and about which root.
use Rattle.std.specs.Prelude.{ℕ, List, Option, None, Some, Result, Ok, Err}
use Rattle.wm_disk.specs.declared.refusal.Refusal.{Refusal}
use Rattle.wm_lines.specs.declared.recrawl.ServerRequest.{ServerRequest}
use Rattle.wm_lines.specs.declared.recrawl.ServerRequest.TheVariants.{Common, Recrawl}
use Rattle.wm_lines.specs.declared.request.Request.{Request}
use Rattle.wm_lines.specs.declared.request.Request.TheVariants as requests
use Rattle.wm_parts.specs.declared.kinds.RequestKind.{RequestKind}
use Rattle.wm_parts.specs.declared.kinds.RequestKind.TheVariants as kinds

abbrev pub common_kind : Request → RequestKind
common_kind (requests.Watch root) = kinds.Watch
common_kind (requests.Trigger root trigger) = kinds.Trigger
common_kind (requests.Observe root pairs) = kinds.Observe
common_kind (requests.Query root inquiry) = kinds.Query
common_kind (requests.Subscribe root name inquiry) = kinds.Subscribe
common_kind request = kinds.Other

abbrev pub kind_of_request : ServerRequest → RequestKind
kind_of_request (Recrawl root subtree) = kinds.Recrawl
kind_of_request (Common request) = common_kind request

-- the kind of a line, by how a server reads it
abbrev pub kind_of_read : Result ServerRequest Refusal → RequestKind
kind_of_read (Ok request) = kind_of_request request
kind_of_read (Err e) = kinds.Other

abbrev pub common_root : Request → Option (List ℕ)
common_root (requests.Watch root) = Some root
common_root (requests.Clock root) = Some root
common_root (requests.Query root inquiry) = Some root
common_root (requests.Subscribe root name inquiry) = Some root
common_root request = None

-- the root that a request has crawled, or about whose files it asks
abbrev pub root_of_request : ServerRequest → Option (List ℕ)
root_of_request (Recrawl root subtree) = Some root
root_of_request (Common request) = common_root request
