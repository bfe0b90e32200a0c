-- Lines that begin and end a subscription.
use Rattle.std.specs.Prelude.{ℕ, List, Bool, ◌&&◌, Option, Some, None, is_none, Result, Ok, Err, if◌then◌else◌}
use Rattle.serde_json.specs.Data.{Data}
use Rattle.serde_json.specs.Find.{at}
use Rattle.wm_disk.specs.declared.refusal.Refusal.{Refusal}
use Rattle.wm_disk.specs.declared.refusal.Refusal.TheVariants.{BadArguments, BadPath}
use Rattle.wm_names.specs.Paths.{is_root_path}
use Rattle.wm_subs.specs.SubscriptionNames.{is_subscription_name}
use Rattle.wm_lines.specs.declared.query.Inquiry.{Inquiry}
use Rattle.wm_lines.specs.declared.request.Request.{Request}
use Rattle.wm_lines.specs.declared.request.Request.TheVariants.{Subscribe, Unsubscribe}
use Rattle.wm_lines.specs.Arguments.{text_at}
use Rattle.wm_lines.specs.Keys.{flag_in, object_at}
use Rattle.wm_lines.specs.QueryLines.{empty_key, has_query_keys, has_query_kinds, inquiry_in}

abbrev pub subscribe_at : List ℕ → List ℕ → Result Inquiry Refusal → Result Request Refusal
subscribe_at root name (Ok q) = Ok (Subscribe root name q)
subscribe_at root name (Err e) = Err e

abbrev pub subscribe_on : List ℕ → List ℕ → Data → Option Bool → Result Request Refusal
subscribe_on root name d None = Err BadArguments
subscribe_on root name d (Some b) = if is_root_path root then subscribe_at root name (inquiry_in b d) else Err BadPath

abbrev pub subscribe_with : Option (List ℕ) → Option (List ℕ) → Option Data → Result Request Refusal
subscribe_with (Some root) (Some name) (Some d) =
    if is_subscription_name name && (has_query_keys d && has_query_kinds d) then subscribe_on root name d (flag_in (empty_key d)) else Err BadArguments
subscribe_with _ _ _ = Err BadArguments

-- `subscribe` with a root path, a name and an object, which asks as that of `query` does
abbrev pub subscribe_request : Data → Result Request Refusal
subscribe_request d = if is_none (at 4 d) then subscribe_with (text_at 1 d) (text_at 2 d) (object_at 3 d) else Err BadArguments

abbrev pub unsubscribe_with : Option (List ℕ) → Option (List ℕ) → Result Request Refusal
unsubscribe_with (Some root) (Some name) =
    if is_subscription_name name then (if is_root_path root then Ok (Unsubscribe root name) else Err BadPath) else Err BadArguments
unsubscribe_with _ _ = Err BadArguments

-- `unsubscribe` with a root path and a name
abbrev pub unsubscribe_request : Data → Result Request Refusal
unsubscribe_request d = if is_none (at 3 d) then unsubscribe_with (text_at 1 d) (text_at 2 d) else Err BadArguments
