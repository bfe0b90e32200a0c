-- The lines that ask for files have no float, unless the user's expression has one.
use Rattle.std.proofs.Common.{◌≡◌, ℕ, Bool, true, false, List, Option, Some, None, refl}
use Rattle.serde_json.specs.Data.{Data}
use Rattle.serde_json.specs.Written.{has_float}
use Rattle.wm_names.specs.Paths.{Path}
use Rattle.wm_commands.specs.Questions.{fields_data, query_data, query_object, subscribe_data}

object_no_float : (since : Option (List ℕ)) (is_json : Bool) (expression : Data) → has_float expression ≡ false → has_float (query_object since (fields_data is_json) expression) ≡ false
object_no_float None true expression none = rw (none) refl
object_no_float None false expression none = rw (none) refl
object_no_float (Some clock) true expression none = rw (none) refl
object_no_float (Some clock) false expression none = rw (none) refl

pub query_no_float : (root : Path) (since : Option (List ℕ)) (is_json : Bool) (expression : Data) → has_float expression ≡ false → has_float (query_data root (query_object since (fields_data is_json) expression)) ≡ false
query_no_float root since is_json expression none = rw (object_no_float since is_json expression none) refl

pub subscribe_no_float : (root : Path) (since : Option (List ℕ)) (is_json : Bool) (expression : Data) → has_float expression ≡ false → has_float (subscribe_data root (query_object since (fields_data is_json) expression)) ≡ false
subscribe_no_float root since is_json expression none = rw (object_no_float since is_json expression none) refl
