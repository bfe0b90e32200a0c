-- For private clauses: the bytes of a path's text.
use Rattle.std.specs.Prelude.{ℕ, List, string_bytes}
use Rattle.wm_names.specs.declared.path_text.PathText.{PathText}
use Rattle.wm_names.specs.declared.path_text.PathText.TheVariants.{Short, Long}

abbrev pub text_bytes : PathText → List ℕ
text_bytes (Short text) = text.bytes
text_bytes (Long text) = string_bytes text
