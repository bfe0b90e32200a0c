-- The first term of an expression that is refused, in the first of the terms around it that is.
use Rattle.std.specs.Prelude.{◌||◌, ℕ, Bool, List, Option, None, Some, codes, is_some, unwrap_or, if◌then◌else◌}
use Rattle.std.specs.Str.{bytes_eq}
use Rattle.serde_json.specs.Data.{Data, Items, array, item, no_items, string}
use Rattle.wm_expr.specs.Readings.{expression_of}

-- the words behind which terms stand
abbrev pub holds_terms : List ℕ → Bool
holds_terms word = bytes_eq word (codes "not") || (bytes_eq word (codes "allof") || bytes_eq word (codes "anyof"))

abbrev pub behind_word : Items → Items
behind_word (item (string word) ds) = if holds_terms word then ds else no_items
behind_word ds = no_items

-- the terms that stand in a value
abbrev pub terms_in : Data → Items
terms_in (array ds) = behind_word ds
terms_in d = no_items

-- the first of some values that is no expression
abbrev pub first_refused : Items → Option Data
first_refused no_items = None
first_refused (item d ds) = if is_some (expression_of d) then first_refused ds else Some d

abbrev mutual
  -- the term in a value for which it is refused: that in the first of its parts that is refused, or the value if its parts are taken
  pub refused_term : Data → Data
  refused_term (array ds) = refused_list ds
  refused_term d = d

  pub refused_list : Items → Data
  refused_list (item (string word) ds) = if holds_terms word then unwrap_or (refused_part ds) (array (item (string word) ds)) else array (item (string word) ds)
  refused_list ds = array ds

  pub refused_part : Items → Option Data
  refused_part no_items = None
  refused_part (item d ds) = if is_some (expression_of d) then refused_part ds else Some (refused_term d)

-- the term for which a value is refused, if it is no expression
abbrev pub refused_term_in : Data → Option Data
refused_term_in d = if is_some (expression_of d) then None else Some (refused_term d)

-- how a term of this word is written
abbrev pub term_form : List ℕ → Option (List ℕ)
term_form word =
    if bytes_eq word (codes "true") then Some (codes "\"true\"")
    else (if bytes_eq word (codes "false") then Some (codes "\"false\"")
    else (if bytes_eq word (codes "exists") then Some (codes "\"exists\"")
    else (if bytes_eq word (codes "empty") then Some (codes "\"empty\"")
    else (if bytes_eq word (codes "name") then Some (codes "[\"name\",\"a.c\"] or [\"name\",\"src/a.c\",\"wholename\"]")
    else (if bytes_eq word (codes "suffix") then Some (codes "[\"suffix\",\"c\"] or [\"suffix\",[\"c\",\"h\"]]")
    else (if bytes_eq word (codes "type") then Some (codes "[\"type\",\"f\"]")
    else (if bytes_eq word (codes "size") then Some (codes "[\"size\",\"gt\",10], with eq, ne, gt, ge, lt or le")
    else (if bytes_eq word (codes "match") then Some (codes "[\"match\",\"*.c\"] or [\"match\",\"src/*.c\",\"wholename\"]")
    else (if bytes_eq word (codes "not") then Some (codes "[\"not\",[\"suffix\",\"c\"]]")
    else (if bytes_eq word (codes "allof") then Some (codes "[\"allof\",\"exists\",[\"suffix\",\"c\"]]")
    else (if bytes_eq word (codes "anyof") then Some (codes "[\"anyof\",[\"suffix\",\"c\"],[\"suffix\",\"h\"]]")
    else None)))))))))))
