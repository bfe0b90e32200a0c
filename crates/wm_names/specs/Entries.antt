-- What is known of the file at a path, and parts of a root.
use Rattle.std.specs.Prelude.{ℕ, Bool, true, false, not, ◌&&◌, ◌==◌, List, [], ◌∷◌, ◌++◌, codes, Option, Some, None}
use Rattle.std.specs.List.{find, list_all}
use Rattle.std.specs.Str.{bytes_eq}
use Rattle.wm_names.specs.declared.entry.Kind.{Kind}
use Rattle.wm_names.specs.declared.entry.Kind.TheVariants.{File, Folder, Link, Other}
use Rattle.wm_names.specs.declared.entry.Meta.{Meta}
use Rattle.wm_names.specs.declared.subtree.Subtree.{Subtree}
use Rattle.wm_names.specs.declared.subtree.Subtree.TheVariants.{Whole, Below}
use Rattle.wm_names.specs.Paths.{Path, is_rel_path, is_under}

abbrev pub letter_of : Kind → List ℕ
letter_of File = codes "f"
letter_of Folder = codes "d"
letter_of Link = codes "l"
letter_of Other = codes "o"

-- the kind with that letter
abbrev pub kind_of : List ℕ → Option Kind
kind_of letter = find (λ kind. bytes_eq letter (letter_of kind)) (File ∷ Folder ∷ Link ∷ Other ∷ [])

abbrev pub same_kind : Kind → Kind → Bool
same_kind File File = true
same_kind Folder Folder = true
same_kind Link Link = true
same_kind Other Other = true
same_kind _ _ = false

abbrev pub same_meta : Meta → Meta → Bool
same_meta a b = same_kind a.kind b.kind && ((a.size == b.size) && (a.mtime_ms == b.mtime_ms))

-- two states of a path: there with this metadata, or not there
abbrev pub same_state : Option Meta → Option Meta → Bool
same_state None None = true
same_state None (Some b) = false
same_state (Some a) None = false
same_state (Some a) (Some b) = same_meta a b

-- the path stands in this part of a root
abbrev pub covers : Subtree → Path → Bool
covers Whole p = true
covers (Below top) p = is_under top p

abbrev pub is_whole : Subtree → Bool
is_whole Whole = true
is_whole (Below top) = false

-- the path of a name in the folder that a part is of
abbrev pub join : Subtree → Path → Path
join Whole name = name
join (Below folder) name = folder ++ 47 ∷ name

-- the name is one part of a path, and its path keeps the rules
abbrev pub is_fit : Subtree → Path → Bool
is_fit folder name = list_all (λ b. not (b == 47)) name && is_rel_path (join folder name)
