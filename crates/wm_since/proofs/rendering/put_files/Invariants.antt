use Rattle.std.proofs.Common.{◌≡◌, ◌≤◌, ◌++◌, drop, map, nat_lt, vec_capacity}
use Rattle.serde_json.specs.View.{items_of}
use Rattle.serde_json.specs.Written.{items_text}
use Rattle.wm_since.specs.Rendered.{file_data}
use Rattle.wm_since.specs.Texts.{KeepsTextPrefix, files_text}
use Rattle.wm_since.proofs.rendering.put_files.Given as goal

-- the files that are left bring the text to what all of them make
abbrev pub invariant-loop-i : goal.invariant-loop-i
invariant-loop-i l =
    record {
      text : l.out.items ++ items_text (nat_lt 0 l.i) (items_of (map (file_data l.fields l.clock) (drop l.i l.files))) ≡ l.fn.out.items ++ files_text l.fields l.clock l.files;
      front : KeepsTextPrefix l.fn.out.items l.out.items;
      room : vec_capacity l.fn.out ≤ vec_capacity l.out;
    }
