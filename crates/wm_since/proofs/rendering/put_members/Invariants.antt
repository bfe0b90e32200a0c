use Rattle.std.proofs.Common.{◌≡◌, ◌++◌, drop}
use Rattle.wm_since.specs.Rendered.{members_of}
use Rattle.wm_since.specs.Texts.{members_tokens_of}
use Rattle.wm_since.proofs.rendering.put_members.Given as goal

-- the members that are left bring the tokens to what all of them make
abbrev pub invariant-loop-field : goal.invariant-loop-field
invariant-loop-field l =
    record {
      tokens : l.out.tokens ++ members_tokens_of (members_of l.clock l.file (drop l.field-index l.fields)) ≡ l.initial.out.tokens ++ members_tokens_of (members_of l.clock l.file l.fields);
      before : l.out.before ≡ l.initial.out.before;
    }
