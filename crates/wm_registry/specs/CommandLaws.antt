-- The laws of `Wire` for commands.
-- For proofs and the ghost members of impls: a reader of definitions may skip it.
use Rattle.std.proofs.Common.{◌≡◌, ℕ, ◌^◌, ◌<◌, ◌≤◌, List, ◌++◌, length, refl, ap, ◌∙◌, arith}
use Rattle.std.proofs.lemmas.List.{length-append}
use Rattle.wm_wire.specs.Spelling.{text}
use Rattle.wm_registry.specs.Limits.{max_trigger_name}
use Rattle.wm_registry.specs.PathSpelling.{IsPath, alone_path}
use Rattle.wm_registry.specs.Spelling.{trigger_spelling}
use Rattle.wm_registry.specs.TriggerLaws.{alone_name, alone_trigger, same_part, small_text, small_trigger}
use Rattle.wm_registry.specs.Commands.{IsCommand, command_spelling}
use Rattle.wm_registry.specs.declared.command.Command.{Command}
use Rattle.wm_registry.specs.declared.command.Command.TheVariants.{Begin, Watch, WatchDel, Trigger, TriggerDel}
use Rattle.wm_registry.specs.declared.version.Version.{Version}
use Rattle.wm_names.specs.Paths.{max_root_path}

-- commands of two kinds begin with two bytes
pub alone_command : (v : Version) (x y : Command) (a b : List ℕ) → IsCommand v x → IsCommand v y → command_spelling v x ++ a ≡ command_spelling v y ++ b → x ≡ y
alone_command v Begin Begin a b hx hy e = refl
alone_command v Begin (Watch q) a b hx hy e = absurd cc
alone_command v Begin (WatchDel q) a b hx hy e = absurd cc
alone_command v Begin (Trigger q u) a b hx hy e = absurd cc
alone_command v Begin (TriggerDel q m) a b hx hy e = absurd cc
alone_command v (Watch p) Begin a b hx hy e = absurd cc
alone_command v (Watch p) (Watch q) a b hx hy e =
    let rest : text p ++ a ≡ text q ++ b = cc in
    ap (λ p. Watch p) (alone_path p q a b hx hy rest)
alone_command v (Watch p) (WatchDel q) a b hx hy e = absurd cc
alone_command v (Watch p) (Trigger q u) a b hx hy e = absurd cc
alone_command v (Watch p) (TriggerDel q m) a b hx hy e = absurd cc
alone_command v (WatchDel p) Begin a b hx hy e = absurd cc
alone_command v (WatchDel p) (Watch q) a b hx hy e = absurd cc
alone_command v (WatchDel p) (WatchDel q) a b hx hy e =
    let rest : text p ++ a ≡ text q ++ b = cc in
    ap (λ p. WatchDel p) (alone_path p q a b hx hy rest)
alone_command v (WatchDel p) (Trigger q u) a b hx hy e = absurd cc
alone_command v (WatchDel p) (TriggerDel q m) a b hx hy e = absurd cc
alone_command v (Trigger p t) Begin a b hx hy e = absurd cc
alone_command v (Trigger p t) (Watch q) a b hx hy e = absurd cc
alone_command v (Trigger p t) (WatchDel q) a b hx hy e = absurd cc
alone_command v (Trigger p t) (Trigger q u) a b hx hy e =
    let rest : (text p ++ trigger_spelling v t) ++ a ≡ (text q ++ trigger_spelling v u) ++ b = cc in
    let path = same_part IsPath text alone_path p q _ _ a b hx.0 hy.0 rest in
    ap (λ r. Trigger r t) path.value ∙ ap (λ r. Trigger q r) (alone_trigger v t u a b hx.1 hy.1 path.rest)
alone_command v (Trigger p t) (TriggerDel q m) a b hx hy e = absurd cc
alone_command v (TriggerDel p n) Begin a b hx hy e = absurd cc
alone_command v (TriggerDel p n) (Watch q) a b hx hy e = absurd cc
alone_command v (TriggerDel p n) (WatchDel q) a b hx hy e = absurd cc
alone_command v (TriggerDel p n) (Trigger q u) a b hx hy e = absurd cc
alone_command v (TriggerDel p n) (TriggerDel q m) a b hx hy e =
    let rest : (text p ++ text n) ++ a ≡ (text q ++ text m) ++ b = cc in
    let path = same_part IsPath text alone_path p q _ _ a b hx.0 hy.0 rest in
    ap (λ r. TriggerDel r n) path.value ∙ ap (λ r. TriggerDel q r) (alone_name n m a b hx.1 hy.1 path.rest)

-- a command fits an empty journal by far
pub small_command : (v w : Version) (x : Command) → IsCommand w x → length (command_spelling v x) ≤ 32768
small_command v w Begin h = omega arith
small_command v w (Watch path) h = omega (arith, small_text max_root_path path h.is_text)
small_command v w (WatchDel path) h = omega (arith, small_text max_root_path path h.is_text)
small_command v w (Trigger path trigger) h =
    omega (arith, small_text max_root_path path h.0.is_text, small_trigger v w trigger h.1, length-append (text path) (trigger_spelling v trigger))
small_command v w (TriggerDel path name) h =
    omega (arith, small_text max_root_path path h.0.is_text, small_text max_trigger_name name h.1.is_text, length-append (text path) (text name))

pub short_command : (v : Version) (x : Command) → IsCommand v x → length (command_spelling v x) < 2 ^ 32
short_command v x h = omega (arith, small_command v v x h)
