-- The limits of a registry.
use Rattle.std.specs.Prelude.{ℕ}

-- the most roots that may be watched at once
abbrev pub max_roots : ℕ
max_roots = 256

-- the most triggers of a root
abbrev pub max_triggers : ℕ
max_triggers = 64

-- the most bytes of a trigger's name
abbrev pub max_trigger_name : ℕ
max_trigger_name = 64

-- the most words of a trigger's command
abbrev pub max_words : ℕ
max_words = 16

-- the most bytes of a word of a command
abbrev pub max_word : ℕ
max_word = 1024

-- the most bytes of the text of an expression
abbrev pub max_expression : ℕ
max_expression = 4096

-- the most commands of a batch
abbrev pub max_batch : ℕ
max_batch = 64
