-- Which lines may ask a server for a crawl.
use Rattle.std.specs.Prelude.{◌==◌, ◌||◌, ℕ, List, [], ◌∷◌, Bool, false, codes}
use Rattle.std.specs.List.{starts_with}

-- a backslash, by which a name may be spelled, or `recrawl` stands first
abbrev pub begins_crawl_word : List ℕ → Bool
begins_crawl_word [] = false
begins_crawl_word (b ∷ bytes) = (b == 92) || starts_with (λ x y. x == y) (b ∷ bytes) (codes "recrawl")

-- or anywhere
abbrev pub may_ask_crawl : List ℕ → Bool
may_ask_crawl [] = false
may_ask_crawl (b ∷ bytes) = begins_crawl_word (b ∷ bytes) || may_ask_crawl bytes
