-- The viewers of a share that nobody has.
use Rattle.std.specs.Prelude.{ℕ}
use Rattle.wm_share.specs.declared.share_id.ShareId.{ShareId}

-- the most viewers of a share
abbrev pub max_viewers : ℕ
max_viewers = 32

pub record PoolState : Type 0 where
  pub share : ShareId
  pub viewers : ℕ  -- how many there are
