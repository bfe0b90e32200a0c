-- A file of either version, and a keeper of it.
use Rattle.std.specs.Prelude.{ℕ, List, ◌⊎◌}
use Rattle.wm_disk.specs.declared.disk.Disk as disks
use Rattle.wm_checkpoint.specs.Found.{IsFound}
use Rattle.wm_checkpoint.specs.Kept.{disk_of}
use Rattle.wm_checkpoint.specs.KeeperCalls.{IsOpened}
use Rattle.wm_checkpoint.specs.Layout.{sizes_1, sizes_2}
use Rattle.wm_checkpoint.specs.Machines.{Meaning}
use Rattle.wm_checkpoint.specs.Meanings.{IsDamaged, IsRetired}
use Rattle.wm_checkpoint.specs.declared.either.EitherFound.{EitherFound}
use Rattle.wm_checkpoint.specs.declared.either.EitherFound.TheVariants as found
use Rattle.wm_checkpoint.specs.declared.either.EitherKeeper.{EitherKeeper}
use Rattle.wm_checkpoint.specs.declared.either.EitherKeeper.TheVariants.{One, Two}

-- the content means a state in neither version, and its file is retired in neither
abbrev pub AreDamaged : {S B T C : Type 0} → Meaning S B → Meaning T C → List ℕ → Type 0
AreDamaged one two content = IsDamaged one content × IsDamaged two content

-- the content is that of a retired file of one of the versions
abbrev pub IsRetiredAs : List ℕ → Type 0
IsRetiredAs content = IsRetired sizes_1 content ⊎ IsRetired sizes_2 content

-- For private clauses: what is found in a file of its version.
abbrev pub IsFoundAs : {S B T C : Type 0} → Meaning S B → Meaning T C → List ℕ → EitherFound S T → Type 0
IsFoundAs one two content (found.One f) = IsFound one content f.slot f.number f.state f.end
IsFoundAs one two content (found.Two f) = IsFound two content f.slot f.number f.state f.end

abbrev pub end_of : {S T : Type 0} → EitherFound S T → ℕ
end_of (found.One f) = f.end
end_of (found.Two f) = f.end

module _ {D M N S B R T C Q : Type 0} {disk : disks.Ghosts D} where
  abbrev pub disk_of_either : EitherKeeper D M N S B R T C Q disk → D
  disk_of_either (One keeper) = disk_of keeper
  disk_of_either (Two keeper) = disk_of keeper

  -- The keeper was found on this disk, and has what the disk means in the keeper's version.
  abbrev pub IsOpenedAs : Meaning S B → Meaning T C → D → EitherKeeper D M N S B R T C Q disk → Type 0
  IsOpenedAs one two found_on (One keeper) = IsOpened one found_on keeper
  IsOpenedAs one two found_on (Two keeper) = IsOpened two found_on keeper
