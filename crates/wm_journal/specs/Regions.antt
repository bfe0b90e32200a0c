-- A journal in an area of a disk: what it keeps between calls, and what a crash leaves inside one.
use Rattle.std.specs.Prelude.{◌≡◌, ℕ, ◌+◌, ◌-◌, ◌≤◌, List, [], ◌++◌, length, take, Result, OnOk, OnErr}
use Rattle.wm_disk.specs.Contents.{Only}
use Rattle.wm_disk.specs.declared.disk.Disk as disks
use Rattle.wm_wire.specs.declared.wire.Wire as wires
use Rattle.wm_journal.specs.Records.{HoldsRecords, Stages, taken, gate_places}
use Rattle.wm_journal.specs.Areas as areas
use Rattle.wm_journal.specs.declared.region.Region.{Region}

module _ {D : Type 0} {disk : disks.Ghosts D} where
  -- where the journal lies on its disk
  pub record IsAt (region : Region D disk) (offset len : ℕ) : Type 0 where
    pub offset_is : region.offset ≡ offset
    pub len_is : region.len ≡ len

  abbrev pub len_of : Region D disk → ℕ
  len_of region = region.len

  -- no group is staged, and the closed gate stands there
  pub record EndsAt (region : Region D disk) (end : ℕ) : Type 0 where
    pub end_is : region.end ≡ end
    pub none_staged : region.gates.items ≡ []

  abbrev pub InSamePlace : Region D disk → Region D disk → Type 0
  InSamePlace old new = (new.offset ≡ old.offset) × (new.len ≡ old.len)

  -- nothing but the disk differs
  pub record IsOtherwise (old new : Region D disk) : Type 0 where
    pub place : InSamePlace old new
    pub end : new.end ≡ old.end
    pub gates : new.gates.items ≡ old.gates.items

  -- an honest disk reaches to the journal's end
  abbrev pub LiesOn : Region D disk → Type 0
  LiesOn region = disk.honest region.disk → region.offset + region.len ≤ length (disk.seen region.disk)

  -- the bytes that are left for records, each with its gate
  abbrev pub room_of : Region D disk → ℕ
  room_of region = region.len - 1 - region.end

  -- the journal's bytes in a content of the disk
  abbrev pub area : Region D disk → List ℕ → List ℕ
  area region content = areas.area region.offset region.len content

  -- the content is what the disk reads as, but for the journal
  abbrev pub SameOutside : Region D disk → List ℕ → Type 0
  SameOutside region content = areas.SameOutside region.offset region.len (disk.seen region.disk) content

  -- A call of a journal, which stays where it lies.
  pub record StaysInPlace {T E : Type 0} (old new : Region D disk) (result : Result T E) : Type 0 where
    pub place : InSamePlace old new
    -- where the call is refused nothing but the disk differs
    pub refused : OnErr result (IsOtherwise old new)

  -- A call of a journal that writes nothing outside it.
  pub record WritesInside {T E : Type 0} (old new : Region D disk) (result : Result T E) : Type 0 where
    pub place : InSamePlace old new
    pub outside : disk.honest new.disk → OnOk result (SameOutside old (disk.seen new.disk))

  module _ {V : Type 0} (wire : wires.Ghosts V) where
    -- the journal as it reads has these records, and its end is known
    pub record IsRead (region : Region D disk) (records : List V) : Type 0 where
      pub holds : HoldsRecords wire records (area region (disk.seen region.disk))
      pub end : region.end ≡ taken wire.spelling records
      pub none_staged : region.gates.items ≡ []

    -- the same, all of it durable
    pub record IsAtRest (region : Region D disk) (records : List V) : Type 0 where
      pub lies : region.offset + region.len ≤ length (disk.seen region.disk)
      pub read : IsRead region records
      pub durable : Only (disk.seen region.disk) (disk.may_leave region.disk)

    -- behind these records a group is laid, all of it durable; its gates may have any value
    pub record IsStaged (region : Region D disk) (records added : List V) : Type 0 where
      pub lies : region.offset + region.len ≤ length (disk.seen region.disk)
      pub stages : Stages wire records added (area region (disk.seen region.disk))
      pub gates : region.gates.items ≡ gate_places wire.spelling (taken wire.spelling records) added
      pub end : region.end ≡ taken wire.spelling (records ++ added)
      pub durable : Only (disk.seen region.disk) (disk.may_leave region.disk)

    -- a content with these records in the journal, and outside as the disk reads
    pub record StillHolds (region : Region D disk) (records : List V) (content : List ℕ) : Type 0 where
      pub outside : SameOutside region content
      pub holds : HoldsRecords wire records (area region content)

    -- the same with a prefix of the group
    pub record HoldsPrefix (region : Region D disk) (records added : List V) (content : List ℕ) : Type 0 where
      pub outside : SameOutside region content
      pub count : ℕ
      pub within : count ≤ length added
      pub holds : HoldsRecords wire (records ++ take count added) (area region content)
