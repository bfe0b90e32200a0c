-- That a desk over a disk in memory may be used by many threads at once.
use denote.Param.Send.{IsSync}
use Rattle.wm_disk.specs.contracts.memory.MemDisk
use Rattle.wm_disk.specs.contracts.memory.MemDiskDisk.TheImpl as MemDiskImpl
use Rattle.wm_disk.proofs.memory.MemDisk.TheSendSync as MemDiskSent
use Rattle.wm_groupcommit.specs.contracts.desk.Desk
use Rattle.wm_groupcommit.proofs.Crossing.{desk_sync}

pub memory_desk : IsSync (Desk.the_row MemDisk.the_row MemDiskImpl.ghosts)
memory_desk = desk_sync MemDisk.the_row MemDiskImpl.ghosts MemDiskSent.the_send
