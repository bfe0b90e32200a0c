-- A desk may be shared by threads, where its disk may be sent to another, and a receipt may be sent. Rattle finds this for a struct by
-- itself, but not where a `Snapshot` stands below it.
use Rattle.crossbeam_queue.below.atomic_table.proofs.shared.Seat.TheSendSync as SeatSent
use Rattle.crossbeam_queue.proofs.array_queue.Slotted.TheSendSync as SlottedSent
use Rattle.crossbeam_queue.specs.contracts.array_queue.Doing
use Rattle.crossbeam_queue.specs.contracts.array_queue.Slotted
use Rattle.crossbeam_queue.specs.contracts.array_queue.Turns
use Rattle.crossbeam_queue.specs.contracts.array_queue.TurnsTableRuleOptionDoingUnit.TheImpl as TurnsImpl
use Rattle.crossbeam_queue.proofs.seg_queue.Chained.TheSendSync as ChainedSent
use Rattle.crossbeam_queue.proofs.seg_queue.Ends.TheSendSync as EndsSent
use Rattle.crossbeam_queue.specs.contracts.seg_queue.Ends
use Rattle.crossbeam_queue.specs.contracts.seg_queue.Going
use Rattle.crossbeam_queue.specs.contracts.seg_queue.Laps
use Rattle.crossbeam_queue.specs.contracts.seg_queue.LapsBlockRuleOptionGoingEndsOption.TheImpl as LapsImpl
use Rattle.std.below.std_heap.proofs.GlobalAllocator.TheSendSync as FreesSent
use Rattle.std.proofs.alloc.Global.TheSendSync as GlobalSent
use Rattle.std.proofs.option.Option.TheSendSync as OptionSent
use Rattle.std.proofs.sync.Arc.TheSendSync as ArcSent
use Rattle.std.proofs.sync.Mutex.TheSendSync as MutexSent
use Rattle.std.proofs.timed.Parker.TheSendSync as ParkerSent
use Rattle.std.specs.contracts.timed.Parker
use Rattle.std.proofs.vec.Vec.TheSendSync as VecSent
use Rattle.std.specs.contracts.alloc.Global
use Rattle.std.specs.contracts.impls.GlobalAllocator.TheImpl as GlobalImpl
use Rattle.std.specs.contracts.option.Option
use Rattle.std.specs.contracts.snapshot.Snapshot
use Rattle.wm_store.proofs.store.Store.TheSendSync as StoreSent
use Rattle.wm_registry.proofs.registry.Registry.TheSendSync as RegistrySent
use Rattle.wm_registry.specs.contracts.registry.Registry
use Rattle.wm_groupcommit.proofs.queued.Answer.TheSendSync as AnswerSent
use Rattle.wm_groupcommit.proofs.queued.Call.TheSendSync as CallSent
use Rattle.wm_groupcommit.specs.contracts.book.Book
use Rattle.wm_groupcommit.specs.contracts.book.Book.TheInside as BookInside
use Rattle.wm_groupcommit.specs.contracts.history.History
use Rattle.wm_groupcommit.specs.contracts.history.History.TheInside as HistoryInside
use Rattle.wm_groupcommit.specs.contracts.history.Past
use Rattle.wm_groupcommit.specs.contracts.locked.LockedDesk
use Rattle.wm_groupcommit.specs.contracts.locked.LockedDesk.TheInside as LockedInside
use Rattle.wm_groupcommit.specs.contracts.queued.Call
use Rattle.wm_groupcommit.specs.contracts.desk.Desk
use Rattle.wm_groupcommit.specs.contracts.locked.reply_ends.ReplyReceiver
use Rattle.wm_groupcommit.specs.contracts.locked.reply_ends.ReplySender
use Rattle.wm_groupcommit.specs.contracts.receipt.Receipt
use Rattle.wm_groupcommit.specs.contracts.receipt.Receipt.TheInside as ReceiptInside
use Rattle.wm_groupcommit.proofs.receipt.Standing.TheSendSync as StandingSent
use Rattle.wm_groupcommit.specs.contracts.locked.reply_ends.ReplySender.TheInside as SenderInside
use Rattle.wm_groupcommit.specs.contracts.locked.call_rule.Merges
use Rattle.wm_groupcommit.specs.contracts.locked.call_rule.MergesProtocolCallCallView.TheImpl as MergesImpl
use Rattle.wm_groupcommit.specs.contracts.locked.call_rule.CallView
use Rattle.wm_groupcommit.specs.contracts.locked.deliveries.ReplyView
use Rattle.wm_groupcommit.specs.contracts.locked.deliveries.Replies
use Rattle.wm_groupcommit.specs.contracts.locked.deliveries.RepliesProtocolDeliveryReplyView.TheImpl as RepliesImpl
use Rattle.wm_groupcommit.specs.contracts.locked.deliveries.Delivery
use denote.Param.Send.{IsSend, IsSync, part_keyless, recorded_send, recorded_sync, struct_send, struct_sync, view_send, plain_send}
use denote.Builtin
use denote.RattleType
use denote.Struct.Declared
use Rattle.wm_disk.specs.declared.disk.Disk as disks
use Rattle.std.proofs.Common.{rules}

pub snapshot_send : (Y : RattleType.RattleType) → IsSend (Snapshot.the_row Y)
snapshot_send Y = record { owned = λ d vs. ((λ vss. (tt, ((λ uss. (tt, tt)), tt))), tt); leaving = λ k f vs. tt }

snapshot_sync : (Y : RattleType.RattleType) → IsSync (Snapshot.the_row Y)
snapshot_sync Y = record { shared = λ d b o κ q. part_keyless (Snapshot.the_row Y) (snapshot_send Y) q d b o }

pub history_send : IsSend History.the_row
history_send =
    view_send HistoryInside.the_row _ _ _ _
    (recorded_send (HistoryInside.the_field).row _ _ (HistoryInside.the_type).to_one
    (struct_send (Declared.shape HistoryInside.the_type) (snapshot_send Registry.the_row, (OptionSent.the_field_send (Snapshot.the_row Past.the_row) (snapshot_send Past.the_row), tt))))

pub receipt_send : IsSend Receipt.the_row
receipt_send =
    view_send ReceiptInside.the_row _ _ _ _
    (recorded_send (ReceiptInside.the_field).row _ _ (ReceiptInside.the_type).to_one
    (struct_send (Declared.shape ReceiptInside.the_type) (StandingSent.the_field_send, (plain_send _ _ _ _ _, (plain_send _ _ _ _ _, (snapshot_send ReplyReceiver.the_row, tt))))))

pub delivery_send : IsSend Delivery.the_row
delivery_send = recorded_send (Delivery.the_field).row _ _ (Delivery.the_type).to_one (struct_send (Declared.shape Delivery.the_type) (AnswerSent.the_field_send, (snapshot_send History.the_row, (OptionSent.the_field_send Registry.the_row RegistrySent.the_send, tt))))

pub sender_send : IsSend ReplySender.the_row
sender_send =
    view_send SenderInside.the_row _ _ _ _
    (recorded_send (SenderInside.the_field).row _ _ (SenderInside.the_type).to_one
    (struct_send (Declared.shape SenderInside.the_type) (
      ArcSent.the_send
          (Slotted.the_row (Option.the_row Delivery.the_row) (Doing.the_row Delivery.the_row ReplyView.the_row) (Turns.the_row Replies.the_row) Global.the_row (TurnsImpl.ghosts Delivery.the_row ReplyView.the_row Replies.the_row RepliesImpl.ghosts TurnsImpl.no_dict) GlobalImpl.ghosts)
          Global.the_row
          GlobalImpl.ghosts
          (SlottedSent.the_send (Option.the_row Delivery.the_row) (Doing.the_row Delivery.the_row ReplyView.the_row) (Turns.the_row Replies.the_row) Global.the_row (TurnsImpl.ghosts Delivery.the_row ReplyView.the_row Replies.the_row RepliesImpl.ghosts TurnsImpl.no_dict) GlobalImpl.ghosts
          (OptionSent.the_send Delivery.the_row delivery_send)
          GlobalSent.the_send
          FreesSent.the_frees)
          GlobalSent.the_send
          (SlottedSent.the_sync (Option.the_row Delivery.the_row) (Doing.the_row Delivery.the_row ReplyView.the_row) (Turns.the_row Replies.the_row) Global.the_row (TurnsImpl.ghosts Delivery.the_row ReplyView.the_row Replies.the_row RepliesImpl.ghosts TurnsImpl.no_dict) GlobalImpl.ghosts
          (OptionSent.the_send Delivery.the_row delivery_send)
          GlobalSent.the_send
          GlobalSent.the_sync
          FreesSent.the_frees)
          GlobalSent.the_sync
          FreesSent.the_frees,
      (
        SeatSent.the_send (Option.the_row Delivery.the_row) (Doing.the_row Delivery.the_row ReplyView.the_row) (OptionSent.the_send Delivery.the_row delivery_send),
        (ArcSent.the_send Parker.the_row Global.the_row GlobalImpl.ghosts ParkerSent.the_send GlobalSent.the_send ParkerSent.the_sync GlobalSent.the_sync FreesSent.the_frees, tt),
      ),
    )))

count_send : IsSend Builtin.u64
count_send = search rules

module _ (T : RattleType.RattleType) (g : disks.Ghosts T.Denot) where
  pub book_send : IsSend T → IsSend (Book.the_row T g)
  book_send s =
      view_send (BookInside.the_row T g) _ _ _ _
      (recorded_send (BookInside.the_field T g).row _ _ (BookInside.the_type T g).to_one
      (struct_send (Declared.shape (BookInside.the_type T g)) (StoreSent.the_send T g s, (plain_send _ _ _ _ _, (history_send, tt)))))

  pub locked_send : IsSend T → IsSend (LockedDesk.the_row T g)
  locked_send s =
      view_send (LockedInside.the_row T g) _ _ _ _
      (recorded_send (LockedInside.the_field T g).row _ _ (LockedInside.the_type T g).to_one
      (struct_send (Declared.shape (LockedInside.the_type T g)) (
        book_send s,
        (
          VecSent.the_send ReplySender.the_row Global.the_row GlobalImpl.ghosts sender_send GlobalSent.the_send FreesSent.the_frees,
          (VecSent.the_send Builtin.u64 Global.the_row GlobalImpl.ghosts count_send GlobalSent.the_send FreesSent.the_frees, (plain_send _ _ _ _ _, tt)),
        ),
      )))

  pub desk_sync : IsSend T → IsSync (Desk.the_row T g)
  desk_sync s = recorded_sync (Desk.the_field T g).row _ _ (Desk.the_type T g).to_one (struct_sync (Declared.shape (Desk.the_type T g)) (
    ChainedSent.the_sync
        (Option.the_row Call.the_row)
        (Going.the_row Call.the_row CallView.the_row)
        (Ends.the_row (Option.the_row Call.the_row))
        (Laps.the_row Merges.the_row)
        Global.the_row
        (LapsImpl.ghosts Call.the_row CallView.the_row Merges.the_row MergesImpl.ghosts LapsImpl.no_dict)
        GlobalImpl.ghosts
        (OptionSent.the_send Call.the_row CallSent.the_send)
        GlobalSent.the_send
        (EndsSent.the_sync (Option.the_row Call.the_row))
        GlobalSent.the_sync
        FreesSent.the_frees,
    (MutexSent.the_sync (LockedDesk.the_row T g) (locked_send s), (snapshot_sync (LockedDesk.the_row T g), (ParkerSent.the_field_sync, (GlobalSent.the_field_sync, tt)))),
  ))
