-- A seat of a desk may be sent to another thread. Rattle finds this for a struct by itself, but not where a `Snapshot` stands below it.
use Rattle.crossbeam_queue.below.atomic_table.proofs.shared.Seat.TheSendSync as SeatSent
use Rattle.crossbeam_queue.below.atomic_blocks.proofs.web.Seat.TheSendSync as PassSent
use Rattle.crossbeam_queue.proofs.array_queue.Slotted.TheSendSync as SlottedSent
use Rattle.crossbeam_queue.specs.contracts.array_queue.Doing
use Rattle.crossbeam_queue.specs.contracts.array_queue.Slotted
use Rattle.crossbeam_queue.specs.contracts.array_queue.Turns
use Rattle.crossbeam_queue.specs.contracts.array_queue.TurnsTableRuleOptionDoingUnit.TheImpl as TurnsImpl
use Rattle.crossbeam_queue.specs.contracts.seg_queue.Going
use Rattle.std.below.std_heap.proofs.GlobalAllocator.TheSendSync as FreesSent
use Rattle.std.proofs.alloc.Global.TheSendSync as GlobalSent
use Rattle.std.proofs.option.Option.TheSendSync as OptionSent
use Rattle.std.proofs.sync.Arc.TheSendSync as ArcSent
use Rattle.std.proofs.timed.Parker.TheSendSync as ParkerSent
use Rattle.std.specs.contracts.timed.Parker
use Rattle.std.specs.contracts.alloc.Global
use Rattle.std.specs.contracts.impls.GlobalAllocator.TheImpl as GlobalImpl
use Rattle.std.specs.contracts.option.Option
use Rattle.wm_groupcommit.proofs.Crossing.{delivery_send}
use Rattle.wm_groupcommit.proofs.queued.Call.TheSendSync as CallSent
use Rattle.wm_groupcommit.specs.contracts.queued.Call
use Rattle.wm_groupcommit.specs.contracts.locked.reply_ends.ReplyReceiver
use Rattle.wm_groupcommit.specs.contracts.locked.reply_ends.ReplyReceiver.TheInside as ReceiverInside
use Rattle.wm_groupcommit.specs.contracts.locked.call_rule.CallView
use Rattle.wm_groupcommit.specs.contracts.locked.deliveries.ReplyView
use Rattle.wm_groupcommit.specs.contracts.locked.deliveries.Replies
use Rattle.wm_groupcommit.specs.contracts.locked.deliveries.RepliesProtocolDeliveryReplyView.TheImpl as RepliesImpl
use Rattle.wm_groupcommit.specs.contracts.locked.deliveries.Delivery
use Rattle.wm_groupcommit.specs.contracts.seat.Seat
use denote.Param.Send.{IsSend, recorded_send, struct_send, view_send}
use denote.Builtin
use denote.Struct.Declared
use Rattle.std.proofs.Common.{rules}

pub receiver_send : IsSend ReplyReceiver.the_row
receiver_send =
    view_send ReceiverInside.the_row _ _ _ _
    (recorded_send (ReceiverInside.the_field).row _ _ (ReceiverInside.the_type).to_one
    (struct_send (Declared.shape ReceiverInside.the_type) (
      ArcSent.the_send
          (Slotted.the_row (Option.the_row Delivery.the_row) (Doing.the_row Delivery.the_row ReplyView.the_row) (Turns.the_row Replies.the_row) Global.the_row (TurnsImpl.ghosts Delivery.the_row ReplyView.the_row Replies.the_row RepliesImpl.ghosts TurnsImpl.no_dict) GlobalImpl.ghosts)
          Global.the_row
          GlobalImpl.ghosts
          (SlottedSent.the_send (Option.the_row Delivery.the_row) (Doing.the_row Delivery.the_row ReplyView.the_row) (Turns.the_row Replies.the_row) Global.the_row (TurnsImpl.ghosts Delivery.the_row ReplyView.the_row Replies.the_row RepliesImpl.ghosts TurnsImpl.no_dict) GlobalImpl.ghosts
          (OptionSent.the_send Delivery.the_row delivery_send)
          GlobalSent.the_send
          FreesSent.the_frees)
          GlobalSent.the_send
          (SlottedSent.the_sync (Option.the_row Delivery.the_row) (Doing.the_row Delivery.the_row ReplyView.the_row) (Turns.the_row Replies.the_row) Global.the_row (TurnsImpl.ghosts Delivery.the_row ReplyView.the_row Replies.the_row RepliesImpl.ghosts TurnsImpl.no_dict) GlobalImpl.ghosts
          (OptionSent.the_send Delivery.the_row delivery_send)
          GlobalSent.the_send
          GlobalSent.the_sync
          FreesSent.the_frees)
          GlobalSent.the_sync
          FreesSent.the_frees,
      (
        SeatSent.the_send (Option.the_row Delivery.the_row) (Doing.the_row Delivery.the_row ReplyView.the_row) (OptionSent.the_send Delivery.the_row delivery_send),
        (ArcSent.the_send Parker.the_row Global.the_row GlobalImpl.ghosts ParkerSent.the_send GlobalSent.the_send ParkerSent.the_sync GlobalSent.the_sync FreesSent.the_frees, tt),
      ),
    )))

count_send : IsSend Builtin.u64
count_send = search rules

pub seat_send : IsSend Seat.the_row
seat_send = recorded_send (Seat.the_field).row _ _ (Seat.the_type).to_one (struct_send (Declared.shape Seat.the_type) (
  count_send,
  (count_send, (count_send, (PassSent.the_send (Option.the_row Call.the_row) (Going.the_row Call.the_row CallView.the_row) Global.the_row GlobalImpl.ghosts (OptionSent.the_send Call.the_row CallSent.the_send) GlobalSent.the_send FreesSent.the_frees, (receiver_send, tt)))),
))
