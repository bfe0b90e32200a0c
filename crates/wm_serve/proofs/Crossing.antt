-- That what the threads of a server share may be used by many at once. Rattle finds this for a struct by itself, but not
-- where the rights to make words of a log, or an expression stands below it.
use denote.Param.Send.{IsSend, IsSync, sendable, view_send}
use denote.Param.SendFields.{as_row_send, declared_send, declared_sync}
use denote.RattleType.{RattleType}
use denote.Ref.{NamedLft}
use denote.Struct.Field.{row_field}
use Rattle.std.proofs.Crossing.{crosses}
use Rattle.std.proofs.option.Option.TheSendSync as OptionSent
use Rattle.std.proofs.sync.Mutex.TheSendSync as MutexSent
use Rattle.std.specs.contracts.option.Option
use Rattle.wm_expr.proofs.expr.Expr.TheLaws.TheKnot as Expressions
use Rattle.wm_share.specs.declared.book.Naming as Naming
use Rattle.wm_registry.proofs.registry.Registry.TheSendSync as RegistrySent
use Rattle.wm_session.specs.contracts.session.Session
use Rattle.wm_front.proofs.viewers.Viewers.TheSendSync as ViewersSent
use Rattle.wm_front.specs.contracts.desk_seat.DeskSeat
use Rattle.wm_front.specs.contracts.desk_seat.DeskSeat.TheInside as DeskSeatInside
use Rattle.wm_front.specs.contracts.desk_seat.TakenSeat
use Rattle.wm_front.specs.contracts.shared_front.SharedFront
use Rattle.wm_front.specs.declared.registrar.Registrar as Registrar
use Rattle.wm_workers.proofs.Crossing.{server_roots_sync}
use Rattle.wm_workers.specs.contracts.roots.server_roots.ServerRoots
use Rattle.wm_serve.proofs.SeatSent.{seat_send}
use Rattle.wm_serve.proofs.socket.waiting_sessions.WaitingSessions.TheSendSync as WaitingSent
use Rattle.wm_serve.proofs.slots.connection.ClientEnd.TheSendSync as EndSent
use Rattle.wm_serve.specs.contracts.slots.connection.ClientEnd
use Rattle.wm_serve.specs.contracts.slots.connection.Connection
use Rattle.wm_serve.specs.contracts.slots.slot.Slot
use Rattle.wm_serve.specs.contracts.slots.slot.SlotSession
use Rattle.wm_serve.specs.contracts.threads.server.Server

module _ (κ : NamedLft) (T J K : RattleType) (h : Registrar.Ghosts T.Denot) (g : Naming.Ghosts J.Denot) (desk : IsSync T) (k : IsSend K) (k' : IsSync K) where
  taken_send : IsSend (TakenSeat.the_row κ T h)
  taken_send = declared_send (TakenSeat.the_type κ T h) (search (desk, sendable) depth 20 fits 5000, (seat_send, tt))

  desk_seat_send : IsSend (DeskSeat.the_row κ T h)
  desk_seat_send =
      view_send (DeskSeatInside.the_row κ T h) _ _ _ _
      (declared_send (DeskSeatInside.the_type κ T h) (search (desk, sendable) depth 20 fits 5000, (OptionSent.the_send (TakenSeat.the_row κ T h) taken_send, tt)))

  front_send : IsSend (SharedFront.the_row κ T (ServerRoots.the_row T J K g) J K h g)
  front_send =
      let roots = server_roots_sync T J K g desk k k' in
      declared_send (SharedFront.the_type κ T (ServerRoots.the_row T J K g) J K h g) (
        as_row_send (row_field K) k,
        (
          desk_seat_send,
          (search (roots, sendable) depth 20 fits 5000, (ViewersSent.the_send J g, (RegistrySent.the_send, (search (crosses, sendable) depth 60 fits 20000, (search (crosses, sendable) depth 60 fits 20000, tt))))),
        ),
      )

  session_send : IsSend (Session.the_row (SharedFront.the_row κ T (ServerRoots.the_row T J K g) J K h g))
  session_send =
      let front = SharedFront.the_row κ T (ServerRoots.the_row T J K g) J K h g in
      declared_send (Session.the_type front) (as_row_send (row_field front) front_send, (search (crosses, Expressions.crosses, sendable) depth 60 fits 20000, tt))

  connection_send : IsSend (Connection.the_row (SharedFront.the_row κ T (ServerRoots.the_row T J K g) J K h g) ClientEnd.the_row)
  connection_send =
      let front = SharedFront.the_row κ T (ServerRoots.the_row T J K g) J K h g in
      declared_send (Connection.the_type front ClientEnd.the_row) (session_send, (EndSent.the_send, (search (crosses, sendable) depth 60 fits 20000, tt)))

  slot_session_send : IsSend (SlotSession.the_row κ T J K ClientEnd.the_row h g)
  slot_session_send = declared_send (SlotSession.the_type κ T J K ClientEnd.the_row h g) (connection_send, tt)

  slot_sync : IsSync (Slot.the_row κ T J K h g)
  slot_sync =
      let one = SlotSession.the_row κ T J K ClientEnd.the_row h g in
      declared_sync (Slot.the_type κ T J K h g) (search (crosses, sendable) depth 60 fits 20000, (MutexSent.the_sync (Option.the_row one) (OptionSent.the_send one slot_session_send), tt))

  pub server_sync : IsSync (Server.the_row κ T J K h g)
  server_sync =
      let roots = server_roots_sync T J K g desk k k' in
      declared_sync (Server.the_type κ T J K h g) (search (roots, sendable) depth 20 fits 5000, (WaitingSent.the_sync, (search (slot_sync, crosses, sendable) depth 60 fits 20000, tt)))
