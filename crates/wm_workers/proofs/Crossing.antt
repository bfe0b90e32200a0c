-- That the watched roots of a server may be used by many threads at once. Rattle finds this for a struct by itself, but not
-- where the rights to make words of a log stand below it.
use base.Shift.{Keyless}
use denote.Param.Send.{IsSend, IsSync, recorded_send, sendable, struct_send, view_send}
use denote.Param.SendFields.{declared_sync}
use denote.RattleType.{RattleType}
use denote.Struct.Declared
use types.Keyed
use Rattle.std.below.std_heap.proofs.GlobalAllocator.TheSendSync as FreesSent
use Rattle.std.proofs.Common.{ℕ, zero, suc}
use Rattle.std.proofs.Crossing.{crosses}
use Rattle.std.proofs.alloc.Global.TheSendSync as GlobalSent
use Rattle.std.proofs.sync.Arc.TheSendSync as ArcSent
use Rattle.std.proofs.sync.Condvar.TheSendSync as CondvarSent
use Rattle.std.proofs.sync.Mutex.TheSendSync as MutexSent
use Rattle.std.specs.contracts.alloc.Global
use Rattle.std.specs.contracts.impls.GlobalAllocator.TheImpl as GlobalImpl
use Rattle.std.specs.contracts.sync.Arc
use Rattle.std.specs.contracts.sync.Mutex
use Rattle.logbook.proofs.tokens.Seen.TheSendSync as SeenSent
use Rattle.logbook.specs.Kept.{pens_own}
use Rattle.logbook.specs.contracts.tokens.Pens
use Rattle.wm_root.proofs.retention.Retention.TheSendSync as RetentionSent
use Rattle.wm_root.proofs.watched_root.WatchedRoot.TheSendSync as RootSent
use Rattle.wm_root.specs.contracts.watched_root.WatchedRoot
use Rattle.wm_share.specs.contracts.shares.Shares
use Rattle.wm_share.specs.contracts.shares.Shares.TheInside as SharesInside
use Rattle.wm_share.specs.declared.book.Naming as Naming
use Rattle.wm_workers.proofs.log.queue.EventLog.TheSendSync as LogSent
use Rattle.wm_workers.proofs.roots.state.RootsState.TheSendSync as StateSent
use Rattle.wm_workers.proofs.wakes.flags.WakeFlags.TheSendSync as FlagsSent
use Rattle.wm_workers.specs.contracts.roots.server_roots.ServerRoots
use Rattle.wm_workers.specs.contracts.roots.state.RootsState

-- ---- what makes the roots' views

pens_keyless : (δ k n : ℕ) → Keyless (pens_own δ k n)
unfolding types.Keyed.entry
pens_keyless δ k zero = tt
pens_keyless δ k (suc n) = (tt, pens_keyless δ (suc k) n)

pens_send : IsSend Pens.the_row
pens_send = record { owned = λ d vs. ((λ vss. (tt, ((λ uss. (tt, tt)), tt))), pens_keyless d.book.cells_name d.next d.left); leaving = λ k x vs. tt }

shares_send : (J : RattleType) (g : Naming.Ghosts J.Denot) → IsSend (Shares.the_row J g)
shares_send J g =
    view_send (SharesInside.the_row J g) _ _ _ _
    (recorded_send (SharesInside.the_field J g).row _ _ (SharesInside.the_type J g).to_one
    (struct_send (Declared.shape (SharesInside.the_type J g)) (search sendable, (pens_send, (search (SeenSent.the_send, sendable) depth 40 fits 20000, (search (crosses, sendable) depth 40 fits 20000, tt))))))

shares_sync : (J : RattleType) (g : Naming.Ghosts J.Denot) → IsSync (Mutex.the_row (Shares.the_row J g))
shares_sync J g = MutexSent.the_sync (Shares.the_row J g) (shares_send J g)

-- ---- the roots

root_send : (J K : RattleType) (g : Naming.Ghosts J.Denot) → IsSend K → IsSend (Arc.the_row (WatchedRoot.the_row J K g) Global.the_row GlobalImpl.ghosts)
root_send J K g k =
    ArcSent.the_send (WatchedRoot.the_row J K g) Global.the_row GlobalImpl.ghosts (RootSent.the_send J K g k) GlobalSent.the_send (RootSent.the_sync J K g k) GlobalSent.the_sync FreesSent.the_frees

state_sync : (J K : RattleType) (g : Naming.Ghosts J.Denot) → IsSend K → IsSync (Mutex.the_row (RootsState.the_row (Arc.the_row (WatchedRoot.the_row J K g) Global.the_row GlobalImpl.ghosts)))
state_sync J K g k =
    let root = Arc.the_row (WatchedRoot.the_row J K g) Global.the_row GlobalImpl.ghosts in
    MutexSent.the_sync (RootsState.the_row root) (StateSent.the_send root (root_send J K g k))

pub server_roots_sync : (T J K : RattleType) (g : Naming.Ghosts J.Denot) → IsSync T → IsSend K → IsSync K → IsSync (ServerRoots.the_row T J K g)
server_roots_sync T J K g desk k k' =
    declared_sync (ServerRoots.the_type T J K g) (
      record { shared = desk.shared },
      (
        record { shared = k'.shared },
        (shares_sync J g, (state_sync J K g k, (CondvarSent.the_sync, (FlagsSent.the_sync, (RetentionSent.the_sync, (LogSent.the_sync, tt)))))),
      ),
    )
