use Rattle.std.proofs.Common.{◌≡◌, ◌∙◌, ◌++◌, ap, codes, option_map, refl, rules, subst}
use Rattle.std.specs.Io.BufRead.{drop_through}
use Rattle.std.specs.String.{string_bytes}
use Rattle.wm_client.specs.Asks.{Asks, AsksWhole}
use Rattle.wm_client.specs.ClientWords.{sync_wanted_of}
use Rattle.wm_client.specs.Syncs.{SendsStarts, clock_request, sync_folder}
use Rattle.wm_client.specs.Talks.{Prints, PrintsReply}
use Rattle.wm_client.specs.Waits.{GaveUpIn, GoneIn, HasPassed}
use Rattle.wm_client.specs.declared.syncing.Asked.TheVariants.{Ended}
use Rattle.wm_client.proofs.Asking.{whole_there}
use Rattle.wm_client.proofs.Passing.{passed_there}
use Rattle.wm_client.proofs.Synced.{ended_waits, may_be_sent, may_be_sent_plain, no_feed_waits, only_clocks, prints_plain, prints_synced}
use Rattle.wm_client.proofs.syncing.synced_talk.Goals as goal
use Rattle.wm_client.proofs.syncing.synced_talk.Goals.{in-Some+in_ok-root+in-Root+in_ok-folder+in_ok-sync+else-not-branch, in_default}

pub returns-in_err-root-clause-order : goal.returns-in_err-root-clause-order
returns-in_err-root-clause-order g c =
    only_clocks (GoneIn g.Y.SyncSystem.made_in g.Y.SyncSystem.gone c.args.system.now) (string_bytes c.args.request.now.socket) (option_map sync_wanted_of c.args.request.now.sync)
    (sync_wanted_of c.in-Some.sync) _ _ (ap (option_map sync_wanted_of) c.in-Some.is)
    (subst (λ root. SendsStarts (clock_request root ++ codes "\n") (g.S.Write.contents c.args.sender.now) (g.S.Write.contents c.ask_root.new.sender)) c.deref.ensures c.ask_root.ensures.starts)

pub returns-in-Unreadable-clause-order : goal.returns-in-Unreadable-clause-order
returns-in-Unreadable-clause-order g c =
    only_clocks (GoneIn g.Y.SyncSystem.made_in g.Y.SyncSystem.gone c.args.system.now) (string_bytes c.args.request.now.socket) (option_map sync_wanted_of c.args.request.now.sync)
    (sync_wanted_of c.in-Some.sync) _ _ (ap (option_map sync_wanted_of) c.in-Some.is)
    (subst (λ root. SendsStarts (clock_request root ++ codes "\n") (g.S.Write.contents c.args.sender.now) (g.S.Write.contents c.ask_root.new.sender)) c.deref.ensures c.ask_root.ensures.starts)

pub returns-in-Ended-clause-order : goal.returns-in-Ended-clause-order
returns-in-Ended-clause-order g c =
    only_clocks (GoneIn g.Y.SyncSystem.made_in g.Y.SyncSystem.gone c.args.system.now) (string_bytes c.args.request.now.socket) (option_map sync_wanted_of c.args.request.now.sync)
    (sync_wanted_of c.in-Some.sync) _ _ (ap (option_map sync_wanted_of) c.in-Some.is)
    (subst (λ root. SendsStarts (clock_request root ++ codes "\n") (g.S.Write.contents c.args.sender.now) (g.S.Write.contents c.ask_root.new.sender)) c.deref.ensures c.ask_root.ensures.starts)

pub returns-in_err-folder-clause-order : goal.returns-in_err-folder-clause-order
returns-in_err-folder-clause-order g c =
    only_clocks (GoneIn g.Y.SyncSystem.made_in g.Y.SyncSystem.gone c.args.system.now) (string_bytes c.args.request.now.socket) (option_map sync_wanted_of c.args.request.now.sync)
    (sync_wanted_of c.in-Some.sync) _ _ (ap (option_map sync_wanted_of) c.in-Some.is)
    (subst (λ root. SendsStarts (clock_request root ++ codes "\n") (g.S.Write.contents c.args.sender.now) (g.S.Write.contents c.ask_root.new.sender)) c.deref.ensures c.ask_root.ensures.starts)

pub returns-in_err-sync-clause-order : goal.returns-in_err-sync-clause-order
returns-in_err-sync-clause-order g c =
    only_clocks (GoneIn g.Y.SyncSystem.made_in g.Y.SyncSystem.gone c.args.system.now) (string_bytes c.args.request.now.socket) (option_map sync_wanted_of c.args.request.now.sync)
    (sync_wanted_of c.in-Some.sync) _ _ (ap (option_map sync_wanted_of) c.in-Some.is)
    (subst (λ root. SendsStarts (clock_request root ++ codes "\n") (g.S.Write.contents c.args.sender.now) (g.S.Write.contents c.ask_root.new.sender)) c.deref.ensures c.ask_root.ensures.starts)

pub returns-then-not-branch-clause-order : goal.returns-then-not-branch-clause-order
returns-then-not-branch-clause-order g c =
    only_clocks (GoneIn g.Y.SyncSystem.made_in g.Y.SyncSystem.gone c.args.system.now) (string_bytes c.args.request.now.socket) (option_map sync_wanted_of c.args.request.now.sync)
    (sync_wanted_of c.in-Some.sync) _ _ (ap (option_map sync_wanted_of) c.in-Some.is)
    (subst (λ root. SendsStarts (clock_request root ++ codes "\n") (g.S.Write.contents c.args.sender.now) (g.S.Write.contents c.ask_root.new.sender)) c.deref.ensures c.ask_root.ensures.starts)

pub returns-in-Ended-clause-over : goal.returns-in-Ended-clause-over
returns-in-Ended-clause-over g c =
    let over : Type 0 = HasPassed (g.Y.SyncSystem.passed c.start-timer.result.system.now) c.start-timer.result.limit in
    let whole = subst (AsksWhole over (g.W.Write.contents c.args.printer.now) (g.W.Write.contents c.ask_root.new.printer)) c.in-Ended.is c.in_ok-root.ensures.whole in
    ended_waits (g.Y.SyncSystem.passed c.args.system.now) (GaveUpIn g.Y.SyncSystem.made_in g.Y.SyncSystem.removed g.Y.SyncSystem.none_in c.args.system.now)
    (string_bytes c.args.request.now.socket) (option_map sync_wanted_of c.args.request.now.sync) (sync_wanted_of c.in-Some.sync) _ _ c.in-Ended.end (ap (option_map sync_wanted_of) c.in-Some.is)
    (whole_there over _ _ _ _ (Ended c.in-Ended.end) (passed_there g.Y.SyncSystem.passed _ _ _ _ c.start-timer.ensures.system c.start-timer.ensures.limit) refl whole)

pub returns-then-not-branch-clause-over : goal.returns-then-not-branch-clause-over
returns-then-not-branch-clause-over g c =
    let same = c.ask_root.ensures.system ∙ c.start-timer.ensures.system in
    let folder : c.deref-in-Some-2.result.now ≡ sync_folder (string_bytes c.args.request.now.socket) c.in-Root.root = search rules in
    let left = c.in_ok-sync.ensures.left c.if-not-branch.true in
    let gave_up : GaveUpIn g.Y.SyncSystem.made_in g.Y.SyncSystem.removed g.Y.SyncSystem.none_in c.args.system.now (sync_folder (string_bytes c.args.request.now.socket) c.in-Root.root) =
    subst (GaveUpIn g.Y.SyncSystem.made_in g.Y.SyncSystem.removed g.Y.SyncSystem.none_in c.args.system.now) folder
    (subst (λ s. GaveUpIn g.Y.SyncSystem.made_in g.Y.SyncSystem.removed g.Y.SyncSystem.none_in s c.deref-in-Some-2.result.now) same left.0) in
    no_feed_waits (g.Y.SyncSystem.passed c.args.system.now) (GaveUpIn g.Y.SyncSystem.made_in g.Y.SyncSystem.removed g.Y.SyncSystem.none_in c.args.system.now)
    (string_bytes c.args.request.now.socket) (option_map sync_wanted_of c.args.request.now.sync) (sync_wanted_of c.in-Some.sync) _ _ c.in-Root.root (ap (option_map sync_wanted_of) c.in-Some.is)
    gave_up (passed_there g.Y.SyncSystem.passed _ _ _ _ same (c.ask_root.ensures.limit ∙ c.start-timer.ensures.limit) left.1)

pub returns-clause-told : goal.returns-clause-told
returns-clause-told g c input known = elim c.match-request.branch [
  | in-Some+in_ok-root+in-Root+in_ok-folder+in_ok-sync+else-not-branch w ↦
      let same = w.ask_root.ensures.system ∙ w.start-timer.ensures.system in
      let folder : w.deref-in-Some-2.result.now ≡ sync_folder (string_bytes c.args.request.now.socket) w.in-Root.root = search rules in
      let gone : GoneIn g.Y.SyncSystem.made_in g.Y.SyncSystem.gone c.args.system.now (sync_folder (string_bytes c.args.request.now.socket) w.in-Root.root) =
      subst (GoneIn g.Y.SyncSystem.made_in g.Y.SyncSystem.gone c.args.system.now) folder
      (subst (λ s. GoneIn g.Y.SyncSystem.made_in g.Y.SyncSystem.gone s w.deref-in-Some-2.result.now) same (w.in_ok-sync.ensures.gone (search rules))) in
      let told = w.in_ok-root.ensures.told input known in
      let asks = subst (Asks told.1 (g.W.Write.contents c.args.printer.now) (g.W.Write.contents w.ask_root.new.printer) (g.R.Read.remaining w.ask_root.new.replies)) w.in-Root.is told.3 in
      prints_synced (GoneIn g.Y.SyncSystem.made_in g.Y.SyncSystem.gone c.args.system.now) (string_bytes c.args.request.now.socket) (option_map sync_wanted_of c.args.request.now.sync)
      (sync_wanted_of w.in-Some.sync) c.args.request.now.follow told.0 w.in-Root.root input told.1 _ (g.W.Write.contents c.match-request.printer) _ c.in_ok-end.end (ap (option_map sync_wanted_of) w.in-Some.is)
      told.2 asks.0 gone (ap g.W.Write.contents w.printer-is ∙ asks.2) (c.in_ok-end.ensures.told (drop_through 10 told.1) (ap g.R.Read.remaining w.replies-is ∙ asks.1))
  | in_default w ↦
      prints_plain (GoneIn g.Y.SyncSystem.made_in g.Y.SyncSystem.gone c.args.system.now) (string_bytes c.args.request.now.socket) (option_map sync_wanted_of c.args.request.now.sync)
      c.args.request.now.follow input _ _ c.in_ok-end.end (ap (option_map sync_wanted_of) w.in_default.is)
      (subst (λ o. Prints c.args.request.now.follow input o (g.W.Write.contents c.talk.new.printer) c.in_ok-end.end) (ap g.W.Write.contents w.printer-is)
      (c.in_ok-end.ensures.told input (ap g.R.Read.remaining w.replies-is ∙ known)))
]

pub returns-clause-whole : goal.returns-clause-whole
returns-clause-whole g c = elim c.match-request.branch [
  | in-Some+in_ok-root+in-Root+in_ok-folder+in_ok-sync+else-not-branch w ↦
      let same = w.ask_root.ensures.system ∙ w.start-timer.ensures.system in
      let folder : w.deref-in-Some-2.result.now ≡ sync_folder (string_bytes c.args.request.now.socket) w.in-Root.root = search rules in
      let gone : GoneIn g.Y.SyncSystem.made_in g.Y.SyncSystem.gone c.args.system.now (sync_folder (string_bytes c.args.request.now.socket) w.in-Root.root) =
      subst (GoneIn g.Y.SyncSystem.made_in g.Y.SyncSystem.gone c.args.system.now) folder
      (subst (λ s. GoneIn g.Y.SyncSystem.made_in g.Y.SyncSystem.gone s w.deref-in-Some-2.result.now) same (w.in_ok-sync.ensures.gone (search rules))) in
      let quiet : g.W.Write.contents w.ask_root.new.printer ≡ g.W.Write.contents c.args.printer.now = subst (AsksWhole _ (g.W.Write.contents c.args.printer.now) (g.W.Write.contents w.ask_root.new.printer)) w.in-Root.is w.in_ok-root.ensures.whole in (
        λ _. may_be_sent (GoneIn g.Y.SyncSystem.made_in g.Y.SyncSystem.gone c.args.system.now) (string_bytes c.args.request.now.socket) (option_map sync_wanted_of c.args.request.now.sync)
            (sync_wanted_of w.in-Some.sync) w.in-Root.root (ap (option_map sync_wanted_of) w.in-Some.is) gone,
        subst (λ o. PrintsReply c.args.request.now.follow o (g.W.Write.contents c.talk.new.printer) c.in_ok-end.end) (ap g.W.Write.contents w.printer-is ∙ quiet) c.in_ok-end.ensures.whole,
      )
  | in_default w ↦ (
    λ _. may_be_sent_plain (GoneIn g.Y.SyncSystem.made_in g.Y.SyncSystem.gone c.args.system.now) (string_bytes c.args.request.now.socket) (option_map sync_wanted_of c.args.request.now.sync)
        (ap (option_map sync_wanted_of) w.in_default.is),
    subst (λ o. PrintsReply c.args.request.now.follow o (g.W.Write.contents c.talk.new.printer) c.in_ok-end.end) (ap g.W.Write.contents w.printer-is) c.in_ok-end.ensures.whole,
  )
]
