use Rattle.wm_feed.proofs.Asking.{entry_asks_for_both, none_is_dropped}
use Rattle.wm_feed.proofs.Written.{entry_is_told, lost_is_doubted, written_is_read}
use Rattle.wm_feed.proofs.laws.every_record.Goals as goal

pub returns-clause-read : goal.returns-clause-read
returns-clause-read c = written_is_read

pub returns-clause-lost : goal.returns-clause-lost
returns-clause-lost c = lost_is_doubted

pub returns-clause-told : goal.returns-clause-told
returns-clause-told c = entry_is_told

pub returns-clause-kept : goal.returns-clause-kept
returns-clause-kept c = none_is_dropped

pub returns-clause-both : goal.returns-clause-both
returns-clause-both c = entry_asks_for_both
