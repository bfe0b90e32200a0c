-- Syncs: what a record tells of one, and which of them are ready.
use Rattle.std.specs.Prelude.{ℕ, Bool, not, ◌+◌, ◌-◌, ◌^◌, ◌&&◌, ◌||◌, ◌==◌, List, [], ◌∷◌, ◌++◌, Option, Some, None, length, map, min, nat_le, nat_lt, codes, if◌then◌else◌}
use Rattle.std.specs.List.{filter, list_all, list_any}
use Rattle.std.specs.Str.{bytes_eq, is_utf8}
use Rattle.wm_feed.specs.declared.sync.Synced.{Synced}
use Rattle.wm_feed.specs.declared.sync.Synced.TheVariants as synced
use Rattle.wm_feed.specs.Batches.{Gathered, asks_nothing}
use Rattle.wm_feed.specs.Records.{Bytes, Record, has, record_of}
use Rattle.wm_feed.specs.Once.{each_once, is_in_texts}

-- ---- a record

pub data SyncTells : Type 0 where
  elsewhere : SyncTells
  no_sync : SyncTells
  sync : Bytes → SyncTells

-- what a `Synced` of the code says
abbrev pub sync_in : Synced → SyncTells
sync_in synced.Elsewhere = elsewhere
sync_in synced.Nothing = no_sync
sync_in (synced.Asked name) = sync name.now

-- something that is no folder was made or came
abbrev pub is_new_file : Bytes → Bool
is_new_file events = (has events (codes "CREATE") || has events (codes "MOVED_TO")) && not (has events (codes "ISDIR"))

-- it asks for a sync where its name is a text, which the folder itself has none of
abbrev pub sync_at : Bytes → Bytes → SyncTells
sync_at events [] = no_sync
sync_at events (b ∷ name) = if is_new_file events && is_utf8 (b ∷ name) then sync (b ∷ name) else no_sync

-- a folder's path ends with a slash in a record
abbrev pub sync_of : Bytes → Option Record → SyncTells
sync_of folder None = elsewhere
sync_of folder (Some r) = if bytes_eq r.folder (folder ++ 47 ∷ []) then sync_at r.events r.name else elsewhere

abbrev pub sync_tells : Bytes → Bytes → SyncTells
sync_tells folder bytes = sync_of folder (record_of bytes)

-- ---- which are ready

-- a sync, a watch that reported it, and the number of the last batch that has something of what came before it
pub record SyncTold : Type 0 where
  pub name : Bytes
  pub watch : ℕ
  pub batch : ℕ

-- the syncs that were reported, how many batches were sent, and up to which of them all were answered
pub record SyncsKept : Type 0 where
  pub told : List SyncTold
  pub sent : ℕ
  pub answered : ℕ

-- the first batch is the crawl by which a feed begins
abbrev pub no_syncs : SyncsKept
no_syncs = record { told = []; sent = 1; answered = 0 }

abbrev pub next_batch : ℕ → ℕ
next_batch n = min (n + 1) (2 ^ 64 - 1)

-- what was gathered is sent as the next batch
abbrev pub with_sent : SyncsKept → SyncsKept
with_sent s = record { told = s.told; sent = next_batch s.sent; answered = s.answered }

-- the server has answered each batch that was sent
abbrev pub with_answered : SyncsKept → SyncsKept
with_answered s = record { told = s.told; sent = s.sent; answered = s.sent }

-- no answer counts: more happened than was sent
abbrev pub with_lost : SyncsKept → SyncsKept
with_lost s = record { told = s.told; sent = s.sent; answered = 0 }

-- the last batch that has something of what came so far: the one that is gathered, or else the one that was sent last
abbrev pub last_batch : Gathered → SyncsKept → ℕ
last_batch gathered s = if asks_nothing gathered then s.sent else next_batch s.sent

abbrev pub is_sync_told : Bytes → ℕ → SyncTold → Bool
is_sync_told name watch one = (one.watch == watch) && bytes_eq one.name name

abbrev pub was_told : Bytes → ℕ → List SyncTold → Bool
was_told name watch told = list_any (λ one. is_sync_told name watch one) told

-- one more, unless it was told before or 4,096 were
abbrev pub with_told : Bytes → ℕ → Gathered → SyncsKept → SyncsKept
with_told name watch gathered s =
    if was_told name watch s.told || not (nat_lt (length s.told) 4096)
    then s
    else record { told = s.told ++ record { name = name; watch = watch; batch = last_batch gathered s } ∷ []; sent = s.sent; answered = s.answered }

-- a watch reported it, and the server has answered all that came before
abbrev pub is_sync_answered : ℕ → Bytes → ℕ → SyncTold → Bool
is_sync_answered answered name watch one = is_sync_told name watch one && nat_le one.batch answered

abbrev pub was_answered : ℕ → Bytes → ℕ → List SyncTold → Bool
was_answered answered name watch told = list_any (λ one. is_sync_answered answered name watch one) told

-- so did each of the watches; without a watch none is ready
abbrev pub is_sync_ready : ℕ → Bytes → List ℕ → List SyncTold → Bool
is_sync_ready answered name watches told = nat_lt 0 (length watches) && list_all (λ watch. was_answered answered name watch told) watches

abbrev pub sync_names : List SyncTold → List Bytes
sync_names told = map (λ one. one.name) told

abbrev pub ready_names : List ℕ → SyncsKept → List Bytes
ready_names watches s = each_once (filter (λ name. is_sync_ready s.answered name watches s.told) (sync_names s.told))

abbrev pub with_syncs : List SyncTold → SyncsKept → SyncsKept
with_syncs told s = record { told = told; sent = s.sent; answered = s.answered }

abbrev pub forgotten : List Bytes → SyncsKept → SyncsKept
forgotten names s = with_syncs (filter (λ one. not (is_in_texts one.name names)) s.told) s

-- those of the others whose clients took their files away are forgotten
abbrev pub kept_of : List Bytes → SyncsKept → SyncsKept
kept_of names s = with_syncs (filter (λ one. is_in_texts one.name names) s.told) s
