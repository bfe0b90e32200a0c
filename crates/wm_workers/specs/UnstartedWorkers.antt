-- The workers of roots that are still to be started.
use Rattle.std.specs.Prelude.{ℕ, ◌==◌, ◌&&◌, Bool, true, false, not, length, drop, List, [], ◌∷◌, ◌++◌, Option, None, Some, if◌then◌else◌}
use Rattle.wm_workers.specs.declared.unstarted.Worker.{Worker}
use Rattle.wm_workers.specs.declared.unstarted.Worker.TheVariants.{Crawler, Triggers}

-- the workers that are still to be started, in the order in which they came, and whether none is started any longer
pub record WorkerList : Type 0 where
  pub workers : List Worker
  pub is_closed : Bool

abbrev pub no_workers : WorkerList
no_workers = record { workers = []; is_closed = false }

-- both workers of a root
abbrev pub workers_of : ℕ → List Worker
workers_of root = Crawler root ∷ Triggers root ∷ []

abbrev pub worker_root : Worker → ℕ
worker_root (Crawler root) = root
worker_root (Triggers root) = root

-- behind the others come both workers of a root
abbrev pub with_workers : ℕ → WorkerList → WorkerList
with_workers root w = record w { workers = w.workers ++ workers_of root }

abbrev pub first_of : List Worker → Option Worker
first_of [] = None
first_of (worker ∷ workers) = Some worker

-- the worker that is started next: the one that came first
abbrev pub next_worker : WorkerList → Option Worker
next_worker w = if w.is_closed then None else first_of w.workers

-- no worker is to be started, and one may still come
abbrev pub awaits_worker : WorkerList → Bool
awaits_worker w = length w.workers == 0 && not w.is_closed

-- no worker is started any longer
abbrev pub closed_workers : WorkerList → WorkerList
closed_workers w = record w { is_closed = true }

-- the worker that came first was started
abbrev pub workers_after : WorkerList → WorkerList
workers_after w = record w { workers = drop 1 w.workers }
