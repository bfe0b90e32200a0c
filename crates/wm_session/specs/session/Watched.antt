-- The views of the watched roots with their cursors: one a root, in order of watching.
use Rattle.std.specs.Prelude.{◌≡◌, ◌≢◌, ℕ, List, [], ◌∷◌, map, Bool, false, if◌then◌else◌, Option, Some, None, position, Result, Ok, Err}
use Rattle.std.specs.Map.{keys_of}
use Rattle.std.specs.List.{AllByRecursion}
use Rattle.std.specs.Str.{bytes_eq}
use Rattle.wm_disk.specs.declared.refusal.Refusal.{Refusal}
use Rattle.wm_disk.specs.declared.refusal.Refusal.TheVariants.{NotWatched, NotReady, NoMemory}
use Rattle.wm_names.specs.Paths.{Path}
use Rattle.wm_clock.specs.declared.clock_id.ClockId.{ClockId}
use Rattle.wm_view.specs.declared.op.Op.{Op}
use Rattle.wm_view.specs.Histories.{History, IsMade, new_history}
use Rattle.wm_view.specs.Summaries.{summary}
use Rattle.wm_view.specs.Steps.{refused_in, step}
use Rattle.wm_since.specs.Cursors.{CursorList, has_room, moved_to}
use Rattle.wm_session.specs.declared.local.root_views.RootView.{RootView}
use Rattle.wm_lines.specs.declared.progress.Progress.{Progress}
use Rattle.wm_registry.specs.declared.root.Root.{Root}
use Rattle.wm_registry.specs.Roots as registry

-- a root with this history and these cursors
abbrev pub of_history : History → CursorList → RootView
of_history h cursors = record { view = summary h; cursors = cursors }

-- a root that has just begun has no cursor
abbrev pub new_view : ℕ → ℕ → RootView
new_view incarnation number = of_history (new_history incarnation number) []

-- the views at a start
abbrev pub first_views : registry.State → List RootView
first_views r = map (λ root. new_view r.incarnation root.1.number) r.roots

-- each view is the summary of a history that operations made
abbrev pub IsOfHistory : RootView → Type 0
IsOfHistory root = (h : History) × IsMade h × (root.view ≡ summary h)

abbrev pub AreOfHistories : List RootView → Type 0
AreOfHistories views = AllByRecursion IsOfHistory views

-- the view of the root with this path, where it is watched
abbrev pub root_view_at : Path → List (Path × Root) → List RootView → Option RootView
root_view_at path [] views = None
root_view_at path (root ∷ roots) [] = None
root_view_at path (root ∷ roots) (view ∷ views) = if bytes_eq path root.0 then Some view else root_view_at path roots views

-- the views with another in its place
abbrev pub with_view : Path → RootView → List (Path × Root) → List RootView → List RootView
with_view path new [] views = views
with_view path new (root ∷ roots) [] = []
with_view path new (root ∷ roots) (view ∷ views) = if bytes_eq path root.0 then new ∷ views else view ∷ with_view path new roots views

-- the views without that of the root with this path
abbrev pub without_view : Path → List (Path × Root) → List RootView → List RootView
without_view path [] views = views
without_view path (root ∷ roots) [] = []
without_view path (root ∷ roots) (view ∷ views) = if bytes_eq path root.0 then views else view ∷ without_view path roots views

-- ---- a root's view, or why there is no answer

abbrev pub unless : {A : Type 0} → Option Refusal → A → Result A Refusal
unless None new = Ok new
unless (Some r) new = Err r

-- the view after an operation, which moves no cursor
abbrev pub view_after : Option RootView → Op → Result RootView Refusal
view_after None op = Err NotWatched
view_after (Some root) op = unless (refused_in root.view op) (record root { view = step root.view op })

abbrev pub clock_in : RootView → ClockId
clock_in root = record { incarnation = root.view.incarnation; root = root.view.root; tick = root.view.tick }

abbrev pub clock_answer : Option RootView → Result ClockId Refusal
clock_answer None = Err NotWatched
clock_answer (Some root) = if root.view.ready then Ok (clock_in root) else Err NotReady

-- the root's cursor may be moved
abbrev pub may_move : Option RootView → List ℕ → Bool
may_move None name = false
may_move (Some root) name = has_room name root.cursors

-- the root with its cursor at a clock
abbrev pub with_cursor : List ℕ → ClockId → RootView → RootView
with_cursor name clock root = record root { cursors = moved_to name clock root.cursors }

-- where a root's view stands
abbrev pub progress_in : RootView → Progress
progress_in root = record { clock = clock_in root; floor = root.view.floor }

-- where it stands after an operation
abbrev pub progress_after : Result RootView Refusal → Result Progress Refusal
progress_after (Ok view) = Ok (progress_in view)
progress_after (Err r) = Err r

-- ---- for private clauses

-- the place of a root among the watched ones
abbrev pub place_of : Path → List (Path × Root) → Option ℕ
place_of path roots = position (bytes_eq path) (keys_of roots)

-- the view at the place was taken out, whichever root has that place
abbrev pub Forgets : Option ℕ → List RootView → List RootView → Type 0
Forgets place old new = (path : Path) (roots : List (Path × Root)) → place ≡ place_of path roots → new ≡ without_view path roots old

-- an operation was done to a root's view, and it is told where that stands; or it was refused, and nothing changed
abbrev pub Operated : Path → Op → List (Path × Root) → List RootView → Result Progress Refusal → List RootView → Type 0
Operated path o roots old (Ok progress) new = (view : RootView) × (view_after (root_view_at path roots old) o ≡ Ok view) × (progress ≡ progress_in view) × (new ≡ with_view path view roots old)
Operated path o roots old (Err e) new = (e ≢ NoMemory → view_after (root_view_at path roots old) o ≡ Err e) × (new ≡ old)

-- the cursor of a root was moved
abbrev pub IsCursorMoved : Path → List ℕ → ClockId → List (Path × Root) → Option RootView → List RootView → List RootView → Type 0
IsCursorMoved path name clock roots None old new = new ≡ old
IsCursorMoved path name clock roots (Some root) old new = new ≡ with_view path (with_cursor name clock root) roots old
