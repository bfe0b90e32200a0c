-- A part of a state with one root, and what is read and left of it.
use Rattle.std.proofs.Common.{◌≡◌, ◌∙◌, Bool, true, cond, List, [], ◌∷◌, refl, ap, bytes_eq}
use Rattle.std.specs.Prelude.{Option, Some, None}
use Rattle.std.proofs.lemmas.Slice.Eq.{bytes_eq-Decides}
use Rattle.wm_names.specs.Paths.{Path}
use Rattle.wm_clock.specs.declared.clock_id.ClockId.{ClockId}
use Rattle.wm_clock.specs.declared.clock_spec.ClockSpec.{ClockSpec}
use Rattle.wm_clock.specs.declared.clock_spec.ClockSpec.TheVariants.{Clock, Another, Cursor, Seconds}
use Rattle.wm_view.specs.Histories.{History}
use Rattle.wm_since.specs.Cursors.{CursorList, moved_to}
use Rattle.wm_registry.specs.Roots.{State}
use Rattle.wm_registry.specs.declared.root.Root.{Root}
use Rattle.wm_session.specs.declared.local.root_views.RootView.{RootView}
use Rattle.wm_session.specs.session.Sessions.{SessionState, answered, cursor_moved, view_of, with_root}
use Rattle.wm_session.specs.session.Watched.{of_history, root_view_at, with_cursor}
use Rattle.wm_front.specs.MetShared.{one_root}

same_path : (path : Path) → bytes_eq path path ≡ true
same_path path = (bytes_eq-Decides path path).1 refl

pub view_one : (path : Path) (v : RootView) → view_of (one_root path v) path ≡ Some v
view_one path v = ap (λ (b : Bool). cond {A = Option RootView} b (Some v) None) (same_path path)

pub with_one : (path : Path) (v w : RootView) → with_root (one_root path v) path w ≡ one_root path w
with_one path v w = ap (λ (b : Bool). record (one_root path v) { views = cond {A = List RootView} b (w ∷ []) (v ∷ []) }) (same_path path)

-- what a question leaves of it
pub answered_one : (path : Path) (h : History) (cursors : CursorList) (since : Option ClockSpec) (clock : ClockId)
    → (moved : CursorList) × (answered (one_root path (of_history h cursors)) path since clock ≡ one_root path (of_history h moved))
answered_one path h cursors None clock = (cursors, refl)
answered_one path h cursors (Some (Clock c)) clock = (cursors, refl)
answered_one path h cursors (Some Another) clock = (cursors, refl)
answered_one path h cursors (Some (Seconds s)) clock = (cursors, refl)
answered_one path h cursors (Some (Cursor name)) clock =
    let v = of_history h cursors in (
      moved_to name clock cursors,
      ap (λ (o : Option RootView). cursor_moved (one_root path v) path o name clock) (view_one path v) ∙ with_one path v (with_cursor name clock v),
    )

-- ---- a registry by itself

-- the registry's part of a state
abbrev pub with_registry : State → Bool → SessionState
with_registry registry failed = record { registry = registry; has_failed = failed; views = [] }

no_view : (path : Path) (roots : List (Path × Root)) → root_view_at path roots [] ≡ None
no_view path [] = refl
no_view path (root ∷ roots) = refl

pub view_none : (path : Path) (r : State) (failed : Bool) → view_of (with_registry r failed) path ≡ None
view_none path r failed = no_view path r.roots
