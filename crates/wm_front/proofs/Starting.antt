-- Since when is asked, as cursors stand.
use Rattle.std.proofs.Common.{◌≡◌, refl}
use Rattle.std.specs.Prelude.{Option, Some, None}
use Rattle.wm_clock.specs.declared.clock_spec.ClockSpec.{ClockSpec}
use Rattle.wm_clock.specs.declared.clock_spec.ClockSpec.TheVariants.{Clock, Another, Cursor, Seconds}
use Rattle.wm_since.specs.Cursors.{CursorList}
use Rattle.wm_root.specs.Inquired.{start_among}
use Rattle.wm_session.specs.session.Inquiries.{since_point}

-- a root and a session start at the same
pub same_start : (spec : Option ClockSpec) (cursors : CursorList) → start_among spec cursors ≡ since_point spec cursors
same_start None cursors = refl
same_start (Some (Clock c)) cursors = refl
same_start (Some Another) cursors = refl
same_start (Some (Cursor name)) cursors = refl
same_start (Some (Seconds s)) cursors = refl
