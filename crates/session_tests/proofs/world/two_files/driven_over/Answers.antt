use Rattle.session_tests.proofs.world.two_files.driven_over.Goals as goal

pub drive_two-requires : goal.drive_two-requires
drive_two-requires g c = let f = c.in_ok-format_first.ensures in record { formatted = λ h. record { formatted = f.formatted h; durable = f.durable h } }
