use Rattle.session_tests.proofs.world.driven.Goals as goal

pub drive-requires : goal.drive-requires
drive-requires g c = let f = c.in_ok-format.ensures in record { formatted = λ h. record { formatted = f.formatted h; durable = f.durable h } }
