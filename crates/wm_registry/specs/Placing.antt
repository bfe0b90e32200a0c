-- Triggers for each of which a file of a version has a place.
use Rattle.std.specs.Prelude.{◌≡◌, true, List}
use Rattle.std.specs.List.{AllByRecursion}
use Rattle.wm_registry.specs.Endings.{count_fits}
use Rattle.wm_registry.specs.Triggers.{Definition}
use Rattle.wm_registry.specs.declared.version.Version.{Version}

abbrev pub ArePlaced : Version → List Definition → Type 0
ArePlaced v triggers = AllByRecursion (λ t. count_fits v t.max_files_stdin ≡ true) triggers
