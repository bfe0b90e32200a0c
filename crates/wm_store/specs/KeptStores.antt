-- What contracts see of a store, whatever the version of its file.
use Rattle.wm_store.specs.Stored.{Stored}
use Rattle.wm_store.specs.declared.store.KeptStore.{KeptStore}
use Rattle.wm_store.specs.declared.store.KeptStore.TheVariants.{One, Two}

abbrev pub stored_in : {D : Type 0} → KeptStore D → Stored D
stored_in (One store) = store
stored_in (Two store) = store
