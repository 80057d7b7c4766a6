-- What a list with a fixed room holds. Assumes nothing.
--     items_of a       the items of the list a, in turn
use Rattle.std.specs.Prelude.{ℕ, List, take}
use Rattle.std.specs.declared.default.Default.{Ghosts as DefaultMembers}
use Rattle.ordered.specs.declared.filler.Filler.{Ghosts as FillerMembers}
use Rattle.ordered.specs.declared.array_list.ArrayList.{ArrayList}

abbrev pub items_of : {T : Type 0} {n : ℕ} {f : FillerMembers T} {d : DefaultMembers T} → ArrayList T n f d → List T
items_of a = take a.count a.slots
