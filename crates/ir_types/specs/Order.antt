-- The globals and functions of a tree in text order.
use Rattle.std.specs.Prelude.{Bool, nat_lt, List, [], ◌∷◌, map, if◌then◌else◌}
use Rattle.ir_types.specs.declared.tree.RawFunction.{RawFunction}
use Rattle.ir_types.specs.declared.tree.RawGlobal.{RawGlobal}
use Rattle.ir_types.specs.declared.tree.Raw.{Raw}

pub data Item : Type 0 where
  Global : RawGlobal → Item
  Function : RawFunction → Item

-- the function's name starts before the global's
abbrev pub starts_before : RawFunction → RawGlobal → Bool
starts_before f g = nat_lt f.name.span.start g.name.span.start

-- the functions that start before a global, the global, and what follows it
unfoldable pub up_to : RawGlobal → (List RawFunction → List Item) → List RawFunction → List Item
up_to g rest [] = Global g ∷ rest []
up_to g rest (f ∷ fs) = if starts_before f g then Function f ∷ up_to g rest fs else Global g ∷ rest (f ∷ fs)

-- of the next global and the next function the one whose name starts earlier comes first, and the global where they start alike
unfoldable pub merged : List RawGlobal → List RawFunction → List Item
merged [] fs = map Function fs
merged (g ∷ gs) fs = up_to g (merged gs) fs

abbrev pub items_in_order : Raw → List Item
items_in_order raw = merged raw.globals raw.functions
