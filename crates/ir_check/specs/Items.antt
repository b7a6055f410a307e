-- The globals and functions of a tree, one by one.
use Rattle.std.specs.Prelude.{◌≤◌, ◌^◌, List, Option, Some, None, slice_get, if◌then◌else◌}
use Rattle.ir_types.specs.Order.{Item, Global, Function, starts_before}
use Rattle.ir_types.specs.Definitions.{Defined}
use Rattle.ir_types.specs.Rules.{Passed}
use Rattle.ir_types.specs.ModuleOf.{function_of, global_of}
use Rattle.ir_types.specs.Size.{function_items}
use Rattle.ir_types.specs.declared.syntax.Global.{Global as GlobalMade}
use Rattle.ir_types.specs.declared.syntax.Function.{Function as FunctionMade}
use Rattle.ir_types.specs.declared.tree.RawFunction.{RawFunction}
use Rattle.ir_types.specs.declared.tree.RawGlobal.{RawGlobal}
use Rattle.ir_types.specs.declared.tree.Raw.{Raw}
use Rattle.ir_check.specs.declared.tree.Part.{Part}
use Rattle.ir_check.specs.declared.tree.Part.TheVariants as part
use Rattle.ir_check.specs.declared.tree.Made.{Made}
use Rattle.ir_check.specs.declared.tree.Made.TheVariants as made

-- the global or function that a part is
abbrev pub item_in : Part → Item
item_in (part.Global g) = Global g.now
item_in (part.Function f) = Function f.now

-- of the next global and the next function the one that comes first
abbrev pub earlier : Option RawGlobal → Option RawFunction → Option Item
earlier None None = None
earlier (Some g) None = Some (Global g)
earlier None (Some f) = Some (Function f)
earlier (Some g) (Some f) = Some (if starts_before f g then Function f else Global g)

-- what comes next, behind what was passed
abbrev pub next_item : Raw → Passed → Option Item
next_item raw p = earlier (slice_get raw.globals p.globals) (slice_get raw.functions p.functions)

-- a function has few items
abbrev pub IsFew : Item → Type 0
IsFew (Global g) = Unit {0}
IsFew (Function f) = function_items f ≤ 2 ^ 26

-- what an item becomes
abbrev pub made_of : List RawFunction → Defined → Item → Made
made_of functions symbols (Global g) = made.Global (global_of g)
made_of functions symbols (Function f) = made.Function (function_of functions symbols f)

-- the global, if it became one
abbrev pub global_in : Made → Option GlobalMade
global_in (made.Global g) = Some g
global_in (made.Function f) = None

-- the function, if it became one
abbrev pub function_in : Made → Option FunctionMade
function_in (made.Global g) = None
function_in (made.Function f) = Some f
