-- Modules are the same where all their parts are, names compared by spelling.
use Rattle.std.specs.Prelude.{◌≡◌, List, map, option_map}
use Rattle.mc_num.specs.declared.op.Width.{Width}
use Rattle.ir_types.specs.Names.{spelled}
use Rattle.ir_types.specs.Program.{Program}
use Rattle.ir_types.specs.declared.name.Name.{Name}
use Rattle.ir_types.specs.declared.syntax.Instr.{Instr}
use Rattle.ir_types.specs.declared.syntax.Block.{Block}
use Rattle.ir_types.specs.declared.syntax.Function.{Function}

abbrev pub plain_instr : Instr → Instr
plain_instr i = record { result = option_map spelled i.result; kind = i.kind }

abbrev pub plain_block : Block → Block
plain_block b = record { name = spelled b.name; instrs = map plain_instr b.instrs; term = b.term }

abbrev pub plain_names : List (Width × Name) → List (Width × Name)
plain_names xs = map (λ x. (x.0, spelled x.1)) xs

abbrev pub plain_function : Function → Function
plain_function f = record { name = f.name; ret = f.ret; params = plain_names f.params; vars = plain_names f.vars; blocks = map plain_block f.blocks }

-- a module with each name as it is spelled
abbrev pub plain : Program → Program
plain m = record { globals = m.globals; functions = map plain_function m.functions }

abbrev pub IsSame : Program → Program → Type 0
IsSame m n = plain m ≡ plain n
