-- A module of n diamonds, one behind another, and how often each of its slots is taken.
use Rattle.std.specs.Prelude.{ℕ, ◌+◌, ◌*◌, ◌-◌, ◌%◌, List, [], ◌∷◌, ◌++◌, Some, None, codes}
use Rattle.std.specs.List.{flat_map, range_with_len}
use Rattle.mc_num.specs.declared.op.Width.TheVariants.{I32}
use Rattle.mc_num.specs.declared.op.Bin.TheVariants.{Add}
use Rattle.mc_num.specs.declared.op.Pred.TheVariants.{Slt}
use Rattle.mc_num.specs.declared.op.Op.TheVariants.{Bin, Icmp}
use Rattle.ir_types.specs.Program.{Program}
use Rattle.ir_types.specs.declared.name.Name.TheVariants.{Text}
use Rattle.ir_types.specs.declared.syntax.Operand.{Operand}
use Rattle.ir_types.specs.declared.syntax.Operand.TheVariants.{Const, Reg}
use Rattle.ir_types.specs.declared.syntax.Variable.{Variable}
use Rattle.ir_types.specs.declared.syntax.Variable.TheVariants.{Local}
use Rattle.ir_types.specs.declared.syntax.Kind.TheVariants.{Load, Store, Compute}
use Rattle.ir_types.specs.declared.syntax.Instr.{Instr}
use Rattle.ir_types.specs.declared.syntax.Terminator.TheVariants.{Return, Jump, Branch}
use Rattle.ir_types.specs.declared.syntax.Block.{Block}
use Rattle.ir_types.specs.declared.syntax.Function.{Function}
use Rattle.profile.specs.declared.counts.FnCounts.{FnCounts}
use Rattle.workload.specs.Names.{round_names}

-- ---- instructions

-- the two variables
abbrev pub a : Variable
a = Local 0

abbrev pub t : Variable
t = Local 1

-- `%name = load i32, ptr %a`
abbrev pub load : List ℕ → Instr
load name = record { result = Some (Text name); kind = Load a }

-- `store i32 value, ptr %variable`
abbrev pub store : Operand → Variable → Instr
store value variable = record { result = None; kind = Store value variable }

-- `%name = add i32 R, c` of the block's first result R, where c is the round's number modulo 7
abbrev pub add : List ℕ → ℕ → Instr
add name j = record { result = Some (Text name); kind = Compute (Bin Add I32) (Reg 0 ∷ Const (j % 7) ∷ []) }

-- `%name = icmp slt i32 R, 0`
abbrev pub test : List ℕ → Instr
test name = record { result = Some (Text name); kind = Compute (Icmp Slt I32) (Reg 0 ∷ Const 0 ∷ []) }

-- ---- blocks: the entry is block 0, round j has the blocks from 4j + 1 to 4j + 4, and behind the last round stands the end

-- `entry`: `store i32 0, ptr %a; br label %s0`, behind the two variables
abbrev pub entry : Block
entry = record { name = Text (codes "entry"); instrs = store (Const 0) a ∷ []; term = Jump 1 }

-- `sJ`: `%sJ.a = load i32, ptr %a; %sJ.c = icmp slt i32 %sJ.a, 0; br i1 %sJ.c, label %lJ, label %rJ`
abbrev pub start : ℕ → Block
start j = record {
  name = Text (round_names j).start;
  instrs = load (round_names j).start_value ∷ test (round_names j).start_test ∷ [];
  term = Branch (Reg 1) (4 * j + 2) (4 * j + 3);
}

-- `lJ`: `%lJ.a = load i32, ptr %a; %lJ.v = add i32 %lJ.a, c; store i32 %lJ.v, ptr %t; br label %jJ`
abbrev pub left : ℕ → Block
left j = record {
  name = Text (round_names j).left;
  instrs = load (round_names j).left_value ∷ add (round_names j).left_sum j ∷ store (Reg 1) t ∷ [];
  term = Jump (4 * j + 4);
}

-- `rJ`: `br label %jJ`
abbrev pub right : ℕ → Block
right j = record { name = Text (round_names j).right; instrs = []; term = Jump (4 * j + 4) }

-- `jJ`: `%jJ.a = load i32, ptr %a; %jJ.v = add i32 %jJ.a, c; store i32 %jJ.v, ptr %a; br label %NEXT`, and what stands next is
-- the next round or the end
abbrev pub join : ℕ → Block
join j = record {
  name = Text (round_names j).join;
  instrs = load (round_names j).join_value ∷ add (round_names j).join_sum j ∷ store (Reg 1) a ∷ [];
  term = Jump (4 * j + 5);
}

-- `end`: `ret i32 0`
abbrev pub end : Block
end = record { name = Text (codes "end"); instrs = []; term = Return (Some (Const 0)) }

abbrev pub round_blocks : ℕ → List Block
round_blocks j = start j ∷ left j ∷ right j ∷ join j ∷ []

-- ---- the module

-- `define i32 @main()`, whose entry begins by `%a = alloca i32; %t = alloca i32`
abbrev pub main_function : ℕ → Function
main_function n = record {
  name = codes "main";
  ret = Some I32;
  params = [];
  vars = (I32, Text (codes "a")) ∷ (I32, Text (codes "t")) ∷ [];
  blocks = entry ∷ (flat_map round_blocks (range_with_len 0 n) ++ end ∷ []);
}

abbrev pub workload_program : ℕ → Program
workload_program n = record { globals = []; functions = main_function n ∷ [] }

-- ---- the counts

-- how often round j goes by `lJ`, of 100 times; else it goes by `rJ`
abbrev pub left_count : ℕ → ℕ
left_count j = 1 + (37 * j) % 99

-- of the slots of `sJ`, `lJ`, `rJ` and `jJ`
abbrev pub round_counts : ℕ → List ℕ
round_counts j = left_count j ∷ (100 - left_count j) ∷ left_count j ∷ (100 - left_count j) ∷ 100 ∷ []

-- the function is entered 100 times
abbrev pub main_counts : ℕ → FnCounts
main_counts n = record { entry = 100; slots = 100 ∷ flat_map round_counts (range_with_len 0 n) }

abbrev pub workload_counts : ℕ → List FnCounts
workload_counts n = main_counts n ∷ []
