-- What is wrong with a call, and what it does.
use Rattle.std.specs.Prelude.{ℕ, Bool, List, length, map, Option}
use Rattle.ir_types.specs.Problems.{◌>>◌}
use Rattle.ir_types.specs.Uses.{Context, callee_problem, arguments_problem, params_of}
use Rattle.ir_types.specs.ModuleOf.{argument_of, function_number}
use Rattle.ir_types.specs.declared.span.At.{At}
use Rattle.ir_types.specs.declared.rules.Here.{Here}
use Rattle.ir_types.specs.declared.rules.Problem.{Problem}
use Rattle.ir_types.specs.declared.syntax.Kind.{Kind}
use Rattle.ir_types.specs.declared.syntax.Kind.TheVariants.{Call}
use Rattle.ir_types.specs.declared.tree.RawArg.{RawArg}
use Rattle.ir_types.specs.declared.tree.Ty.{Ty}

-- what is wrong with the callee of a call, or with the arguments where its parameters are due
abbrev pub call_problem : Context → Here → Ty → Bool → At (List ℕ) → List RawArg → Option Problem
call_problem c here type named callee args = callee_problem c type named (length args) callee >> arguments_problem c here (params_of c callee.item) args

-- what the call does
abbrev pub call_of : Context → List ℕ → List RawArg → Kind
call_of c callee args = Call (function_number c callee) (map (argument_of c) args)
