-- Parts of what instructions and terminators become, and of what is wrong with them.
use Rattle.std.specs.Prelude.{◌&&◌, not, List, [], ◌∷◌, map, Option, Some, None, if◌then◌else◌}
use Rattle.mc_num.specs.declared.op.Width.{Width}
use Rattle.mc_num.specs.declared.op.Width.TheVariants.{I1}
use Rattle.ir_types.specs.Problems.{◌>>◌, broken}
use Rattle.ir_types.specs.Definitions.{Defined, name_of, nothing}
use Rattle.ir_types.specs.Rules.{Reached, at_body, body_problem, context_in, is_known_external, is_nil}
use Rattle.ir_types.specs.Limits.{is_above_limits}
use Rattle.ir_types.specs.Uses.{Context, same_width, value_problem, label_problem, cases_problem}
use Rattle.ir_types.specs.ModuleOf.{gives, operand_of, target_of, case_of, width_of, numbered_from, params_from, variables_from, blocks_from}
use Rattle.ir_types.specs.declared.span.At.{At}
use Rattle.ir_types.specs.declared.name.Name.{Name}
use Rattle.ir_types.specs.declared.rules.Here.{Here}
use Rattle.ir_types.specs.declared.rules.Problem.{Problem}
use Rattle.ir_types.specs.declared.rules.Rule.TheVariants.{BadType, UnknownExternal, Limit}
use Rattle.ir_types.specs.declared.syntax.Function.{Function}
use Rattle.ir_types.specs.declared.syntax.Operand.{Operand}
use Rattle.ir_types.specs.declared.syntax.Terminator.{Terminator}
use Rattle.ir_types.specs.declared.syntax.Terminator.TheVariants.{Switch}
use Rattle.ir_types.specs.declared.tree.RawValue.{RawValue}
use Rattle.ir_types.specs.declared.tree.RawFunction.{RawFunction}
use Rattle.ir_types.specs.declared.tree.RawInstr.{RawInstr}
use Rattle.ir_types.specs.declared.tree.RawCase.{RawCase}

-- what is wrong with two values of one width
abbrev pub pair_problem : Context → Here → Width → At RawValue → At RawValue → Option Problem
pair_problem c here w one other = value_problem c here w one >> value_problem c here w other

-- the operands that they stand for
abbrev pub pair_of : Context → Width → RawValue → RawValue → List Operand
pair_of c w one other = operand_of c w one ∷ operand_of c w other ∷ []

-- what is wrong with a condition, a value, the type written for the other value, or that value
abbrev pub choice_problem : Context → Here → Width → At RawValue → At RawValue → At Width → At RawValue → Option Problem
choice_problem c here w test one second other =
    value_problem c here I1 test >> value_problem c here w one >>
    broken BadType second.span (not (same_width second.item w)) >> value_problem c here w other

-- the name of what an instruction gives, if it gives anything
abbrev pub result_of : Reached → RawInstr → Option Name
result_of r x = if gives x.kind then Some (name_of r.before x.result) else None

-- what is wrong with the value of a switch, the label that stands without a case, or the cases
abbrev pub switch_problem : Context → Here → Width → At RawValue → At Name → List RawCase → Option Problem
switch_problem c here w v other cases = value_problem c here w v >> label_problem c here other >> cases_problem c here w [] cases

-- the switch that they make
abbrev pub switch_of : Context → Width → RawValue → Name → List RawCase → Terminator
switch_of c w v other cases = Switch w (operand_of c w v) (target_of c other) (map (case_of c w) cases)

-- ---- functions

-- what is wrong with a function behind its name
abbrev pub function_problem : List RawFunction → Defined → RawFunction → Option Problem
function_problem functions symbols f =
    broken UnknownExternal f.name.span (is_nil f.blocks && not (is_known_external f)) >>
    broken Limit f.name.span (is_above_limits f) >>
    body_problem (context_in functions symbols f) f

-- what a function with these surroundings becomes
abbrev pub function_in : Context → RawFunction → Function
function_in c f = record {
  name = f.name.item;
  ret = width_of f.ret;
  params = if is_nil f.blocks then numbered_from 0 f.params else params_from 0 nothing f.params;
  vars = variables_from (at_body f) f.blocks;
  blocks = blocks_from c (at_body f) f.blocks;
}
