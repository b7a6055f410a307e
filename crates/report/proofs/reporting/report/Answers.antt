use Rattle.std.proofs.Common.{◌∙◌, List, length, ap, sym}
use Rattle.std.specs.Prelude.{filter}
use Rattle.ir_types.specs.declared.syntax.Function.{Function}
use Rattle.tallies.specs.declared.tally.Tally.{Tally}
use Rattle.profile.specs.Counts.{is_defined}
use Rattle.report.proofs.Counted.{defined_in_all}
use Rattle.report.proofs.reporting.report.Goals as goal

pub put_functions-requires : goal.put_functions-requires
put_functions-requires c =
    ap (λ (l : List (List Tally)). length l) c.as_slice.ensures.value ∙ c.in_ok-tallied.ensures.tallies.count ∙ defined_in_all c.args.program.now.functions
    ∙ ap (λ (l : List Function). length (filter is_defined l)) (sym c.functions.ensures.list)
