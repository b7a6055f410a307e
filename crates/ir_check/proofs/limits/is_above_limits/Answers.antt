use Rattle.std.proofs.Common.{not}
use Rattle.ir_types.specs.Limits.{is_alloca}
use Rattle.ir_check.proofs.Sizes.{few_counts, few_slots}
use Rattle.ir_check.proofs.limits.is_above_limits.Goals as goal

pub instrs_of-instrs-requires : goal.instrs_of-instrs-requires
instrs_of-instrs-requires c = few_counts c.args.function.now c.as_slice-blocks.result.now (λ x. not (is_alloca x.kind)) c.requires.few c.as_slice-blocks.ensures

pub slots_of-slots-requires : goal.slots_of-slots-requires
slots_of-slots-requires c = few_slots c.args.function.now c.as_slice-blocks.result.now c.requires.few c.as_slice-blocks.ensures

pub variables_of-variables-requires : goal.variables_of-variables-requires
variables_of-variables-requires c = few_counts c.args.function.now c.as_slice-blocks.result.now (λ x. is_alloca x.kind) c.requires.few c.as_slice-blocks.ensures
