use Rattle.std.proofs.Common.{ap}
use Rattle.ir_types.specs.Rules.{Reached}
use Rattle.ir_check.proofs.Sizes.{room_for_all}
use Rattle.ir_check.proofs.functions.body.Goals as goal

pub blocks-requires : goal.blocks-requires
blocks-requires c = record { few = room_for_all c.args.function.now c.as_slice-2.result.now c.behind-reached.result c.requires.few c.as_slice-2.ensures (ap (λ (r : Reached). r.block) c.behind-reached.ensures) (ap (λ (r : Reached). r.variables) c.behind-reached.ensures) }
