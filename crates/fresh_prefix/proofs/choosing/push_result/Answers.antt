use Rattle.std.proofs.Common.{◌∷◌, [], ap}
use Rattle.std.specs.Option.{option_to_list}
use Rattle.fresh_prefix.proofs.Extending.{ext_same}
use Rattle.fresh_prefix.proofs.choosing.push_result.Goals as goal

pub returns-in_ok-push_prefix : goal.returns-in_ok-push_prefix
returns-in_ok-push_prefix c =
    ext_same (option_to_list c.args.instr.now.result) (c.in-Some.name ∷ []) c.args.numbers.now.items c.push_prefix.new.numbers.items (ap option_to_list c.in-Some.is) c.in_ok-push_prefix.ensures
