use Rattle.function_text.proofs.ByPlans.{few_blocks}
use Rattle.function_text.proofs.function.new_function.Goals as goal

pub homes-requires-clause-fits : goal.homes-requires-clause-fits
homes-requires-clause-fits c = few_blocks c.requires.plan
