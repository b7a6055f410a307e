use Rattle.profile.proofs.OneAnswer.{exact_answer}
use Rattle.profile.proofs.reading.read_profile.Goals as goal

pub returns-clause-exact : goal.returns-clause-exact
returns-clause-exact c = exact_answer c.args.program.now c.args.bytes.now c.keeps_rules.ensures c.read.result c.read.ensures.ok c.read.ensures.err
