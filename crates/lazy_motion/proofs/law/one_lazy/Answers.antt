use Rattle.lazy_motion.proofs.Unique.{one_lazy}
use Rattle.lazy_motion.proofs.law.one_lazy.Goals as goal

pub returns : goal.returns
returns c = one_lazy
