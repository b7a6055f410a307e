use Rattle.ir_reader.proofs.One.{one_answer}
use Rattle.ir_reader.proofs.laws.one_answer.Goals as goal

pub returns : goal.returns
returns c = λ bytes. one_answer c.one_reading.ensures bytes
