use Rattle.certificate.proofs.OneReading.{one_reading}
use Rattle.certificate.proofs.Right.{text_right}
use Rattle.certificate.proofs.laws.one_answer.Goals as goal

pub returns-clause-one : goal.returns-clause-one
returns-clause-one c = one_reading

pub returns-clause-right : goal.returns-clause-right
returns-clause-right c = text_right
