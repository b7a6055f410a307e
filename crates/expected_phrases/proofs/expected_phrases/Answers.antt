use Rattle.expected_phrases.proofs.Whole.{expected_as_tried}
use Rattle.expected_phrases.proofs.expected_phrases.Goals as goal

pub returns : goal.returns
returns c = expected_as_tried
