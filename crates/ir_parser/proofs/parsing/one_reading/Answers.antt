use Rattle.grammar.proofs.ExactlyOne.{determined}
use Rattle.ir_parser.specs.Module.{module_text}
use Rattle.ir_parser.proofs.parsing.one_reading.Goals as goal

pub returns : goal.returns
returns c = determined module_text
