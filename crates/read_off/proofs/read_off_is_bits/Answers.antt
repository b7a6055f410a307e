use Rattle.read_off.proofs.Unique.{read_off_is_bits}
use Rattle.read_off.proofs.read_off_is_bits.Goals as goal

pub returns : goal.returns
returns c = read_off_is_bits
