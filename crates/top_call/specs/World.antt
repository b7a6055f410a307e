-- The outside of a call: files, standard input and standard output.
use Rattle.std.specs.Prelude.{◌≡◌}
use Rattle.mc_host.specs.Host.{HostState}
use Rattle.mc_host.specs.Streams.{SourceState, SinkState}

pub record World : Type 0 where
  pub host : HostState
  pub input : SourceState
  pub out : SinkState

abbrev pub world : HostState → SourceState → SinkState → World
world host input out = record { host = host; input = input; out = out }

-- nothing was taken from the standard input, and nothing put on the standard output
pub record AreStill (old new : World) : Type 0 where
  pub input : new.input ≡ old.input
  pub out : new.out ≡ old.out
