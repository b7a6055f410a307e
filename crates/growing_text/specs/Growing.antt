-- A text that grows in memory, as a sink.
use Rattle.std.specs.Prelude.{ℕ, true, List}
use Rattle.mc_host.specs.Streams.{SinkState}

-- the bytes so far, and how often a growth was refused
pub record Growing : Type 0 where
  pub written : List ℕ
  pub faults : ℕ

abbrev pub told_text : Growing → SinkState
told_text text = record { faults = text.faults; tells = true; written = text.written }
