-- A line that is put in pieces, without memory, and the answer that it belongs to.
use Rattle.std.specs.Prelude.{◌≡◌, ℕ, List, ◌++◌, IsTrue}
use Rattle.mc_host.specs.Faults.{Rose}
use Rattle.mc_host.specs.Streams.{SinkState, AddsPart}
use Rattle.call_lines.specs.Ending.{Ending, status_of, line_of}

-- the sink gained a first part of the line, and the whole line where its faults did not rise
pub record Gains (line : List ℕ) (old new : SinkState) : Type 0 where
  pub part : IsTrue old.tells → AddsPart line old.written new.written
  pub whole : ¬ (Rose old.faults new.faults) → IsTrue old.tells → new.written ≡ old.written ++ line

-- the status and the line are those of an ending for which there is a cause
pub record Answers (old new : SinkState) (status : ℕ) (Has : Ending → Type 0) : Type 0 where
  pub ending : Ending
  pub status_is : status ≡ status_of ending
  pub line : Gains (line_of ending) old new
  pub ends : Has ending
