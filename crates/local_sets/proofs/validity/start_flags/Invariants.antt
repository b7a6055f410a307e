use Rattle.std.proofs.Common.{◌≡◌, ◌<◌, ℕ, get_or, vec_len}
use Rattle.dataflow.specs.declared.flag.Flag.{Flag}
use Rattle.local_sets.specs.Passing.{begins, flag_of}
use Rattle.local_sets.proofs.validity.start_flags.Given as goal

abbrev pub invariant-loop-node : goal.invariant-loop-node
invariant-loop-node l = record {
  len : vec_len l.list ≡ l.node;
  flags : (d : Flag) (n : ℕ) → n < l.node → get_or l.list.items n d ≡ flag_of (begins n);
}
