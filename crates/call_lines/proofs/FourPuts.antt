-- Four puts, of which one fails.
use Rattle.std.proofs.Common.{List, ℕ, ◌++◌, Ok, Err, IsErr, refl}
use Rattle.std.specs.declared.result.Result.{Result}
use Rattle.mc_host.specs.Streams.{SinkState, Puts}
use Rattle.mc_host.proofs.PutsLemmas.{puts_then, puts_stop}

module _ {E : Type 0} (a b c d : List ℕ) (e : E) (r : Result (Unit {0}) E) (err : IsErr r) where
  pub first_fails : (s0 s1 : SinkState) → Puts {E = E} a (Err e) s0 s1 → Puts {E = E} (a ++ b ++ c ++ d) r s0 s1
  first_fails s0 s1 h = puts_stop (a ++ b ++ c) d e r s0 s1 err (puts_stop (a ++ b) c e (Err e) s0 s1 refl (puts_stop a b e (Err e) s0 s1 refl h))

  pub second_fails : (s0 s1 s2 : SinkState) → Puts {E = E} a (Ok tt) s0 s1 → Puts {E = E} b (Err e) s1 s2 → Puts {E = E} (a ++ b ++ c ++ d) r s0 s2
  second_fails s0 s1 s2 first second = puts_stop (a ++ b ++ c) d e r s0 s2 err (puts_stop (a ++ b) c e (Err e) s0 s2 refl (puts_then a b (Err e) s0 s1 s2 first second))

  pub third_fails : (s0 s1 s2 s3 : SinkState) → Puts {E = E} a (Ok tt) s0 s1 → Puts {E = E} b (Ok tt) s1 s2 → Puts {E = E} c (Err e) s2 s3 → Puts {E = E} (a ++ b ++ c ++ d) r s0 s3
  third_fails s0 s1 s2 s3 first second third = puts_stop (a ++ b ++ c) d e r s0 s3 err (puts_then (a ++ b) c (Err e) s0 s2 s3 (puts_then a b (Ok tt) s0 s1 s2 first second) third)
