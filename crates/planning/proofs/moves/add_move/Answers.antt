use Rattle.std.proofs.Common.{◌≢◌, sym, subst}
use Rattle.std.specs.Prelude.{AllPairs}
use Rattle.planning.proofs.Sets.{set_differs}
use Rattle.planning.proofs.moves.add_move.Goals as goal

pub insert_temp-requires-clause-differ : goal.insert_temp-requires-clause-differ
insert_temp-requires-clause-differ c = subst (AllPairs (λ m n. m ≢ n)) (sym c.as_slice.ensures.keys) (set_differs c.args.marks.now.inserted.keys c.as_slice.ensures.unique)
