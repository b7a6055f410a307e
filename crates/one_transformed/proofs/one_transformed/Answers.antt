use Rattle.one_transformed.proofs.Moving.{PlacedLaws}
use Rattle.one_transformed.proofs.Whole.{BuiltLaws, one_module}
use Rattle.one_transformed.proofs.one_transformed.Goals as goal

pub returns : goal.returns
returns c m placed others one other same is also =
    let laws : PlacedLaws = record { numbered = c.points_are_told.ensures; told = c.placed_is_told.ensures.told } in
    let built : BuiltLaws = record { stands = c.applied_stands.ensures.stands; alone = c.applied_stands.ensures.alone } in
    one_module laws m placed others same built one other is also
