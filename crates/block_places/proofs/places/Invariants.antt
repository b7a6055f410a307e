use Rattle.block_places.proofs.Filling.{ArePlacesFrom}
use Rattle.block_places.proofs.places.Given as goal

abbrev pub invariant-loop-place : goal.invariant-loop-place
invariant-loop-place l = ArePlacesFrom l.blocks l.count l.place l.places.items
