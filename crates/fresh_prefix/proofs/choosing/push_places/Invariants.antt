use Rattle.std.proofs.Common.{map, take}
use Rattle.fresh_prefix.specs.Prefixes.{Extends}
use Rattle.fresh_prefix.proofs.choosing.push_places.Given as goal

abbrev pub invariant-loop-place : goal.invariant-loop-place
invariant-loop-place l = Extends (map (λ place. place.1) (take l.place-index l.places)) l.fn.numbers.items l.numbers.items
