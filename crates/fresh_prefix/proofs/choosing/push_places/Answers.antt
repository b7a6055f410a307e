use Rattle.std.proofs.Common.{◌++◌, ◌∷◌, [], ◌+◌, map, take, ap, sym, ◌∙◌}
use Rattle.std.proofs.lemmas.List.{map_more, take_all}
use Rattle.mc_num.specs.declared.op.Width.{Width}
use Rattle.ir_types.specs.declared.name.Name.{Name}
use Rattle.fresh_prefix.proofs.Extending.{ext_same, ext_append}
use Rattle.fresh_prefix.proofs.choosing.push_places.Goals as goal

pub loop-place-preserved : goal.loop-place-preserved
loop-place-preserved c =
    let name = λ (place : Width × Name). place.1 in
    let places = c.args.places.now in
    let i = c.loop-place.place-index in
    ext_same (map name (take (i + 1) places)) (map name (take i places) ++ c.place-item.result.1 ∷ []) c.args.numbers.now.items c.push_prefix.new.numbers.items
    (map_more name places i c.place-item.result c.loop-place-test.true ∙ ap (λ (y : Width × Name). map name (take i places) ++ y.1 ∷ []) (sym c.place-item.is))
    (ext_append (map name (take i places)) (c.place-item.result.1 ∷ []) c.args.numbers.now.items c.loop-place.numbers.items c.push_prefix.new.numbers.items c.loop-place.invariant c.in_ok-push_prefix.ensures)

pub returns : goal.returns
returns c =
    let name = λ (place : Width × Name). place.1 in
    ext_same (map name c.args.places.now) (map name (take c.loop-place.place-index c.args.places.now)) c.args.numbers.now.items c.loop-place.numbers.items
    (ap (map name) (sym (take_all c.loop-place.place-index c.args.places.now c.loop-place-test.false))) c.loop-place.invariant
