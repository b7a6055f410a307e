use Rattle.std.proofs.Common.{◌++◌, List, ℕ, map, ap, sym, subst, arith}
use Rattle.mc_num.specs.declared.op.Width.{Width}
use Rattle.ir_types.specs.WellFormed.{block_names}
use Rattle.ir_types.specs.declared.name.Name.{Name}
use Rattle.fresh_prefix.specs.Missing.{IsLeastMissing}
use Rattle.fresh_prefix.specs.Prefixes.{Extends}
use Rattle.fresh_prefix.proofs.Extending.{ext_same, ext_append, is_fresh}
use Rattle.fresh_prefix.proofs.choosing.fresh_prefix.Goals as goal

pub returns-in-Ok : goal.returns-in-Ok
returns-in-Ok c =
    let name = λ (place : Width × Name). place.1 in
    let f = c.args.function.now in
    let params = map name f.params in
    let vars = map name f.vars in
    let blocks = block_names f.blocks in
    let start = c.new-numbers.result.items in
    let first = c.push_places.new.numbers.items in
    let second = c.push_places-2.new.numbers.items in
    let third = c.push_blocks.new.numbers.items in
    let one = ext_same params (map name c.as_slice.result.now) start first (ap (map name) (sym c.as_slice.ensures)) c.in_ok-push_places.ensures in
    let two = ext_same vars (map name c.as_slice-2.result.now) first second (ap (map name) (sym c.as_slice-2.ensures)) c.in_ok-push_places-2.ensures in
    let three = ext_same blocks (block_names c.as_slice-3.result.now) second third (ap block_names (sym c.as_slice-3.ensures)) c.in_ok-push_blocks.ensures in
    let all = ext_append (params ++ vars) blocks start second third (ext_append params vars start first second one two) three in
    is_fresh f third c.in-Ok.prefix (subst (λ (l : List ℕ). Extends ((params ++ vars) ++ blocks) l third) c.new-numbers.ensures.items all)
    (subst (λ (l : List ℕ). IsLeastMissing l c.in-Ok.prefix) c.deref.ensures.value (subst (IsLeastMissing c.deref.result.now) (sym c.in-Ok.ensures.1) c.in_ok-least.ensures))
    (omega (arith, c.in-Ok.ensures.0, c.in-Ok.ensures.1))
