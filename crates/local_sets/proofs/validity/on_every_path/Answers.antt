use Rattle.std.proofs.Common.{◌≡◌, ◌<◌, ◌↔◌, ◌∙◌, ℕ, true, ap, length, map, vec_len, arith}
use Rattle.std.proofs.lemmas.Result.{IfOk-weaker}
use Rattle.dataflow.specs.declared.flag.Flag.{Flag}
use Rattle.flow_paths.specs.Marks.{ReachedInvalid}
use Rattle.flow_paths.specs.Paths.{Connects}
use Rattle.flow_paths.specs.Spreads.{IsSet}
use Rattle.local_sets.specs.Heads.{with_points}
use Rattle.local_sets.proofs.FixedPaths.{bits_told}
use Rattle.local_sets.proofs.validity.on_every_path.Goals as goal

pub returns-clause-bits : goal.returns-clause-bits
returns-clause-bits c =
    let d : Flag = record { set = true } in
    let n = c.len-nodes.result in
    let ok = c.args.marks.ok.0 in
    let count : n ≡ length c.args.marks.items = omega (arith, c.len-nodes.ensures, ok) in
    let all : n ≡ vec_len c.args.marks = omega (arith, c.len-nodes.ensures) in
    IfOk-weaker c.bits_of.result
    (λ bits. bits.items ≡ map (λ (f : Flag). f.set) c.deref.result.now)
    (λ bits. ((w : ℕ) → w < vec_len c.args.marks → Connects c.args.arcs.items 0 w) → (v : ℕ) → v < vec_len c.args.marks → IsSet bits.items v ↔ ¬ ReachedInvalid c.args.arcs.items (with_points c.args.arcs.items c.args.marks.items) v)
    (λ bits h reached v inside.
    bits_told c.args.arcs.items c.args.marks.items n d c.in_ok-entry.entry.items c.in_ok-solution.solution.entry.items c.in_ok-solution.solution.exit.items bits.items count
    (omega (arith, all, c.requires.start))
    (λ e k. let w = c.requires.within e k in (omega (arith, w.0, all), omega (arith, w.1, all)))
    (c.in_ok-entry.ensures.flags d)
    (c.in_ok-solution.ensures.greatest d)
    (omega (arith, c.in_ok-solution.ensures.entries, c.in_ok-solution.solution.entry.ok.0))
    (h ∙ ap (map (λ (f : Flag). f.set)) c.deref.ensures.value)
    (λ w k. reached w (omega (arith, k, all)))
    v (omega (arith, inside, all)))
    c.bits_of.ensures
