use Rattle.std.proofs.Common.{Bool, List, ◌↔◌, ◌≡◌, ◌<◌, ◌∙◌, ℕ, ap, length, arith, subst, vec_len}
use Rattle.std.proofs.lemmas.List.{length-map}
use Rattle.point_graph.specs.declared.graph.Edge.{Edge}
use Rattle.point_graph.specs.declared.graph.Point.{Point}
use Rattle.flow_paths.specs.declared.marks.Mark.{Mark}
use Rattle.flow_paths.specs.Paths.{ArcsWithin, Connects}
use Rattle.flow_paths.specs.Marks.{MeetsUnwritten, ReachedInvalid}
use Rattle.flow_paths.specs.Spreads.{IsSet}
use Rattle.placement.specs.Placements.{arcs_of}
use Rattle.placement.proofs.GraphLemmas.{arcs_within}
use Rattle.local_sets.specs.declared.blocks.BlockSets.{BlockSets}
use Rattle.local_sets.specs.Heads.{goals, lasts, mark_of_event, placed, stops, with_points}
use Rattle.local_sets.proofs.HeadLists.{placed_length}
use Rattle.local_sets.proofs.Settings.{some_block_there}
use Rattle.local_sets.proofs.ReachLemmas.{tells_available, tells_wanted}
use Rattle.local_sets.proofs.reaching.reach.Goals as goal

placed_is : (read items : List BlockSets) (from points : List Point) (sets : List BlockSets) → read ≡ items → items ≡ placed from sets → from ≡ points → read ≡ placed points sets
placed_is read items from points sets x y z = x ∙ (y ∙ ap (λ ps. placed ps sets) z)

arcs_are : (read items : List (ℕ × ℕ)) (from edges : List Edge) → read ≡ items → items ≡ arcs_of from → from ≡ edges → read ≡ arcs_of edges
arcs_are read items from edges x y z = x ∙ (y ∙ ap arcs_of z)

marks_count : (marks : List Mark) (read items : List BlockSets) (from points : List Point) (sets : List BlockSets) → marks ≡ lasts read → read ≡ items → items ≡ placed from sets → from ≡ points → length marks ≡ length points
marks_count marks read items from points sets m x y z = ap length m ∙ (length-map read (λ s. mark_of_event s.last) ∙ (ap length (placed_is read items from points sets x y z) ∙ placed_length points sets))

available_bits : (bits : List Bool) (arcs arcs' : List (ℕ × ℕ)) (marks marks' : List Mark) (n n' : ℕ) → arcs ≡ arcs' → marks ≡ marks' → n ≡ n'
    → (((w : ℕ) → w < n → Connects arcs 0 w) → (v : ℕ) → v < n → IsSet bits v ↔ ¬ ReachedInvalid arcs (with_points arcs marks) v)
    → ((w : ℕ) → w < n' → Connects arcs' 0 w) → (v : ℕ) → v < n' → IsSet bits v ↔ ¬ ReachedInvalid arcs' (with_points arcs' marks') v
available_bits bits arcs arcs' marks marks' n n' x y z h =
    subst (λ k. ((w : ℕ) → w < k → Connects arcs' 0 w) → (v : ℕ) → v < k → IsSet bits v ↔ ¬ ReachedInvalid arcs' (with_points arcs' marks') v) z
    (subst (λ ms. ((w : ℕ) → w < n → Connects arcs' 0 w) → (v : ℕ) → v < n → IsSet bits v ↔ ¬ ReachedInvalid arcs' (with_points arcs' ms) v) y
    (subst (λ l. ((w : ℕ) → w < n → Connects l 0 w) → (v : ℕ) → v < n → IsSet bits v ↔ ¬ ReachedInvalid l (with_points l marks) v) x h))

wanted_bits : (bits : List Bool) (arcs arcs' : List (ℕ × ℕ)) (sets sets' : List BlockSets) → arcs ≡ arcs' → sets ≡ sets' → ((v : ℕ) → IsSet bits v ↔ MeetsUnwritten arcs (with_points arcs (stops sets)) (goals sets) v) → (v : ℕ) → IsSet bits v ↔ MeetsUnwritten arcs' (with_points arcs' (stops sets')) (goals sets') v
wanted_bits bits arcs arcs' sets sets' x y h =
    subst (λ s. (v : ℕ) → IsSet bits v ↔ MeetsUnwritten arcs' (with_points arcs' (stops s)) (goals s) v) y
    (subst (λ l. (v : ℕ) → IsSet bits v ↔ MeetsUnwritten l (with_points l (stops sets)) (goals sets) v) x h)

pub wanted_points-requires-clause-numbered : goal.wanted_points-requires-clause-numbered
wanted_points-requires-clause-numbered c = rw (c.deref-2.ensures.value, c.in_ok-placed.ensures, c.as_slice-2.ensures) (omega (arith, placed_length c.args.points.now.points c.args.sets.now, c.requires.few))

pub wanted_points-requires-clause-within : goal.wanted_points-requires-clause-within
wanted_points-requires-clause-within c =
    rw (c.deref.ensures.value, c.deref-2.ensures.value, c.in_ok-arcs.ensures, c.as_slice.ensures, c.in_ok-placed.ensures, c.as_slice-2.ensures, placed_length) (arcs_within c.args.function.now c.args.points.now c.requires)

pub on_every_path-requires-clause-start : goal.on_every_path-requires-clause-start
on_every_path-requires-clause-start c =
    let count = marks_count c.in_ok-marks.marks.items c.deref-3.result.now c.in_ok-placed.placed.items c.as_slice-2.result.now c.args.points.now.points c.args.sets.now c.in_ok-marks.ensures c.deref-3.ensures.value c.in_ok-placed.ensures c.as_slice-2.ensures in
    omega (arith, count, c.in_ok-marks.marks.ok.0, ap length c.requires.points)

pub on_every_path-requires-clause-numbered : goal.on_every_path-requires-clause-numbered
on_every_path-requires-clause-numbered c =
    let count = marks_count c.in_ok-marks.marks.items c.deref-3.result.now c.in_ok-placed.placed.items c.as_slice-2.result.now c.args.points.now.points c.args.sets.now c.in_ok-marks.ensures c.deref-3.ensures.value c.in_ok-placed.ensures c.as_slice-2.ensures in
    omega (arith, count, c.in_ok-marks.marks.ok.0, c.requires.few)

pub on_every_path-requires-clause-within : goal.on_every_path-requires-clause-within
on_every_path-requires-clause-within c =
    let count = marks_count c.in_ok-marks.marks.items c.deref-3.result.now c.in_ok-placed.placed.items c.as_slice-2.result.now c.args.points.now.points c.args.sets.now c.in_ok-marks.ensures c.deref-3.ensures.value c.in_ok-placed.ensures c.as_slice-2.ensures in
    let all : length c.args.points.now.points ≡ vec_len c.in_ok-marks.marks = omega (arith, count, c.in_ok-marks.marks.ok.0) in
    rw (c.in_ok-arcs.ensures, c.as_slice.ensures) (subst (ArcsWithin (arcs_of c.args.points.now.edges)) all (arcs_within c.args.function.now c.args.points.now c.requires))

pub at_ends-requires : goal.at_ends-requires
at_ends-requires c =
    let count = marks_count c.in_ok-marks.marks.items c.deref-3.result.now c.in_ok-placed.placed.items c.as_slice-2.result.now c.args.points.now.points c.args.sets.now c.in_ok-marks.ensures c.deref-3.ensures.value c.in_ok-placed.ensures c.as_slice-2.ensures in
    rw (c.deref-4.ensures.value, c.as_slice-3.ensures)
    (omega (arith, c.in_ok-available.ensures.len, c.in_ok-available.available.ok.0, count, c.in_ok-marks.marks.ok.0))

pub at_ends-requires-2 : goal.at_ends-requires-2
at_ends-requires-2 c =
    rw (c.deref-5.ensures.value, c.as_slice-4.ensures)
    (omega (arith, c.in_ok-wanted.ensures.len, c.in_ok-wanted.wanted.ok.0, ap length (placed_is c.deref-2.result.now c.in_ok-placed.placed.items c.as_slice-2.result.now c.args.points.now.points c.args.sets.now c.deref-2.ensures.value c.in_ok-placed.ensures c.as_slice-2.ensures), placed_length c.args.points.now.points c.args.sets.now))

pub returns-clause-available : goal.returns-clause-available
returns-clause-available c t e table number all =
    let f = c.args.function.now in
    let p = c.args.points.now in
    let told = c.points_are_told.ensures f p (record { module_of = t.module_of; rules = table.rules }) (some_block_there f p c.requires) c.requires in
    let count = marks_count c.in_ok-marks.marks.items c.deref-3.result.now c.in_ok-placed.placed.items c.as_slice-2.result.now p.points c.args.sets.now c.in_ok-marks.ensures c.deref-3.ensures.value c.in_ok-placed.ensures c.as_slice-2.ensures in
    let same = placed_is c.deref-3.result.now c.in_ok-placed.placed.items c.as_slice-2.result.now p.points c.args.sets.now c.deref-3.ensures.value c.in_ok-placed.ensures c.as_slice-2.ensures in
    let arcs : c.in_ok-arcs.arcs.items ≡ arcs_of p.edges = c.in_ok-arcs.ensures ∙ ap arcs_of c.as_slice.ensures in
    rw (c.in_ok-at_ends.ensures, c.as_slice-3.ensures, c.deref-4.ensures.value)
    (tells_available f p t e c.args.sets.now c.requires table number all told c.in_ok-available.available.items
    (omega (arith, c.in_ok-available.ensures.len, c.in_ok-available.available.ok.0, count, c.in_ok-marks.marks.ok.0))
    (available_bits c.in_ok-available.available.items c.in_ok-arcs.arcs.items (arcs_of p.edges) c.in_ok-marks.marks.items (lasts (placed p.points c.args.sets.now)) (vec_len c.in_ok-marks.marks) (length (placed p.points c.args.sets.now)) arcs (c.in_ok-marks.ensures ∙ ap lasts same)
    (omega (arith, count, c.in_ok-marks.marks.ok.0, placed_length p.points c.args.sets.now)) c.in_ok-available.ensures.bits))

pub returns-clause-wanted : goal.returns-clause-wanted
returns-clause-wanted c t e table number all =
    let f = c.args.function.now in
    let p = c.args.points.now in
    let told = c.points_are_told.ensures f p (record { module_of = t.module_of; rules = table.rules }) (some_block_there f p c.requires) c.requires in
    let same = placed_is c.deref-2.result.now c.in_ok-placed.placed.items c.as_slice-2.result.now p.points c.args.sets.now c.deref-2.ensures.value c.in_ok-placed.ensures c.as_slice-2.ensures in
    let arcs = arcs_are c.deref.result.now c.in_ok-arcs.arcs.items c.as_slice.result.now p.edges c.deref.ensures.value c.in_ok-arcs.ensures c.as_slice.ensures in
    rw (c.in_ok-at_ends-2.ensures, c.as_slice-4.ensures, c.deref-5.ensures.value)
    (tells_wanted f p t e c.args.sets.now c.requires table number all told c.in_ok-wanted.wanted.items
    (omega (arith, c.in_ok-wanted.ensures.len, c.in_ok-wanted.wanted.ok.0, ap length same, placed_length p.points c.args.sets.now))
    (wanted_bits c.in_ok-wanted.wanted.items c.deref.result.now (arcs_of p.edges) c.deref-2.result.now (placed p.points c.args.sets.now) arcs same c.in_ok-wanted.ensures.bits))
