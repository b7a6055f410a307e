-- What a good certificate places is correct, and safe where the expression can trap.
use Rattle.std.proofs.Common.{◌≡◌, ◌<◌, ℕ, true, List, Option, Some, None, length, refl, sym, ap, ◌∙◌, subst, arith}
use Rattle.std.specs.Prelude.{slice_get}
use Rattle.std.specs.Option.{option_map}
use Rattle.std.proofs.lemmas.List.{length-map}
use Rattle.std.proofs.lemmas.List.Elements.{All-contains}
use Rattle.std.proofs.lemmas.Option.{slice_get-map, same_Some, none-some}
use Rattle.ir_types.specs.Program.{Program}
use Rattle.ir_types.specs.declared.syntax.Function.{Function}
use Rattle.ir_machine.specs.Same.{is_defined}
use Rattle.profile.specs.declared.counts.FnCounts.{FnCounts}
use Rattle.point_graph.specs.Numbers.{ArePoints}
use Rattle.point_graph.specs.declared.graph.Points.{Points}
use Rattle.expressions.specs.Expressions.{expr_traps}
use Rattle.expressions.specs.Kept.{Kept}
use Rattle.expressions.specs.Tables.{IsTable, IsEventOf}
use Rattle.placement.specs.declared.placements.Placement.{Placement}
use Rattle.placement.specs.Placements.{arcs_of, IsCorrect, IsSafe}
use Rattle.placement.proofs.GraphLemmas.{arcs_length}
use Rattle.best_choice.specs.Best.{IsPlacementOn}
use Rattle.planning.specs.PlanOf.{IsPlacementOf, IsMoveOf}
use Rattle.placed_moves.specs.Placed.{IsPlaced}
use Rattle.applied.specs.Motion.{Move, IsMove}
use Rattle.certificate.specs.declared.types.Entry.{Entry}
use Rattle.certificate.specs.declared.types.Certificate.{Certificate}
use Rattle.transform.proofs.Alone.{defined_length}
use Rattle.transform.specs.declared.placed.Placed.{Placed}
use Rattle.transform.specs.Transformed.{Each, IsPlacedIn, IsSoundIn}
use Rattle.certified.specs.Entries.{CanTrap}
use Rattle.certified.specs.Certified.{AreGood, EachGood, placements_in}

-- a placement that is correct, and safe where it can trap, makes a move
abbrev pub MakesMoves : Type 0
MakesMoves = (f : Function) (p : Points) (t : Kept) (x : ℕ) (placement : Placement) (move : Move) → 0 < length f.blocks → ArePoints f p → IsTable f p t → IsPlaced f p t x placement move
    → IsCorrect (arcs_of p.edges) (IsEventOf f p t x) placement → (expr_traps move.expr ≡ true → IsSafe (arcs_of p.edges) (IsEventOf f p t x) placement) → IsMove t.module_of f move

abbrev placement_of : Entry → Placement
placement_of entry = entry.placement

-- the entry that names a placement
pub record IsNamed (entries : List Entry) (x : ℕ) (placement : Placement) : Type 0 where
  pub entry : Entry
  pub there : slice_get entries x ≡ Some entry
  pub is : entry.placement ≡ placement

named : (entries : List Entry) (x : ℕ) (placement : Placement) → slice_get (placements_in entries) x ≡ Some placement → IsNamed entries x placement
named entries x placement there = by (slice_get entries x) refl
  where
    by : (o : Option Entry) → slice_get entries x ≡ o → IsNamed entries x placement
    by None e = absurd (none-some placement (sym (ap (option_map placement_of) e) ∙ sym (slice_get-map placement_of entries x) ∙ there))
    by (Some entry) e = record {
      entry = entry;
      there = e;
      is = same_Some entry.placement placement (sym (ap (option_map placement_of) e) ∙ sym (slice_get-map placement_of entries x) ∙ there);
    }

-- ---- the placements of a function

placed_numbers : (f : Function) (p : Points) (t : Kept) (x : ℕ) (placement : Placement) → IsPlacementOn (arcs_of p.edges) (length p.points) (IsEventOf f p t x) placement → IsPlacementOf f p t x placement
placed_numbers f p t x placement is = record {
  edges = λ n among. let inside : n < length (arcs_of p.edges) = All-contains (λ e. e < length (arcs_of p.edges)) placement.inserted n is.edges among in omega (arith, inside, arcs_length p.edges);
  occurrences = λ i among. All-contains (λ v. v < length p.points) placement.kept i is.points among;
}

module _ (m : Program) (f : Function) (own : FnCounts) (entries : List Entry) (q : Placed) (good : AreGood m f own entries q) where
  named_here : (x : ℕ) (placement : Placement) → slice_get q.placements x ≡ Some placement → IsNamed entries x placement
  named_here x placement there = named entries x placement (subst (λ (l : List Placement). slice_get l x ≡ Some placement) good.placements there)

  numbers_of : (x : ℕ) (placement : Placement) → slice_get q.placements x ≡ Some placement → IsPlacementOf f q.points q.table x placement
  numbers_of x placement there =
      let by = named_here x placement there in
      subst (IsPlacementOf f q.points q.table x) by.is (placed_numbers f q.points q.table x by.entry.placement (good.each x by.entry by.there).listed)

  placed_in : IsPlacedIn m f q
  placed_in = record {
    are_points = good.are_points;
    of_module = good.of_module;
    is_table = good.is_table;
    placements = record {
      count = ap (λ (l : List Placement). length l) good.placements ∙ length-map entries placement_of ∙ good.count;
      each = numbers_of;
    };
    few = good.few;
  }

  module _ (moves : MakesMoves) (defined : is_defined f.blocks ≡ true) (move : Move) (of : IsMoveOf f q.points q.table q.placements move) where
    sound_move : IsMove m f move
    sound_move =
        let by = named_here move.number of.placement of.there in
        let is = good.each move.number by.entry by.there in
        let traps : expr_traps move.expr ≡ true → CanTrap q.table move.number = λ traps expr there. ap expr_traps (same_Some expr move.expr (sym there ∙ of.placed.expr_there)) ∙ traps in
        subst (λ (m : Program). IsMove m f move) good.of_module
        (moves f q.points q.table move.number of.placement move (defined_length f defined) good.are_points good.is_table of.placed
        (subst (IsCorrect (arcs_of q.points.edges) (IsEventOf f q.points q.table move.number)) by.is is.correct)
        (λ t. subst (IsSafe (arcs_of q.points.edges) (IsEventOf f q.points q.table move.number)) by.is (is.safe (traps t))))

  pub sound_in : MakesMoves → is_defined f.blocks ≡ true → IsSoundIn m f q
  sound_in moves defined = record { placed = placed_in; are_moves = sound_move moves defined }

pub each_sound : MakesMoves → (m : Program) (counts : List FnCounts) (certificate : Certificate) (placed : List Placed) → EachGood m counts certificate placed → Each (IsSoundIn m) m.functions placed
each_sound moves m counts certificate placed each = record {
  count = each.count;
  each = λ k f there d. let has = each.each k f there d in
      record { placed = has.placed_here; there = has.there; holds = sound_in m f has.own has.entries has.placed_here has.good moves d };
}
