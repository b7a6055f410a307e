-- The placements of a function, as they are chosen one by one.
use Rattle.std.proofs.Common.{◌≡◌, ⊎_elim, ℕ, ◌+◌, ◌<◌, ◌≤◌, ◌^◌, ◌++◌, ◌∷◌, [], zero, suc, List, length, Some, refl, sym, ◌∙◌, subst, arith}
use Rattle.std.specs.Prelude.{slice_get}
use Rattle.std.specs.List.{AllByRecursion}
use Rattle.std.proofs.lemmas.Bool.{cases_lt}
use Rattle.std.proofs.lemmas.List.{length-map, length_push}
use Rattle.std.proofs.lemmas.Option.{none-some, slice_get_within, same_Some}
use Rattle.ir_types.specs.Program.{Program}
use Rattle.ir_types.specs.declared.syntax.Function.{Function}
use Rattle.point_graph.specs.Numbers.{ArePoints}
use Rattle.point_graph.specs.declared.graph.Points.{Points}
use Rattle.expressions.specs.Kept.{Kept}
use Rattle.expressions.specs.Tables.{IsTable}
use Rattle.profile.specs.declared.counts.FnCounts.{FnCounts}
use Rattle.placement.specs.declared.placements.Placement.{Placement}
use Rattle.certificate.specs.Limits.{EntryIsWithin}
use Rattle.certificate.specs.declared.types.Entry.{Entry}
use Rattle.certified.specs.Certified.{AreFew, insertions, placements_in}
use Rattle.optimise.specs.Choice.{IsChosen, IsChosenEntry, AreEachChosen, IsCrowded}
use Rattle.optimise.specs.Placing.{AreChosenEntries, IsChosenIn}
use Rattle.optimise.proofs.Growing.{get_last}

-- in a list that has grown by one, what stands before the last
get_before : {X : Type 0} (xs : List X) (y : X) (k : ℕ) (x : X) → k < length xs → slice_get (xs ++ y ∷ []) k ≡ Some x → slice_get xs k ≡ Some x
get_before [] y k x lt e = absurd (omega (arith, lt))
get_before (z ∷ xs) y zero x lt e = e
get_before (z ∷ xs) y (suc k) x lt e = get_before xs y k x (omega (arith, lt)) e

module _ (f : Function) (p : Points) (t : Kept) (counts : FnCounts) where
  pub none_chosen : AreChosenEntries f p t counts 0 []
  none_chosen = record {
    count = refl;
    each = λ x entry there. absurd (omega (arith, slice_get_within [] x entry there));
  }

  pub one_more : (n : ℕ) (entries : List Entry) (last : Entry) → AreChosenEntries f p t counts n entries → IsChosenEntry f p t counts n last → AreChosenEntries f p t counts (n + 1) (entries ++ last ∷ [])
  one_more n entries last so_far is = record {
    count = omega (arith, length_push entries last, so_far.count);
    each = λ x entry there. ⊎_elim
        (λ (before : x < length entries). so_far.each x entry (get_before entries last x entry before there))
        (λ (past : length entries ≤ x).
        let within : x < length (entries ++ last ∷ []) = slice_get_within (entries ++ last ∷ []) x entry there in
        let here : n ≡ x = omega (arith, within, length_push entries last, past, so_far.count) in
        let at : slice_get (entries ++ last ∷ []) (length entries) ≡ Some entry = subst (λ k. slice_get (entries ++ last ∷ []) k ≡ Some entry) (sym here ∙ sym so_far.count) there in
        let same : last ≡ entry = same_Some last entry (sym (get_last entries last) ∙ at) in
        let P : ℕ → Entry → Type 0 = λ k e. IsChosenEntry f p t counts k e in
        subst (λ k. P k entry) here (subst (P n) same is))
        (cases_lt x (length entries));
  }

  -- the entry that names a placement
  named : (entries : List Entry) (x : ℕ) (placement : Placement) → slice_get (placements_in entries) x ≡ Some placement → (entry : Entry) × (slice_get entries x ≡ Some entry) × (entry.placement ≡ placement)
  named [] x placement there = absurd (none-some placement there)
  named (e ∷ entries) zero placement there = (e, refl, same_Some e.placement placement there)
  named (e ∷ entries) (suc x) placement there = named entries x placement there

  -- the placements that they name are chosen
  pub all_chosen : (entries : List Entry) → AreChosenEntries f p t counts (length t.exprs) entries → AreEachChosen f p t counts (placements_in entries)
  all_chosen entries are = record {
    count = length-map entries (λ (e : Entry). e.placement) ∙ are.count;
    each = λ x placement there. let e = named entries x placement there in subst (IsChosen f p t counts x) e.2 (are.each x e.0 e.1).chosen;
  }

  pub all_within : (n : ℕ) (entries : List Entry) → AreChosenEntries f p t counts n entries → AllByRecursion EntryIsWithin entries
  all_within n entries are = within entries (λ x entry there. (are.each x entry there).within)
    where
      within : (entries : List Entry) → ((x : ℕ) (entry : Entry) → slice_get entries x ≡ Some entry → EntryIsWithin entry) → AllByRecursion EntryIsWithin entries
      within [] each = tt
      within (e ∷ entries) each = (each 0 e refl, within entries (λ x entry there. each (suc x) entry there))

-- what is chosen in a function, where it inserts at few edges
pub chosen_in : (m : Program) (f : Function) (counts : FnCounts) (p : Points) (t : Kept) (entries : List Entry) (placements : List Placement) → ArePoints f p → t.module_of ≡ m → IsTable f p t
    → AreChosenEntries f p t counts (length t.exprs) entries → placements ≡ placements_in entries → AreFew placements
    → IsChosenIn m f counts (record { placed = record { points = p; table = t; placements = placements }; entries = entries })
chosen_in m f counts p t entries placements are of_module table chosen named few = record {
  placed = record {
    chosen = record { are_points = are; of_module = of_module; is_table = table; placements = subst (AreEachChosen f p t counts) (sym named) (all_chosen f p t counts entries chosen) };
    few = few;
  };
  good = record {
    are_points = are;
    of_module = of_module;
    is_table = table;
    placements = named;
    count = chosen.count;
    few = few;
    each = λ x entry there. (chosen.each x entry there).good;
  };
  written = λ x entry there. (chosen.each x entry there).written;
  within = all_within f p t counts (length t.exprs) entries chosen;
}

-- where the chosen placements aren't few, they are many
pub crowded : (m : Program) (f : Function) (counts : FnCounts) (p : Points) (t : Kept) (placements : List Placement) → ArePoints f p → t.module_of ≡ m → IsTable f p t → AreEachChosen f p t counts placements
    → (AreFew placements → ⊥) → IsCrowded m f counts
crowded m f counts p t placements are of_module table chosen not_few = record {
  placed = record { points = p; table = t; placements = placements };
  chosen = record { are_points = are; of_module = of_module; is_table = table; placements = chosen };
  many = ⊎_elim
      (λ (few : insertions placements < 2 ^ 28). absurd (not_few few))
      (λ (many : 2 ^ 28 ≤ insertions placements). many)
      (cases_lt (insertions placements) (2 ^ 28));
}
