use Rattle.std.proofs.Common.{ℕ, List, All, sym, ◌∙◌, subst, ◌<◌}
use Rattle.std.specs.Prelude.{◌↔◌, Contains}
use Rattle.live_search.specs.Leading.{LeadsTo}
use Rattle.planning.specs.Marking.{is_missing, IsSetOf}
use Rattle.planning.proofs.Living.{filter_within}
use Rattle.planning.proofs.marks.marks_of.Goals as goal

pub leading_to-requires : goal.leading_to-requires
leading_to-requires c =
    subst (λ (xs : List ℕ). All (λ v. v < c.args.graph.now.points) xs) (sym (c.deref-2.ensures.value ∙ c.in_ok-deleted.ensures))
    (filter_within (is_missing c.args.kept.keys) c.args.occurrences.now c.args.graph.now.points c.requires.occurrences)

pub returns : goal.returns
returns c = record {
  kept_are = c.requires.kept;
  inserted_are = subst (λ (xs : List ℕ). IsSetOf xs c.in_ok-inserted.inserted.keys) c.as_slice.ensures c.in_ok-inserted.ensures;
  written = c.in_ok-written.written.keys;
  written_are = subst (λ (xs : List ℕ). IsSetOf xs c.in_ok-written.written.keys) (c.deref.ensures.value ∙ c.in_ok-kept_ones.ensures) c.in_ok-written.ensures;
  live_are = subst (λ (xs : List ℕ). (v : ℕ) → Contains c.in_ok-live.live.keys v ↔ LeadsTo c.args.graph.now c.in_ok-written.written.keys c.in_ok-inserted.inserted.keys xs v)
      (c.deref-2.ensures.value ∙ c.in_ok-deleted.ensures) c.in_ok-live.ensures;
}
