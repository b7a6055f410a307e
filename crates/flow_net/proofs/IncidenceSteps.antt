-- The lists of arcs by node, while arcs are added.
use Rattle.std.proofs.Common.{◌≡◌, ℕ, ◌+◌, ◌<◌, ◌≤◌, List, [], ◌∷◌, length, refl, ap, arith, sym, ◌∙◌, inl, inr, get_or, subst}
use Rattle.std.specs.Prelude.{All, Contains, Vec}
use Rattle.std.specs.declared.alloc.Global.{Global}
use Rattle.std.proofs.lemmas.Bool.{cases_eq}
use Rattle.std.proofs.lemmas.List.{get_or_default}
use Rattle.std.proofs.lemmas.List.Elements.{All-push, Contains-append_left, Contains-append_right}
use Rattle.flow_net.specs.declared.Arc.{Arc}
use Rattle.flow_net.specs.declared.incidence.Incidence.{Incidence}
use Rattle.flow_net.specs.Incidence.{arcs_in, HoldFirst, AddsArc}

pub hold_none : (nodes : ℕ) (arcs : List Arc) (lists : List (Vec ℕ Global)) → length lists ≡ nodes → ((v : ℕ) → arcs_in lists v ≡ []) → HoldFirst nodes arcs 0 lists
hold_none nodes arcs lists len none = record {
  len = len;
  inside = λ v. subst (λ list. All (λ e. e < length arcs) list) (sym (none v)) (λ k d h. absurd (omega arith));
  ends = λ e a h. absurd (omega arith);
}

module _ (node index : ℕ) (old new : Incidence) (add : AddsArc node index old new) where
  list_of : Incidence → ℕ → List ℕ
  list_of incidence v = arcs_in incidence.arcs_at.items v

  added_kept : (v e : ℕ) → Contains (arcs_in old.arcs_at.items v) e → Contains (arcs_in new.arcs_at.items v) e
  added_kept v e h = elim (cases_eq v node) [
    | inl same ↦ subst (λ w. Contains (arcs_in new.arcs_at.items w) e) (sym same)
        (subst (λ list. Contains list e) (sym add.added) (Contains-append_left (arcs_in old.arcs_at.items node) (index ∷ []) e (subst (λ w. Contains (arcs_in old.arcs_at.items w) e) same h)))
    | inr differs ↦ subst (λ list. Contains list e) (sym (add.others v differs)) h
  ]

  added_inside : (bound : ℕ) → index < bound → ((v : ℕ) → All (λ e. e < bound) (arcs_in old.arcs_at.items v)) → (v : ℕ) → All (λ e. e < bound) (arcs_in new.arcs_at.items v)
  added_inside bound h inside v = elim (cases_eq v node) [
    | inl same ↦ subst (λ w. All (λ e. e < bound) (arcs_in new.arcs_at.items w)) (sym same)
        (subst (λ list. All (λ e. e < bound) list) (sym add.added) (All-push (λ e. e < bound) (arcs_in old.arcs_at.items node) index (inside node) h))
    | inr differs ↦ subst (λ list. All (λ e. e < bound) list) (sym (add.others v differs)) (inside v)
  ]

  added_here : Contains (arcs_in new.arcs_at.items node) index
  added_here = subst (λ list. Contains list index) (sym add.added) (Contains-append_right (arcs_in old.arcs_at.items node) (index ∷ []) index (0, omega arith, refl))

-- one more arc stands in the lists of both its ends
pub hold_more : (nodes : ℕ) (arcs : List Arc) (index : ℕ) (a : Arc) (old mid new : Incidence) → index < length arcs → a ≡ get_or arcs index a →
    AddsArc a.from index old mid → AddsArc a.to index mid new → HoldFirst nodes arcs index old.arcs_at.items → HoldFirst nodes arcs (index + 1) new.arcs_at.items
hold_more nodes arcs index a old mid new long read first second h = record {
  len = second.len ∙ first.len ∙ h.len;
  inside = added_inside a.to index mid new second (length arcs) long (added_inside a.from index old mid first (length arcs) long h.inside);
  ends = λ e d below. elim (cases_eq e index) [
    | inl same ↦
        (let at : get_or arcs e d ≡ a = ap (λ k. get_or arcs k d) same ∙ get_or_default arcs index d a long ∙ sym read in (
          subst (λ b. Contains (arcs_in new.arcs_at.items b.from) e) (sym at)
              (subst (λ k. Contains (arcs_in new.arcs_at.items a.from) k) (sym same) (added_kept a.to index mid new second a.from index (added_here a.from index old mid first))),
          subst (λ b. Contains (arcs_in new.arcs_at.items b.to) e) (sym at)
              (subst (λ k. Contains (arcs_in new.arcs_at.items a.to) k) (sym same) (added_here a.to index mid new second)),
        ))
    | inr differs ↦
        (let before : Contains (arcs_in old.arcs_at.items (get_or arcs e d).from) e × Contains (arcs_in old.arcs_at.items (get_or arcs e d).to) e = h.ends e d (omega arith) in (
          added_kept a.to index mid new second (get_or arcs e d).from e (added_kept a.from index old mid first (get_or arcs e d).from e before.0),
          added_kept a.to index mid new second (get_or arcs e d).to e (added_kept a.from index old mid first (get_or arcs e d).to e before.1),
        ))
  ];
}

pub hold_all : (nodes : ℕ) (arcs : List Arc) (bound : ℕ) (lists : List (Vec ℕ Global)) → length arcs ≤ bound → HoldFirst nodes arcs bound lists → HoldFirst nodes arcs (length arcs) lists
hold_all nodes arcs bound lists all h = record {
  len = h.len;
  inside = h.inside;
  ends = λ e a below. h.ends e a (omega arith);
}
