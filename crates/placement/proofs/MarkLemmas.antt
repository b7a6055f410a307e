-- Lists of marks, as places are marked one after another, and what the marks decide.
use Rattle.std.proofs.Common.{◌≡◌, ℕ, ◌<◌, ◌+◌, List, [], ◌∷◌, ◌++◌, length, get_or, set, take, map, replicate, refl, sym, ◌∙◌, subst, ap, ⊎_elim, Contains, ◌↔◌, arith, get_or-set_same, get_or-set_other, length-set}
use Rattle.std.proofs.lemmas.List.{get_or-replicate, length-replicate, take_more, get_or-map, length-map}
use Rattle.std.proofs.lemmas.List.Elements.{Contains-append_left, Contains-push, Contains-push_cases}
use Rattle.std.proofs.lemmas.Bool.{cases_eq}
use Rattle.flow_paths.specs.declared.marks.Mark.{Mark}
use Rattle.flow_paths.specs.declared.marks.Mark.TheVariants.{Write, Kill, Pass}
use Rattle.expressions.specs.declared.syntax.Event.{Event}
use Rattle.expressions.specs.declared.syntax.Event.TheVariants.{Occurs, Kills, Bars, Passes}
use Rattle.placement.specs.Marking.{mark_of_event, EdgeMarks, PointMarks}

-- no list of marks has a place that both writes and kills
pub write_is_no_kill : (m : Mark) → m ≡ Write → ¬ (m ≡ Kill)
write_is_no_kill m w k = let e : Write ≡ Kill = sym w ∙ k in cc

no_member : (x : ℕ) → ¬ Contains [] x
no_member x c = let h : c.0 < 0 = c.1 in absurd (omega arith)

pub EdgeMarks-start : (n : ℕ) (marks : List Mark) → marks ≡ replicate n Pass → EdgeMarks n [] marks
EdgeMarks-start n marks e = record {
  len = ap length e ∙ length-replicate n Pass;
  writes = λ k h. (λ w. let p : Pass ≡ Write = sym (get_or-replicate n k Pass Write h) ∙ (sym (ap (λ m. get_or m k Write) e) ∙ w) in cc, λ c. absurd (no_member k c));
  no_kill = λ k h w. let p : Pass ≡ Kill = sym (get_or-replicate n k Pass Write h) ∙ (sym (ap (λ m. get_or m k Write) e) ∙ w) in cc;
}

pub EdgeMarks-set : (n : ℕ) (inserted : List ℕ) (marks : List Mark) (e : ℕ) → e < n → EdgeMarks n inserted marks → EdgeMarks n (inserted ++ e ∷ []) (set marks e Write)
EdgeMarks-set n inserted marks e h m =
    let within : e < length marks = let l : length marks ≡ n = m.len in omega arith in
    record {
      len = length-set marks e Write ∙ m.len;
      writes = λ k hk. ⊎_elim
          (λ (q : k ≡ e). (λ w. subst (λ x. Contains (inserted ++ e ∷ []) x) (sym q) (Contains-push inserted e), λ c. subst (λ x. get_or (set marks e Write) x Write ≡ Write) (sym q) (get_or-set_same marks e Write Write within)))
          (λ (ne : k ≡ e → ⊥). (
            λ w. Contains-append_left inserted (e ∷ []) k ((m.writes k hk).0 (sym (get_or-set_other marks e k Write Write ne) ∙ w)),
            λ c. get_or-set_other marks e k Write Write ne ∙ (m.writes k hk).1 (⊎_elim (λ (i : Contains inserted k). i) (λ (q : e ≡ k). absurd (ne (sym q))) (Contains-push_cases inserted e k c)),
          ))
          (cases_eq k e);
      no_kill = λ k hk w. ⊎_elim
          (λ (q : k ≡ e). let p : Write ≡ Kill = sym (get_or-set_same marks e Write Write within) ∙ subst (λ x. get_or (set marks e Write) x Write ≡ Kill) q w in cc)
          (λ (ne : k ≡ e → ⊥). m.no_kill k hk (sym (get_or-set_other marks e k Write Write ne) ∙ w))
          (cases_eq k e);
    }

pub EdgeMarks-more : (n : ℕ) (inserted : List ℕ) (marks : List Mark) (i : ℕ) → i < length inserted → get_or inserted i 0 < n → EdgeMarks n (take i inserted) marks → EdgeMarks n (take (i + 1) inserted) (set marks (get_or inserted i 0) Write)
EdgeMarks-more n inserted marks i h k m = subst (λ xs. EdgeMarks n xs (set marks (get_or inserted i 0) Write)) (sym (take_more inserted i 0 h)) (EdgeMarks-set n (take i inserted) marks (get_or inserted i 0) k m)

plain_no_write : (k : Event) → ¬ (mark_of_event k ≡ Write)
plain_no_write Occurs w = cc
plain_no_write Kills w = cc
plain_no_write Bars w = cc
plain_no_write Passes w = cc

plain_kills : (k : Event) → (mark_of_event k ≡ Kill) ↔ (k ≡ Kills)
plain_kills Occurs = (λ w. cc, λ w. cc)
plain_kills Kills = (λ w. refl, λ w. refl)
plain_kills Bars = (λ w. cc, λ w. cc)
plain_kills Passes = (λ w. cc, λ w. cc)

pub PointMarks-start : (events : List Event) (marks : List Mark) → marks ≡ map mark_of_event events → PointMarks events [] marks
PointMarks-start events marks e =
    let at : (v : ℕ) → v < length events → get_or marks v Write ≡ mark_of_event (get_or events v Occurs) = λ v h. ap (λ m. get_or m v Write) e ∙ get_or-map mark_of_event events v Occurs Write h in
    record {
      len = ap length e ∙ length-map events mark_of_event;
      writes = λ v h. (λ w. absurd (plain_no_write (get_or events v Occurs) (sym (at v h) ∙ w)), λ c. absurd (no_member v c.1));
      kills = λ v h. (λ w. (plain_kills (get_or events v Occurs)).0 (sym (at v h) ∙ w), λ k. at v h ∙ (plain_kills (get_or events v Occurs)).1 k);
    }

pub PointMarks-set : (events : List Event) (kept : List ℕ) (marks : List Mark) (p : ℕ) → p < length events → get_or events p Occurs ≡ Occurs → PointMarks events kept marks → PointMarks events (kept ++ p ∷ []) (set marks p Write)
PointMarks-set events kept marks p h o m =
    let within : p < length marks = let l : length marks ≡ length events = m.len in omega arith in
    record {
      len = length-set marks p Write ∙ m.len;
      writes = λ v hv. ⊎_elim
          (λ (q : v ≡ p). (λ w. (subst (λ x. get_or events x Occurs ≡ Occurs) (sym q) o, subst (λ x. Contains (kept ++ p ∷ []) x) (sym q) (Contains-push kept p)), λ c. subst (λ x. get_or (set marks p Write) x Write ≡ Write) (sym q) (get_or-set_same marks p Write Write within)))
          (λ (ne : v ≡ p → ⊥). (
            λ w. let r = (m.writes v hv).0 (sym (get_or-set_other marks p v Write Write ne) ∙ w) in (r.0, Contains-append_left kept (p ∷ []) v r.1),
            λ c. get_or-set_other marks p v Write Write ne ∙ (m.writes v hv).1 (c.0, ⊎_elim (λ (i : Contains kept v). i) (λ (q : p ≡ v). absurd (ne (sym q))) (Contains-push_cases kept p v c.1)),
          ))
          (cases_eq v p);
      kills = λ v hv. ⊎_elim
          (λ (q : v ≡ p). (
            λ w. let e : Write ≡ Kill = sym (get_or-set_same marks p Write Write within) ∙ subst (λ x. get_or (set marks p Write) x Write ≡ Kill) q w in cc,
            λ k. let e : Occurs ≡ Kills = sym o ∙ subst (λ x. get_or events x Occurs ≡ Kills) q k in cc,
          ))
          (λ (ne : v ≡ p → ⊥). (λ w. (m.kills v hv).0 (sym (get_or-set_other marks p v Write Write ne) ∙ w), λ k. get_or-set_other marks p v Write Write ne ∙ (m.kills v hv).1 k))
          (cases_eq v p);
    }

pub PointMarks-skip : (events : List Event) (kept : List ℕ) (marks : List Mark) (p : ℕ) → ¬ (get_or events p Occurs ≡ Occurs) → PointMarks events kept marks → PointMarks events (kept ++ p ∷ []) marks
PointMarks-skip events kept marks p o m = record {
  len = m.len;
  writes = λ v hv. (
    λ w. let r = (m.writes v hv).0 w in (r.0, Contains-append_left kept (p ∷ []) v r.1),
    λ c. (m.writes v hv).1 (c.0, ⊎_elim (λ (i : Contains kept v). i) (λ (q : p ≡ v). absurd (o (subst (λ x. get_or events x Occurs ≡ Occurs) (sym q) c.0))) (Contains-push_cases kept p v c.1)),
  );
  kills = m.kills;
}

module _ (events : List Event) (kept : List ℕ) (marks : List Mark) (i : ℕ) (h : i < length kept) (m : PointMarks events (take i kept) marks) where
  pub PointMarks-more : get_or kept i 0 < length events → get_or events (get_or kept i 0) Occurs ≡ Occurs → PointMarks events (take (i + 1) kept) (set marks (get_or kept i 0) Write)
  PointMarks-more k o = subst (λ xs. PointMarks events xs (set marks (get_or kept i 0) Write)) (sym (take_more kept i 0 h)) (PointMarks-set events (take i kept) marks (get_or kept i 0) k o m)

  pub PointMarks-other : ¬ (get_or events (get_or kept i 0) Occurs ≡ Occurs) → PointMarks events (take (i + 1) kept) marks
  PointMarks-other o = subst (λ xs. PointMarks events xs marks) (sym (take_more kept i 0 h)) (PointMarks-skip events (take i kept) marks (get_or kept i 0) o m)
