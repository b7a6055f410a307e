-- Two runs that meet again and again are alike.
use Rattle.std.proofs.Common.{◌≡◌, ℕ, zero, suc, ◌+◌, ◌-◌, ◌<◌, ◌≤◌, List, [], ◌∷◌, ◌++◌, length, refl, sym, ap, ◌∙◌, subst, ◌⊎◌, inl, inr, ⊎_elim, arith, append_assoc, length-append}
use Rattle.std.specs.Prelude.{option_to_list}
use Rattle.std.proofs.lemmas.Bool.{cases_lt}
use Rattle.machines.specs.Runs.{Exchange, Progress, At, Over, Machine, go_on, after, said, RunAlike, SaysInTurn, Together, Meet, KeepsTogether}

append-nil : (xs : List Exchange) → xs ++ [] ≡ xs
append-nil [] = refl
append-nil (x ∷ xs) = ap (λ l. x ∷ l) (append-nil xs)

-- what stands between a list and one that is at most one longer is one of the two
squeezed : (w x y a b : List Exchange) → x ≡ w ++ a → y ≡ x ++ b → length y ≤ suc (length w) → (x ≡ w) ⊎ (x ≡ y)
squeezed w x y [] b e f le = inl (e ∙ append-nil w)
squeezed w x y (h ∷ a) [] e f le = inr (sym (f ∙ append-nil x))
squeezed w x y (h ∷ a) (k ∷ b) e f le =
    absurd (omega (arith, ap length e, ap length f, length-append w (h ∷ a), length-append x (k ∷ b)))

module _ {State End : Type 0} (machine : Machine State End) where
  pub after-add : (m n : ℕ) (p : Progress State End) → after machine (m + n) p ≡ after machine n (after machine m p)
  after-add zero n p = let e : 0 + n ≡ n = omega arith in ap (λ k. after machine k p) e
  after-add (suc m) n p =
      let e : suc m + n ≡ suc (m + n) = omega arith in
      ap (λ k. after machine k p) e ∙ after-add m n (go_on machine p)

  pub after_over : (n : ℕ) (end : End) (w : List Exchange) → after machine n (Over end w) ≡ Over end w
  after_over zero end w = refl
  after_over (suc n) end w = after_over n end w

  said-go_on : SaysInTurn machine → (p : Progress State End) → (more : List Exchange) × (said machine (go_on machine p) ≡ said machine p ++ more)
  said-go_on turns (At s) = let a = turns s in (option_to_list a.0, a.1)
  said-go_on turns (Over end w) = ([], sym (append-nil w))

  said-after : SaysInTurn machine → (n : ℕ) (p : Progress State End) → (more : List Exchange) × (said machine (after machine n p) ≡ said machine p ++ more)
  said-after turns zero p = ([], sym (append-nil (said machine p)))
  said-after turns (suc n) p =
      let a = said-go_on turns p in
      let b = said-after turns n (go_on machine p) in
      (a.0 ++ b.0, b.1 ∙ ap (λ l. l ++ b.0) a.1 ∙ append_assoc (said machine p) a.0 b.0)

  -- what was said on the way to a point at most one item later is what was said before or what is said there
  said_between : SaysInTurn machine → (n m : ℕ) (s : State) → n ≤ m → length (said machine (after machine m (At s))) ≤ suc (length (machine.transcript s)) → (said machine (after machine n (At s)) ≡ machine.transcript s) ⊎ (said machine (after machine n (At s)) ≡ said machine (after machine m (At s)))
  said_between turns n m s le one =
      let a = said-after turns n (At s) in
      let b = said-after turns (m - n) (after machine n (At s)) in
      let e : n + (m - n) ≡ m = omega arith in
      let f = ap (said machine) (ap (λ k. after machine k (At s)) (sym e) ∙ after-add n (m - n) (At s)) in
      squeezed _ _ _ a.0 b.0 a.1 (f ∙ b.1) one

module _ {S T End : Type 0} (old : Machine S End) (new : Machine T End) (related : S → T → Type 0) where
  said_together : KeepsTogether old new related → (p : Progress S End) (q : Progress T End) → Together related p q → said old p ≡ said new q
  said_together keeps (At s) (At t) r = keeps.alike s t r
  said_together keeps (Over e w) (Over e' w') r = r.1
  said_together keeps (At s) (Over e w) r = absurd r
  said_together keeps (Over e w) (At t) r = absurd r

  -- what n steps of the old run have said, some steps of the new one have too
  shows_too : SaysInTurn old → KeepsTogether old new related → (fuel n : ℕ) → n < fuel → (p : Progress S End) (q : Progress T End) → Together related p q → (m : ℕ) × (said new (after new m q) ≡ said old (after old n p))
  shows_too turns keeps zero n lt p q r = absurd (omega arith)
  shows_too turns keeps (suc fuel) n lt (Over e w) (Over e' w') r =
      (0, sym r.1 ∙ ap (said old) (sym (after_over old n e w)))
  shows_too turns keeps (suc fuel) n lt (At s) (Over e w) r = absurd r
  shows_too turns keeps (suc fuel) n lt (Over e w) (At t) r = absurd r
  shows_too turns keeps (suc fuel) n lt (At s) (At t) r =
      let meet = keeps.meet s t r in
      let i = suc meet.old_more in
      let j = suc meet.new_more in
      let p' = after old i (At s) in
      let q' = after new j (At t) in
      ⊎_elim
      (λ below. ⊎_elim
      (λ e. (0, sym (e ∙ keeps.alike s t r)))
      (λ e. (j, sym (e ∙ said_together keeps p' q' meet.together)))
      (said_between old turns n i s (omega (arith, below)) meet.one_item))
      (λ at_least.
      let e : i + (n - i) ≡ n = omega (arith, at_least) in
      let rest = shows_too turns keeps fuel (n - i) (omega (arith, lt, at_least)) p' q' meet.together in (
        j + rest.0,
        ap (said new) (after-add new j rest.0 (At t)) ∙ rest.1 ∙ ap (said old) (sym (after-add old i (n - i) (At s)) ∙ ap (λ k. after old k (At s)) e),
      ))
      (cases_lt n i)

  over_together : (p : Progress S End) (q : Progress T End) (end : End) (w : List Exchange) → Together related p q → p ≡ Over end w → q ≡ Over end w
  over_together (At s) q end w r e = cc
  over_together (Over e' w') (At t) end w r e = absurd r
  over_together (Over e1 w1) (Over e2 w2) end w r e = let a = r.0 in let b = r.1 in cc

  -- where the old run ends within n steps, the new one ends so too
  ends_too : KeepsTogether old new related → (fuel n : ℕ) → n < fuel → (p : Progress S End) (q : Progress T End) → Together related p q → (end : End) (w : List Exchange) → after old n p ≡ Over end w → (m : ℕ) × (after new m q ≡ Over end w)
  ends_too keeps zero n lt p q r end w e = absurd (omega arith)
  ends_too keeps (suc fuel) n lt (Over e1 w1) q r end w e =
      (0, over_together (Over e1 w1) q end w r (sym (after_over old n e1 w1) ∙ e))
  ends_too keeps (suc fuel) n lt (At s) (Over e2 w2) r end w e = absurd r
  ends_too keeps (suc fuel) n lt (At s) (At t) r end w e =
      let meet = keeps.meet s t r in
      let i = suc meet.old_more in
      let j = suc meet.new_more in
      let p' = after old i (At s) in
      let q' = after new j (At t) in
      ⊎_elim
      (λ below.
      let f : n + (i - n) ≡ i = omega (arith, below) in
      let over = ap (λ k. after old k (At s)) (sym f) ∙ after-add old n (i - n) (At s) ∙ ap (after old (i - n)) e ∙ after_over old (i - n) end w in
      (j, over_together p' q' end w meet.together over))
      (λ at_least.
      let f : i + (n - i) ≡ n = omega (arith, at_least) in
      let rest = ends_too keeps fuel (n - i) (omega (arith, lt, at_least)) p' q' meet.together end w (sym (after-add old i (n - i) (At s)) ∙ ap (λ k. after old k (At s)) f ∙ e) in
      (j + rest.0, after-add new j rest.0 (At t) ∙ rest.1))
      (cases_lt n i)

module _ {S T End : Type 0} (old : Machine S End) (new : Machine T End) (related : S → T → Type 0) where
  turned_together : (p : Progress S End) (q : Progress T End) → Together related p q → Together (λ t s. related s t) q p
  turned_together (At s) (At t) r = r
  turned_together (Over e w) (Over e' w') r = (sym r.0, sym r.1)
  turned_together (At s) (Over e w) r = absurd r
  turned_together (Over e w) (At t) r = absurd r

  -- what keeps the runs together does so seen from the other side too
  turned : KeepsTogether old new related → KeepsTogether new old (λ t s. related s t)
  turned keeps = record {
    alike = λ t s r. sym (keeps.alike s t r);
    meet = λ t s r.
        let meet = keeps.meet s t r in
        record {
          old_more = meet.new_more;
          new_more = meet.old_more;
          together = turned_together _ _ meet.together;
          one_item = omega (arith, meet.one_item, ap length (keeps.alike s t r), ap length (said_together old new related keeps _ _ meet.together));
        };
  }

-- runs that keep together are alike
pub run_alike : {S T End : Type 0} (old : Machine S End) (new : Machine T End) (related : S → T → Type 0) → SaysInTurn old → SaysInTurn new → KeepsTogether old new related → (s : S) (t : T) → related s t → RunAlike old new s t
run_alike old new related old_turns new_turns keeps s t r =
    let back = turned old new related keeps in
    record {
      shows = λ w. (
        (λ a. let m = shows_too old new related old_turns keeps (suc a.0) a.0 (omega arith) (At s) (At t) r in (m.0, m.1 ∙ a.1)),
        (λ a. let m = shows_too new old _ new_turns back (suc a.0) a.0 (omega arith) (At t) (At s) r in (m.0, m.1 ∙ a.1)),
      );
      ends = λ end w. (
        (λ a. ends_too old new related keeps (suc a.0) a.0 (omega arith) (At s) (At t) r end w a.1),
        (λ a. ends_too new old _ back (suc a.0) a.0 (omega arith) (At t) (At s) r end w a.1),
      );
    }

module _ {S T End : Type 0} (old : Machine S End) (new : Machine T End) (related : S → T → Type 0) where
  -- the new run comes to be related after some steps that say nothing
  abbrev Soon : S → T → Type 0
  Soon s t = (j : ℕ) × Together related (At s) (after new j (At t)) × (said new (after new j (At t)) ≡ new.transcript t)

  soon_together : (p : Progress S End) (q : Progress T End) → Together related p q → Together Soon p q
  soon_together (At s) (At t) r = (0, r, refl)
  soon_together (Over e w) (Over e' w') r = r
  soon_together (At s) (Over e w) r = absurd r
  soon_together (Over e w) (At t) r = absurd r

  soon_meets : KeepsTogether old new related → (s : S) (t : T) (j : ℕ) (q : Progress T End) → after new j (At t) ≡ q → Together related (At s) q → Meet old new Soon s t
  soon_meets keeps s t j (Over e w) from r = absurd r
  soon_meets keeps s t j (At t') from r =
      let meet = keeps.meet s t' r in
      let e : suc (j + meet.new_more) ≡ j + suc meet.new_more = omega arith in
      let f = ap (λ k. after new k (At t)) e ∙ after-add new j (suc meet.new_more) (At t) ∙ ap (after new (suc meet.new_more)) from in
      record {
        old_more = meet.old_more;
        new_more = j + meet.new_more;
        together = subst (Together Soon (after old (suc meet.old_more) (At s))) (sym f) (soon_together _ _ meet.together);
        one_item = meet.one_item;
      }

  -- the same where the new run first makes some steps that say nothing
  pub run_alike_soon : SaysInTurn old → SaysInTurn new → KeepsTogether old new related → (s : S) (t : T) (j : ℕ) → Together related (At s) (after new j (At t)) → said new (after new j (At t)) ≡ new.transcript t → RunAlike old new s t
  run_alike_soon old_turns new_turns keeps s t j r e =
      run_alike old new Soon old_turns new_turns
      (record {
        alike = λ s t soon. said_together old new related keeps (At s) _ soon.1 ∙ soon.2;
        meet = λ s t soon. soon_meets keeps s t soon.0 _ refl soon.1;
      })
      s t (j, r, e)
