-- The order of a meet, and what flows into a node.
use Rattle.std.proofs.Common.{◌≡◌, ℕ, ◌<◌, Bool, true, false, cond, List, [], ◌∷◌, length, refl, sym, ◌∙◌, ap, arith, eq-eqb, suc, zero}
use Rattle.std.specs.Prelude.{◌==◌}
use Rattle.std.proofs.lemmas.Bool.{eqb-true}
use Rattle.dataflow.specs.Laws.{IsBelow, MeetLaws}
use Rattle.dataflow.specs.FixedPoints.{source, target, inflow}

module _ {V : Type 0} {Alike : V → V → Type 0} {met : V → V → V} {height_of : V → ℕ} (laws : MeetLaws Alike met height_of) where
  pub below_itself : (x : V) → IsBelow met x x
  below_itself x = laws.idem x

  pub below_on : (x y z : V) → Alike x y → Alike y z → IsBelow met x y → IsBelow met y z → IsBelow met x z
  below_on x y z a b p q = ap (λ w. met w z) (sym p) ∙ laws.assoc x y z a b ∙ ap (met x) q ∙ p

  pub same_from_below : (x y : V) → Alike x y → IsBelow met x y → IsBelow met y x → x ≡ y
  same_from_below x y a p q = sym p ∙ laws.comm x y a ∙ q

  pub met_below_left : (x y : V) → Alike x y → IsBelow met (met x y) x
  met_below_left x y a =
      laws.comm (met x y) x (laws.alike x y a)
      ∙ sym (laws.assoc x x y (laws.itself x) a)
      ∙ ap (λ w. met w y) (laws.idem x)

  pub met_below_right : (x y : V) → Alike x y → IsBelow met (met x y) y
  met_below_right x y a = laws.assoc x y y a (laws.itself y) ∙ ap (met x) (laws.idem y)

  pub met_greatest : (z x y : V) → Alike z x → Alike x y → IsBelow met z x → IsBelow met z y → IsBelow met z (met x y)
  met_greatest z x y a b p q = sym (laws.assoc z x y a b) ∙ ap (λ w. met w y) p ∙ q

  -- what flows into a node, from values that are alike to the start
  module _ (exit : ℕ → V) (n : ℕ) (start : V) where
    pub inflow_alike : (arcs : List (ℕ × ℕ)) → ((e : ℕ) → e < length arcs → Alike start (exit (source arcs e))) → Alike (inflow met arcs exit n start) start
    inflow_alike [] h = laws.itself start
    inflow_alike (arc ∷ arcs) h =
        let rest : Alike (inflow met arcs exit n start) start = inflow_alike arcs (λ e l. h (suc e) (omega arith)) in
        inflow_alike_step arc arcs (arc.1 == n) rest (laws.on (inflow met arcs exit n start) start (exit arc.0) rest (h 0 (omega arith)))
      where
        inflow_alike_step : (arc : ℕ × ℕ) (arcs : List (ℕ × ℕ)) (b : Bool) → Alike (inflow met arcs exit n start) start → Alike (inflow met arcs exit n start) (exit arc.0) → Alike (cond b (met (inflow met arcs exit n start) (exit arc.0)) (inflow met arcs exit n start)) start
        inflow_alike_step arc arcs true r s = laws.on (met (inflow met arcs exit n start) (exit arc.0)) (inflow met arcs exit n start) start (laws.alike (inflow met arcs exit n start) (exit arc.0) s) r
        inflow_alike_step arc arcs false r s = r

    inflow_below_start_step : (arc : ℕ × ℕ) (arcs : List (ℕ × ℕ)) (b : Bool) → Alike (inflow met arcs exit n start) start → Alike (inflow met arcs exit n start) (exit arc.0) → IsBelow met (inflow met arcs exit n start) start → IsBelow met (cond b (met (inflow met arcs exit n start) (exit arc.0)) (inflow met arcs exit n start)) start
    inflow_below_start_step arc arcs true r s p =
        let rest = inflow met arcs exit n start in
        below_on (met rest (exit arc.0)) rest start (laws.alike rest (exit arc.0) s) r (met_below_left rest (exit arc.0) s) p
    inflow_below_start_step arc arcs false r s p = p

    pub inflow_below_start : (arcs : List (ℕ × ℕ)) → ((e : ℕ) → e < length arcs → Alike start (exit (source arcs e))) → IsBelow met (inflow met arcs exit n start) start
    inflow_below_start [] h = laws.idem start
    inflow_below_start (arc ∷ arcs) h =
        let rest : Alike (inflow met arcs exit n start) start = inflow_alike arcs (λ e l. h (suc e) (omega arith)) in
        inflow_below_start_step arc arcs (arc.1 == n) rest (laws.on (inflow met arcs exit n start) start (exit arc.0) rest (h 0 (omega arith))) (inflow_below_start arcs (λ e l. h (suc e) (omega arith)))

    inflow_greatest_step : (z : V) (arc : ℕ × ℕ) (arcs : List (ℕ × ℕ)) (b : Bool) → Alike z (inflow met arcs exit n start) → Alike (inflow met arcs exit n start) (exit arc.0) → IsBelow met z (inflow met arcs exit n start) → (b ≡ true → IsBelow met z (exit arc.0)) → IsBelow met z (cond b (met (inflow met arcs exit n start) (exit arc.0)) (inflow met arcs exit n start))
    inflow_greatest_step z arc arcs true a s p q = met_greatest z (inflow met arcs exit n start) (exit arc.0) a s p (q refl)
    inflow_greatest_step z arc arcs false a s p q = p

    -- what is below the start and below the exit of each arc into the node is below what flows in
    pub inflow_greatest : (z : V) (arcs : List (ℕ × ℕ)) → Alike z start → ((e : ℕ) → e < length arcs → Alike start (exit (source arcs e))) → IsBelow met z start → ((e : ℕ) → e < length arcs → target arcs e ≡ n → IsBelow met z (exit (source arcs e))) → IsBelow met z (inflow met arcs exit n start)
    inflow_greatest z [] a h p q = p
    inflow_greatest z (arc ∷ arcs) a h p q =
        let rest : Alike (inflow met arcs exit n start) start = inflow_alike arcs (λ e l. h (suc e) (omega arith)) in
        inflow_greatest_step z arc arcs (arc.1 == n)
        (laws.on z start (inflow met arcs exit n start) a (laws.back (inflow met arcs exit n start) start rest))
        (laws.on (inflow met arcs exit n start) start (exit arc.0) rest (h 0 (omega arith)))
        (inflow_greatest z arcs a (λ e l. h (suc e) (omega arith)) p (λ e l. q (suc e) (omega arith)))
        (λ b. q 0 (omega arith) (eqb-true arc.1 n b))

    inflow_below_exit_step : (arc : ℕ × ℕ) (arcs : List (ℕ × ℕ)) (b : Bool) (x : V) → Alike (inflow met arcs exit n start) x → Alike (inflow met arcs exit n start) (exit arc.0) → IsBelow met (inflow met arcs exit n start) x → IsBelow met (cond b (met (inflow met arcs exit n start) (exit arc.0)) (inflow met arcs exit n start)) x
    inflow_below_exit_step arc arcs true x r s p =
        let rest = inflow met arcs exit n start in
        below_on (met rest (exit arc.0)) rest x (laws.alike rest (exit arc.0) s) r (met_below_left rest (exit arc.0) s) p
    inflow_below_exit_step arc arcs false x r s p = p

    inflow_below_first : (arc : ℕ × ℕ) (arcs : List (ℕ × ℕ)) (b : Bool) → b ≡ true → Alike (inflow met arcs exit n start) (exit arc.0) → IsBelow met (cond b (met (inflow met arcs exit n start) (exit arc.0)) (inflow met arcs exit n start)) (exit arc.0)
    inflow_below_first arc arcs true e s = met_below_right (inflow met arcs exit n start) (exit arc.0) s
    inflow_below_first arc arcs false e s = cc

    -- what flows in is below the exit of each arc into the node
    pub inflow_below_exit : (arcs : List (ℕ × ℕ)) → ((e : ℕ) → e < length arcs → Alike start (exit (source arcs e))) → (e : ℕ) → e < length arcs → target arcs e ≡ n → IsBelow met (inflow met arcs exit n start) (exit (source arcs e))
    inflow_below_exit [] h e l t = let bad : e < 0 = l in absurd (omega arith)
    inflow_below_exit (arc ∷ arcs) h zero l t =
        let rest : Alike (inflow met arcs exit n start) start = inflow_alike arcs (λ e l. h (suc e) (omega arith)) in
        inflow_below_first arc arcs (arc.1 == n) (eq-eqb arc.1 n t) (laws.on (inflow met arcs exit n start) start (exit arc.0) rest (h 0 (omega arith)))
    inflow_below_exit (arc ∷ arcs) h (suc e) l t =
        let rest : Alike (inflow met arcs exit n start) start = inflow_alike arcs (λ e l. h (suc e) (omega arith)) in
        inflow_below_exit_step arc arcs (arc.1 == n) (exit (source arcs e))
        (laws.on (inflow met arcs exit n start) start (exit (source arcs e)) rest (h (suc e) l))
        (laws.on (inflow met arcs exit n start) start (exit arc.0) rest (h 0 (omega arith)))
        (inflow_below_exit arcs (λ e l. h (suc e) (omega arith)) e (omega arith) t)
