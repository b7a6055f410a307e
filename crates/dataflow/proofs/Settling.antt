-- How entries and exits fall to the greatest fixed point.
use Rattle.std.proofs.Common.{◌≡◌, ℕ, ◌<◌, List, length, get_or, refl, sym, ◌∙◌, subst, ap, ⊎_elim, arith}
use Rattle.std.proofs.lemmas.Bool.{cases_eq}
use Rattle.std.proofs.lemmas.List.Elements.{Contains-push_cases}
use Rattle.std.proofs.Common.{Contains, set, [], ◌∷◌, ◌++◌, get_or-set_same, get_or-set_other}
use Rattle.dataflow.specs.Laws.{IsBelow, MeetLaws, TransferLaws}
use Rattle.dataflow.specs.FixedPoints.{source, target, ArcsWithin, inflow, IsFixedPoint, IsGreatestFixedPoint}
use Rattle.dataflow.specs.FixedPoints.{ends_from}
use Rattle.dataflow.specs.Meeting.{MetEnds}
use Rattle.dataflow.proofs.Ends.{end_of_arc, arc_of_end}
use Rattle.dataflow.proofs.Below.{below_itself, below_on, same_from_below, inflow_alike, inflow_below_start, inflow_below_exit, inflow_greatest}

module _ {V : Type 0} (Alike : V → V → Type 0) (met : V → V → V) (leaving : ℕ → V → V) (arcs : List (ℕ × ℕ)) (nodes : ℕ) (start : ℕ → V) where
  -- below the start, and at the end of each arc below what leaves its beginning
  pub record IsPostFixed (f : ℕ → V) : Type 0 where
    pub alike : (n : ℕ) → n < nodes → Alike (f n) (start n)
    pub below_start : (n : ℕ) → n < nodes → IsBelow met (f n) (start n)
    pub below_leaving : (e : ℕ) → e < length arcs → IsBelow met (f (target arcs e)) (leaving (source arcs e) (f (source arcs e)))

  -- entries and exits between steps; those of a quiet node are as its own entry asks, and its exit has been met at the ends of its arcs
  pub record Settling (entry exit : ℕ → V) (Quiet : ℕ → Type 0) : Type 0 where
    pub alike : (n : ℕ) → n < nodes → Alike (entry n) (start n)
    pub exit_alike : (n : ℕ) → n < nodes → Alike (exit n) (start n)
    pub below : (n : ℕ) → n < nodes → IsBelow met (entry n) (start n)
    pub above : (f : ℕ → V) → IsPostFixed f → (n : ℕ) → n < nodes → IsBelow met (f n) (entry n)
    pub left : (n : ℕ) → n < nodes → Quiet n → exit n ≡ leaving n (entry n)
    pub met_exits : (e : ℕ) → e < length arcs → Quiet (source arcs e) → IsBelow met (entry (target arcs e)) (exit (source arcs e))

module _ {V : Type 0} {Alike : V → V → Type 0} {met : V → V → V} {height_of : V → ℕ} (laws : MeetLaws Alike met height_of) {Knows : ℕ → V → Type 0} {leaving : ℕ → V → V} (transfer : TransferLaws Alike met Knows leaving) (arcs : List (ℕ × ℕ)) (nodes : ℕ) (within : ArcsWithin arcs nodes) (start : ℕ → V) (starts_alike : (n m : ℕ) → n < nodes → m < nodes → Alike (start n) (start m)) (knows : (n : ℕ) (x : V) → n < nodes → Alike x (start n) → Knows n x) where
  -- what leaves for values that are alike to the start is alike to the start
  pub leaving_alike : (n : ℕ) (x : V) → n < nodes → Alike x (start n) → Alike (leaving n x) (start n)
  leaving_alike n x h a = laws.on (leaving n x) x (start n) (transfer.alike n x (knows n x h a)) a

  leaving_monotone : (n : ℕ) (x y : V) → n < nodes → Alike x (start n) → Alike y (start n) → IsBelow met x y → IsBelow met (leaving n x) (leaving n y)
  leaving_monotone n x y h a b = transfer.monotone n x y (knows n x h a) (knows n y h b) (laws.on x (start n) y a (laws.back y (start n) b))

  -- values that are alike to the starts of two nodes are alike
  pub across : (n m : ℕ) (x y : V) → n < nodes → m < nodes → Alike x (start n) → Alike y (start m) → Alike x y
  across n m x y h k a b = laws.on x (start n) y a (laws.on (start n) (start m) y (starts_alike n m h k) (laws.back y (start m) b))

  -- a fixed point is post-fixed
  pub fixed_is_post_fixed : (entry exit : ℕ → V) → ((n : ℕ) → n < nodes → Alike (entry n) (start n)) → IsFixedPoint met leaving arcs nodes start entry exit → IsPostFixed Alike met leaving arcs nodes start entry
  fixed_is_post_fixed entry exit alike fixed =
      let exit_alike : (n : ℕ) → n < nodes → Alike (exit n) (start n) = λ n h. subst (λ x. Alike x (start n)) (sym (fixed.exits n h)) (leaving_alike n (entry n) h (alike n h)) in
      let sources_alike : (n : ℕ) → n < nodes → (e : ℕ) → e < length arcs → Alike (start n) (exit (source arcs e)) = λ n h e k. across n (source arcs e) (start n) (exit (source arcs e)) h (within e k).0 (laws.itself (start n)) (exit_alike (source arcs e) (within e k).0) in
      record {
        alike = alike;
        below_start = λ n h. subst (λ x. IsBelow met x (start n)) (sym (fixed.entries n h)) (inflow_below_start laws exit n (start n) arcs (sources_alike n h));
        below_leaving = λ e h.
            let w = within e h in
            subst (IsBelow met (entry (target arcs e))) (fixed.exits (source arcs e) w.0)
            (subst (λ x. IsBelow met x (exit (source arcs e))) (sym (fixed.entries (target arcs e) w.1))
            (inflow_below_exit laws exit (target arcs e) (start (target arcs e)) arcs (sources_alike (target arcs e) w.1) e h refl));
      }

  -- once all nodes are quiet, the entries and exits are the greatest fixed point
  module _ (entry exit : ℕ → V) (Quiet : ℕ → Type 0) (quiet : (n : ℕ) → n < nodes → Quiet n) (s : Settling Alike met leaving arcs nodes start entry exit Quiet) where
    sources : (n : ℕ) → n < nodes → (e : ℕ) → e < length arcs → Alike (start n) (exit (source arcs e))
    sources n h e k = across n (source arcs e) (start n) (exit (source arcs e)) h (within e k).0 (laws.itself (start n)) (s.exit_alike (source arcs e) (within e k).0)

    flow_alike : (n : ℕ) → n < nodes → Alike (inflow met arcs exit n (start n)) (start n)
    flow_alike n h = inflow_alike laws exit n (start n) arcs (sources n h)

    entry_below_flow : (n : ℕ) → n < nodes → IsBelow met (entry n) (inflow met arcs exit n (start n))
    entry_below_flow n h = inflow_greatest laws exit n (start n) (entry n) arcs (s.alike n h) (sources n h) (s.below n h) (λ e k t. subst (λ x. IsBelow met (entry x) (exit (source arcs e))) t (s.met_exits e k (quiet (source arcs e) (within e k).0)))

    -- what flows in is post-fixed
    flow_post_fixed : IsPostFixed Alike met leaving arcs nodes start (λ n. inflow met arcs exit n (start n))
    flow_post_fixed = record {
      alike = flow_alike;
      below_start = λ n h. inflow_below_start laws exit n (start n) arcs (sources n h);
      below_leaving = λ e k.
          let w = within e k in
          let u = source arcs e in
          let v = target arcs e in
          let in_v = inflow met arcs exit v (start v) in
          let in_u = inflow met arcs exit u (start u) in
          below_on laws in_v (exit u) (leaving u in_u)
          (across v u in_v (exit u) w.1 w.0 (flow_alike v w.1) (s.exit_alike u w.0))
          (across u u (exit u) (leaving u in_u) w.0 w.0 (s.exit_alike u w.0) (leaving_alike u in_u w.0 (flow_alike u w.0)))
          (inflow_below_exit laws exit v (start v) arcs (sources v w.1) e k refl)
          (subst (λ x. IsBelow met x (leaving u in_u)) (sym (s.left u w.0 (quiet u w.0))) (leaving_monotone u (entry u) in_u w.0 (s.alike u w.0) (flow_alike u w.0) (entry_below_flow u w.0)));
    }

    pub settled : IsGreatestFixedPoint Alike met leaving arcs nodes start entry exit
    settled = record {
      fixed = record {
        entries = λ n h. same_from_below laws (entry n) (inflow met arcs exit n (start n)) (across n n (entry n) (inflow met arcs exit n (start n)) h h (s.alike n h) (flow_alike n h)) (entry_below_flow n h) (s.above (λ n. inflow met arcs exit n (start n)) flow_post_fixed n h);
        exits = λ n h. s.left n h (quiet n h);
      };
      alike = s.alike;
      greatest = λ other other_exit a f n h.
          let below : IsBelow met (other n) (entry n) = s.above other (fixed_is_post_fixed other other_exit a f) n h in
          (below, subst (λ x. IsBelow met x (exit n)) (sym (f.exits n h)) (subst (IsBelow met (leaving n (other n))) (sym (s.left n h (quiet n h))) (leaving_monotone n (other n) (entry n) h (a n h) (s.alike n h) below)));
    }

  -- before the first step, where no node is quiet
  pub Settling-start : (exit : ℕ → V) (Quiet : ℕ → Type 0) → ((n : ℕ) → n < nodes → ¬ Quiet n) → ((n : ℕ) → n < nodes → Alike (exit n) (start n)) → Settling Alike met leaving arcs nodes start start exit Quiet
  Settling-start exit Quiet none a = record {
    alike = λ n h. laws.itself (start n);
    exit_alike = a;
    below = λ n h. below_itself laws (start n);
    above = λ f p n h. p.below_start n h;
    left = λ n h q. absurd (none n h q);
    met_exits = λ e h q. absurd (none (source arcs e) (within e h).0 q);
  }

  -- a step of a worklist: a value leaves the pending node, and is met at the ends of its arcs
  pub Settling-work : (d : V) (entry next exit left : List V) (rest noted : List ℕ) (node : ℕ) → length entry ≡ nodes → length exit ≡ nodes → node < nodes
      → Settling Alike met leaving arcs nodes start (λ n. get_or entry n d) (λ n. get_or exit n d) (λ n. ¬ Contains (rest ++ node ∷ []) n)
      → left ≡ set exit node (leaving node (get_or entry node d))
      → MetEnds Alike met d (ends_from arcs node) entry next (get_or left node d) rest noted (length (ends_from arcs node))
      → Settling Alike met leaving arcs nodes start (λ n. get_or next n d) (λ n. get_or left n d) (λ n. ¬ Contains noted n)
  Settling-work d entry next exit left rest noted node len exit_len node_in s is pass =
      let out = leaving node (get_or entry node d) in
      let inside : (n : ℕ) → n < nodes → n < length entry = λ n h. omega arith in
      let here : get_or left node d ≡ out = ap (λ xs. get_or xs node d) is ∙ get_or-set_same exit node out d (omega arith) in
      let there : (n : ℕ) → ¬ (n ≡ node) → get_or left n d ≡ get_or exit n d = λ n ne. ap (λ xs. get_or xs n d) is ∙ get_or-set_other exit node n out d ne in
      let out_alike : Alike out (start node) = leaving_alike node (get_or entry node d) node_in (s.alike node node_in) in
      record {
        alike = λ n h. laws.on (get_or next n d) (get_or entry n d) (start n) (pass.alike n (inside n h)) (s.alike n h);
        exit_alike = λ n h. ⊎_elim
            (λ (q : n ≡ node). subst (λ k. Alike (get_or left k d) (start k)) (sym q) (subst (λ x. Alike x (start node)) (sym here) out_alike))
            (λ (ne : n ≡ node → ⊥). subst (λ x. Alike x (start n)) (sym (there n ne)) (s.exit_alike n h))
            (cases_eq n node);
        below = λ n h. below_on laws (get_or next n d) (get_or entry n d) (start n) (pass.alike n (inside n h)) (s.alike n h) (pass.below n (inside n h)) (s.below n h);
        above = λ f p n h. pass.above f
            (λ k l. let m : k < nodes = omega arith in across k k (f k) (get_or entry k d) m m (p.alike k m) (s.alike k m))
            (λ k l. s.above f p k (omega arith))
            (λ i l.
            let arc = arc_of_end arcs node i l in
            let e = arc.0 in
            let k = arc.1.0 in
            let q = arc.1.1 in
            let w = within e k in
            let v = target arcs e in
            subst (λ x. IsBelow met (f x) (get_or left node d)) arc.1.2 (
            let from_here : IsBelow met (f v) (leaving node (f node)) = subst (λ u. IsBelow met (f v) (leaving u (f u))) q (p.below_leaving e k) in
            subst (IsBelow met (f v)) (sym here)
            (below_on laws (f v) (leaving node (f node)) out
            (across v node (f v) (leaving node (f node)) w.1 node_in (p.alike v w.1) (leaving_alike node (f node) node_in (p.alike node node_in)))
            (across node node (leaving node (f node)) out node_in node_in (leaving_alike node (f node) node_in (p.alike node node_in)) out_alike)
            from_here
            (leaving_monotone node (f node) (get_or entry node d) node_in (p.alike node node_in) (s.alike node node_in) (s.above f p node node_in)))))
            n (inside n h);
        left = λ n h c.
            let same : get_or next n d ≡ get_or entry n d = pass.kept n (inside n h) c in
            ⊎_elim
            (λ (q : n ≡ node). subst (λ k. get_or next k d ≡ get_or entry k d → get_or left k d ≡ leaving k (get_or next k d)) (sym q) (λ t. here ∙ ap (leaving node) (sym t)) same)
            (λ (ne : n ≡ node → ⊥). there n ne ∙ s.left n h (λ m. ⊎_elim (λ (r : Contains rest n). c (pass.grows n r)) (λ (q : node ≡ n). ne (sym q)) (Contains-push_cases rest node n m)) ∙ ap (leaving n) (sym same))
            (cases_eq n node);
        met_exits = λ e k c.
            let w = within e k in
            let u = source arcs e in
            let v = target arcs e in
            ⊎_elim
            (λ (q : u ≡ node). subst (λ x. IsBelow met (get_or next v d) (get_or left x d)) (sym q)
            (let end = end_of_arc arcs node e k q in subst (λ x. IsBelow met (get_or next x d) (get_or left node d)) end.1.1 (pass.met_exit end.0 end.1.0)))
            (λ (ne : u ≡ node → ⊥). subst (IsBelow met (get_or next v d)) (sym (there u ne))
            (below_on laws (get_or next v d) (get_or entry v d) (get_or exit u d) (pass.alike v (inside v w.1)) (across v u (get_or entry v d) (get_or exit u d) w.1 w.0 (s.alike v w.1) (s.exit_alike u w.0)) (pass.below v (inside v w.1))
            (s.met_exits e k (λ m. ⊎_elim (λ (r : Contains rest u). c (pass.grows u r)) (λ (q : node ≡ u). ne (sym q)) (Contains-push_cases rest node u m)))))
            (cases_eq u node);
      }
