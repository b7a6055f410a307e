-- How a walk in depth goes on.
use Rattle.std.proofs.Common.{All, Contains, ◌≤◌, ◌≡◌, ◌<◌, ◌+◌, ◌++◌, ℕ, Bool, false, List, [], ◌∷◌, Option, Some, option_to_list, length, map, set, get_or, sum_by, replicate, inl, inr, sym, ap, ◌∙◌, subst, ⊎_elim, arith, get_or-set_same, get_or-set_other, length-append, refl}
use Rattle.std.proofs.lemmas.Bool.{cases_eq, cases_lt, true≢false}
use Rattle.std.proofs.lemmas.List.{get_or-map, get_or-replicate, get_or_past, length-map, length-replicate, length-set, map-set}
use Rattle.std.proofs.lemmas.List.Sums.{sum_by-set}
use Rattle.std.proofs.lemmas.List.Elements.{All-pop, All-push, Contains-append_left, Contains-push, Contains-push_cases}
use Rattle.dataflow.specs.FixedPoints.{ArcsWithin, ends_from}
use Rattle.dataflow.specs.Walks.{IsFlagged, Walking}
use Rattle.dataflow.proofs.Ends.{ends_within}

-- an end is taken from the list of one node, or there is none left
module _ {V : Type 0} (items : V → List ℕ) (ends : List V) (node : ℕ) (old new : V) (taken : Option ℕ) (inside : node < length ends) (was : get_or ends node old ≡ old) (is : items old ≡ items new ++ option_to_list taken) where
  here : get_or (map items ends) node [] ≡ items new ++ option_to_list taken
  here = get_or-map items ends node old [] inside ∙ ap items was ∙ is

  there : node < length (map items ends)
  there = omega (arith, inside, length-map ends items)

  -- fewer ends by the one that was taken
  pub fewer_ends : sum_by length (map items (set ends node new)) + length (option_to_list taken) ≡ sum_by length (map items ends)
  fewer_ends =
      let s = sum_by-set length (map items ends) node (items new) [] there in
      let l : length (get_or (map items ends) node []) ≡ length (items new) + length (option_to_list taken) = ap length here ∙ length-append (items new) (option_to_list taken) in
      let m : sum_by length (map items (set ends node new)) ≡ sum_by length (set (map items ends) node (items new)) = ap (sum_by length) (map-set items ends node new) in
      omega (arith, s, l, m)

  still_below : (P : ℕ → Type 0) → ((n : ℕ) → All P (get_or (map items ends) n [])) → (n : ℕ) → All P (get_or (set (map items ends) node (items new)) n [])
  still_below P all n = ⊎_elim
      (λ (q : n ≡ node). subst (λ k. All P (get_or (set (map items ends) node (items new)) k [])) (sym q)
      (subst (λ xs. All P xs) (sym (get_or-set_same (map items ends) node (items new) [] there)) (All-pop P _ _ taken here (all node)).0))
      (λ (ne : n ≡ node → ⊥). subst (λ xs. All P xs) (sym (get_or-set_other (map items ends) node n (items new) [] ne)) (all n))
      (cases_eq n node)

  pub Walking-taken : (entered : List Bool) (path order : List ℕ) → Walking entered (map items ends) path order → Walking entered (map items (set ends node new)) path order
  Walking-taken entered path order w = record {
    lists = ap length (map-set items ends node new) ∙ length-set (map items ends) node (items new) ∙ w.lists;
    ends_below = λ n. subst (λ lists. All (λ end. end < length entered) (get_or lists n [])) (sym (map-set items ends node new)) (still_below (λ end. end < length entered) w.ends_below n);
    path_below = w.path_below;
    order_below = w.order_below;
    placed = w.placed;
  }

  -- the end that was taken is a node
  pub taken_below : (entered : List Bool) (path order : List ℕ) (end : ℕ) → taken ≡ Some end → Walking entered (map items ends) path order → end < length entered
  taken_below entered path order end some w = (All-pop (λ n. n < length entered) _ _ (Some end) (here ∙ ap (λ o. items new ++ option_to_list o) some) (w.ends_below node)).1

-- the last node of the path is left
pub Walking-left : (entered : List Bool) (ends : List (List ℕ)) (path order : List ℕ) (node : ℕ) → Walking entered ends (path ++ node ∷ []) order → Walking entered ends path (order ++ node ∷ [])
Walking-left entered ends path order node w =
    let popped = All-pop (λ n. n < length entered) (path ++ node ∷ []) path (Some node) refl w.path_below in
    record {
      lists = w.lists;
      ends_below = w.ends_below;
      path_below = popped.0;
      order_below = All-push (λ n. n < length entered) order node w.order_below popped.1;
      placed = λ n e. ⊎_elim
          (λ (p : Contains (path ++ node ∷ []) n). ⊎_elim
          (λ (old : Contains path n). inl old)
          (λ (q : node ≡ n). inr (subst (λ x. Contains (order ++ node ∷ []) x) q (Contains-push order node)))
          (Contains-push_cases path node n p))
          (λ (o : Contains order n). inr (Contains-append_left order (node ∷ []) n o))
          (w.placed n e);
    }

-- the last node of the path is a node
pub last_below : (entered : List Bool) (ends : List (List ℕ)) (path order : List ℕ) (node : ℕ) → Walking entered ends (path ++ node ∷ []) order → node < length entered
last_below entered ends path order node w = (All-pop (λ n. n < length entered) (path ++ node ∷ []) path (Some node) refl w.path_below).1

-- once the path is empty, what was entered was left
pub Walking-end : (entered : List Bool) (ends : List (List ℕ)) (path order : List ℕ) → length path ≡ 0 → Walking entered ends path order → (n : ℕ) → IsFlagged entered n → Contains order n
Walking-end entered ends path order none w n e = ⊎_elim
    (λ (p : Contains path n). let h : p.0 < length path = p.1 in absurd (omega arith))
    (λ (o : Contains order n). o)
    (w.placed n e)

-- no node was entered yet
pub not_flagged : (nodes n : ℕ) → ¬ IsFlagged (replicate nodes false) n
not_flagged nodes n e = ⊎_elim
    (λ (h : n < nodes). true≢false (sym e ∙ get_or-replicate nodes n false false h))
    (λ (past : nodes ≤ n). true≢false (sym e ∙ get_or_past (replicate nodes false) n false (omega (arith, past, length-replicate nodes false))))
    (cases_lt n nodes)

-- before the first node is entered
pub Walking-start : (arcs : List (ℕ × ℕ)) (nodes : ℕ) (entered : List Bool) (ends : List (List ℕ)) (path order : List ℕ) → ArcsWithin arcs nodes → entered ≡ replicate nodes false → length ends ≡ nodes → ((n : ℕ) → n < nodes → get_or ends n [] ≡ ends_from arcs n) → path ≡ [] → order ≡ [] → Walking entered ends path order
Walking-start arcs nodes entered ends path order within clear len are no_path no_order =
    let count : length entered ≡ nodes = ap length clear ∙ length-replicate nodes false in
    record {
      lists = len ∙ sym count;
      ends_below = λ n. subst (λ k. All (λ end. end < k) (get_or ends n [])) (sym count) (⊎_elim
          (λ (h : n < nodes). subst (All (λ end. end < nodes)) (sym (are n h)) (ends_within arcs nodes n within))
          (λ (past : nodes ≤ n). subst (All (λ end. end < nodes)) (sym (get_or_past ends n [] (omega (arith, past, len)))) (none nodes))
          (cases_lt n nodes));
      path_below = subst (All (λ n. n < length entered)) (sym no_path) (none (length entered));
      order_below = subst (All (λ n. n < length entered)) (sym no_order) (none (length entered));
      placed = λ n e. absurd (not_flagged nodes n (subst (λ flags. IsFlagged flags n) clear e));
    }
  where
    none : (k : ℕ) → All (λ n. n < k) []
    none k i d h = absurd (omega (arith, h))
