-- The placement read off a side: where it is live at most, that it is correct, and what it costs.
use Rattle.std.proofs.Common.{◌≡◌, ℕ, ◌+◌, ◌*◌, ◌<◌, Bool, true, false, cond, not, ◌&&◌, List, [], ◌∷◌, ◌++◌, length, map, get_or, refl, sym, ap, ◌∙◌, arith}
use Rattle.std.specs.List.{sum_by, AllByRecursion}
use Rattle.std.proofs.lemmas.List.Elements.{recursion_from_All, All-contains, All-from_recursion}
use Rattle.std.proofs.lemmas.List.{length-append, length-map}
use Rattle.std.proofs.lemmas.Bool.{and_parts, and_from, not-true, not-false}
use Rattle.flow_net.proofs.Sums.{sum_by-same}
use Rattle.expressions.specs.declared.syntax.Event.{Event}
use Rattle.expressions.specs.declared.syntax.Event.TheVariants.{Occurs, Kills, Bars, Passes}
use Rattle.flow_paths.specs.Paths.{source, target}
use Rattle.best_placement.specs.Blocks.{Block, IsFlowGraph, IsSlot, IsStretch, last_point, joined, points_of_block, edges_of_block}
use Rattle.best_placement.specs.BlockNetwork.{head_node, terminator_node, event_after, last_event}
use Rattle.best_placement.specs.ReadOff.{is_owed, KeepsAlong, IsReadOff, IsReadOffIn}
use Rattle.best_placement.proofs.Lists.{Matches, matches_split, counted_matches, each_both, each_weaker, each_append, each_map, each_joined, counted_each}
use Rattle.best_placement.proofs.Chains.{tick, spent, least, wanted, wanted_at, owed_after, is_carried, is_owed-after, read_off_spends}
use Rattle.best_placement.proofs.Rules.{Rules}
use Rattle.best_placement.proofs.BlockCosts.{block_least, block_cost}
use Rattle.best_placement.proofs.Bounds.{InBlock, in_blocks}

-- where the value is carried along steps
abbrev pub carried_along : (ℕ → Event) → Bool → List (ℕ × ℕ) → Bool → List Bool
carried_along event owed [] end = []
carried_along event owed (s ∷ steps) end = is_carried (event s.1) owed (wanted event steps end) ∷ carried_along event (owed_after (event s.1) owed) steps end

abbrev pub carried_in : (ℕ → Event) → (ℕ → Bool) → Block → List Bool
carried_in event nodes b =
    (nodes (head_node b.index) && wanted event b.steps (nodes (terminator_node b.index)))
    ∷ carried_along event (not (nodes (head_node b.index))) b.steps (nodes (terminator_node b.index)) ++ nodes (terminator_node b.index) ∷ []

abbrev pub carried_joined : (ℕ → Event) → (ℕ → Bool) → List Block → List Bool
carried_joined event nodes [] = []
carried_joined event nodes (b ∷ blocks) = carried_in event nodes b ++ carried_joined event nodes blocks

-- where the placement read off the nodes carries its value
abbrev pub carried : (ℕ → Event) → (ℕ → Bool) → List Block → ℕ → Bool
carried event nodes blocks v = get_or (false ∷ carried_joined event nodes blocks) v false

length_along : (event : ℕ → Event) (owed : Bool) (steps : List (ℕ × ℕ)) (end : Bool) → length (carried_along event owed steps end) ≡ length steps
length_along event owed [] end = refl
length_along event owed (s ∷ steps) end = let e = length_along event (owed_after (event s.1) owed) steps end in omega arith

length_in : (event : ℕ → Event) (nodes : ℕ → Bool) (b : Block) → length (points_of_block b) ≡ length (carried_in event nodes b)
length_in event nodes b =
    omega (
      arith,
      length-append (map (λ (s : ℕ × ℕ). s.1) b.steps) (b.terminator ∷ []),
      length-map b.steps (λ (s : ℕ × ℕ). s.1),
      length-append (carried_along event (not (nodes (head_node b.index))) b.steps (nodes (terminator_node b.index))) (nodes (terminator_node b.index) ∷ []),
      length_along event (not (nodes (head_node b.index))) b.steps (nodes (terminator_node b.index)),
    )

length_joined : (event : ℕ → Event) (nodes : ℕ → Bool) (blocks : List Block) → length (joined points_of_block blocks) ≡ length (carried_joined event nodes blocks)
length_joined event nodes [] = refl
length_joined event nodes (b ∷ blocks) =
    omega (arith, length-append (points_of_block b) (joined points_of_block blocks), length-append (carried_in event nodes b) (carried_joined event nodes blocks), length_in event nodes b, length_joined event nodes blocks)

-- where the value is carried in a block
pub record CarriesIn (event : ℕ → Event) (nodes live : ℕ → Bool) (b : Block) : Type 0 where
  pub head : live b.head ≡ (nodes (head_node b.index) && wanted event b.steps (nodes (terminator_node b.index)))
  pub steps : Matches live (map (λ s. s.1) b.steps) (carried_along event (not (nodes (head_node b.index))) b.steps (nodes (terminator_node b.index)))
  pub terminator : live b.terminator ≡ nodes (terminator_node b.index)

carries_in : (event : ℕ → Event) (nodes live : ℕ → Bool) (b : Block) → Matches live (points_of_block b) (carried_in event nodes b) → CarriesIn event nodes live b
carries_in event nodes live b m =
    let r = matches_split live (map (λ (s : ℕ × ℕ). s.1) b.steps) (b.terminator ∷ []) (carried_along event (not (nodes (head_node b.index))) b.steps (nodes (terminator_node b.index))) (nodes (terminator_node b.index) ∷ [])
    (omega (arith, length-map b.steps (λ (s : ℕ × ℕ). s.1), length_along event (not (nodes (head_node b.index))) b.steps (nodes (terminator_node b.index)))) m.1 in
    record { head = m.0; steps = r.0; terminator = r.1.0 }

carries_joined : (event : ℕ → Event) (nodes live : ℕ → Bool) (blocks : List Block) → Matches live (joined points_of_block blocks) (carried_joined event nodes blocks) → AllByRecursion (CarriesIn event nodes live) blocks
carries_joined event nodes live [] m = tt
carries_joined event nodes live (b ∷ blocks) m =
    let r = matches_split live (points_of_block b) (joined points_of_block blocks) (carried_in event nodes b) (carried_joined event nodes blocks) (length_in event nodes b) m in
    (carries_in event nodes live b r.0, carries_joined event nodes live blocks r.1)

and_comm : (a b : Bool) → (a && b) ≡ (b && a)
and_comm true true = refl
and_comm true false = refl
and_comm false true = refl
and_comm false false = refl

-- a carried value isn't owed before, and is wanted
carried_wanted : (k : Event) (owed later : Bool) → is_carried k owed later ≡ true → (owed ≡ false) × (wanted_at k later ≡ true)
carried_wanted Occurs owed later h = (not-true owed h, refl)
carried_wanted Kills owed later h = cc
carried_wanted Bars owed later h = let p = and_parts (not owed) later h in (not-true owed p.0, p.1)
carried_wanted Passes owed later h = let p = and_parts (not owed) later h in (not-true owed p.0, p.1)

-- what is wanted later and not owed is carried
carried_on : (k : Event) (owed later kp : Bool) → (k ≡ Occurs → kp ≡ owed) → later ≡ true → owed_after k owed ≡ false → kp ≡ false → is_carried k owed later ≡ true
carried_on Occurs owed later kp h w o e = ap not (sym (h refl) ∙ e)
carried_on Kills owed later kp h w o e = cc
carried_on Bars owed later kp h w o e = and_from (not owed) later (ap not o) w
carried_on Passes owed later kp h w o e = and_from (not owed) later (ap not o) w

carried_deleted : (k : Event) (owed later kp : Bool) → (k ≡ Occurs → kp ≡ owed) → k ≡ Occurs → kp ≡ false → is_carried k owed later ≡ true
carried_deleted k owed later kp h o e = rw o (ap not (sym (h o) ∙ e))

carried_no_kill : (k : Event) (owed later : Bool) → k ≡ Kills → is_carried k owed later ≡ false
carried_no_kill k owed later h = rw h refl

module _ (arcs : List (ℕ × ℕ)) (n : ℕ) (blocks : List Block) (event : ℕ → Event) (edge_weight point_weight : ℕ → ℕ) (g : IsFlowGraph arcs n blocks event edge_weight point_weight) (nodes : ℕ → Bool) where
  abbrev pub live : ℕ → Bool
  live = carried event nodes blocks

  pub carries : AllByRecursion (CarriesIn event nodes live) blocks
  carries = carries_joined event nodes live blocks
      (counted_matches live 0 (0 ∷ joined points_of_block blocks) (false ∷ carried_joined event nodes blocks) g.point_order (let e = length_joined event nodes blocks in omega arith)
      (λ i. ap live (let e : 0 + i ≡ i = omega arith in e))).1

  module _ (inserted kept : ℕ → Bool) (keeps : (v : ℕ) → kept v ≡ true → event v ≡ Occurs) (read : IsReadOff event inserted kept nodes blocks) where
    -- what is read off spends what the nodes let in
    read_block : (b : Block) → IsReadOffIn event inserted kept nodes b → block_cost inserted kept edge_weight point_weight b ≡ block_least event edge_weight nodes b
    read_block b r =
        let h = nodes (head_node b.index) in
        let t = nodes (terminator_node b.index) in
        let chain : spent inserted kept b.steps + tick (inserted b.exit) ≡ least event (not h) b.steps t =
        ap (λ x. spent inserted kept b.steps + tick x) r.exit ∙ read_off_spends event inserted kept keeps h t Passes b.steps (recursion_from_All (λ s. inserted s.0 ≡ false) b.steps r.steps) r.keeps in
        let slots : sum_by (λ (s : ℕ × ℕ). cond (inserted s.0) (edge_weight s.0) 0) b.slots ≡ sum_by (λ (s : ℕ × ℕ). cond (nodes (head_node s.1) && not t) (edge_weight s.0) 0) b.slots =
        sum_by-same (λ (s : ℕ × ℕ). cond (inserted s.0) (edge_weight s.0) 0) (λ (s : ℕ × ℕ). cond (nodes (head_node s.1) && not t) (edge_weight s.0) 0) b.slots
        (each_weaker (λ s. inserted s.0 ≡ (not t && nodes (head_node s.1))) (λ s. cond (inserted s.0) (edge_weight s.0) 0 ≡ cond (nodes (head_node s.1) && not t) (edge_weight s.0) 0)
        (λ s e. ap (λ x. cond x (edge_weight s.0) 0) (e ∙ and_comm (not t) (nodes (head_node s.1)))) b.slots (recursion_from_All (λ s. inserted s.0 ≡ (not t && nodes (head_node s.1))) b.slots r.slots)) in
        let w : b.weight * (spent inserted kept b.steps + tick (inserted b.exit)) ≡ b.weight * least event (not h) b.steps t = ap (λ x. b.weight * x) chain in
        omega arith

    pub read_spends : cond (inserted 0) (edge_weight 0) 0 + sum_by (block_cost inserted kept edge_weight point_weight) blocks ≡ cond (nodes (head_node 0)) (edge_weight 0) 0 + sum_by (block_least event edge_weight nodes) blocks
    read_spends =
        let e : cond (inserted 0) (edge_weight 0) 0 ≡ cond (nodes (head_node 0)) (edge_weight 0) 0 = ap (λ x. cond x (edge_weight 0) 0) read.entry in
        let s = sum_by-same (block_cost inserted kept edge_weight point_weight) (block_least event edge_weight nodes) blocks
        (each_weaker (IsReadOffIn event inserted kept nodes) (λ b. block_cost inserted kept edge_weight point_weight b ≡ block_least event edge_weight nodes b) read_block blocks (recursion_from_All (IsReadOffIn event inserted kept nodes) blocks read.each)) in
        omega arith

    -- the value is carried only over edges that insert, from points that write, or from where it is carried
    abbrev pub Moves : ℕ → Type 0
    Moves e = live (target arcs e) ≡ true → inserted e ≡ false → kept (source arcs e) ≡ false → live (source arcs e) ≡ true

    moves_along : (head end : Bool) (before : Event) (u : ℕ) (steps : List (ℕ × ℕ)) → (wanted event steps end ≡ true → is_owed before head ≡ false → kept u ≡ false → live u ≡ true) →
        IsStretch arcs u steps → Matches live (map (λ s. s.1) steps) (carried_along event (is_owed before head) steps end) → KeepsAlong event kept head before steps →
        AllByRecursion (λ s. Moves s.0) steps × (end ≡ true → is_owed (last_event event before steps) head ≡ false → kept (last_point u steps) ≡ false → live (last_point u steps) ≡ true)
    moves_along head end before u [] from st m k = (tt, from)
    moves_along head end before u (s ∷ steps) from st m k =
        let o = is_owed before head in
        let w = wanted event steps end in
        let same : is_owed (event_after (event s.1) before) head ≡ owed_after (event s.1) o = is_owed-after (event s.1) before head in
        let rest = moves_along head end (event_after (event s.1) before) s.1 steps
        (λ wants free unkept. m.0 ∙ carried_on (event s.1) o w (kept s.1) k.0 wants (sym same ∙ free) unkept)
        st.2 (rw same m.1) k.1 in (
          (
            (λ l i q.
                let c = carried_wanted (event s.1) o w (sym m.0 ∙ ap live (sym st.1) ∙ l) in
                ap live st.0 ∙ from c.1 c.0 (ap kept (sym st.0) ∙ q)),
            rest.0,
          ),
          rest.1,
        )

    target_node : (t e j : ℕ) → IsSlot arcs blocks t e j → live (target arcs e) ≡ true → nodes (head_node j) ≡ true
    target_node t e j s l =
        let c = All-contains (CarriesIn event nodes live) blocks s.block (All-from_recursion (CarriesIn event nodes live) blocks carries) s.is_block in
        ap (λ i. nodes (head_node i)) (sym s.has_index)
        ∙ (and_parts (nodes (head_node s.block.index)) (wanted event s.block.steps (nodes (terminator_node s.block.index))) (sym c.head ∙ ap live (sym s.to) ∙ l)).0

    exit_free : (t o i : Bool) → i ≡ (t && o) → t ≡ true → i ≡ false → o ≡ false
    exit_free true true i e h z = cc
    exit_free true false i e h z = refl
    exit_free false o i e h z = cc

    slot_free : (t h i : Bool) → i ≡ (not t && h) → h ≡ true → i ≡ false → t ≡ true
    slot_free true h i e y z = refl
    slot_free false true i e y z = cc
    slot_free false false i e y z = cc

    abbrev pub Facts : Block → Type 0
    Facts b = (IsReadOffIn event inserted kept nodes b × CarriesIn event nodes live b) × InBlock arcs n blocks event edge_weight point_weight g b

    facts : AllByRecursion Facts blocks
    facts = each_both (λ b. IsReadOffIn event inserted kept nodes b × CarriesIn event nodes live b) (InBlock arcs n blocks event edge_weight point_weight g) blocks
        (each_both (IsReadOffIn event inserted kept nodes) (CarriesIn event nodes live) blocks (recursion_from_All (IsReadOffIn event inserted kept nodes) blocks read.each) carries)
        (in_blocks arcs n blocks event edge_weight point_weight g)

    moves_in : (b : Block) → Facts b → AllByRecursion Moves (edges_of_block b)
    moves_in b f =
        let r = f.0.0 in let c = f.0.1 in let i = f.1 in
        let h = nodes (head_node b.index) in
        let t = nodes (terminator_node b.index) in
        let chain = moves_along h t Passes b.head b.steps (λ w o k. c.head ∙ and_from h (wanted event b.steps t) (not-false h o) w) i.block.leads c.steps r.keeps in
        each_append Moves (map (λ (s : ℕ × ℕ). s.0) b.steps) (b.exit ∷ map (λ (s : ℕ × ℕ). s.0) b.slots) (each_map Moves (λ (s : ℕ × ℕ). s.0) b.steps chain.0) (
          (λ l z k.
              let end : t ≡ true = sym c.terminator ∙ ap live (sym i.block.leaves.1) ∙ l in
              ap live i.block.leaves.0 ∙ chain.1 end (exit_free t (is_owed (last_event event Passes b.steps) h) (inserted b.exit) r.exit end z) (ap kept (sym i.block.leaves.0) ∙ k)),
          each_map Moves (λ (s : ℕ × ℕ). s.0) b.slots
              (each_weaker (λ s. (inserted s.0 ≡ (not t && nodes (head_node s.1))) × IsSlot arcs blocks b.terminator s.0 s.1) (λ s. Moves s.0)
              (λ s q l z k. ap live q.1.from ∙ c.terminator ∙ slot_free t (nodes (head_node s.1)) (inserted s.0) q.0 (target_node b.terminator s.0 s.1 q.1 l) z) b.slots
              (each_both (λ s. inserted s.0 ≡ (not t && nodes (head_node s.1))) (λ s. IsSlot arcs blocks b.terminator s.0 s.1) b.slots
              (recursion_from_All (λ s. inserted s.0 ≡ (not t && nodes (head_node s.1))) b.slots r.slots) (recursion_from_All (λ s. IsSlot arcs blocks b.terminator s.0 s.1) b.slots i.block.slots))),
        )

    -- a deleted occurrence carries, and a kill does not
    abbrev pub Obeys : ℕ → Type 0
    Obeys v = (event v ≡ Occurs → kept v ≡ false → live v ≡ true) × (event v ≡ Kills → live v ≡ true → ⊥)

    obeys_along : (head end : Bool) (before : Event) (steps : List (ℕ × ℕ)) → Matches live (map (λ s. s.1) steps) (carried_along event (is_owed before head) steps end) → KeepsAlong event kept head before steps → AllByRecursion (λ s. Obeys s.1) steps
    obeys_along head end before [] m k = tt
    obeys_along head end before (s ∷ steps) m k =
        let o = is_owed before head in
        let same : is_owed (event_after (event s.1) before) head ≡ owed_after (event s.1) o = is_owed-after (event s.1) before head in (
          (
            (λ e q. m.0 ∙ carried_deleted (event s.1) o (wanted event steps end) (kept s.1) k.0 e q),
            (λ e l. let f : live s.1 ≡ false = m.0 ∙ carried_no_kill (event s.1) o (wanted event steps end) e in cc),
          ),
          obeys_along head end (event_after (event s.1) before) steps (rw same m.1) k.1,
        )

    obeys_in : (b : Block) → Facts b → AllByRecursion Obeys (points_of_block b)
    obeys_in b f =
        let i = f.1 in (
          ((λ e q. let p : event b.head ≡ Passes = i.block.head_passes in cc), (λ e l. let p : event b.head ≡ Passes = i.block.head_passes in cc)),
          each_append Obeys (map (λ (s : ℕ × ℕ). s.1) b.steps) (b.terminator ∷ [])
              (each_map Obeys (λ (s : ℕ × ℕ). s.1) b.steps (obeys_along (nodes (head_node b.index)) (nodes (terminator_node b.index)) Passes b.steps f.0.1.steps f.0.0.keeps))
              (((λ e q. absurd (i.last.0 e)), (λ e l. i.last.1 e)), tt),
        )

    all_obey : (v : ℕ) → v < n → Obeys v
    all_obey v h = counted_each Obeys (0 ∷ joined points_of_block blocks) g.point_order (
      ((λ e q. let p : event 0 ≡ Passes = g.start_passes in cc), (λ e l. let p : event 0 ≡ Passes = g.start_passes in cc)),
      each_joined Obeys points_of_block blocks (each_weaker Facts (λ b. AllByRecursion Obeys (points_of_block b)) obeys_in blocks facts),
    )
        v (let c = g.point_count in omega arith)

    all_move : (e : ℕ) → e < length arcs → Moves e
    all_move e h = counted_each Moves (0 ∷ joined edges_of_block blocks) g.edge_order (
      (λ l z k. let y : inserted 0 ≡ true = read.entry ∙ target_node 0 0 0 g.entry_to l in cc),
      each_joined Moves edges_of_block blocks (each_weaker Facts (λ b. AllByRecursion Moves (edges_of_block b)) moves_in blocks facts),
    )
        e (let c = g.edge_count in omega arith)

    pub read_rules : Rules arcs n event inserted kept live
    read_rules = record {
      moves = all_move;
      deleted = λ v h. (all_obey v h).0;
      kills = λ v h. (all_obey v h).1;
      start = refl;
    }
