-- The laws of cheapest placements.
use Rattle.std.proofs.Common.{◌≡◌, ℕ, ◌+◌, ◌≤◌, ◌<◌, Bool, true, false, cond, not, ◌&&◌, List, [], ◌∷◌, length, map, refl, sym, ap, ◌∙◌, arith, All, inl, inr, ◌↔◌}
use Rattle.std.specs.List.{sum_by, AllByRecursion}
use Rattle.std.proofs.lemmas.List.Elements.{recursion_from_All, All-contains, All-from_recursion}
use Rattle.std.proofs.lemmas.List.{length-map}
use Rattle.std.proofs.lemmas.Bool.{cases_Bool, false_from_ne_true, and_parts, and_from}
use Rattle.flow_net.proofs.Sums.{sum_by-same}
use Rattle.flow_net.specs.declared.Net.{Net}
use Rattle.flow_net.specs.Network.{IsSide, IsLeastSide, IsLatestSide, capacity_into, capacity_where, enters, flow_value}
use Rattle.expressions.specs.declared.syntax.Event.{Event}
use Rattle.expressions.specs.declared.syntax.Event.TheVariants.{Occurs, Kills, Bars, Passes}
use Rattle.flow_paths.specs.Paths.{source, target}
use Rattle.placement.specs.declared.placements.Placement.{Placement}
use Rattle.placement.specs.Placements.{IsLiveAt, IsLiveOn}
use Rattle.best_placement.specs.Blocks.{HasEvent, Block, joined, points_of_block, edges_of_block}
use Rattle.best_placement.specs.BlockNetwork.{head_node, terminator_node, constant, event_after}
use Rattle.best_placement.specs.ReadOff.{IsReadOff, IsReadOffIn, KeepsAlong}
use Rattle.best_placement.specs.Laws.{has, ExpressionGraph, IsExpressionGraph, IsPlacement, IsCorrectOn, cost_on, IsReadOffOn, IsBlockNetwork, IsLiveSide, LivesWithin, LiveIsASide, ReadOffIsCorrect, ReadOffIsCheapest, ReadOffLivesLeast, ReadOffCostsTheFlow, CertifiedIsBest, ranked}
use Rattle.flow_net.proofs.Cuts.{value_below, latest_from_ranks}
use Rattle.best_placement.specs.Bits.{is_occurrence}
use Rattle.best_placement.proofs.Lists.{Matches, each_both, each_weaker, each_every, each_append, each_map, each_unmap, each_joined, counted_below, counted_each}
use Rattle.best_placement.proofs.Chains.{wanted, wanted_at, owed_after, is_carried, TightAlong}
use Rattle.best_placement.proofs.Rules.{Rules, inserts, keeps, keeps_occurrence, has-contained, has-true, LiveTest, live_test, correct_rules, live_not_kept_by, correct_from_rules, live_in_rules, live_step}
use Rattle.best_placement.proofs.BlockCosts.{block_least, block_cost, edge_cost, point_cost, network_capacity, cost_by_blocks}
use Rattle.best_placement.proofs.Bounds.{Agrees, InBlock, in_blocks, some_point, weighs, start_unkept, capacity_below, all_tight, inserts_late, IsTight}
use Rattle.best_placement.proofs.ReadOffs.{carried, carried_along, CarriesIn, carries, read_rules, read_spends}
use Rattle.best_placement.proofs.Listed.{ascends, listed_weight, sum_listed, live_nodes, live_nodes_agree}

-- what is carried where the nodes are more is more
wanted_more : (k : Event) (a b : Bool) → (a ≡ true → b ≡ true) → wanted_at k a ≡ true → wanted_at k b ≡ true
wanted_more Occurs a b h e = refl
wanted_more Kills a b h e = e
wanted_more Bars a b h e = h e
wanted_more Passes a b h e = h e

wanted_along : (event : ℕ → Event) (steps : List (ℕ × ℕ)) (a b : Bool) → (a ≡ true → b ≡ true) → wanted event steps a ≡ true → wanted event steps b ≡ true
wanted_along event [] a b h e = h e
wanted_along event (s ∷ steps) a b h e = wanted_more (event s.1) (wanted event steps a) (wanted event steps b) (wanted_along event steps a b h) e

owed_less : (k : Event) (a b : Bool) → (b ≡ true → a ≡ true) → owed_after k b ≡ true → owed_after k a ≡ true
owed_less Occurs a b h e = e
owed_less Kills a b h e = refl
owed_less Bars a b h e = h e
owed_less Passes a b h e = h e

not_more : (a b : Bool) → (b ≡ true → a ≡ true) → not a ≡ true → not b ≡ true
not_more true b h e = cc
not_more false true h e = let x = h refl in cc
not_more false false h e = refl

carried_more : (k : Event) (owed owed' later later' : Bool) → (owed' ≡ true → owed ≡ true) → (later ≡ true → later' ≡ true) → is_carried k owed later ≡ true → is_carried k owed' later' ≡ true
carried_more Occurs owed owed' later later' h w e = not_more owed owed' h e
carried_more Kills owed owed' later later' h w e = e
carried_more Bars owed owed' later later' h w e = let p = and_parts (not owed) later e in and_from (not owed') later' (not_more owed owed' h p.0) (w p.1)
carried_more Passes owed owed' later later' h w e = let p = and_parts (not owed) later e in and_from (not owed') later' (not_more owed owed' h p.0) (w p.1)

module _ (event : ℕ → Event) (inserted kept live mine : ℕ → Bool) where
  abbrev pub Within : ℕ → Type 0
  Within v = mine v ≡ true → live v ≡ true

  -- what is carried along steps is live in a tight placement
  within_along : (owed owed' end end' : Bool) (u : ℕ) (steps : List (ℕ × ℕ)) (exit : Bool) → (owed' ≡ true → owed ≡ true) → (end ≡ true → end' ≡ true) →
      Matches mine (map (λ s. s.1) steps) (carried_along event owed steps end) → TightAlong event inserted kept live owed' u steps exit end' → AllByRecursion (λ s. Within s.1) steps
  within_along owed owed' end end' u [] exit h w m t = tt
  within_along owed owed' end end' u (s ∷ steps) exit h w m t = (
    (λ l. t.1 (carried_more (event s.1) owed owed' (wanted event steps end) (wanted event steps end') h (wanted_along event steps end end' w) (sym m.0 ∙ l))),
    within_along (owed_after (event s.1) owed) (owed_after (event s.1) owed') end end' s.1 steps exit (owed_less (event s.1) owed owed' h) w m.1 t.2,
  )

same_by : (a b : Bool) (P : Type 0) → ((a ≡ true) ↔ P) → ((b ≡ true) ↔ P) → a ≡ b
same_by true b P f h = sym (h.1 (f.0 refl))
same_by false true P f h = f.1 (h.0 refl)
same_by false false P f h = refl

not_back : (a b : Bool) → (a ≡ true → b ≡ true) → not b ≡ true → not a ≡ true
not_back true b h e = let x = h refl in cc
not_back false b h e = refl

and_when : (a b : Bool) → (b ≡ true → a ≡ true) → (a && b) ≡ b
and_when true b h = refl
and_when false true h = h refl
and_when false false h = refl

module _ (g : ExpressionGraph) (f : IsExpressionGraph g) where
  module _ (p : Placement) where
    abbrev pub ins : ℕ → Bool
    ins = inserts p

    abbrev pub kept : ℕ → Bool
    kept = keeps g.event p

    abbrev pub spends : ℕ
    spends = cond (ins 0) (g.edge_weight 0) 0 + sum_by (block_cost ins kept g.edge_weight g.point_weight) g.blocks

    kept_listed : All (λ v. g.event v ≡ Occurs) p.kept → (v : ℕ) → kept v ≡ has p.kept v
    kept_listed all v = and_when (is_occurrence (g.event v)) (has p.kept v) (λ h. ap is_occurrence (All-contains (λ v. g.event v ≡ Occurs) p.kept v all (has-true p.kept v h)))

    pub cost_spent : IsPlacement g p → cost_on g p ≡ spends
    cost_spent h =
        let edges = sum_listed g.edge_weight 0 (0 ∷ joined edges_of_block g.blocks) p.inserted f.edge_order (ascends 0 p.inserted (λ s. omega arith) h.inserted_order)
        (each_weaker (λ e. e < length g.arcs) (λ e. e < 0 + length (0 ∷ joined edges_of_block g.blocks)) (λ e l. let c = f.edge_count in omega arith) p.inserted (recursion_from_All (λ e. e < length g.arcs) p.inserted h.edges)) in
        let points = sum_listed g.point_weight 0 (0 ∷ joined points_of_block g.blocks) p.kept f.point_order (ascends 0 p.kept (λ s. omega arith) h.kept_order)
        (each_weaker (λ v. v < g.points) (λ v. v < 0 + length (0 ∷ joined points_of_block g.blocks)) (λ v l. let c = f.point_count in omega arith) p.kept (recursion_from_All (λ v. v < g.points) p.kept h.points)) in
        let same : sum_by (point_cost ins kept g.edge_weight g.point_weight) (0 ∷ joined points_of_block g.blocks) ≡ sum_by (listed_weight g.point_weight p.kept) (0 ∷ joined points_of_block g.blocks) =
        sum_by-same (point_cost ins kept g.edge_weight g.point_weight) (listed_weight g.point_weight p.kept) (0 ∷ joined points_of_block g.blocks)
        (each_every (λ v. point_cost ins kept g.edge_weight g.point_weight v ≡ listed_weight g.point_weight p.kept v) (λ v. ap (λ t. cond t (g.point_weight v) 0) (kept_listed h.occurrences v)) (0 ∷ joined points_of_block g.blocks)) in
        let by = cost_by_blocks ins kept g.edge_weight g.point_weight g.blocks
        (weighs g.arcs g.points g.blocks g.event g.edge_weight g.point_weight f ins kept kept (keeps_occurrence g.event p))
        (start_unkept g.arcs g.points g.blocks g.event g.edge_weight g.point_weight f ins kept kept (keeps_occurrence g.event p)) in
        let e : sum_by g.edge_weight p.inserted ≡ sum_by (edge_cost ins kept g.edge_weight g.point_weight) (0 ∷ joined edges_of_block g.blocks) = edges in
        omega arith

    keeps_listed : (head : Bool) (before : Event) (steps : List (ℕ × ℕ)) → KeepsAlong g.event (has p.kept) head before steps → KeepsAlong g.event kept head before steps
    keeps_listed head before [] k = tt
    keeps_listed head before (s ∷ steps) k = ((λ o. ap (λ e. is_occurrence e && has p.kept s.1) o ∙ k.0 o), keeps_listed head (event_after (g.event s.1) before) steps k.1)

    module _ (nodes : ℕ → Bool) (read : IsReadOffOn g nodes p) where
      read_kept : IsReadOff g.event ins kept nodes g.blocks
      read_kept = record {
        entry = read.entry;
        each = All-from_recursion (IsReadOffIn g.event ins kept nodes) g.blocks (each_weaker (IsReadOffIn g.event (has p.inserted) (has p.kept) nodes) (IsReadOffIn g.event ins kept nodes)
            (λ b r. record { steps = r.steps; exit = r.exit; slots = r.slots; keeps = keeps_listed (nodes (head_node b.index)) Passes b.steps r.keeps })
            g.blocks (recursion_from_All (IsReadOffIn g.event (has p.inserted) (has p.kept) nodes) g.blocks read.each));
      }

      pub rules_read : Rules g.arcs g.points g.event ins kept (carried g.event nodes g.blocks)
      rules_read = read_rules g.arcs g.points g.blocks g.event g.edge_weight g.point_weight f nodes ins kept (keeps_occurrence g.event p) read_kept

      pub spends_read : spends ≡ cond (nodes (head_node 0)) (g.edge_weight 0) 0 + sum_by (block_least g.event g.edge_weight nodes) g.blocks
      spends_read = read_spends g.arcs g.points g.blocks g.event g.edge_weight g.point_weight f nodes ins kept (keeps_occurrence g.event p) read_kept

  pub lets_in : (net : Net) (nodes : ℕ → Bool) → IsBlockNetwork g net → IsSide nodes →
      capacity_into net nodes + constant g.event g.blocks ≡ cond (nodes (head_node 0)) (g.edge_weight 0) 0 + sum_by (block_least g.event g.edge_weight nodes) g.blocks
  lets_in net nodes n s = ap (λ arcs. capacity_where (enters nodes) arcs + constant g.event g.blocks) n.arcs ∙ network_capacity g.event g.edge_weight nodes s.0 s.1 g.blocks

  -- a correct placement, with its live points
  module _ (q : Placement) (correct : IsCorrectOn g q) where
    abbrev pub test : LiveTest g.arcs g.points f.within g.event q
    test = live_test g.arcs g.points f.within g.event q

    abbrev pub live : ℕ → Bool
    live = test.test

    rules : Rules g.arcs g.points g.event (inserts q) (keeps g.event q) live
    rules = correct_rules g.arcs g.points f.within g.event q (some_point g.arcs g.points g.blocks g.event g.edge_weight g.point_weight f) f.reached correct

    unkept : (v : ℕ) → live v ≡ true → keeps g.event q v ≡ false
    unkept = live_not_kept_by g.arcs g.points f.within g.event q

    pub live_is : (v : ℕ) → v < g.points → (live v ≡ true) ↔ IsLiveAt g.arcs (HasEvent g.event) q v
    live_is v h = (test.set.sound v, live_in_rules g.arcs g.points f.within g.event q live rules v h)

    -- the sides of its live nodes
    agreeing : (nodes : ℕ → Bool) → IsLiveSide g q nodes → AllByRecursion (Agrees live nodes) g.blocks
    agreeing nodes s =
        let H : Block → Type 0 = λ b. (nodes (head_node b.index) ≡ true) ↔ IsLiveAt g.arcs (HasEvent g.event) q b.head in
        let T : Block → Type 0 = λ b. (nodes (terminator_node b.index) ≡ true) ↔ IsLiveAt g.arcs (HasEvent g.event) q b.terminator in
        let B : Block → Type 0 = InBlock g.arcs g.points g.blocks g.event g.edge_weight g.point_weight f in
        each_weaker (λ b. (H b × T b) × B b) (Agrees live nodes) (λ b h. record {
          head = same_by (nodes (head_node b.index)) (live b.head) (IsLiveAt g.arcs (HasEvent g.event) q b.head) h.0.0 (live_is b.head h.1.head_point);
          terminator = same_by (nodes (terminator_node b.index)) (live b.terminator) (IsLiveAt g.arcs (HasEvent g.event) q b.terminator) h.0.1 (live_is b.terminator h.1.terminator_point);
        }) g.blocks
        (each_both (λ b. H b × T b) B g.blocks (each_both H T g.blocks (recursion_from_All H g.blocks s.heads) (recursion_from_All T g.blocks s.terminators)) (in_blocks g.arcs g.points g.blocks g.event g.edge_weight g.point_weight f))

    abbrev pub mine : ℕ → Bool
    mine = live_nodes live g.blocks

    mine_agrees : AllByRecursion (Agrees live mine) g.blocks
    mine_agrees = live_nodes_agree live g.blocks f.block_order

    pub mine_is : IsLiveSide g q mine
    mine_is =
        let B : Block → Type 0 = InBlock g.arcs g.points g.blocks g.event g.edge_weight g.point_weight f in
        let both = each_both (Agrees live mine) B g.blocks mine_agrees (in_blocks g.arcs g.points g.blocks g.event g.edge_weight g.point_weight f) in
        record {
          side = (refl, refl);
          heads = All-from_recursion (λ b. (mine (head_node b.index) ≡ true) ↔ IsLiveAt g.arcs (HasEvent g.event) q b.head) g.blocks
              (each_weaker (λ b. Agrees live mine b × B b) (λ b. (mine (head_node b.index) ≡ true) ↔ IsLiveAt g.arcs (HasEvent g.event) q b.head)
              (λ b h. ((λ t. (live_is b.head h.1.head_point).0 (sym h.0.head ∙ t)), (λ l. h.0.head ∙ (live_is b.head h.1.head_point).1 l))) g.blocks both);
          terminators = All-from_recursion (λ b. (mine (terminator_node b.index) ≡ true) ↔ IsLiveAt g.arcs (HasEvent g.event) q b.terminator) g.blocks
              (each_weaker (λ b. Agrees live mine b × B b) (λ b. (mine (terminator_node b.index) ≡ true) ↔ IsLiveAt g.arcs (HasEvent g.event) q b.terminator)
              (λ b h. ((λ t. (live_is b.terminator h.1.terminator_point).0 (sym h.0.terminator ∙ t)), (λ l. h.0.terminator ∙ (live_is b.terminator h.1.terminator_point).1 l))) g.blocks both);
        }

    pub below : (net : Net) (nodes : ℕ → Bool) → IsBlockNetwork g net → IsLiveSide g q nodes → IsPlacement g q → capacity_into net nodes + constant g.event g.blocks ≤ cost_on g q
    below net nodes n s h =
        let c = capacity_below g.arcs g.points g.blocks g.event g.edge_weight g.point_weight f (inserts q) (keeps g.event q) live (keeps_occurrence g.event q) rules unkept nodes (agreeing nodes s) in
        let e = cost_spent q h in
        let l = lets_in net nodes n s.side in
        omega arith

  -- a correct placement that costs no more than its live nodes let in
  module _ (net : Net) (nodes : ℕ → Bool) (p q : Placement) (n : IsBlockNetwork g net) (least : IsLeastSide net nodes) (latest : IsLatestSide net nodes) (hp : IsPlacement g p) (read : IsReadOffOn g nodes p)
      (hq : IsPlacement g q) (correct : IsCorrectOn g q) (cheap : cost_on g q ≡ cost_on g p) where
    mine_least : IsLeastSide net (mine q correct)
    mine_least =
        let b = below q correct net (mine q correct) n (mine_is q correct) hq in
        let c = cost_spent p hp ∙ spends_read p nodes read ∙ sym (lets_in net nodes n least.0) in
        ((mine_is q correct).side, λ other o. let l = least.1 other o in omega arith)

    spends_least : spends q ≤ cond (mine q correct (head_node 0)) (g.edge_weight 0) 0 + sum_by (block_least g.event g.edge_weight (mine q correct)) g.blocks
    spends_least =
        let c = cost_spent p hp ∙ spends_read p nodes read ∙ sym (lets_in net nodes n least.0) in
        let l = least.1 (mine q correct) (mine_is q correct).side in
        let i = lets_in net (mine q correct) n (mine_is q correct).side in
        let e = cost_spent q hq in
        omega arith

    in_mine : (v : ℕ) → v < net.nodes → nodes v ≡ true → mine q correct v ≡ true
    in_mine v h t = (latest v h).0 t (mine q correct) mine_least

    tight : AllByRecursion (IsTight g.arcs g.points g.blocks g.event g.edge_weight g.point_weight f (inserts q) (keeps g.event q) (live q correct) (keeps_occurrence g.event q) (rules q correct) (unkept q correct) (mine q correct) (mine_agrees q correct)) g.blocks
    tight = all_tight g.arcs g.points g.blocks g.event g.edge_weight g.point_weight f (inserts q) (keeps g.event q) (live q correct) (keeps_occurrence g.event q) (rules q correct) (unkept q correct) (mine q correct) (mine_agrees q correct) spends_least

    abbrev pub kept_live : ℕ → Type 0
    kept_live v = carried g.event nodes g.blocks v ≡ true → live q correct v ≡ true

    indices : AllByRecursion (λ b. b.index < length g.blocks) g.blocks
    indices = each_unmap (λ i. i < length g.blocks) (λ (b : Block). b.index) g.blocks (counted_below 0 (length g.blocks) (map (λ (b : Block). b.index) g.blocks) f.block_order (omega (arith, length-map g.blocks (λ (b : Block). b.index))))

    block_live : (b : Block) → b.index < length g.blocks → Agrees (live q correct) (mine q correct) b → CarriesIn g.event nodes (carried g.event nodes g.blocks) b →
        IsTight g.arcs g.points g.blocks g.event g.edge_weight g.point_weight f (inserts q) (keeps g.event q) (live q correct) (keeps_occurrence g.event q) (rules q correct) (unkept q correct) (mine q correct) (mine_agrees q correct) b →
        AllByRecursion kept_live (points_of_block b)
    block_live b i a c t =
        let head : nodes (head_node b.index) ≡ true → mine q correct (head_node b.index) ≡ true = in_mine (head_node b.index) (let e = n.nodes in omega arith) in
        let end : nodes (terminator_node b.index) ≡ true → mine q correct (terminator_node b.index) ≡ true = in_mine (terminator_node b.index) (let e = n.nodes in omega arith) in (
          (λ l. sym a.head ∙ head (and_parts (nodes (head_node b.index)) (wanted g.event b.steps (nodes (terminator_node b.index))) (sym c.head ∙ l)).0),
          each_append kept_live (map (λ (s : ℕ × ℕ). s.1) b.steps) (b.terminator ∷ [])
              (each_map kept_live (λ (s : ℕ × ℕ). s.1) b.steps
              (within_along g.event (inserts q) (keeps g.event q) (live q correct) (carried g.event nodes g.blocks) (not (nodes (head_node b.index))) (not (mine q correct (head_node b.index))) (nodes (terminator_node b.index)) (mine q correct (terminator_node b.index))
              b.head b.steps (inserts q b.exit) (not_back (nodes (head_node b.index)) (mine q correct (head_node b.index)) head) end c.steps t.chain))
              ((λ l. sym a.terminator ∙ end (sym c.terminator ∙ l)), tt),
        )

    abbrev Whole : Block → Type 0
    Whole b = ((b.index < length g.blocks) × Agrees (live q correct) (mine q correct) b) × (CarriesIn g.event nodes (carried g.event nodes g.blocks) b
        × IsTight g.arcs g.points g.blocks g.event g.edge_weight g.point_weight f (inserts q) (keeps g.event q) (live q correct) (keeps_occurrence g.event q) (rules q correct) (unkept q correct) (mine q correct) (mine_agrees q correct) b)

    whole : AllByRecursion Whole g.blocks
    whole = each_both (λ b. (b.index < length g.blocks) × Agrees (live q correct) (mine q correct) b) (λ b. CarriesIn g.event nodes (carried g.event nodes g.blocks) b
        × IsTight g.arcs g.points g.blocks g.event g.edge_weight g.point_weight f (inserts q) (keeps g.event q) (live q correct) (keeps_occurrence g.event q) (rules q correct) (unkept q correct) (mine q correct) (mine_agrees q correct) b) g.blocks
        (each_both (λ b. b.index < length g.blocks) (Agrees (live q correct) (mine q correct)) g.blocks indices (mine_agrees q correct))
        (each_both (CarriesIn g.event nodes (carried g.event nodes g.blocks)) (IsTight g.arcs g.points g.blocks g.event g.edge_weight g.point_weight f (inserts q) (keeps g.event q) (live q correct) (keeps_occurrence g.event q) (rules q correct) (unkept q correct) (mine q correct) (mine_agrees q correct)) g.blocks
        (carries g.arcs g.points g.blocks g.event g.edge_weight g.point_weight f nodes) tight)

    all_live : (v : ℕ) → v < g.points → kept_live v
    all_live v h = counted_each kept_live (0 ∷ joined points_of_block g.blocks) f.point_order
        ((λ l. cc), each_joined kept_live points_of_block g.blocks (each_weaker Whole (λ b. AllByRecursion kept_live (points_of_block b)) (λ b w. block_live b w.0.0 w.0.1 w.1.0 w.1.1) g.blocks whole))
        v (let c = f.point_count in omega arith)

    live_there : (v : ℕ) → v < g.points → IsLiveAt g.arcs (HasEvent g.event) p v → live q correct v ≡ true
    live_there v h l = all_live v h (live_in_rules g.arcs g.points f.within g.event p (carried g.event nodes g.blocks) (rules_read p nodes read) v h l)

    not_inserted : (e : ℕ) → e < length g.arcs → IsLiveOn g.arcs (HasEvent g.event) p e → inserts q e ≡ true → ⊥
    not_inserted e h l i =
        let late = inserts_late g.arcs g.points g.blocks g.event g.edge_weight g.point_weight f (inserts q) (keeps g.event q) (live q correct) (keeps_occurrence g.event q) (rules q correct) (unkept q correct) (mine q correct) (mine_agrees q correct) spends_least e h i in
        let v = source g.arcs e in
        let there : live q correct v ≡ true = elim (cases_Bool (keeps g.event p v)) [
          | inl k ↦ (rules q correct).deleted v (f.within e h).0 (keeps_occurrence g.event p v k) late.1
          | inr k ↦ live_there v (f.within e h).0 (live_step g.arcs g.points f.within g.event p e h (false_from_ne_true (inserts p e) (λ t. l.0 (has-true p.inserted e t))) k l.1)
        ] in
        let away : live q correct v ≡ false = late.0 in
        cc

    pub lives_within : LivesWithin g p q
    lives_within = (
      (λ v h l. (live_is q correct v h).0 (live_there v h l)),
      (λ e h l. ((λ c. not_inserted e h l (has-contained q.inserted e c)), (live_is q correct (target g.arcs e) (f.within e h).1).0 (live_there (target g.arcs e) (f.within e h).1 l.1))),
    )

pub live_is_a_side : LiveIsASide
live_is_a_side g net p f n h correct = ((mine g f p correct, mine_is g f p correct), λ nodes s. below g f p correct net nodes n s h)

pub read_off_is_correct : ReadOffIsCorrect
read_off_is_correct g net nodes p f n s h read = (
  correct_from_rules g.arcs g.points f.within g.event p (carried g.event nodes g.blocks) (rules_read g f p nodes read) (some_point g.arcs g.points g.blocks g.event g.edge_weight g.point_weight f),
  cost_spent g f p h ∙ spends_read g f p nodes read ∙ sym (lets_in g f net nodes n s),
)

pub read_off_is_cheapest : ReadOffIsCheapest
read_off_is_cheapest g net nodes p q f n least hp read hq correct =
    let c = (read_off_is_correct g net nodes p f n least.0 hp read).1 in
    let s = mine_is g f q correct in
    let b = below g f q correct net (mine g f q correct) n s hq in
    let l = least.1 (mine g f q correct) s.side in
    omega arith

pub read_off_lives_least : ReadOffLivesLeast
read_off_lives_least g net nodes p q f n least latest hp read hq correct cheap = lives_within g f net nodes p q n least latest hp read hq correct cheap

pub read_off_costs_the_flow : ReadOffCostsTheFlow
read_off_costs_the_flow g net flow nodes p f n valid maximum least h read =
    let below = value_below net flow valid maximum.within maximum.balanced nodes least.0 in
    let least_is = least.1 maximum.meets.0 maximum.meets.1 in
    let value = maximum.meets.2 in
    let c = (read_off_is_correct g net nodes p f n least.0 h read).1 in
    omega arith

ranked_is_side : (rank : ℕ → ℕ) → rank 0 ≡ 0 → IsSide (ranked rank)
ranked_is_side rank h = (refl, rw h refl)

pub certified_is_best : CertifiedIsBest
certified_is_best g net flow rank p f n valid h c =
    let side = ranked_is_side rank c.source in
    let correct = read_off_is_correct g net (ranked rank) p f n side h c.read in
    let meets : capacity_into net (ranked rank) ≡ flow_value net flow = let e = correct.1 in let v = c.value in omega arith in
    let best = latest_from_ranks net flow valid c.within c.balanced (ranked rank) side meets rank c.falls in
    (correct.0, λ q hq correct_q. (read_off_is_cheapest g net (ranked rank) p q f n best.0 h c.read hq correct_q, λ same. read_off_lives_least g net (ranked rank) p q f n best.0 best.1 h c.read hq correct_q same))
