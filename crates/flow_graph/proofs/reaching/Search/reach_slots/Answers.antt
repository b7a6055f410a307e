use Rattle.std.proofs.Common.{ℕ, List, [], ◌∷◌, map, sym, subst}
use Rattle.std.proofs.lemmas.Result.{on_ok_weaker}
use Rattle.flow_graph.specs.Slots.{slots_of}
use Rattle.flow_graph.specs.Searching.{Reaches}
use Rattle.flow_graph.proofs.SearchSteps.{Reaches-both}
use Rattle.flow_graph.proofs.reaching.Search.reach_slots.Goals as goal

pub returns-in_ok-reach-in-Branch : goal.returns-in_ok-reach-in-Branch
returns-in_ok-reach-in-Branch c =
    on_ok_weaker c.reach-in-Branch-2.result (λ (h : Reaches (c.in-Branch.other ∷ []) c.reach-in-Branch.new.self c.reach-in-Branch-2.new.self).
    (subst (λ t. Reaches (slots_of t) c.args.self.now c.reach-in-Branch-2.new.self) (sym c.in-Branch.is)
    (Reaches-both (c.in-Branch.one ∷ []) (c.in-Branch.other ∷ []) c.args.self.now c.reach-in-Branch.new.self c.reach-in-Branch-2.new.self c.in_ok-reach-in-Branch.ensures h))) c.reach-in-Branch-2.ensures

pub returns-in_ok-reach-in-Switch : goal.returns-in_ok-reach-in-Switch
returns-in_ok-reach-in-Switch c =
    on_ok_weaker c.reach_cases.result (λ (h : Reaches (map (λ (x : ℕ × ℕ). x.1) c.as_slice.result.now) c.reach-in-Switch.new.self c.reach_cases.new.self).
    (subst (λ t. Reaches (slots_of t) c.args.self.now c.reach_cases.new.self) (sym c.in-Switch.is)
    (Reaches-both (c.in-Switch.other ∷ []) (map (λ (x : ℕ × ℕ). x.1) c.in-Switch.cases) c.args.self.now c.reach-in-Switch.new.self c.reach_cases.new.self c.in_ok-reach-in-Switch.ensures
    (subst (λ (l : List (ℕ × ℕ)). Reaches (map (λ (x : ℕ × ℕ). x.1) l) c.reach-in-Switch.new.self c.reach_cases.new.self) c.as_slice.ensures h)))) c.reach_cases.ensures
