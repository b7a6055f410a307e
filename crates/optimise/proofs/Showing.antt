-- The entries that are made show what they must.
use Rattle.std.proofs.Common.{◌≡◌, ◌+◌, ◌*◌, ◌<◌, ◌≤◌, ◌^◌, ◌++◌, ℕ, zero, suc, Bool, true, false, List, [], ◌∷◌, length, take, zip, All, sum_by, Some, None, refl, sym, ap, ◌∙◌, subst, arith}
use Rattle.std.specs.Prelude.{slice_get, slice_index_or}
use Rattle.std.proofs.lemmas.List.Sums.{sum_by-cons}
use Rattle.ir_types.specs.declared.syntax.Function.{Function}
use Rattle.point_graph.specs.Numbers.{ArePoints}
use Rattle.point_graph.specs.declared.graph.Points.{Points}
use Rattle.expressions.specs.declared.syntax.Event.{Event}
use Rattle.expressions.specs.declared.syntax.Expr.{Expr}
use Rattle.expressions.specs.Expressions.{expr_traps}
use Rattle.expressions.specs.Kept.{Kept}
use Rattle.expressions.specs.Tables.{IsEventOf}
use Rattle.profile.specs.declared.counts.FnCounts.{FnCounts}
use Rattle.placement.specs.declared.placements.Placement.{Placement}
use Rattle.placement.specs.Placements.{arcs_of}
use Rattle.placement.proofs.GraphLemmas.{arcs_length}
use Rattle.flow_net.specs.declared.Arc.{Arc}
use Rattle.flow_net.specs.declared.Net.{Net}
use Rattle.flow_net.specs.declared.Flow.{Flow}
use Rattle.flow_net.specs.Network.{IsValid, IsWithin, ReachesSink, loads}
use Rattle.latest_cut.specs.Cut.{AreRanks, IsSinkSide, rank_of, sink_side_of}
use Rattle.latest_cut.specs.declared.Cut.{Cut}
use Rattle.best_choice.specs.Best.{IsBestIn, IsPlacementOn}
use Rattle.best_placement.specs.Laws.{Certifies, IsBlockNetwork}
use Rattle.function_graphs.specs.Graphs.{graph_of, IsIn}
use Rattle.mc_solve.specs.declared.Solved.{Solved}
use Rattle.mc_solve.specs.Solved.{IsShown, IsSolved}
use Rattle.certificate.specs.Limits.{AllBelow}
use Rattle.certificate.specs.declared.types.Entry.{Entry}
use Rattle.certified.specs.Entries.{rank_in}
use Rattle.optimise.specs.Choice.{IsBestEntry, IsChosenEntry, IsLazilyPlaced, IsLazyEntry}
use Rattle.optimise.specs.Written.{TellsDistances}

-- ---- numbers

all_below : (n limit : ℕ) (xs : List ℕ) → n ≤ limit → All (λ x. x < n) xs → AllBelow limit xs
all_below n limit [] le all = tt
all_below n limit (x ∷ xs) le all =
    let first : x < n = all 0 x (omega arith) in
    (omega (arith, first, le), all_below n limit xs le (λ k d lt. all (suc k) d (omega (arith, lt))))

-- the numbers of a placement are small
pub small_placement : (arcs : List (ℕ × ℕ)) (n : ℕ) (Is : ℕ → Event → Type 0) (p : Placement) → length arcs ≤ 2 ^ 32 → n ≤ 2 ^ 32 → IsPlacementOn arcs n Is p
    → AllBelow (2 ^ 32) p.inserted × AllBelow (2 ^ 32) p.kept
small_placement arcs n Is p few few' is = (all_below (length arcs) (2 ^ 32) p.inserted few is.edges, all_below n (2 ^ 32) p.kept few' is.points)

-- ---- ranks

-- the ranks from node 2 on, where the source and the sink have rank 0
pub ranks_read : (ranks inner : List ℕ) → take 2 ranks ++ inner ≡ ranks → 2 ≤ length ranks → slice_index_or ranks 0 0 ≡ 0 → slice_index_or ranks 1 0 ≡ 0 → (v : ℕ) → slice_index_or ranks v 0 ≡ rank_in inner v
ranks_read [] inner split two source sink v = absurd (omega (arith, two))
ranks_read (a ∷ []) inner split two source sink v = absurd (omega (arith, two))
ranks_read (a ∷ b ∷ rest) inner split two source sink v =
    let ends : a ∷ b ∷ inner ≡ 0 ∷ 0 ∷ inner = ap (λ n. n ∷ b ∷ inner) source ∙ ap (λ n. 0 ∷ n ∷ inner) sink in
    ap (λ (l : List ℕ). slice_index_or l v 0) (sym split ∙ ends)

pub ranks_counted : (ranks inner : List ℕ) → take 2 ranks ++ inner ≡ ranks → 2 ≤ length ranks → 2 + length inner ≡ length ranks
ranks_counted [] inner split two = absurd (omega (arith, two))
ranks_counted (a ∷ []) inner split two = absurd (omega (arith, two))
ranks_counted (a ∷ b ∷ rest) inner split two = let l = ap (λ (l : List ℕ). length l) split in omega (arith, l)

-- no walk without an arc leads to the sink but from itself
away : (ls : List (Arc × ℕ)) (n v : ℕ) → 2 ≤ v → ReachesSink ls n v → 0 < n
away ls zero v inner is = absurd (omega (arith, inner, is))
away ls (suc n) v inner is = omega arith

-- the ranks of a cut are the distances to the sink
pub distances : (net : Net) (flow : Flow) (cut : Cut) → IsSinkSide net.nodes (loads net flow) cut → AreRanks net.nodes (loads net flow) cut → TellsDistances net flow (rank_of cut)
distances net flow cut side ranks = record {
  found = λ n v inner is. away (loads net flow) (rank_of cut v) v inner (ranks.walk v ((side.exact v).1 (n, is)));
  way = λ v above. by v above (sink_side_of cut v) refl;
  fewest = ranks.fewest;
}
  where
    by : (v : ℕ) → 0 < rank_of cut v → (b : Bool) → sink_side_of cut v ≡ b → ReachesSink (loads net flow) (rank_of cut v) v
    by v above true e = ranks.walk v e
    by v above false e = absurd (omega (arith, above, ranks.others v e))

-- ---- amounts

-- no amount is above what all arcs together let through
pub small_amounts : (net : Net) (flow : Flow) → IsValid net → IsWithin net flow → AllBelow (2 ^ 120) flow.amounts.items
small_amounts net flow valid within = small net.arcs.items flow.amounts.items within.len within.below valid.total
  where
    small : (arcs : List Arc) (amounts : List ℕ) → length amounts ≡ length arcs → All (λ (l : Arc × ℕ). l.1 ≤ l.0.cap) (zip arcs amounts) → sum_by (λ (a : Arc). a.cap) arcs < 2 ^ 120 → AllBelow (2 ^ 120) amounts
    small arcs [] len below total = tt
    small [] (x ∷ amounts) len below total = absurd (omega (arith, len))
    small (a ∷ arcs) (x ∷ amounts) len below total =
        let first : x ≤ a.cap = below 0 (a, x) (omega arith) in
        let sum = sum_by-cons (λ (a : Arc). a.cap) a arcs in (
          omega (arith, first, sum, total),
          small arcs amounts (omega (arith, len)) (λ k d lt. below (suc k) d (omega (arith, lt))) (omega (arith, sum, total)),
        )

-- ---- entries

module _ (f : Function) (p : Points) (t : Kept) (x : ℕ) (are : ArePoints f p) where
  few_arcs : length (arcs_of p.edges) ≤ 2 ^ 32
  few_arcs = omega (arith, arcs_length p.edges, are.few)

  few_points : length p.points ≤ 2 ^ 32
  few_points = omega (arith, are.few)

  pub lazy_entry : (placement : Placement) → IsLazilyPlaced f p t x placement → IsLazyEntry f p t x (record { placement = placement; flow = None; ranks = None })
  lazy_entry placement lazy =
      let numbers = small_placement (arcs_of p.edges) (length p.points) (IsEventOf f p t x) placement few_arcs few_points lazy.lazy.placement in
      record { lazy = lazy; bare = record { flow = refl; ranks = refl }; within = record { flow = tt; inserted = numbers.0; kept = numbers.1; ranks = tt } }

  module _ (counts : FnCounts) where
    best_placed : (placement : Placement) → IsBestIn f p t x counts placement → IsPlacementOn (arcs_of p.edges) (length p.points) (IsEventOf f p t x) placement
    best_placed placement best = (best are.blocks.test are.blocks.told).placement

    -- what was solved, as an entry
    pub best_entry : (s : Solved) (inner : List ℕ) → take 2 s.cut.rank.items ++ inner ≡ s.cut.rank.items → AllBelow (2 ^ 32) inner → IsBestIn f p t x counts s.placement → IsShown f p t x counts s
        → ((reached : ℕ → Bool) (event : ℕ → Event) (net : Net) → IsIn f p t x reached event → IsBlockNetwork (graph_of f p counts reached event) net → IsSolved f p counts reached event net s)
        → IsBestEntry f p t counts x (record { placement = s.placement; flow = Some s.flow.amounts.items; ranks = Some inner })
    best_entry s inner split small best shown solved =
        let two : 2 ≤ length s.cut.rank.items = omega (arith, shown.ranks, shown.valid.nodes) in
        let same : rank_of s.cut ≡ rank_in inner = λ i v. ranks_read s.cut.rank.items inner split two shown.ends.0 shown.ends.1 v i in
        let numbers = small_placement (arcs_of p.edges) (length p.points) (IsEventOf f p t x) s.placement few_arcs few_points (best_placed s.placement best) in
        record {
          best = best;
          certifies = record {
            net = shown.net;
            network = shown.network;
            shows = λ reached event is. record {
              flow = s.flow;
              ranks = inner;
              has = record { flow_there = refl; ranks_there = refl; arcs = shown.within.len; nodes = ranks_counted s.cut.rank.items inner split two ∙ shown.ranks };
              certifies = subst (λ (rank : ℕ → ℕ). Certifies (graph_of f p counts reached event) shown.net s.flow rank s.placement) same (shown.certifies reached event is);
            };
          };
          distances = record {
            net = shown.net;
            network = shown.network;
            has = λ reached event is.
                let of = solved reached event shown.net is (shown.network reached event is) in
                record {
                  flow = s.flow;
                  ranks = inner;
                  has = record { flow_there = refl; ranks_there = refl; arcs = shown.within.len; nodes = ranks_counted s.cut.rank.items inner split two ∙ shown.ranks };
                  tells = subst (λ (rank : ℕ → ℕ). TellsDistances shown.net s.flow rank) same (distances shown.net s.flow s.cut of.side of.ranks);
                };
          };
          within = record { flow = small_amounts shown.net s.flow shown.valid shown.within; inserted = numbers.0; kept = numbers.1; ranks = small };
        }

    -- ---- what is chosen

    never : true ≡ false → ⊥
    never e = cc

    module _ (expr : Expr) (there : slice_get t.exprs x ≡ Some expr) (entry : Entry) where
      pub chosen_best : expr_traps expr ≡ false → IsBestEntry f p t counts x entry → IsChosenEntry f p t counts x entry
      chosen_best plain is =
          let best = is.best are.blocks.test are.blocks.told in
          record {
            chosen = record { expr = expr; there = there; best = λ e. is.best; lazy = λ traps. absurd (never (sym traps ∙ plain)) };
            good = record { listed = best.placement; correct = best.correct; certifies = λ e. is.certifies; safe = λ can. absurd (never (sym (can expr there) ∙ plain)) };
            written = record { plain = λ e. is.distances; trapping = λ can. absurd (never (sym (can expr there) ∙ plain)) };
            within = is.within;
          }

      pub chosen_lazy : expr_traps expr ≡ true → IsLazyEntry f p t x entry → IsChosenEntry f p t counts x entry
      chosen_lazy traps is = record {
        chosen = record { expr = expr; there = there; best = λ plain. absurd (never (sym traps ∙ plain)); lazy = λ e. is.lazy };
        good = record { listed = is.lazy.lazy.placement; correct = is.lazy.correct; certifies = λ plain. absurd (never (sym traps ∙ plain expr there)); safe = λ can. is.lazy.safe };
        written = record { plain = λ plain. absurd (never (sym traps ∙ plain expr there)); trapping = λ can. is.bare };
        within = is.within;
      }
