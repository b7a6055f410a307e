-- A correct and safe placement by numbers is a move.
use Rattle.std.proofs.Common.{◌≡◌, ◌≢◌, ℕ, zero, suc, ◌<◌, Bool, true, false, List, [], ◌∷◌, ◌++◌, length, Some, refl, sym, ap, ◌∙◌, subst, arith, inl, inr, ⊎_elim}
use Rattle.std.specs.Prelude.{◌↔◌, ◌⊎◌, All, Contains, slice_get}
use Rattle.std.proofs.lemmas.Option.{slice_get_within}
use Rattle.std.proofs.lemmas.List.Elements.{All-cons, All-nil}
use Rattle.ir_types.specs.Program.{Program}
use Rattle.ir_types.specs.declared.syntax.Function.{Function}
use Rattle.flow_graph.specs.Slots.{slots_of}
use Rattle.flow_paths.specs.Paths.{source, target, IsPath as IsArcPath, Place as ArcMet, at_point as at_number, on_edge as on_arc, met as arcs_met}
use Rattle.flow_paths.specs.Inevitable.{LeadsAllTo as ArcLeadsAllTo, IsInevitableWithin as IsArcInevitableWithin}
use Rattle.point_graph.specs.Graph.{Point, Start, Head, Place, Edge, Entry, Inside, Slot, Joins, Hop, IsPath, IsReached}
use Rattle.point_graph.specs.declared.graph.Edge as numbered
use Rattle.point_numbers.specs.Told.{AreTold}
use Rattle.expressions.specs.declared.syntax.Event.{Event}
use Rattle.expressions.specs.declared.syntax.Event.TheVariants.{Occurs as OccursEvent, Kills as KillsEvent, Bars as BarsEvent, Passes as PassesEvent}
use Rattle.expressions.specs.Expressions.{expr_traps}
use Rattle.placement.specs.declared.placements.Placement.{Placement}
use Rattle.placement.specs.Placements.{arcs_of, Writes as ArcWrites, Kills as ArcKills, IsDeleted, IsValidPath, IsCorrect as IsArcCorrect, IsLiveAt, IsSafe as IsArcSafe}
use Rattle.placed_moves.specs.Placed.{IsTold}
use Rattle.applied.specs.Motion.{Occurs, Kills, Bars, Met, at_point, on_edge, met, Writes, KillsMet, IsValid, IsLive, LeadsAllTo, IsInevitableWithin, Move, IsMove}
use Rattle.applied.proofs.Living.{not_true}

-- an edge joins two points
joins_same : (function : Function) (edge : Edge) (u w u' w' : Point) → Joins function edge u w → Joins function edge u' w' → (u ≡ u') × (w ≡ w')
joins_same function Entry u w u' w' j j' = (j.0 ∙ sym j'.0, j.1 ∙ sym j'.1)
joins_same function (Inside b k) u w u' w' j j' = (j.begins ∙ sym j'.begins, j.ends ∙ sym j'.ends)
joins_same function (Slot b slot) u w u' w' j j' =
    let same : j.block ≡ j'.block = let both : Some j.block ≡ Some j'.block = sym j.block_there ∙ j'.block_there in cc in
    let both : Some j.target ≡ Some j'.target = sym j.leads ∙ ap (λ x. slice_get (slots_of x.term) slot) same ∙ j'.leads in
    let to : j.target ≡ j'.target = cc in
    (j.begins ∙ ap (λ x. Place b (length x.instrs)) same ∙ sym j'.begins, j.ends ∙ ap (λ t. Head t) to ∙ sym j'.ends)

-- ---- the arcs of numbered edges

length_arcs : (numbers : List numbered.Edge) → length (arcs_of numbers) ≡ length numbers
length_arcs [] = refl
length_arcs (e ∷ es) = ap suc (length_arcs es)

edge_found : (numbers : List numbered.Edge) (n : ℕ) → n < length numbers → (e : numbered.Edge) × (slice_get numbers n ≡ Some e)
edge_found [] n lt = absurd (omega (arith, lt))
edge_found (e ∷ es) zero lt = (e, refl)
edge_found (e ∷ es) (suc n) lt = edge_found es n (omega (arith, lt))

arc_is : (numbers : List numbered.Edge) (n : ℕ) (e : numbered.Edge) → slice_get numbers n ≡ Some e → (source (arcs_of numbers) n ≡ e.from) × (target (arcs_of numbers) n ≡ e.to)
arc_is [] n e there = absurd cc
arc_is (x ∷ xs) zero e there = let same : x ≡ e = cc in (ap (λ y. y.from) same, ap (λ y. y.to) same)
arc_is (x ∷ xs) (suc n) e there = arc_is xs n e there

module _ (program : Program) (function : Function) (points : List Point) (edges : List Edge) (numbers : List numbered.Edge) (graph : AreTold function points edges numbers) where
  abbrev arcs : List (ℕ × ℕ)
  arcs = arcs_of numbers

  -- the arc of a number joins what the edge of the number joins
  record ArcJoins (e : ℕ) : Type 0 where
    edge : Edge
    from : Point
    to : Point
    is : slice_get edges e ≡ Some edge
    joins : Joins function edge from to
    begins : slice_get points (source arcs e) ≡ Some from
    ends : slice_get points (target arcs e) ≡ Some to

  count : length arcs ≡ length edges
  count = length_arcs numbers ∙ graph.count

  arc_joins : (e : ℕ) → e < length arcs → ArcJoins e
  arc_joins e lt =
      let found = edge_found numbers e (omega (arith, lt, length_arcs numbers)) in
      let ends = arc_is numbers e found.0 found.1 in
      let j = graph.joins e found.0 found.1 in
      record {
        edge = j.edge;
        from = j.from;
        to = j.to;
        is = j.is;
        joins = j.joins;
        begins = ap (slice_get points) ends.0 ∙ j.begins;
        ends = ap (slice_get points) ends.1 ∙ j.ends;
      }

  -- what the two paths meet is the same
  abbrev Alike : Met → ArcMet → Type 0
  Alike (at_point v) (at_number i) = slice_get points i ≡ Some v
  Alike (on_edge edge) (on_arc e) = slice_get edges e ≡ Some edge
  Alike m n = ⊥

  abbrev AllAlike : List Met → List ArcMet → Type 0
  AllAlike [] [] = Unit {0}
  AllAlike (m ∷ ms) (n ∷ ns) = Alike m n × AllAlike ms ns
  AllAlike ms ns = ⊥

  record ArcPath (i : ℕ) (path : List Hop) (v : Point) : Type 0 where
    end : ℕ
    at : slice_get points end ≡ Some v
    arc_path : List ℕ
    leads : IsArcPath arcs i arc_path end
    alike : AllAlike (met path) (arcs_met arcs arc_path)

  same_point : (i : ℕ) (u v : Point) → slice_get points i ≡ Some u → slice_get points i ≡ Some v → u ≡ v
  same_point i u v e e' = let both : Some u ≡ Some v = sym e ∙ e' in cc

  arcs_path : (u : Point) (path : List Hop) (v : Point) (i : ℕ) → IsPath function u path v → slice_get points i ≡ Some u → ArcPath i path v
  arcs_path u [] v i leads at = record { end = i; at = at ∙ ap Some leads; arc_path = []; leads = refl; alike = tt }
  arcs_path u (hop ∷ path) v i leads at =
      let at' : slice_get points i ≡ Some hop.from = at ∙ ap Some leads.0 in
      let e = graph.edges_there hop.edge hop.from hop.to leads.1 (graph.points_reached i hop.from at') in
      let lt : e.0 < length arcs = omega (arith, slice_get_within edges e.0 hop.edge e.1, count) in
      let a = arc_joins e.0 lt in
      let edge : a.edge ≡ hop.edge = let both : Some a.edge ≡ Some hop.edge = sym a.is ∙ e.1 in cc in
      let same = joins_same function hop.edge a.from a.to hop.from hop.to (subst (λ x. Joins function x a.from a.to) edge a.joins) leads.1 in
      let begins : slice_get points (source arcs e.0) ≡ Some hop.from = a.begins ∙ ap Some same.0 in
      let source_is = graph.points_once (source arcs e.0) i hop.from begins at' in
      let rest = arcs_path hop.to path v (target arcs e.0) leads.2 (a.ends ∙ ap Some same.1) in
      record { end = rest.end; at = rest.at; arc_path = e.0 ∷ rest.arc_path; leads = (lt, source_is, rest.leads); alike = (begins, (e.1, rest.alike)) }

  record PointPath (u : Point) (arc_path : List ℕ) (j : ℕ) : Type 0 where
    end : Point
    at : slice_get points j ≡ Some end
    path : List Hop
    leads : IsPath function u path end
    alike : AllAlike (met path) (arcs_met arcs arc_path)

  points_path : (i : ℕ) (arc_path : List ℕ) (j : ℕ) (u : Point) → IsArcPath arcs i arc_path j → slice_get points i ≡ Some u → PointPath u arc_path j
  points_path i [] j u leads at = record { end = u; at = ap (slice_get points) (sym leads) ∙ at; path = []; leads = refl; alike = tt }
  points_path i (e ∷ arc_path) j u leads at =
      let a = arc_joins e leads.0 in
      let same : u ≡ a.from = same_point i u a.from at (ap (slice_get points) (sym leads.1) ∙ a.begins) in
      let rest = points_path (target arcs e) arc_path j a.to leads.2 a.ends in
      record {
        end = rest.end;
        at = rest.at;
        path = record { from = a.from; edge = a.edge; to = a.to } ∷ rest.path;
        leads = (same, a.joins, rest.leads);
        alike = (a.begins, (a.is, rest.alike));
      }

  all_tail : {X : Type 0} (P : X → Type 0) (x : X) (xs : List X) → All P (x ∷ xs) → All P xs
  all_tail P x xs all k d lt = all (suc k) d (omega (arith, lt))

  -- what holds of all that the one path meets holds of all that the other meets
  all_back : (P : Met → Type 0) (Q : ArcMet → Type 0) → ((m : Met) (n : ArcMet) → Alike m n → Q n → P m) → (ms : List Met) (ns : List ArcMet) → AllAlike ms ns → All Q ns → All P ms
  all_back P Q by [] [] alike all = All-nil P
  all_back P Q by (m ∷ ms) (n ∷ ns) alike all =
      All-cons P m ms (by m n alike.0 (all 0 n (omega arith))) (all_back P Q by ms ns alike.1 (all_tail Q n ns all))
  all_back P Q by [] (n ∷ ns) alike all = absurd alike
  all_back P Q by (m ∷ ms) [] alike all = absurd alike

  all_forth : (P : Met → Type 0) (Q : ArcMet → Type 0) → ((m : Met) (n : ArcMet) → Alike m n → P m → Q n) → (ms : List Met) (ns : List ArcMet) → AllAlike ms ns → All P ms → All Q ns
  all_forth P Q by [] [] alike all = All-nil Q
  all_forth P Q by (m ∷ ms) (n ∷ ns) alike all =
      All-cons Q n ns (by m n alike.0 (all 0 m (omega arith))) (all_forth P Q by ms ns alike.1 (all_tail P m ms all))
  all_forth P Q by [] (n ∷ ns) alike all = absurd alike
  all_forth P Q by (m ∷ ms) [] alike all = absurd alike

  record Split (ms : List Met) (n : ArcMet) (after' : List ArcMet) : Type 0 where
    before : List Met
    found : Met
    after : List Met
    split : ms ≡ before ++ found ∷ after
    alike : Alike found n
    after_alike : AllAlike after after'

  split_back : (ms : List Met) (before' : List ArcMet) (n : ArcMet) (after' : List ArcMet) → AllAlike ms (before' ++ n ∷ after') → Split ms n after'
  split_back (m ∷ ms) [] n after' alike = record { before = []; found = m; after = ms; split = refl; alike = alike.0; after_alike = alike.1 }
  split_back (m ∷ ms) (b ∷ before') n after' alike =
      let rest = split_back ms before' n after' alike.1 in
      record { before = m ∷ rest.before; found = rest.found; after = rest.after; split = ap (λ l. m ∷ l) rest.split; alike = rest.alike; after_alike = rest.after_alike }
  split_back [] [] n after' alike = absurd alike
  split_back [] (b ∷ before') n after' alike = absurd alike

  -- what the numbers tell of the placement, and of the events at points
  pub record Placed (Is : ℕ → Event → Type 0) (p : Placement) (move : Move) : Type 0 where
    pub found_at : Point
    pub found : Occurs program function move.expr found_at
    pub occurs_is : (i : ℕ) (v : Point) → slice_get points i ≡ Some v → Is i OccursEvent ↔ Occurs program function move.expr v
    pub kills_is : (i : ℕ) (v : Point) → slice_get points i ≡ Some v → Is i KillsEvent ↔ Kills program function move.expr v
    pub passes_on : (i : ℕ) (v : Point) → slice_get points i ≡ Some v → Is i PassesEvent → ¬ Bars function v
    pub told : (i : ℕ) (v : Point) → slice_get points i ≡ Some v → (event : Event) × Is i event
    pub inserted_is : (edge : Edge) → (move.inserted edge ≡ true) ↔ ((e : ℕ) × (slice_get edges e ≡ Some edge) × Contains p.inserted e)
    pub kept_is : (v : Point) → (move.kept v ≡ true) ↔ ((i : ℕ) × (slice_get points i ≡ Some v) × Is i OccursEvent × Contains p.kept i)
    pub deleted_is : (v : Point) → (move.deleted v ≡ true) ↔ ((i : ℕ) × (slice_get points i ≡ Some v) × IsDeleted Is p i)
    pub live_is : (i : ℕ) (v : Point) → slice_get points i ≡ Some v → (move.live v ≡ true) ↔ IsLiveAt arcs Is p i

  module _ (Is : ℕ → Event → Type 0) (p : Placement) (move : Move) (placed : Placed Is p move) where
    writes_back : (m : Met) (n : ArcMet) → Alike m n → ArcWrites Is p n → Writes move m
    writes_back (at_point v) (at_number i) alike writes = (placed.kept_is v).1 (i, alike, writes.0, writes.1)
    writes_back (on_edge edge) (on_arc e) alike writes = (placed.inserted_is edge).1 (e, alike, writes)
    writes_back (at_point v) (on_arc e) alike writes = absurd alike
    writes_back (on_edge edge) (at_number i) alike writes = absurd alike

    writes_forth : (m : Met) (n : ArcMet) → Alike m n → Writes move m → ArcWrites Is p n
    writes_forth (at_point v) (at_number i) alike writes =
        let k = (placed.kept_is v).0 writes in
        let same = graph.points_once k.0 i v k.1 alike in
        (subst (λ j. Is j OccursEvent) same k.2, subst (Contains p.kept) same k.3)
    writes_forth (on_edge edge) (on_arc e) alike writes =
        let k = (placed.inserted_is edge).0 writes in subst (Contains p.inserted) (graph.edges_once k.0 e edge k.1 alike) k.2
    writes_forth (at_point v) (on_arc e) alike writes = absurd alike
    writes_forth (on_edge edge) (at_number i) alike writes = absurd alike

    unkilled_back : (m : Met) (n : ArcMet) → Alike m n → (¬ ArcKills Is n) → ¬ KillsMet program function move.expr m
    unkilled_back (at_point v) (at_number i) alike unkilled kills = unkilled ((placed.kills_is i v alike).1 kills)
    unkilled_back (on_edge edge) (on_arc e) alike unkilled kills = kills
    unkilled_back (at_point v) (on_arc e) alike unkilled kills = absurd alike
    unkilled_back (on_edge edge) (at_number i) alike unkilled kills = absurd alike

    valid_back : (path : List Hop) (arc_path : List ℕ) → AllAlike (met path) (arcs_met arcs arc_path) → IsValidPath arcs Is p arc_path → IsValid program function move path
    valid_back path arc_path alike valid =
        let split = split_back (met path) valid.before valid.write valid.after (subst (AllAlike (met path)) valid.split alike) in
        record {
          before = split.before;
          write = split.found;
          after = split.after;
          split = split.split;
          writes = writes_back split.found valid.write split.alike valid.writes;
          unkilled = all_back (λ m. ¬ KillsMet program function move.expr m) (λ n. ¬ ArcKills Is n) unkilled_back split.after valid.after split.after_alike valid.unkilled;
        }

    deleted_number : (v : Point) (i : ℕ) → slice_get points i ≡ Some v → move.deleted v ≡ true → IsDeleted Is p i
    deleted_number v i at deleted =
        let d = (placed.deleted_is v).0 deleted in
        subst (λ j. IsDeleted Is p j) (graph.points_once d.0 i v d.1 at) d.2

    live_forth : (i : ℕ) (v : Point) → slice_get points i ≡ Some v → IsLive function move v → IsLiveAt arcs Is p i
    live_forth i v at live =
        let a = arcs_path v live.path live.occurrence i live.leads at in
        record {
          path = a.arc_path;
          occurrence = a.end;
          leads = a.leads;
          deleted = deleted_number live.occurrence a.end a.at live.deleted;
          unwritten = all_forth (λ m. ¬ Writes move m) (λ n. ¬ ArcWrites Is p n) (λ m n alike unwritten writes. unwritten (writes_back m n alike writes)) (met live.path) (arcs_met arcs a.arc_path) a.alike live.unwritten;
        }

    live_back : (i : ℕ) (v : Point) → slice_get points i ≡ Some v → IsLiveAt arcs Is p i → IsLive function move v
    live_back i v at live =
        let a = points_path i live.path live.occurrence v live.leads at in
        record {
          path = a.path;
          occurrence = a.end;
          leads = a.leads;
          deleted = (placed.deleted_is a.end).1 (live.occurrence, a.at, live.deleted);
          unwritten = all_back (λ m. ¬ Writes move m) (λ n. ¬ ArcWrites Is p n) (λ m n alike unwritten writes. unwritten (writes_forth m n alike writes)) (met a.path) (arcs_met arcs live.path) a.alike live.unwritten;
        }

    not_start : (i : ℕ) (v : Point) → slice_get points i ≡ Some v → i ≢ 0 → v ≢ Start
    not_start i v at n e = n (graph.points_once i 0 Start (at ∙ ap Some e) graph.start)

    by_event : (k : ℕ) (i : ℕ) (v : Point) → slice_get points i ≡ Some v → i ≢ 0 → ¬ (Is i KillsEvent ⊎ Is i BarsEvent) → LeadsAllTo function (λ w. IsInevitableWithin program function move.expr k w) v → (seen : Event) → Is i seen → IsInevitableWithin program function move.expr (suc k) v
    by_event k i v at n unstopped leads OccursEvent e = (not_start i v at n, inl ((placed.occurs_is i v at).0 e))
    by_event k i v at n unstopped leads KillsEvent e = absurd (unstopped (inl e))
    by_event k i v at n unstopped leads BarsEvent e = absurd (unstopped (inr e))
    by_event k i v at n unstopped leads PassesEvent e =
        (not_start i v at n, inr ((λ kills. unstopped (inl ((placed.kills_is i v at).1 kills))), placed.passes_on i v at e, leads))

    -- the arc of an edge that leaves the point
    one_arc : (i : ℕ) (v w : Point) (edge : Edge) → slice_get points i ≡ Some v → Joins function edge v w → (e : ℕ) × (e < length arcs) × (source arcs e ≡ i) × (slice_get points (target arcs e) ≡ Some w)
    one_arc i v w edge at joins =
        let e = graph.edges_there edge v w joins (graph.points_reached i v at) in
        let lt : e.0 < length arcs = omega (arith, slice_get_within edges e.0 edge e.1, count) in
        let a = arc_joins e.0 lt in
        let is : a.edge ≡ edge = let both : Some a.edge ≡ Some edge = sym a.is ∙ e.1 in cc in
        let same = joins_same function edge a.from a.to v w (subst (λ x. Joins function x a.from a.to) is a.joins) joins in
        (e.0, lt, graph.points_once (source arcs e.0) i v (a.begins ∙ ap Some same.0) at, a.ends ∙ ap Some same.1)

    inevitable_back : (k i : ℕ) (v : Point) → slice_get points i ≡ Some v → IsArcInevitableWithin arcs (λ w. Is w OccursEvent) (λ w. Is w KillsEvent ⊎ Is w BarsEvent) k i → IsInevitableWithin program function move.expr k v
    inevitable_back zero i v at within = (not_start i v at within.0, (placed.occurs_is i v at).0 within.1)
    inevitable_back (suc k) i v at within =
        ⊎_elim
        (λ (occurs : Is i OccursEvent). (not_start i v at within.0, inl ((placed.occurs_is i v at).0 occurs)))
        (λ (on : (¬ (Is i KillsEvent ⊎ Is i BarsEvent)) × ArcLeadsAllTo arcs (λ w. IsArcInevitableWithin arcs (λ w. Is w OccursEvent) (λ w. Is w KillsEvent ⊎ Is w BarsEvent) k w) i).
        let leads = on.1 in
        let a = arc_joins leads.arc leads.is_arc in
        let same : a.from ≡ v = same_point i a.from v (ap (slice_get points) (sym leads.leaves) ∙ a.begins) at in
        by_event k i v at within.0 on.0
        (record {
          edge = a.edge;
          to = a.to;
          leaves = subst (λ u. Joins function a.edge u a.to) same a.joins;
          all = λ edge w joins.
              let arc = one_arc i v w edge at joins in
              inevitable_back k (target arcs arc.0) w arc.3 (leads.all arc.0 arc.1 arc.2);
        }) (placed.told i v at).0 (placed.told i v at).1)
        within.1

    reached_number : (v : Point) → IsReached function v → (i : ℕ) × (slice_get points i ≡ Some v)
    reached_number v reached = let a = arcs_path Start reached.path v 0 reached.leads graph.start in (a.end, a.at)

    kept_or : (v : Point) (i : ℕ) → slice_get points i ≡ Some v → IsDeleted Is p i → (q : Bool) → move.kept v ≡ q → move.kept v ≡ false
    kept_or v i at deleted false e = e
    kept_or v i at deleted true e =
        let k = (placed.kept_is v).0 e in
        absurd (deleted.1 (subst (Contains p.kept) (graph.points_once k.0 i v k.1 at) k.3))

    -- what the placement says of points and edges, whether it is correct or not
    pub numbered_told : IsTold program function move
    numbered_told = record {
      found_at = placed.found_at;
      found = placed.found;
      inserted_is = λ edge inserted.
          let k = (placed.inserted_is edge).0 inserted in
          let lt : k.0 < length arcs = omega (arith, slice_get_within edges k.0 edge k.1, count) in
          let a = arc_joins k.0 lt in
          let is : a.edge ≡ edge = let both : Some a.edge ≡ Some edge = sym a.is ∙ k.1 in cc in
          (a.from, a.to, subst (λ x. Joins function x a.from a.to) is a.joins, graph.points_reached (source arcs k.0) a.from a.begins);
      kept_is = λ v kept. let k = (placed.kept_is v).0 kept in (graph.points_reached k.0 v k.1, (placed.occurs_is k.0 v k.1).0 k.2);
      deleted_is = λ v. (
        λ deleted. let d = (placed.deleted_is v).0 deleted in (graph.points_reached d.0 v d.1, (placed.occurs_is d.0 v d.1).0 d.2.0, kept_or v d.0 d.1 d.2 _ refl),
        λ is.
            let n = reached_number v is.0 in
            (placed.deleted_is v).1 (n.0, n.1, ((placed.occurs_is n.0 v n.1).1 is.1, λ kept. not_true (move.kept v) is.2 ((placed.kept_is v).1 (n.0, n.1, (placed.occurs_is n.0 v n.1).1 is.1, kept)))),
      );
      live_is = λ v reached.
          let n = reached_number v reached in
          (λ live. live_back n.0 v n.1 ((placed.live_is n.0 v n.1).0 live), λ live. (placed.live_is n.0 v n.1).1 (live_forth n.0 v n.1 live));
    }

    pub numbered_move : IsArcCorrect arcs Is p → (expr_traps move.expr ≡ true → IsArcSafe arcs Is p) → IsMove program function move
    numbered_move correct safe = record {
      found_at = numbered_told.found_at;
      found = numbered_told.found;
      inserted_is = numbered_told.inserted_is;
      kept_is = numbered_told.kept_is;
      deleted_is = numbered_told.deleted_is;
      live_is = numbered_told.live_is;
      correct = λ v path deleted leads.
          let a = arcs_path Start path v 0 leads graph.start in
          valid_back path a.arc_path a.alike (correct a.end a.arc_path (deleted_number v a.end a.at deleted) a.leads);
      safe = λ traps edge u w joins inserted.
          let k = (placed.inserted_is edge).0 inserted in
          let lt : k.0 < length arcs = omega (arith, slice_get_within edges k.0 edge k.1, count) in
          let a = arc_joins k.0 lt in
          let is : a.edge ≡ edge = let both : Some a.edge ≡ Some edge = sym a.is ∙ k.1 in cc in
          let same = joins_same function edge a.from a.to u w (subst (λ x. Joins function x a.from a.to) is a.joins) joins in
          let inevitable = safe traps k.0 k.2 in
          (inevitable.0, inevitable_back inevitable.0 (target arcs k.0) w (a.ends ∙ ap Some same.1) inevitable.1);
    }
