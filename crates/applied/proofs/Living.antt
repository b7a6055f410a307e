-- What is live behind an edge with no insertion is live before it, and nothing kills it there.
use Rattle.std.proofs.Common.{◌≡◌, ◌≢◌, zero, suc, ◌+◌, ◌<◌, length, arith, length-append, Bool, true, false, List, [], ◌∷◌, ◌++◌, refl, sym, ap, ◌∙◌, subst}
use Rattle.std.specs.Prelude.{All}
use Rattle.std.proofs.Math.Seq.{get_or-append_seam}
use Rattle.std.proofs.lemmas.List.{get_or-append-add}
use Rattle.ir_types.specs.declared.syntax.Function.{Function}
use Rattle.ir_types.specs.Program.{Program}
use Rattle.point_graph.specs.Graph.{Point, Start, Edge, Joins, Hop, IsPath, IsReached}
use Rattle.applied.specs.Motion.{Met, at_point, on_edge, met, Writes, Kills, KillsMet, IsLive, Move, IsMove}

path_append : (function : Function) (u : Point) (path : List Hop) (v : Point) (rest : List Hop) (w : Point) → IsPath function u path v → IsPath function v rest w → IsPath function u (path ++ rest) w
path_append function u [] v rest w leads more = subst (λ x. IsPath function x rest w) (sym leads) more
path_append function u (hop ∷ path) v rest w leads more = (leads.0, leads.1, path_append function hop.to path v rest w leads.2 more)

met_append : (path rest : List Hop) → met (path ++ rest) ≡ met path ++ met rest
met_append [] rest = refl
met_append (hop ∷ path) rest = ap (λ l. at_point hop.from ∷ on_edge hop.edge ∷ l) (met_append path rest)

abbrev pub hop : Point → Edge → Point → Hop
hop u edge w = record { from = u; edge = edge; to = w }

-- one edge further
pub reached_next : (function : Function) (edge : Edge) (u w : Point) → Joins function edge u w → IsReached function u → IsReached function w
reached_next function edge u w joins reached = record {
  path = reached.path ++ hop u edge w ∷ [];
  leads = path_append function Start reached.path u (hop u edge w ∷ []) w reached.leads (refl, joins, refl);
}

in_all : (P : Met → Type 0) (before : List Met) (m : Met) (after : List Met) → All P (before ++ m ∷ after) → P m
in_all P before m after all =
    let within : length before < length (before ++ m ∷ after) = omega (arith, length-append before (m ∷ after)) in
    subst P (get_or-append_seam before m after m) (all (length before) m within)

all_behind : (P : Met → Type 0) (front rest : List Met) → All P (front ++ rest) → All P rest
all_behind P front rest all k d lt =
    let within : length front + k < length (front ++ rest) = omega (arith, length-append front rest, lt) in
    subst P (get_or-append-add front rest k d) (all (length front + k) d within)

pub all_cons : (P : Met → Type 0) (m : Met) (ms : List Met) → P m → All P ms → All P (m ∷ ms)
all_cons P m ms p all zero d lt = p
all_cons P m ms p all (suc k) d lt = all k d (omega (arith, lt))

abbrev tail_of : List Met → List Met
tail_of [] = []
tail_of (m ∷ ms) = ms

-- where nothing writes in the second part, what holds behind the write holds in the whole second part
tail_kept : (W Q : Met → Type 0) (front rest before : List Met) (write : Met) (after : List Met) → front ++ rest ≡ before ++ write ∷ after → All (λ m. ¬ W m) rest → W write → All Q after → All Q rest
tail_kept W Q [] rest before write after e unwritten writes all =
    absurd (in_all (λ m. ¬ W m) before write after (subst (All (λ m. ¬ W m)) e unwritten) writes)
tail_kept W Q (m ∷ front) rest [] write after e unwritten writes all =
    all_behind Q front rest (subst (All Q) (sym (ap tail_of e)) all)
tail_kept W Q (m ∷ front) rest (b ∷ before) write after e unwritten writes all =
    tail_kept W Q front rest before write after (ap tail_of e) unwritten writes all

pub not_true : (b : Bool) → b ≡ false → b ≡ true → ⊥
not_true b e e' = let f : false ≡ true = sym e ∙ e' in cc

module _ (m : Program) (function : Function) (move : Move) (is : IsMove m function move) (edge : Edge) (u w : Point) (joins : Joins function edge u w) (live : move.live w ≡ true) (free : move.inserted edge ≡ false) (unkept : move.kept u ≡ false) (reached : IsReached function u) where
  abbrev pub there : IsLive function move w
  there = (is.live_is w (reached_next function edge u w joins reached)).0 live

  abbrev pub live_here : IsLive function move u
  live_here = record {
    path = hop u edge w ∷ there.path;
    occurrence = there.occurrence;
    leads = (refl, joins, there.leads);
    deleted = there.deleted;
    unwritten = all_cons (λ n. ¬ Writes move n) (at_point u) (on_edge edge ∷ met there.path) (not_true (move.kept u) unkept)
        (all_cons (λ n. ¬ Writes move n) (on_edge edge) (met there.path) (not_true (move.inserted edge) free) there.unwritten);
  }

  pub live_before : move.live u ≡ true
  live_before = (is.live_is u reached).1 live_here

  pub unkilled_before : ¬ Kills m function move.expr u
  unkilled_before kills =
      let path = reached.path ++ live_here.path in
      let leads = path_append function Start reached.path u live_here.path live_here.occurrence reached.leads live_here.leads in
      let valid = is.correct live_here.occurrence path live_here.deleted leads in
      let all = tail_kept (Writes move) (λ n. ¬ KillsMet m function move.expr n) (met reached.path) (met live_here.path) valid.before valid.write valid.after (sym (met_append reached.path live_here.path) ∙ valid.split) live_here.unwritten valid.writes valid.unkilled in
      in_all (λ n. ¬ KillsMet m function move.expr n) [] (at_point u) (on_edge edge ∷ met there.path) all kills

  pub not_at_start : u ≢ Start
  not_at_start e =
      let leads = subst (λ x. IsPath function x live_here.path live_here.occurrence) e live_here.leads in
      let valid = is.correct live_here.occurrence live_here.path live_here.deleted leads in
      in_all (λ n. ¬ Writes move n) valid.before valid.write valid.after (subst (All (λ n. ¬ Writes move n)) valid.split live_here.unwritten) valid.writes

-- a deleted occurrence is live
pub live_at_deleted : (m : Program) (function : Function) (move : Move) → IsMove m function move → (v : Point) → move.deleted v ≡ true → move.live v ≡ true
live_at_deleted m function move is v deleted =
    (is.live_is v ((is.deleted_is v).0 deleted).0).1 (record { path = []; occurrence = v; leads = refl; deleted = deleted; unwritten = λ k d lt. absurd (omega (arith, lt)) })
