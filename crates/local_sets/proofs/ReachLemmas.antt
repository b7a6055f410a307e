-- What the bits at heads and terminators tell.
use Rattle.std.proofs.Common.{◌≡◌, ◌<◌, ◌↔◌, ◌∙◌, ℕ, Bool, true, false, List, Some, length, map, filter, get_or, ap, subst, arith}
use Rattle.std.specs.Prelude.{slice_get}
use Rattle.std.specs.List.{AllZip}
use Rattle.std.proofs.lemmas.Option.{slice_get_within}
use Rattle.std.proofs.lemmas.List.{length-map, get_or-map, get_or-replicate}
use Rattle.ir_types.specs.declared.syntax.Function.{Function}
use Rattle.point_graph.specs.Graph as graph
use Rattle.point_graph.specs.declared.graph.Point.{Point}
use Rattle.point_graph.specs.declared.graph.Point.TheVariants.{Start, Head, Instr, Term}
use Rattle.point_graph.specs.declared.graph.Points.{Points}
use Rattle.point_graph.specs.Numbers.{point_of, all_edges, ArePoints}
use Rattle.point_numbers.specs.Told.{AreTold}
use Rattle.expressions.specs.Kept.{Kept}
use Rattle.expressions.specs.Tables.{IsTable}
use Rattle.flow_paths.specs.declared.marks.Mark.{Mark}
use Rattle.flow_paths.specs.declared.marks.Mark.TheVariants.{Write, Pass}
use Rattle.flow_paths.specs.Paths.{Connects, at_point, on_edge}
use Rattle.flow_paths.specs.Marks.{MeetsUnwritten, ReachedInvalid}
use Rattle.flow_paths.specs.Spreads.{IsSet}
use Rattle.local_sets.specs.declared.blocks.BlockSets.{BlockSets}
use Rattle.local_sets.specs.Blocks.{IsBlockSets}
use Rattle.local_sets.specs.Heads.{no_sets, ends_block, bits_at_ends, mark_of_event, stop_of_event, is_occurrence, with_points, lasts, stops, goals}
use Rattle.local_sets.specs.Reaching.{IsAvailable, IsWanted, ends_of, Tells}
use Rattle.local_sets.proofs.HeadLists.{ends_told, ends_are, placed_length}
use Rattle.local_sets.proofs.Settings as settings
use Rattle.local_sets.proofs.AvailablePaths.{available_at_head, available_at_term}
use Rattle.local_sets.proofs.WantedPaths.{wanted_at_head, wanted_at_term}

module _ (f : Function) (p : Points) (t : Kept) (e : ℕ) (sets : List BlockSets) (a : ArePoints f p) (table : IsTable f p t) (number : e < length t.exprs) (all : AllZip (IsBlockSets f t e) p.blocks sets) (told : AreTold f (map (point_of f) p.points) (all_edges f p.blocks) p.edges) where
  abbrev At : ℕ → graph.Point → Type 0
  At v x = settings.At f p t e sets a table number all told v x

  abbrev arcs : List (ℕ × ℕ)
  arcs = settings.arcs f p t e sets a table number all told

  abbrev heads : List BlockSets
  heads = settings.heads f p t e sets a table number all told

  at_inside : (v : ℕ) (x : graph.Point) → At v x → v < length heads
  at_inside v x at =
      let inside = slice_get_within (map (point_of f) p.points) v x at in
      omega (arith, inside, length-map p.points (point_of f), placed_length p.points sets)

  lasts_at : (v : ℕ) (x : graph.Point) → At v x → with_points arcs (lasts heads) (at_point v) ≡ mark_of_event (get_or heads v no_sets).last
  lasts_at v x at = get_or-map (λ (s : BlockSets). mark_of_event s.last) heads v no_sets Write (at_inside v x at)

  stops_at : (v : ℕ) (x : graph.Point) → At v x → with_points arcs (stops heads) (at_point v) ≡ stop_of_event (get_or heads v no_sets).first
  stops_at v x at = get_or-map (λ (s : BlockSets). stop_of_event s.first) heads v no_sets Write (at_inside v x at)

  goals_at : (v : ℕ) (x : graph.Point) → At v x → get_or (goals heads) v false ≡ is_occurrence (get_or heads v no_sets).first
  goals_at v x at = get_or-map (λ (s : BlockSets). is_occurrence s.first) heads v no_sets false (at_inside v x at)

  passes_at : (marks : List Mark) (n : ℕ) → n < length arcs → with_points arcs marks (on_edge n) ≡ Pass
  passes_at marks n h = get_or-replicate (length arcs) n Pass Write h

  at_listed : (v : ℕ) (x : Point) → slice_get p.points v ≡ Some x → At v (point_of f x)
  at_listed v x listed = settings.at_listed f p t e sets a table number all told v x listed

  -- a number of an end of a block
  available_at : (v : ℕ) (x : Point) → slice_get p.points v ≡ Some x → ends_block x ≡ true → (¬ ReachedInvalid arcs (with_points arcs (lasts heads)) v) ↔ IsAvailable arcs (settings.Is f p t e sets a table number all told) v
  available_at v Start listed ends = absurd cc
  available_at v (Instr b k) listed ends = absurd cc
  available_at v (Head b) listed ends =
      available_at_head arcs At (settings.len_of f) (settings.event f p t e sets a table number all told) (settings.sets_at f p t e sets a table number all told)
      (settings.setting f p t e sets a table number all told) (settings.Is f p t e sets a table number all told) (settings.is_event f p t e sets a table number all told) (settings.one f p t e sets a table number all told)
      (settings.start_there f p t e sets a table number all told) (with_points arcs (lasts heads)) lasts_at (passes_at (lasts heads)) v b (at_listed v (Head b) listed)
  available_at v (Term b) listed ends =
      available_at_term arcs At (settings.len_of f) (settings.event f p t e sets a table number all told) (settings.sets_at f p t e sets a table number all told)
      (settings.setting f p t e sets a table number all told) (settings.Is f p t e sets a table number all told) (settings.is_event f p t e sets a table number all told) (settings.one f p t e sets a table number all told)
      (settings.start_there f p t e sets a table number all told) (with_points arcs (lasts heads)) lasts_at (passes_at (lasts heads)) v b (at_listed v (Term b) listed)

  wanted_at : (v : ℕ) (x : Point) → slice_get p.points v ≡ Some x → ends_block x ≡ true → MeetsUnwritten arcs (with_points arcs (stops heads)) (goals heads) v ↔ IsWanted arcs (settings.Is f p t e sets a table number all told) v
  wanted_at v Start listed ends = absurd cc
  wanted_at v (Instr b k) listed ends = absurd cc
  wanted_at v (Head b) listed ends =
      wanted_at_head arcs At (settings.len_of f) (settings.event f p t e sets a table number all told) (settings.sets_at f p t e sets a table number all told)
      (settings.setting f p t e sets a table number all told) (settings.Is f p t e sets a table number all told) (settings.is_event f p t e sets a table number all told) (settings.one f p t e sets a table number all told)
      (with_points arcs (stops heads)) (goals heads) stops_at (passes_at (stops heads)) goals_at v b (at_listed v (Head b) listed)
  wanted_at v (Term b) listed ends =
      wanted_at_term arcs At (settings.len_of f) (settings.event f p t e sets a table number all told) (settings.sets_at f p t e sets a table number all told)
      (settings.setting f p t e sets a table number all told) (settings.Is f p t e sets a table number all told) (settings.is_event f p t e sets a table number all told) (settings.one f p t e sets a table number all told)
      (with_points arcs (stops heads)) (goals heads) stops_at (passes_at (stops heads)) goals_at v b (at_listed v (Term b) listed)

  ends_listed : filter ends_block p.points ≡ ends_of p.blocks
  ends_listed = ap (filter ends_block) a.points ∙ ends_are f p.blocks (settings.are_there f p t e sets a table number all told)

  -- bits that tell P at the ends of blocks
  tells_ends : (P : ℕ → Type 0) (bits : List Bool) → length bits ≡ length p.points → ((v : ℕ) (x : Point) → slice_get p.points v ≡ Some x → ends_block x ≡ true → IsSet bits v ↔ P v) → AllZip (Tells p.points P) (ends_of p.blocks) (bits_at_ends p.points bits)
  tells_ends P bits len each =
      subst (λ xs. AllZip (Tells p.points P) xs (bits_at_ends p.points bits)) ends_listed
      (ends_told (Tells p.points P) p.points bits len
      (λ v x listed ends w there.
      let same : v ≡ w = told.points_once v w (point_of f x) (at_listed v x listed) (at_listed w x there) in
      subst (λ n. (get_or bits v false ≡ true) ↔ P n) same (each v x listed ends)))

  listed_inside : (v : ℕ) (x : Point) → slice_get p.points v ≡ Some x → v < length heads
  listed_inside v x listed = at_inside v (point_of f x) (at_listed v x listed)

  pub tells_available : (bits : List Bool) → length bits ≡ length p.points → (((w : ℕ) → w < length heads → Connects arcs 0 w) → (v : ℕ) → v < length heads → IsSet bits v ↔ ¬ ReachedInvalid arcs (with_points arcs (lasts heads)) v)
      → AllZip (Tells p.points (IsAvailable arcs (settings.Is f p t e sets a table number all told))) (ends_of p.blocks) (bits_at_ends p.points bits)
  tells_available bits len are =
      let reached : (w : ℕ) → w < length heads → Connects arcs 0 w = λ w h. settings.connected f p t e sets a table number all told w (omega (arith, h, placed_length p.points sets, length-map p.points (point_of f))) in
      tells_ends (IsAvailable arcs (settings.Is f p t e sets a table number all told)) bits len (λ v x listed ends.
      let l = are reached v (listed_inside v x listed) in
      let r = available_at v x listed ends in
      (λ s. r.0 (l.0 s), λ k. l.1 (r.1 k)))

  pub tells_wanted : (bits : List Bool) → length bits ≡ length p.points → ((v : ℕ) → IsSet bits v ↔ MeetsUnwritten arcs (with_points arcs (stops heads)) (goals heads) v)
      → AllZip (Tells p.points (IsWanted arcs (settings.Is f p t e sets a table number all told))) (ends_of p.blocks) (bits_at_ends p.points bits)
  tells_wanted bits len are = tells_ends (IsWanted arcs (settings.Is f p t e sets a table number all told)) bits len (λ v x listed ends.
      let l = are v in
      let r = wanted_at v x listed ends in
      (λ s. r.0 (l.0 s), λ k. l.1 (r.1 k)))
