-- The lists of point_graph are those of the points and the edges, each once.
use Rattle.std.proofs.Common.{◌≡◌, ℕ, zero, suc, ◌+◌, ◌<◌, List, [], ◌∷◌, ◌++◌, length, map, Option, Some, None, refl, sym, ap, ◌∙◌, subst, arith}
use Rattle.std.specs.Prelude.{slice_get, flat_map}
use Rattle.std.specs.List.{range_with_len, AllZip}
use Rattle.std.specs.Option.{option_map_or}
use Rattle.std.proofs.lemmas.List.{map-append}
use Rattle.ir_types.specs.declared.syntax.Block.{Block}
use Rattle.ir_types.specs.declared.syntax.Function.{Function}
use Rattle.flow_graph.specs.Slots.{slots_of}
use Rattle.point_graph.specs.Graph as graph
use Rattle.point_graph.specs.Graph.{Edge, Entry, Inside, Slot, Joins}
use Rattle.point_graph.specs.Numbers.{KeepsRules, IsNumbered, ArePoints, of_block, block_points, block_edges, all_points, all_edges, point_of}
use Rattle.point_graph.specs.declared.graph.Point.TheVariants.{Instr, Term}
use Rattle.point_graph.specs.declared.graph.Points.{Points}
use Rattle.point_numbers.specs.Told.{AreTold}
use Rattle.point_numbers.proofs.Listing as listing
use Rattle.point_numbers.proofs.Listing.{places_from, insides_from, slots_from, joined, points_once, edges_once, points_reached, points_there, edges_there}
use Rattle.point_numbers.proofs.Reached.{reached_blocks}

-- ---- the same lists

map_flat : {A B C : Type 0} (g : B → C) (items : A → List B) (xs : List A) → map g (flat_map items xs) ≡ flat_map (λ x. map g (items x)) xs
map_flat g items [] = refl
map_flat g items (x ∷ xs) = map-append g (items x) (flat_map items xs) ∙ ap (λ l. map g (items x) ++ l) (map_flat g items xs)

same_joined : {X : Type 0} (items others : ℕ → List X) → ((b : ℕ) → items b ≡ others b) → (bs : List ℕ) → flat_map items bs ≡ joined others bs
same_joined items others same [] = refl
same_joined items others same (b ∷ bs) = ap (λ l. l ++ flat_map items bs) (same b) ∙ ap (λ l. others b ++ l) (same_joined items others same bs)

places_more : (b k n : ℕ) → places_from b k n ++ graph.Place b (k + n) ∷ [] ≡ places_from b k (suc n)
places_more b k zero = let e : k + 0 ≡ k = omega arith in ap (λ j. graph.Place b j ∷ []) e
places_more b k (suc n) =
    let e : k + suc n ≡ suc k + n = omega arith in
    ap (λ l. graph.Place b k ∷ l) (ap (λ j. places_from b (suc k) n ++ graph.Place b j ∷ []) e ∙ places_more b (suc k) n)

places_are : (f : Function) (b k n : ℕ) → map (point_of f) (map (Instr b) (range_with_len k n)) ≡ places_from b k n
places_are f b k zero = refl
places_are f b k (suc n) =
    let e : k + 1 ≡ suc k = omega arith in
    ap (λ l. graph.Place b k ∷ l) (ap (λ j. map (point_of f) (map (Instr b) (range_with_len j n))) e ∙ places_are f b (suc k) n)

insides_are : (b k n : ℕ) → map (Inside b) (range_with_len k n) ≡ insides_from b k n
insides_are b k zero = refl
insides_are b k (suc n) = let e : k + 1 ≡ suc k = omega arith in ap (λ l. Inside b k ∷ l) (ap (λ j. map (Inside b) (range_with_len j n)) e ∙ insides_are b (suc k) n)

slots_are : (b k n : ℕ) → map (Slot b) (range_with_len k n) ≡ slots_from b k n
slots_are b k zero = refl
slots_are b k (suc n) = let e : k + 1 ≡ suc k = omega arith in ap (λ l. Slot b k ∷ l) (ap (λ j. map (Slot b) (range_with_len j n)) e ∙ slots_are b (suc k) n)

module _ (f : Function) where
  block_points_are : (b : ℕ) (found : Option Block) → slice_get f.blocks b ≡ found → map (point_of f) (option_map_or (block_points b) found []) ≡ listing.block_points b found
  block_points_are b None there = refl
  block_points_are b (Some block) there =
      let n = length block.instrs in
      let z : 0 + n ≡ n = omega arith in
      let last : option_map_or (λ x. length x.instrs) (slice_get f.blocks b) 0 ≡ 0 + n = ap (λ o. option_map_or (λ x. length x.instrs) o 0) there ∙ sym z in
      ap (λ l. graph.Head b ∷ l)
      (map-append (point_of f) (map (Instr b) (range_with_len 0 n)) (Term b ∷ [])
      ∙ ap (λ l. l ++ point_of f (Term b) ∷ []) (places_are f b 0 n)
      ∙ ap (λ k. places_from b 0 n ++ graph.Place b k ∷ []) last
      ∙ places_more b 0 n)

  points_are : (bs : List ℕ) → map (point_of f) (all_points f bs) ≡ listing.all_points f bs
  points_are bs =
      ap (λ l. graph.Start ∷ l)
      (map_flat (point_of f) (of_block block_points f) bs
      ∙ same_joined (λ b. map (point_of f) (of_block block_points f b)) (λ b. listing.block_points b (slice_get f.blocks b)) (λ b. block_points_are b (slice_get f.blocks b) refl) bs)

  block_edges_are : (b : ℕ) (found : Option Block) → option_map_or (block_edges b) found [] ≡ listing.block_edges b found
  block_edges_are b None = refl
  block_edges_are b (Some block) =
      let n = length block.instrs in
      let e : n + 1 ≡ suc n = omega arith in
      let slots = map (Slot b) (range_with_len 0 (length (slots_of block.term))) in
      ap (λ k. map (Inside b) (range_with_len 0 k) ++ slots) e
      ∙ ap (λ l. l ++ slots) (insides_are b 0 (suc n))
      ∙ ap (λ l. insides_from b 0 (suc n) ++ l) (slots_are b 0 (length (slots_of block.term)))

  edges_are : (bs : List ℕ) → all_edges f bs ≡ listing.all_edges f bs
  edges_are bs =
      ap (λ l. Entry ∷ l)
      (same_joined (of_block block_edges f) (λ b. listing.block_edges b (slice_get f.blocks b)) (λ b. block_edges_are b (slice_get f.blocks b)) bs)

-- ---- numbered edges

zip_length : {A B : Type 0} (R : A → B → Type 0) (xs : List A) (ys : List B) → AllZip R xs ys → length xs ≡ length ys
zip_length R [] [] all = refl
zip_length R (x ∷ xs) (y ∷ ys) all = ap suc (zip_length R xs ys all.1)
zip_length R [] (y ∷ ys) all = absurd all
zip_length R (x ∷ xs) [] all = absurd all

zip_at : {A B : Type 0} (R : A → B → Type 0) (xs : List A) (ys : List B) → AllZip R xs ys → (n : ℕ) (y : B) → slice_get ys n ≡ Some y → (x : A) × (slice_get xs n ≡ Some x) × R x y
zip_at R [] [] all n y e = absurd cc
zip_at R (x ∷ xs) (z ∷ zs) all zero y e = let same : z ≡ y = cc in (x, refl, subst (R x) same all.0)
zip_at R (x ∷ xs) (z ∷ zs) all (suc n) y e = zip_at R xs zs all.1 n y e
zip_at R [] (z ∷ zs) all n y e = absurd all
zip_at R (x ∷ xs) [] all n y e = absurd all

get_map : {A B : Type 0} (g : A → B) (xs : List A) (i : ℕ) (x : A) → slice_get xs i ≡ Some x → slice_get (map g xs) i ≡ Some (g x)
get_map g [] i x e = absurd cc
get_map g (y ∷ ys) zero x e = let same : y ≡ x = cc in ap (λ z. Some (g z)) same
get_map g (y ∷ ys) (suc i) x e = get_map g ys i x e

-- what the numbers tell
pub are_told : (f : Function) (p : Points) → KeepsRules f → 0 < length f.blocks → ArePoints f p → AreTold f (map (point_of f) p.points) (all_edges f p.blocks) p.edges
are_told f p keeps defined are =
    let exact = reached_blocks f keeps defined p.blocks are.blocks in
    let points : map (point_of f) p.points ≡ listing.all_points f p.blocks = ap (map (point_of f)) are.points ∙ points_are f p.blocks in
    let edges : all_edges f p.blocks ≡ listing.all_edges f p.blocks = edges_are f p.blocks in
    let old = λ (i : ℕ) (v : graph.Point) (e : slice_get (map (point_of f) p.points) i ≡ Some v). ap (λ l. slice_get l i) (sym points) ∙ e in
    let old_edge = λ (i : ℕ) (edge : Edge) (e : slice_get (all_edges f p.blocks) i ≡ Some edge). ap (λ l. slice_get l i) (sym edges) ∙ e in
    record {
      start = ap (λ l. slice_get l 0) points;
      points_once = λ i j v e e'. points_once f p.blocks exact i j v (old i v e) (old j v e');
      edges_once = λ i j edge e e'. edges_once f p.blocks exact i j edge (old_edge i edge e) (old_edge j edge e');
      points_reached = λ i v e. points_reached f p.blocks exact i v (old i v e);
      points_there = λ v reached. let r = points_there f p.blocks exact v reached in (r.0, ap (λ l. slice_get l r.0) points ∙ r.1);
      edges_there = λ edge u w joins reached. let r = edges_there f p.blocks exact edge u w joins reached in (r.0, ap (λ l. slice_get l r.0) edges ∙ r.1);
      count = sym (zip_length (IsNumbered f p.points) (all_edges f p.blocks) p.edges are.edges);
      joins = λ n e there.
          let r = zip_at (IsNumbered f p.points) (all_edges f p.blocks) p.edges are.edges n e there in
          record {
            edge = r.0;
            from = point_of f r.2.from;
            to = point_of f r.2.to;
            is = r.1;
            joins = r.2.joins;
            begins = get_map (point_of f) p.points e.from r.2.from r.2.begins;
            ends = get_map (point_of f) p.points e.to r.2.to r.2.ends;
          };
    }
