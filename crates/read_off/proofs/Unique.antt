-- What is read off a set of nodes has one list of edges and one of points: the numbers of the set bits.
use Rattle.std.proofs.Common.{◌≡◌, ℕ, suc, zero, ◌+◌, ◌≤◌, ◌<◌, Bool, true, false, not, ◌&&◌, List, [], ◌∷◌, ◌++◌, length, map, get_or, refl, sym, ap, ◌∙◌, subst, arith, ⊎_elim}
use Rattle.std.specs.List.{AllByRecursion}
use Rattle.std.proofs.lemmas.List.{map-append, length-map}
use Rattle.std.proofs.lemmas.List.Elements.{recursion_from_All}
use Rattle.std.proofs.lemmas.Bool.{cases_Bool, cases_eq}
use Rattle.expressions.specs.declared.syntax.Event.{Event}
use Rattle.expressions.specs.declared.syntax.Event.TheVariants.{Occurs, Kills, Bars, Passes}
use Rattle.placement.specs.declared.placements.Placement.{Placement}
use Rattle.best_placement.specs.Blocks.{Block, CountsFrom, IsBlock, joined, points_of_block, edges_of_block}
use Rattle.best_placement.specs.BlockNetwork.{head_node, terminator_node, event_after, last_event}
use Rattle.best_placement.specs.ReadOff.{is_owed, KeepsAlong, IsReadOffIn}
use Rattle.best_placement.specs.Laws.{has, ExpressionGraph, IsExpressionGraph, IsPlacement, IsReadOffOn}
use Rattle.best_placement.specs.Bits.{is_occurrence, positions, none, inserted_slots, inserted_in, kept_along, kept_in, bits_joined}
use Rattle.best_placement.proofs.Lists.{each_both, each_weaker}
use Rattle.best_placement.proofs.Listed.{AscendsFrom, ascends, none_below, other_number, same_number}
use Rattle.best_placement.proofs.Positions.{lists_read}
use Rattle.read_off.specs.Bits.{edge_bits, point_bits, HasBits, ReadOffIsBits}

-- ---- an ascending list is the positions of what it has

counted_bits : (f : ℕ → Bool) (n : ℕ) (ys : List ℕ) → CountsFrom n ys → (i : ℕ) → i < length ys → f (n + i) ≡ get_or (map f ys) i false
counted_bits f n [] c i h = absurd (omega arith)
counted_bits f n (y ∷ ys) c zero h = ap f (let e : y ≡ n = c.0 in let g : n + 0 ≡ y = omega arith in g)
counted_bits f n (y ∷ ys) c (suc i) h = ap f (let g : n + suc i ≡ suc n + i = omega arith in g) ∙ counted_bits f (suc n) ys c.1 i (omega arith)

-- where the list has these bits from n on, it is their positions
abbrev HasFrom : ℕ → List Bool → List ℕ → Type 0
HasFrom n bits l = (i : ℕ) → i < length bits → has l (n + i) ≡ get_or bits i false

later : (n : ℕ) (b : Bool) (bits : List Bool) (l : List ℕ) → HasFrom n (b ∷ bits) l → HasFrom (suc n) bits l
later n b bits l h i lt = ap (has l) (let q : suc n + i ≡ n + suc i = omega arith in q) ∙ h (suc i) (omega arith)

later_tail : (n : ℕ) (b : Bool) (bits : List Bool) (x : ℕ) (l : List ℕ) → x ≡ n → HasFrom n (b ∷ bits) (x ∷ l) → HasFrom (suc n) bits l
later_tail n b bits x l e h i lt = sym (other_number x (suc n + i) (has l (suc n + i)) (λ q. omega arith)) ∙ later n b bits (x ∷ l) h i lt

first_bit : (n : ℕ) (b : Bool) (bits : List Bool) (l : List ℕ) → HasFrom n (b ∷ bits) l → has l n ≡ b
first_bit n b bits l h = ap (has l) (let q : n ≡ n + 0 = omega arith in q) ∙ h 0 (omega arith)

abbrev EndsBy : ℕ → List ℕ → Type 0
EndsBy n l = AllByRecursion (λ x. x < n) l

ends_later : (n m : ℕ) (l : List ℕ) → n + suc m ≡ suc n + m → EndsBy (n + suc m) l → EndsBy (suc n + m) l
ends_later n m l e h = subst (λ k. EndsBy k l) e h

listed_positions : (n : ℕ) (bits : List Bool) (l : List ℕ) → AscendsFrom n l → EndsBy (n + length bits) l → HasFrom n bits l → l ≡ positions n bits
listed_positions n [] [] a b h = refl
listed_positions n [] (x ∷ l) a b h = absurd (let low : n ≤ x = a.0 in let high : x < n + 0 = b.0 in omega arith)
listed_positions n (true ∷ bits) [] a b h = absurd (let e : false ≡ true = first_bit n true bits [] h in cc)
listed_positions n (false ∷ bits) [] a b h = listed_positions (suc n) bits [] tt tt (later n false bits [] h)
listed_positions n (true ∷ bits) (x ∷ l) a b h =
    let low : n ≤ x = a.0 in
    ⊎_elim
    (λ (same : x ≡ n). ap (λ y. y ∷ l) same ∙ ap (λ ys. n ∷ ys)
    (listed_positions (suc n) bits l (subst (λ y. AscendsFrom (suc y) l) same a.1) (ends_later n (length bits) l (omega arith) b.1) (later_tail n true bits x l same h)))
    (λ (other : x ≡ n → ⊥). absurd (let none : has (x ∷ l) n ≡ false = none_below (suc n) (x ∷ l) n (omega arith, a.1) (omega arith) in let set = first_bit n true bits (x ∷ l) h in cc))
    (cases_eq x n)
listed_positions n (false ∷ bits) (x ∷ l) a b h =
    let low : n ≤ x = a.0 in
    ⊎_elim
    (λ (same : x ≡ n). absurd (let set : has (x ∷ l) n ≡ true = same_number x n (has l n) same in let unset = first_bit n false bits (x ∷ l) h in cc))
    (λ (other : x ≡ n → ⊥). listed_positions (suc n) bits (x ∷ l) (omega arith, a.1) (ends_later n (length bits) (x ∷ l) (omega arith) b) (later n false bits (x ∷ l) h))
    (cases_eq x n)

listed_is : (ys : List ℕ) (bits : List Bool) (l : List ℕ) (count : ℕ) → CountsFrom 0 ys → map (has l) ys ≡ bits → AscendsFrom 0 l → EndsBy count l → length ys ≡ count → l ≡ positions 0 bits
listed_is ys bits l count c told a ends n =
    let len : 0 + length (map (has l) ys) ≡ count = omega (arith, length-map ys (has l)) in
    listed_positions 0 (map (has l) ys) l a (subst (λ k. EndsBy k l) (sym len) ends) (λ i lt. counted_bits (has l) 0 ys c i (omega (arith, lt, length-map ys (has l)))) ∙ ap (positions 0) told

-- ---- what is read off tells the bits of the edges and of the points

none_told : (f : ℕ → Bool) (steps : List (ℕ × ℕ)) → AllByRecursion (λ s. f s.0 ≡ false) steps → map f (map (λ s. s.0) steps) ≡ none steps
none_told f [] h = refl
none_told f (s ∷ steps) h = ap (λ b. b ∷ map f (map (λ (s : ℕ × ℕ). s.0) steps)) h.0 ∙ ap (λ l. false ∷ l) (none_told f steps h.1)

slots_told : (f nodes : ℕ → Bool) (end : Bool) (slots : List (ℕ × ℕ)) → AllByRecursion (λ s. f s.0 ≡ (not end && nodes (head_node s.1))) slots → map f (map (λ s. s.0) slots) ≡ inserted_slots nodes end slots
slots_told f nodes end [] h = refl
slots_told f nodes end (s ∷ slots) h = ap (λ b. b ∷ map f (map (λ (s : ℕ × ℕ). s.0) slots)) h.0 ∙ ap (λ l. (not end && nodes (head_node s.1)) ∷ l) (slots_told f nodes end slots h.1)

-- only occurrences have their bit set
abbrev OnlyOccurs : (ℕ → Event) → (ℕ → Bool) → Type 0
OnlyOccurs event f = (v : ℕ) → f v ≡ true → event v ≡ Occurs

unset : (event : ℕ → Event) (f : ℕ → Bool) (v : ℕ) → OnlyOccurs event f → (event v ≡ Occurs → ⊥) → f v ≡ false
unset event f v only other =
    ⊎_elim
    (λ (t : f v ≡ true). absurd (other (only v t)))
    (λ (u : f v ≡ false). u)
    (cases_Bool (f v))

bit_told : (k : Event) (bit owed : Bool) → ((k ≡ Occurs → ⊥) → bit ≡ false) → (k ≡ Occurs → bit ≡ owed) → bit ≡ (is_occurrence k && owed)
bit_told Occurs bit owed u s = s refl
bit_told Kills bit owed u s = u (λ e. cc)
bit_told Bars bit owed u s = u (λ e. cc)
bit_told Passes bit owed u s = u (λ e. cc)

kept_told : (event : ℕ → Event) (f : ℕ → Bool) (head : Bool) (before : Event) (steps : List (ℕ × ℕ)) → OnlyOccurs event f → KeepsAlong event f head before steps
    → map f (map (λ s. s.1) steps) ≡ kept_along event head before steps
kept_told event f head before [] only h = refl
kept_told event f head before (s ∷ steps) only h =
    ap (λ b. b ∷ map f (map (λ (s : ℕ × ℕ). s.1) steps)) (bit_told (event s.1) (f s.1) (is_owed before head) (unset event f s.1 only) h.0)
    ∙ ap (λ l. (is_occurrence (event s.1) && is_owed before head) ∷ l) (kept_told event f head (event_after (event s.1) before) steps only h.1)

joined_told : (f : ℕ → Bool) (numbers : Block → List ℕ) (bits : Block → List Bool) (blocks : List Block) → AllByRecursion (λ b. map f (numbers b) ≡ bits b) blocks → map f (joined numbers blocks) ≡ bits_joined bits blocks
joined_told f numbers bits [] h = refl
joined_told f numbers bits (b ∷ blocks) h = map-append f (numbers b) (joined numbers blocks) ∙ ap (λ l. l ++ map f (joined numbers blocks)) h.0 ∙ ap (λ l. bits b ++ l) (joined_told f numbers bits blocks h.1)

has_holds : (P : ℕ → Type 0) (xs : List ℕ) → AllByRecursion P xs → (v : ℕ) → has xs v ≡ true → P v
has_holds P [] h v e = absurd (let q : false ≡ true = e in cc)
has_holds P (x ∷ xs) h v e =
    ⊎_elim
    (λ (same : x ≡ v). subst P same h.0)
    (λ (other : x ≡ v → ⊥). has_holds P xs h.1 v (sym (other_number x v (has xs v) other) ∙ e))
    (cases_eq x v)

module _ (g : ExpressionGraph) (nodes : ℕ → Bool) (p : Placement) (f : IsExpressionGraph g) (placed : IsPlacement g p) (read : IsReadOffOn g nodes p) where
  abbrev ReadIn : Block → Type 0
  ReadIn b = IsReadOffIn g.event (has p.inserted) (has p.kept) nodes b

  only_occurs : OnlyOccurs g.event (has p.kept)
  only_occurs = has_holds (λ v. g.event v ≡ Occurs) p.kept (recursion_from_All (λ v. g.event v ≡ Occurs) p.kept placed.occurrences)

  edges_in : (b : Block) → ReadIn b → map (has p.inserted) (edges_of_block b) ≡ inserted_in g.event nodes b
  edges_in b r =
      let t : Bool = nodes (terminator_node b.index) in
      let exit : Bool = t && is_owed (last_event g.event Passes b.steps) (nodes (head_node b.index)) in
      map-append (has p.inserted) (map (λ (s : ℕ × ℕ). s.0) b.steps) (b.exit ∷ map (λ (s : ℕ × ℕ). s.0) b.slots)
      ∙ ap (λ l. l ++ has p.inserted b.exit ∷ map (has p.inserted) (map (λ (s : ℕ × ℕ). s.0) b.slots))
      (none_told (has p.inserted) b.steps (recursion_from_All (λ s. has p.inserted s.0 ≡ false) b.steps r.steps))
      ∙ ap (λ x. none b.steps ++ x ∷ map (has p.inserted) (map (λ (s : ℕ × ℕ). s.0) b.slots)) r.exit
      ∙ ap (λ l. none b.steps ++ exit ∷ l)
      (slots_told (has p.inserted) nodes t b.slots (recursion_from_All (λ s. has p.inserted s.0 ≡ (not t && nodes (head_node s.1))) b.slots r.slots))

  abbrev Bounded : Block → Type 0
  Bounded b = (g.event b.head ≡ Occurs → ⊥) × (g.event b.terminator ≡ Occurs → ⊥)

  points_in : (b : Block) → ReadIn b → Bounded b → map (has p.kept) (points_of_block b) ≡ kept_in g.event nodes b
  points_in b r ends =
      let along : List Bool = kept_along g.event (nodes (head_node b.index)) Passes b.steps in
      ap (λ x. x ∷ map (has p.kept) (map (λ (s : ℕ × ℕ). s.1) b.steps ++ b.terminator ∷ [])) (unset g.event (has p.kept) b.head only_occurs ends.0)
      ∙ ap (λ l. false ∷ l) (map-append (has p.kept) (map (λ (s : ℕ × ℕ). s.1) b.steps) (b.terminator ∷ [])
      ∙ ap (λ l. l ++ has p.kept b.terminator ∷ []) (kept_told g.event (has p.kept) (nodes (head_node b.index)) Passes b.steps only_occurs r.keeps)
      ∙ ap (λ x. along ++ x ∷ []) (unset g.event (has p.kept) b.terminator only_occurs ends.1))

  each_read : AllByRecursion ReadIn g.blocks
  each_read = recursion_from_All ReadIn g.blocks read.each

  each_bounded : AllByRecursion Bounded g.blocks
  each_bounded =
      let Heads : Block → Type 0 = IsBlock g.arcs g.blocks g.event g.edge_weight g.point_weight in
      let Ends : Block → Type 0 = λ b. (g.event b.terminator ≡ Occurs → ⊥) × (g.event b.terminator ≡ Kills → ⊥) in
      each_weaker (λ b. Heads b × Ends b) Bounded (λ b h. ((λ e. let passes = h.0.head_passes in cc), h.1.0)) g.blocks
      (each_both Heads Ends g.blocks (recursion_from_All Heads g.blocks f.each) (recursion_from_All Ends g.blocks f.terminators))

  edges_told : map (has p.inserted) (0 ∷ joined edges_of_block g.blocks) ≡ edge_bits g nodes
  edges_told =
      ap (λ x. x ∷ map (has p.inserted) (joined edges_of_block g.blocks)) read.entry
      ∙ ap (λ l. nodes (head_node 0) ∷ l) (joined_told (has p.inserted) edges_of_block (inserted_in g.event nodes) g.blocks
      (each_weaker ReadIn (λ b. map (has p.inserted) (edges_of_block b) ≡ inserted_in g.event nodes b) edges_in g.blocks each_read))

  points_told : map (has p.kept) (0 ∷ joined points_of_block g.blocks) ≡ point_bits g nodes
  points_told =
      ap (λ x. x ∷ map (has p.kept) (joined points_of_block g.blocks)) (unset g.event (has p.kept) 0 only_occurs (λ e. let passes = f.start_passes in cc))
      ∙ ap (λ l. false ∷ l) (joined_told (has p.kept) points_of_block (kept_in g.event nodes) g.blocks
      (each_weaker (λ b. ReadIn b × Bounded b) (λ b. map (has p.kept) (points_of_block b) ≡ kept_in g.event nodes b) (λ b h. points_in b h.0 h.1) g.blocks
      (each_both ReadIn Bounded g.blocks each_read each_bounded)))

  has_bits : HasBits g nodes p
  has_bits = record {
    inserted = listed_is (0 ∷ joined edges_of_block g.blocks) (edge_bits g nodes) p.inserted (length g.arcs) f.edge_order edges_told
        (ascends 0 p.inserted (λ some. omega arith) placed.inserted_order) (recursion_from_All (λ e. e < length g.arcs) p.inserted placed.edges) f.edge_count;
    kept = listed_is (0 ∷ joined points_of_block g.blocks) (point_bits g nodes) p.kept g.points f.point_order points_told
        (ascends 0 p.kept (λ some. omega arith) placed.kept_order) (recursion_from_All (λ v. v < g.points) p.kept placed.points) f.point_count;
  }

-- lists with these bits are read off
has_read : (g : ExpressionGraph) (nodes : ℕ → Bool) (p : Placement) → IsExpressionGraph g → HasBits g nodes p → IsReadOffOn g nodes p
has_read g nodes p f h =
    subst (λ k. IsReadOffOn g nodes (record { inserted = p.inserted; kept = k })) (sym h.kept)
    (subst (λ i. IsReadOffOn g nodes (record { inserted = i; kept = positions 0 (point_bits g nodes) })) (sym h.inserted) (lists_read g nodes f))

pub read_off_is_bits : ReadOffIsBits
read_off_is_bits g nodes p f placed = ((λ read. has_bits g nodes p f placed read), (λ h. has_read g nodes p f h))
