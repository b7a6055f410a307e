-- What is made in different parts of a function has different names.
use Rattle.std.proofs.Common.{◌≡◌, ◌≢◌, ℕ, zero, suc, ◌+◌, ◌^◌, ◌<◌, ◌≤◌, Bool, true, false, if◌then◌else◌, List, [], ◌∷◌, ◌++◌, length, map, Option, Some, None, refl, sym, ap, ◌∙◌, subst, arith}
use Rattle.std.specs.Prelude.{slice_get, Contains}
use Rattle.ir_types.specs.WellFormed.{targets}
use Rattle.ir_types.specs.declared.name.Made.{Made}
use Rattle.ir_types.specs.declared.name.Made.TheVariants.{Temp, Sum, Operand, Split}
use Rattle.ir_types.specs.declared.syntax.Instr.{Instr}
use Rattle.ir_types.specs.declared.syntax.Terminator.{Terminator}
use Rattle.ir_types.specs.declared.syntax.Block.{Block}
use Rattle.point_graph.specs.Graph.{Edge, Entry, Inside, Slot}
use Rattle.applied.specs.Motion.{Move}
use Rattle.applied.specs.Applied.{Naming, entering, leaving, edges_before, is_single, has_groups, IsInserted}
use Rattle.applied_rules.proofs.Apart.{Each, EachPair, Apart, each_by, each_append, apart_append}
use Rattle.applied_rules.proofs.Spelled.{FitsMade}
use Rattle.applied_rules.proofs.Tags.{group_mades, edge_mades, along_mades}
use Rattle.applied_rules.proofs.Names.{text_mades, one_split_mades, split_mades, block_mades, blocks_mades, temps}
use Rattle.applied_rules.proofs.MadeNames.{IsNumbered, edge_in, edge_in_is, numbered_fits, NoSplit, split_differs, group_numbered, edge_each, edge_apart, edge_no_split}

contains_more : (x y : Move) (xs : List Move) → Contains xs x → Contains (y ∷ xs) x
contains_more x y xs c = (suc c.0, omega (arith, c.1), c.2)

each_contained : (xs : List Move) → Each (Contains xs) xs
each_contained [] = tt
each_contained (x ∷ xs) =
    ((0, omega arith, refl), each_by (Contains xs) (Contains (x ∷ xs)) (λ y c. contains_more y x xs c) xs (each_contained xs))

pub each_both : {A : Type 0} (P Q : A → Type 0) (xs : List A) → Each P xs → Each Q xs → Each (λ x. P x × Q x) xs
each_both P Q [] p q = tt
each_both P Q (x ∷ xs) p q = ((p.0, q.0), each_both P Q xs p.1 q.1)

groups_inserted : (edge : Edge) (moves : List Move) → has_groups edge moves ≡ true → IsInserted moves edge
groups_inserted edge [] e = absurd cc
groups_inserted edge (move ∷ moves) e = by (move.inserted edge) refl e (λ e'. groups_inserted edge moves e')
  where
    by : (q : Bool) → move.inserted edge ≡ q → (if q then true else has_groups edge moves) ≡ true → (has_groups edge moves ≡ true → IsInserted moves edge) → IsInserted (move ∷ moves) edge
    by true is e rest = record { move = move; among = (0, omega arith, refl); inserted = is }
    by false is e rest = let r = rest e in record { move = r.move; among = contains_more r.move move moves r.among; inserted = r.inserted }

-- ---- the edges of one place

pub leave_each : (R : Edge → Type 0) (b : ℕ) (term : Terminator) → (is_single term ≡ true → R (Slot b 0)) → (found : Option Instr) → Each R (leaving b found term)
leave_each R b term one (Some instr) = tt
leave_each R b term one None = by (is_single term) refl
  where
    by : (q : Bool) → is_single term ≡ q → Each R (if q then Slot b 0 ∷ [] else [])
    by true is = (one is, tt)
    by false is = tt

leave_apart : (b : ℕ) (term : Terminator) (found : Option Instr) → Apart (leaving b found term)
leave_apart b term (Some instr) = tt
leave_apart b term None = by (is_single term)
  where
    by : (q : Bool) → Apart (if q then Slot b 0 ∷ [] else [])
    by true = (tt, tt)
    by false = tt

abbrev pub edges_at : ℕ → ℕ → Option Instr → Terminator → List Edge
edges_at b k found term = entering k b ++ Inside b k ∷ leaving b found term

pub edges_each : (R : Edge → Type 0) (k b : ℕ) (found : Option Instr) (term : Terminator) → (k ≡ 0 → b ≡ 0 → R Entry) → R (Inside b k) → (is_single term ≡ true → R (Slot b 0)) → Each R (edges_at b k found term)
edges_each R zero zero found term entry inside slot = (entry refl refl, (inside, leave_each R zero term slot found))
edges_each R zero (suc b) found term entry inside slot = (inside, leave_each R (suc b) term slot found)
edges_each R (suc k) b found term entry inside slot = (inside, leave_each R b term slot found)

inside_first : (b k : ℕ) (found : Option Instr) (term : Terminator) → Apart (Inside b k ∷ leaving b found term)
inside_first b k found term = (leave_each (λ f. Inside b k ≢ f) b term (λ is e. cc) found, leave_apart b term found)

pub edges_apart : (k b : ℕ) (found : Option Instr) (term : Terminator) → Apart (edges_at b k found term)
edges_apart zero zero found term = (((λ e. cc), leave_each (λ f. Entry ≢ f) zero term (λ is e. cc) found), inside_first zero zero found term)
edges_apart zero (suc b) found term = inside_first (suc b) zero found term
edges_apart (suc k) b found term = inside_first b (suc k) found term

-- ---- regions

abbrev pub HereOnly : ℕ → ℕ → Edge → Type 0
HereOnly b k Entry = (k ≡ 0) × (b ≡ 0)
HereOnly b k (Inside c j) = (c ≡ b) × (j ≡ k)
HereOnly b k (Slot c s) = ⊥

-- the edges whose groups stand in the block from the place k on
abbrev pub InText : Terminator → ℕ → ℕ → Edge → Type 0
InText term b k Entry = (k ≡ 0) × (b ≡ 0)
InText term b k (Inside c j) = (c ≡ b) × (k ≤ j)
InText term b k (Slot c s) = (c ≡ b) × (is_single term ≡ true)

abbrev pub InSplits : Terminator → ℕ → ℕ → Edge → Type 0
InSplits term b slot Entry = ⊥
InSplits term b slot (Inside c j) = ⊥
InSplits term b slot (Slot c s) = (c ≡ b) × (slot ≤ s) × (is_single term ≡ false)

abbrev pub InBlock : ℕ → Edge → Type 0
InBlock b Entry = b ≡ 0
InBlock b (Inside c j) = c ≡ b
InBlock b (Slot c s) = c ≡ b

abbrev pub FromBlock : ℕ → Edge → Type 0
FromBlock b Entry = b ≡ 0
FromBlock b (Inside c j) = b ≤ c
FromBlock b (Slot c s) = b ≤ c

pub here_then : (term : Terminator) (b k : ℕ) (edge : Edge) → HereOnly b k edge → InText term b (suc k) edge → ⊥
here_then term b k Entry here text = let e = text.0 in cc
here_then term b k (Inside c j) here text = omega (arith, here.1, text.1)
here_then term b k (Slot c s) here text = here

pub text_more : (term : Terminator) (b k : ℕ) (edge : Edge) → InText term b (suc k) edge → InText term b k edge
text_more term b k Entry text = let e = text.0 in absurd cc
text_more term b k (Inside c j) text = (text.0, omega (arith, text.1))
text_more term b k (Slot c s) text = text

pub text_then : (term : Terminator) (b : ℕ) (edge : Edge) → InText term b 0 edge → InSplits term b 0 edge → ⊥
text_then term b Entry text splits = splits
text_then term b (Inside c j) text splits = splits
text_then term b (Slot c s) text splits = let e : true ≡ false = sym text.1 ∙ splits.2 in cc

pub text_block : (term : Terminator) (b : ℕ) (edge : Edge) → InText term b 0 edge → InBlock b edge
text_block term b Entry text = text.1
text_block term b (Inside c j) text = text.0
text_block term b (Slot c s) text = text.0

pub splits_block : (term : Terminator) (b slot : ℕ) (edge : Edge) → InSplits term b slot edge → InBlock b edge
splits_block term b slot Entry splits = absurd splits
splits_block term b slot (Inside c j) splits = absurd splits
splits_block term b slot (Slot c s) splits = splits.0

pub splits_more : (term : Terminator) (b slot : ℕ) (edge : Edge) → InSplits term b (suc slot) edge → InSplits term b slot edge
splits_more term b slot Entry splits = splits
splits_more term b slot (Inside c j) splits = splits
splits_more term b slot (Slot c s) splits = (splits.0, omega (arith, splits.1), splits.2)

slot_then : (term : Terminator) (b slot : ℕ) (edge : Edge) → edge ≡ Slot b slot → InSplits term b (suc slot) edge → ⊥
slot_then term b slot Entry is splits = splits
slot_then term b slot (Inside c j) is splits = splits
slot_then term b slot (Slot c s) is splits = let e : s ≡ slot = cc in omega (arith, e, splits.1)

pub block_then : (b : ℕ) (edge : Edge) → InBlock b edge → FromBlock (suc b) edge → ⊥
block_then b Entry here from = cc
block_then b (Inside c j) here from = omega (arith, here, from)
block_then b (Slot c s) here from = omega (arith, here, from)

pub block_from : (b : ℕ) (edge : Edge) → InBlock b edge → FromBlock b edge
block_from b Entry here = here
block_from b (Inside c j) here = omega (arith, here)
block_from b (Slot c s) here = omega (arith, here)

pub from_more : (b : ℕ) (edge : Edge) → FromBlock (suc b) edge → FromBlock b edge
from_more b Entry from = absurd cc
from_more b (Inside c j) from = omega (arith, from)
from_more b (Slot c s) from = omega (arith, from)

module _ (naming : Naming) (moves : List Move) (ascending : EachPair (λ move next. move.number < next.number) moves) (numbers : Each (λ move. move.number < 2 ^ 64) moves) (few : Each (λ move. length move.expr.args < 2 ^ 64) moves) (differ : (edge other : Edge) → IsInserted moves edge → IsInserted moves other → naming.edge_number edge ≡ naming.edge_number other → edge ≡ other) where
  -- the name is of an edge of the region
  abbrev pub InRegion : (Edge → Type 0) → Made → Type 0
  InRegion R made = (edge : Edge) × R edge × IsInserted moves edge × IsNumbered (naming.edge_number edge) made

  region_differ : (R R' : Edge → Type 0) → ((edge : Edge) → R edge → R' edge → ⊥) → (a b : Made) → InRegion R a → InRegion R' b → a ≢ b
  region_differ R R' disjoint a b in_a in_b same =
      let numbers = sym (edge_in_is (naming.edge_number in_a.0) a in_a.3) ∙ ap edge_in same ∙ edge_in_is (naming.edge_number in_b.0) b in_b.3 in
      let edges : in_a.0 ≡ in_b.0 = differ in_a.0 in_b.0 in_a.2 in_b.2 numbers in
      disjoint in_b.0 (subst R edges in_a.1) in_b.1

  abbrev region_by : (R R' : Edge → Type 0) → ((edge : Edge) → R edge → R' edge) → (made : Made) → InRegion R made → InRegion R' made
  region_by R R' by made is = (is.0, by is.0 is.1, is.2, is.3)

  edge_in_region : (R : Edge → Type 0) (edge : Edge) → R edge → Each (InRegion R) (edge_mades naming edge moves)
  edge_in_region R edge r =
      edge_each naming edge (InRegion R) moves
      (each_by (λ move. (Contains moves move × (move.number < 2 ^ 64)) × (length move.expr.args < 2 ^ 64)) (λ move. move.inserted edge ≡ true → Each (InRegion R) (group_mades naming edge move))
      (λ move facts inserted. each_by (IsNumbered (naming.edge_number edge)) (InRegion R) (λ made is. (edge, r, record { move = move; among = facts.0.0; inserted = inserted }, is)) (group_mades naming edge move)
      (group_numbered naming edge move facts.0.1 facts.1))
      moves (each_both (λ move. Contains moves move × (move.number < 2 ^ 64)) (λ move. length move.expr.args < 2 ^ 64) moves (each_both (Contains moves) (λ move. move.number < 2 ^ 64) moves (each_contained moves) numbers) few))

  along_in_region : (R : Edge → Type 0) (edges : List Edge) → Each R edges → Each (InRegion R) (along_mades naming edges moves)
  along_in_region R [] each = tt
  along_in_region R (edge ∷ edges) each =
      each_append (InRegion R) (edge_mades naming edge moves) (along_mades naming edges moves) (edge_in_region R edge each.0) (along_in_region R edges each.1)

  along_apart : (edges : List Edge) → Apart edges → Apart (along_mades naming edges moves)
  along_apart [] apart = tt
  along_apart (edge ∷ edges) apart =
      apart_append (InRegion (λ f. f ≡ edge)) (InRegion (λ f. edge ≢ f)) (region_differ (λ f. f ≡ edge) (λ f. edge ≢ f) (λ f is differs. differs (sym is)))
      (edge_mades naming edge moves) (along_mades naming edges moves)
      (edge_in_region (λ f. f ≡ edge) edge refl) (along_in_region (λ f. edge ≢ f) edges apart.0)
      (edge_apart naming edge moves ascending) (along_apart edges apart.1)

  module _ (b : ℕ) (block : Block) where
    abbrev term : Terminator
    term = block.term

    place_in_text : (k : ℕ) → Each (InRegion (InText term b k)) (along_mades naming (edges_before b k block) moves)
    place_in_text k =
        along_in_region (InText term b k) (edges_before b k block)
        (edges_each (InText term b k) k b (slice_get block.instrs k) term (λ e e'. (e, e')) (refl, omega arith) (λ is. (refl, is)))

    place_here : (k : ℕ) (instr : Instr) → slice_get block.instrs k ≡ Some instr → Each (InRegion (HereOnly b k)) (along_mades naming (edges_before b k block) moves)
    place_here k instr is =
        along_in_region (HereOnly b k) (edges_before b k block)
        (subst (λ found. Each (HereOnly b k) (edges_at b k found term)) (sym is) (at k b (λ e e'. (e, e')) (refl, refl)))
      where
        at : (j c : ℕ) → (j ≡ 0 → c ≡ 0 → HereOnly b k Entry) → HereOnly b k (Inside c j) → Each (HereOnly b k) (edges_at c j (Some instr) term)
        at zero zero entry inside = (entry refl refl, (inside, tt))
        at zero (suc c) entry inside = (inside, tt)
        at (suc j) c entry inside = (inside, tt)

    text_in_region : (k : ℕ) (instrs : List Instr) → Each (InRegion (InText term b k)) (text_mades naming moves b block k instrs)
    text_in_region k [] = place_in_text k
    text_in_region k (instr ∷ instrs) =
        each_append (InRegion (InText term b k)) (along_mades naming (edges_before b k block) moves) (text_mades naming moves b block (suc k) instrs) (place_in_text k)
        (each_by (InRegion (InText term b (suc k))) (InRegion (InText term b k)) (region_by (InText term b (suc k)) (InText term b k) (text_more term b k)) (text_mades naming moves b block (suc k) instrs) (text_in_region (suc k) instrs))

    text_apart : (k : ℕ) (instrs : List Instr) → ((j : ℕ) → slice_get instrs j ≡ slice_get block.instrs (k + j)) → Apart (text_mades naming moves b block k instrs)
    text_apart k [] suffix = along_apart (edges_before b k block) (edges_apart k b (slice_get block.instrs k) term)
    text_apart k (instr ∷ instrs) suffix =
        let z : k + 0 ≡ k = omega arith in
        let is : slice_get block.instrs k ≡ Some instr = sym (suffix 0 ∙ ap (slice_get block.instrs) z) in
        apart_append (InRegion (HereOnly b k)) (InRegion (InText term b (suc k))) (region_differ (HereOnly b k) (InText term b (suc k)) (here_then term b k))
        (along_mades naming (edges_before b k block) moves) (text_mades naming moves b block (suc k) instrs)
        (place_here k instr is) (text_in_region (suc k) instrs)
        (along_apart (edges_before b k block) (edges_apart k b (slice_get block.instrs k) term))
        (text_apart (suc k) instrs (λ j. let e : k + suc j ≡ suc k + j = omega arith in suffix (suc j) ∙ ap (slice_get block.instrs) e))

    abbrev if_groups : Bool → ℕ → List Made
    if_groups q slot = if q then Split (naming.edge_number (Slot b slot)) ∷ edge_mades naming (Slot b slot) moves else []

    split_in_region : (R : Edge → Type 0) (slot : ℕ) → R (Slot b slot) → Each (InRegion R) (if_groups (has_groups (Slot b slot) moves) slot)
    split_in_region R slot r = by (has_groups (Slot b slot) moves) refl
      where
        by : (q : Bool) → has_groups (Slot b slot) moves ≡ q → Each (InRegion R) (if_groups q slot)
        by true is = ((Slot b slot, r, groups_inserted (Slot b slot) moves is, refl), edge_in_region R (Slot b slot) r)
        by false is = tt

    split_apart : (slot : ℕ) → Apart (if_groups (has_groups (Slot b slot) moves) slot)
    split_apart slot = by (has_groups (Slot b slot) moves)
      where
        by : (q : Bool) → Apart (if_groups q slot)
        by true = (
          each_by NoSplit (λ made. Split (naming.edge_number (Slot b slot)) ≢ made) (split_differs (naming.edge_number (Slot b slot))) (edge_mades naming (Slot b slot) moves) (edge_no_split naming (Slot b slot) moves),
          edge_apart naming (Slot b slot) moves ascending,
        )
        by false = tt

    one_split_in : (R : Edge → Type 0) (single : Bool) (slot : ℕ) → (single ≡ false → R (Slot b slot)) → Each (InRegion R) (one_split_mades naming moves b single slot)
    one_split_in R true slot r = tt
    one_split_in R false slot r = split_in_region R slot (r refl)

    one_split_apart : (single : Bool) (slot : ℕ) → Apart (one_split_mades naming moves b single slot)
    one_split_apart true slot = tt
    one_split_apart false slot = split_apart slot

    splits_in_region : (slot : ℕ) (rest : List ℕ) → Each (InRegion (InSplits term b slot)) (split_mades naming moves b (is_single term) slot rest)
    splits_in_region slot [] = tt
    splits_in_region slot (target ∷ rest) =
        each_append (InRegion (InSplits term b slot)) (one_split_mades naming moves b (is_single term) slot) (split_mades naming moves b (is_single term) (suc slot) rest)
        (one_split_in (InSplits term b slot) (is_single term) slot (λ many. (refl, omega arith, many)))
        (each_by (InRegion (InSplits term b (suc slot))) (InRegion (InSplits term b slot)) (region_by (InSplits term b (suc slot)) (InSplits term b slot) (splits_more term b slot)) (split_mades naming moves b (is_single term) (suc slot) rest) (splits_in_region (suc slot) rest))

    splits_apart : (slot : ℕ) (rest : List ℕ) → Apart (split_mades naming moves b (is_single term) slot rest)
    splits_apart slot [] = tt
    splits_apart slot (target ∷ rest) =
        apart_append (InRegion (λ f. f ≡ Slot b slot)) (InRegion (InSplits term b (suc slot))) (region_differ (λ f. f ≡ Slot b slot) (InSplits term b (suc slot)) (slot_then term b slot))
        (one_split_mades naming moves b (is_single term) slot) (split_mades naming moves b (is_single term) (suc slot) rest)
        (one_split_in (λ f. f ≡ Slot b slot) (is_single term) slot (λ many. refl)) (splits_in_region (suc slot) rest)
        (one_split_apart (is_single term) slot) (splits_apart (suc slot) rest)

    block_in_region : Each (InRegion (InBlock b)) (block_mades naming moves b block)
    block_in_region =
        each_append (InRegion (InBlock b)) (text_mades naming moves b block 0 block.instrs) (split_mades naming moves b (is_single term) 0 (targets term))
        (each_by (InRegion (InText term b 0)) (InRegion (InBlock b)) (region_by (InText term b 0) (InBlock b) (text_block term b)) (text_mades naming moves b block 0 block.instrs) (text_in_region 0 block.instrs))
        (each_by (InRegion (InSplits term b 0)) (InRegion (InBlock b)) (region_by (InSplits term b 0) (InBlock b) (splits_block term b 0)) (split_mades naming moves b (is_single term) 0 (targets term)) (splits_in_region 0 (targets term)))

    block_apart : Apart (block_mades naming moves b block)
    block_apart =
        apart_append (InRegion (InText term b 0)) (InRegion (InSplits term b 0)) (region_differ (InText term b 0) (InSplits term b 0) (text_then term b))
        (text_mades naming moves b block 0 block.instrs) (split_mades naming moves b (is_single term) 0 (targets term))
        (text_in_region 0 block.instrs) (splits_in_region 0 (targets term))
        (text_apart 0 block.instrs (λ j. let e : j ≡ 0 + j = omega arith in ap (slice_get block.instrs) e)) (splits_apart 0 (targets term))

  blocks_in_region : (b : ℕ) (blocks : List Block) → Each (InRegion (FromBlock b)) (blocks_mades naming moves b blocks)
  blocks_in_region b [] = tt
  blocks_in_region b (block ∷ blocks) =
      each_append (InRegion (FromBlock b)) (block_mades naming moves b block) (blocks_mades naming moves (suc b) blocks)
      (each_by (InRegion (InBlock b)) (InRegion (FromBlock b)) (region_by (InBlock b) (FromBlock b) (block_from b)) (block_mades naming moves b block) (block_in_region b block))
      (each_by (InRegion (FromBlock (suc b))) (InRegion (FromBlock b)) (region_by (FromBlock (suc b)) (FromBlock b) (from_more b)) (blocks_mades naming moves (suc b) blocks) (blocks_in_region (suc b) blocks))

  blocks_apart : (b : ℕ) (blocks : List Block) → Apart (blocks_mades naming moves b blocks)
  blocks_apart b [] = tt
  blocks_apart b (block ∷ blocks) =
      apart_append (InRegion (InBlock b)) (InRegion (FromBlock (suc b))) (region_differ (InBlock b) (FromBlock (suc b)) (block_then b))
      (block_mades naming moves b block) (blocks_mades naming moves (suc b) blocks)
      (block_in_region b block) (blocks_in_region (suc b) blocks)
      (block_apart b block) (blocks_apart (suc b) blocks)

  -- ---- temporaries

  abbrev IsTemp : Made → Type 0
  IsTemp (Temp x) = Unit {0}
  IsTemp (Sum x p) = ⊥
  IsTemp (Operand x p i) = ⊥
  IsTemp (Split p) = ⊥

  temps_are : (rest : List Move) → Each IsTemp (map (λ move. Temp move.number) rest)
  temps_are [] = tt
  temps_are (move ∷ rest) = (tt, temps_are rest)

  temps_differ : (n : ℕ) (rest : List Move) → Each (λ next. n < next.number) rest → Each (λ made. Temp n ≢ made) (map (λ move. Temp move.number) rest)
  temps_differ n [] each = tt
  temps_differ n (move ∷ rest) each = ((λ e. let same : n ≡ move.number = cc in omega (arith, same, each.0)), temps_differ n rest each.1)

  temps_apart : (rest : List Move) → EachPair (λ move next. move.number < next.number) rest → Apart (map (λ move. Temp move.number) rest)
  temps_apart [] pairs = tt
  temps_apart (move ∷ rest) pairs = (temps_differ move.number rest pairs.0, temps_apart rest pairs.1)

  temps_fit : (rest : List Move) → Each (λ move. move.number < 2 ^ 64) rest → Each FitsMade (map (λ move. Temp move.number) rest)
  temps_fit [] each = tt
  temps_fit (move ∷ rest) each = (each.0, temps_fit rest each.1)

  temp_no_region : (R : Edge → Type 0) (a b : Made) → IsTemp a → InRegion R b → a ≢ b
  temp_no_region R (Temp x) (Temp y) is in_b e = in_b.3
  temp_no_region R (Temp x) (Sum y p) is in_b e = cc
  temp_no_region R (Temp x) (Operand y p i) is in_b e = cc
  temp_no_region R (Temp x) (Split p) is in_b e = cc
  temp_no_region R (Sum x p) b is in_b e = is
  temp_no_region R (Operand x p i) b is in_b e = is
  temp_no_region R (Split p) b is in_b e = is

  -- all made names of a function
  pub mades_apart : (blocks : List Block) → Apart (temps naming moves ++ blocks_mades naming moves 0 blocks)
  mades_apart blocks =
      apart_append IsTemp (InRegion (FromBlock 0)) (temp_no_region (FromBlock 0)) (temps naming moves) (blocks_mades naming moves 0 blocks)
      (temps_are moves) (blocks_in_region 0 blocks) (temps_apart moves ascending) (blocks_apart 0 blocks)

  pub mades_fit : ((edge : Edge) → IsInserted moves edge → naming.edge_number edge < 2 ^ 64) → (blocks : List Block) → Each FitsMade (temps naming moves ++ blocks_mades naming moves 0 blocks)
  mades_fit small blocks =
      each_append FitsMade (temps naming moves) (blocks_mades naming moves 0 blocks) (temps_fit moves numbers)
      (each_by (InRegion (FromBlock 0)) FitsMade (λ made is. numbered_fits (naming.edge_number is.0) made (small is.0 is.2) is.3) (blocks_mades naming moves 0 blocks) (blocks_in_region 0 blocks))
