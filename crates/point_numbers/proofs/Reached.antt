-- The reached blocks, by slots and by points.
use Rattle.std.proofs.Common.{◌≡◌, ℕ, zero, suc, ◌+◌, ◌<◌, ◌≤◌, Bool, true, false, cond, List, [], ◌∷◌, ◌++◌, length, Option, Some, None, refl, sym, ap, ◌∙◌, subst, arith, ⊎_elim}
use Rattle.std.specs.Prelude.{slice_get, filter, All, option_and_then}
use Rattle.std.specs.List.{range_with_len}
use Rattle.std.proofs.lemmas.Bool.{cases_eq}
use Rattle.ir_types.specs.WellFormed.{scope, targets, IsBlockIn}
use Rattle.ir_types.specs.declared.syntax.Block.{Block}
use Rattle.ir_types.specs.declared.syntax.Function.{Function}
use Rattle.flow_graph.specs.Slots.{slots_of, next_block}
use Rattle.flow_graph.specs.Paths as blocks
use Rattle.flow_graph.specs.Paths.{AreReached}
use Rattle.point_graph.specs.Graph.{Point, Start, Head, Place, Edge, Entry, Inside, Slot, point_before, Joins, Hop, IsPath, IsReached}
use Rattle.point_graph.specs.Numbers.{KeepsRules, AreReachedBlocks}
use Rattle.point_numbers.proofs.Listing.{reached_next, IsReachedBlocks}

all_at : {X : Type 0} (P : X → Type 0) (xs : List X) (k : ℕ) (x : X) → All P xs → slice_get xs k ≡ Some x → P x
all_at P [] k x all e = absurd cc
all_at P (y ∷ ys) zero x all e = let same : y ≡ x = cc in subst P same (all zero y (omega arith))
all_at P (y ∷ ys) (suc k) x all e = all_at P ys k x (λ j d lt. all (suc j) d (omega (arith, lt))) e

block_found : (blocks : List Block) (b : ℕ) → b < length blocks → (block : Block) × (slice_get blocks b ≡ Some block)
block_found [] b lt = absurd (omega (arith, lt))
block_found (block ∷ blocks) zero lt = (block, refl)
block_found (block ∷ blocks) (suc b) lt = block_found blocks b (omega (arith, lt))

-- ---- numbers that a test tells

module _ (test : ℕ → Bool) where
  abbrev told : ℕ → ℕ → List ℕ
  told a n = filter test (range_with_len a n)

  abbrev Between : ℕ → ℕ → ℕ → Type 0
  Between a n b = (a ≤ b) × (b < a + n) × (test b ≡ true)

  between_more : (a n b : ℕ) → Between (a + 1) n b → Between a (suc n) b
  between_more a n b r = (omega (arith, r.0), omega (arith, r.1), r.2)

  get_told : (a n i b : ℕ) → slice_get (told a n) i ≡ Some b → Between a n b
  get_told a zero i b e = absurd cc
  get_told a (suc n) i b e = by (test a) refl i e (λ j e'. between_more a n b (get_told (a + 1) n j b e'))
    where
      by : (q : Bool) → test a ≡ q → (i : ℕ) → slice_get (cond q (a ∷ told (a + 1) n) (told (a + 1) n)) i ≡ Some b → ((j : ℕ) → slice_get (told (a + 1) n) j ≡ Some b → Between a (suc n) b) → Between a (suc n) b
      by true is zero e rest = let same : a ≡ b = cc in (omega (arith, same), omega (arith, same), ap test (sym same) ∙ is)
      by true is (suc i) e rest = rest i e
      by false is i e rest = rest i e

  told_ascending : (a n i j b c : ℕ) → i < j → slice_get (told a n) i ≡ Some b → slice_get (told a n) j ≡ Some c → b < c
  told_ascending a zero i j b c lt e e' = absurd cc
  told_ascending a (suc n) i j b c lt e e' = by (test a) i j lt e e' (λ i j lt e e'. told_ascending (a + 1) n i j b c lt e e') (λ k e. get_told (a + 1) n k c e)
    where
      by : (q : Bool) (i j : ℕ) → i < j → slice_get (cond q (a ∷ told (a + 1) n) (told (a + 1) n)) i ≡ Some b → slice_get (cond q (a ∷ told (a + 1) n) (told (a + 1) n)) j ≡ Some c
          → ((i j : ℕ) → i < j → slice_get (told (a + 1) n) i ≡ Some b → slice_get (told (a + 1) n) j ≡ Some c → b < c) → ((k : ℕ) → slice_get (told (a + 1) n) k ≡ Some c → Between (a + 1) n c) → b < c
      by true i zero lt e e' rest later = absurd (omega (arith, lt))
      by true zero (suc j) lt e e' rest later = let same : a ≡ b = cc in let r = later j e' in omega (arith, same, r.0)
      by true (suc i) (suc j) lt e e' rest later = rest i j (omega (arith, lt)) e e'
      by false i j lt e e' rest later = rest i j lt e e'

  told_there : (a n b : ℕ) → a ≤ b → b < a + n → test b ≡ true → (i : ℕ) × (slice_get (told a n) i ≡ Some b)
  told_there a zero b le lt is = absurd (omega (arith, le, lt))
  told_there a (suc n) b le lt is =
      by (test a) refl (λ more. told_there (a + 1) n b more (omega (arith, lt)) is)
    where
      by : (q : Bool) → test a ≡ q → (a + 1 ≤ b → (i : ℕ) × (slice_get (told (a + 1) n) i ≡ Some b)) → (i : ℕ) × (slice_get (cond q (a ∷ told (a + 1) n) (told (a + 1) n)) i ≡ Some b)
      by true e rest =
          ⊎_elim
          (λ (here : a ≡ b). (0, ap (λ x. Some x) here))
          (λ (other : a ≡ b → ⊥). let r = rest (omega (arith, le, other)) in (suc r.0, r.1))
          (cases_eq a b)
      by false e rest =
          rest (omega (arith, le, apart))
        where
          apart : a ≡ b → ⊥
          apart same = let both : false ≡ true = sym e ∙ ap test same ∙ is in cc

-- ---- by slots and by points

module _ (f : Function) (keeps : KeepsRules f) (defined : 0 < length f.blocks) where
  place_reached : (b : ℕ) (block : Block) → slice_get f.blocks b ≡ Some block → IsReached f (Head b) → (k : ℕ) → k ≤ length block.instrs → IsReached f (Place b k)
  place_reached b block there head zero le =
      reached_next f (Inside b 0) (Head b) (Place b 0) (record { block = block; block_there = there; within = le; begins = refl; ends = refl }) head
  place_reached b block there head (suc k) le =
      reached_next f (Inside b (suc k)) (Place b k) (Place b (suc k)) (record { block = block; block_there = there; within = le; begins = refl; ends = refl })
      (place_reached b block there head k (omega (arith, le)))

  next_reached : (b slot next : ℕ) (found : Option Block) → slice_get f.blocks b ≡ found → option_and_then (λ x. slice_get (slots_of x.term) slot) found ≡ Some next → IsReached f (Head b) → IsReached f (Head next)
  next_reached b slot next None there e head = absurd cc
  next_reached b slot next (Some block) there e head =
      reached_next f (Slot b slot) (Place b (length block.instrs)) (Head next)
      (record { block = block; block_there = there; target = next; leads = e; begins = refl; ends = refl })
      (place_reached b block there head (length block.instrs) (omega arith))

  slots_lead : (b : ℕ) (path : List ℕ) (c : ℕ) → blocks.IsPath f b path c → IsReached f (Head b) → IsReached f (Head c)
  slots_lead b [] c leads head = subst (λ x. IsReached f (Head x)) leads head
  slots_lead b (slot ∷ path) c leads head =
      slots_lead leads.0 path c leads.2 (next_reached b slot leads.0 (slice_get f.blocks b) refl leads.1 head)

  entry_reached : IsReached f (Head 0)
  entry_reached = reached_next f Entry Start (Head 0) (refl, refl) (record { path = []; leads = refl })

  to_points : (b : ℕ) → blocks.IsReached f b → IsReached f (Head b)
  to_points b reached = slots_lead 0 reached.path b reached.leads entry_reached

  slots_append : (b : ℕ) (path : List ℕ) (c : ℕ) (rest : List ℕ) (d : ℕ) → blocks.IsPath f b path c → blocks.IsPath f c rest d → blocks.IsPath f b (path ++ rest) d
  slots_append b [] c rest d leads more = subst (λ x. blocks.IsPath f x rest d) (sym leads) more
  slots_append b (slot ∷ path) c rest d leads more = (leads.0, leads.1, slots_append leads.0 path c rest d leads.2 more)

  -- the block of the point is reached
  abbrev AtBlock : Point → Type 0
  AtBlock Start = Unit {0}
  AtBlock (Head b) = blocks.IsReached f b
  AtBlock (Place b k) = blocks.IsReached f b

  before_place : (b k : ℕ) → AtBlock (point_before b k) → blocks.IsReached f b
  before_place b zero at = at
  before_place b (suc k) at = at

  target_within : (b slot target : ℕ) (block : Block) → slice_get f.blocks b ≡ Some block → slice_get (slots_of block.term) slot ≡ Some target → target < length f.blocks
  target_within b slot target block there leads =
      let rules = all_at (IsBlockIn (scope keeps.module_of f)) f.blocks b block keeps.rules.blocks there in
      (all_at (λ t. (0 < t) × (t < length f.blocks)) (targets block.term) slot target rules.targets_exist leads).1

  one_hop : (edge : Edge) (u w : Point) → Joins f edge u w → AtBlock u → AtBlock w
  one_hop Entry u w joins at = subst AtBlock (sym joins.1) (record { inside = defined; path = []; leads = refl })
  one_hop (Inside b k) u w joins at = subst AtBlock (sym joins.ends) (before_place b k (subst AtBlock joins.begins at))
  one_hop (Slot b slot) u w joins at =
      let from : blocks.IsReached f b = subst AtBlock joins.begins at in
      let next : next_block f b slot ≡ Some joins.target = ap (option_and_then (λ x. slice_get (slots_of x.term) slot)) joins.block_there ∙ joins.leads in
      subst AtBlock (sym joins.ends)
      (record {
        inside = target_within b slot joins.target joins.block joins.block_there joins.leads;
        path = from.path ++ slot ∷ [];
        leads = slots_append 0 from.path b (slot ∷ []) joins.target from.leads (joins.target, next, refl);
      })

  along : (u : Point) (path : List Hop) (v : Point) → IsPath f u path v → AtBlock u → AtBlock v
  along u [] v leads at = subst AtBlock leads at
  along u (hop ∷ path) v leads at = along hop.to path v leads.2 (one_hop hop.edge hop.from hop.to leads.1 (subst AtBlock leads.0 at))

  to_blocks : (b : ℕ) → IsReached f (Head b) → blocks.IsReached f b
  to_blocks b reached = along Start reached.path (Head b) reached.leads tt

  pub reached_blocks : (bs : List ℕ) → AreReachedBlocks f bs → IsReachedBlocks f bs
  reached_blocks bs are =
      let n = length f.blocks in
      let at = λ (i b : ℕ) (e : slice_get bs i ≡ Some b). get_told are.test 0 n i b (ap (λ l. slice_get l i) (sym are.listed) ∙ e) in
      record {
        ascending = λ i j b c lt e e'. told_ascending are.test 0 n i j b c lt (ap (λ l. slice_get l i) (sym are.listed) ∙ e) (ap (λ l. slice_get l j) (sym are.listed) ∙ e');
        only = λ i b e. to_points b ((are.told b).0 (at i b e).2);
        each = λ b reached.
            let in_blocks = to_blocks b reached in
            let r = told_there are.test 0 n b (omega arith) (omega (arith, in_blocks.inside)) ((are.told b).1 in_blocks) in
            (r.0, ap (λ l. slice_get l r.0) are.listed ∙ r.1);
        blocks = λ i b e. block_found f.blocks b (omega (arith, (at i b e).1));
      }
