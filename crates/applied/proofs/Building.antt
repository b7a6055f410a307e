-- What stands at each place of the module that is built place by place.
use Rattle.std.proofs.Common.{◌≡◌, ◌-◌, ℕ, zero, suc, ◌+◌, ◌≤◌, ◌<◌, Bool, true, false, if◌then◌else◌, List, [], ◌∷◌, ◌++◌, length, Some, refl, sym, ap, ◌∙◌, subst, arith, ⊎_elim, length-append, append_assoc}
use Rattle.std.specs.Prelude.{slice_get}
use Rattle.std.proofs.lemmas.Bool.{cases_lt}
use Rattle.std.proofs.lemmas.Option.{slice_get_within}
use Rattle.ir_types.specs.Program.{Program}
use Rattle.ir_types.specs.WellFormed.{targets}
use Rattle.ir_types.specs.declared.syntax.Instr.{Instr}
use Rattle.ir_types.specs.declared.syntax.Terminator.{Terminator}
use Rattle.ir_types.specs.declared.syntax.Block.{Block}
use Rattle.ir_types.specs.declared.syntax.Function.{Function}
use Rattle.point_graph.specs.Graph.{Place, Slot}
use Rattle.applied.specs.Motion.{slot_target, Move}
use Rattle.applied.specs.Applied.{Naming, Plan, StandsAt, groups_along, edges_before, copied, stores, has_groups, Layout, splits_before, is_single, splits_at, block_count, split_block, IsSplit, BlockApplied, FunctionApplied, AllApplied, IsApplied}
use Rattle.applied.specs.Built.{start_of, number_of, text_from, new_block, split_one, splits_from, split_blocks, new_blocks, home_from, layout_of, applied_function, applied_from, applied}
use Rattle.applied.proofs.Steps.{stands_whole, stands_further}

stands_behind : (front text : List Instr) (n : ℕ) (instrs' : List Instr) → StandsAt text n instrs' → StandsAt (front ++ text) (length front + n) instrs'
stands_behind [] text n instrs' stands = let e : n ≡ 0 + n = omega arith in subst (λ k. StandsAt text k instrs') e stands
stands_behind (instr ∷ front) text n instrs' stands =
    let e : suc (length front + n) ≡ suc (length front) + n = omega arith in
    subst (λ k. StandsAt (instr ∷ (front ++ text)) k instrs') e (stands_further instr (front ++ text) (length front + n) instrs' (stands_behind front text n instrs' stands))

stands_first : (instrs' rest : List Instr) → StandsAt (instrs' ++ rest) 0 instrs'
stands_first [] rest = tt
stands_first (instr ∷ instrs') rest = (refl, stands_further instr (instrs' ++ rest) 0 instrs' (stands_first instrs' rest))

stands_middle : (front instrs' rest : List Instr) (n : ℕ) → length front ≡ n → StandsAt (front ++ (instrs' ++ rest)) n instrs'
stands_middle front instrs' rest n e =
    let at : length front + 0 ≡ n = omega (arith, e) in
    subst (λ k. StandsAt (front ++ (instrs' ++ rest)) k instrs') at (stands_behind front (instrs' ++ rest) 0 instrs' (stands_first instrs' rest))

module _ (naming : Naming) (moves : List Move) (vars b : ℕ) (block : Block) where
  abbrev pub start : ℕ → ℕ
  start = start_of naming moves vars b block

  abbrev pub number : ℕ → ℕ
  number = number_of naming moves vars b block

  abbrev pub groups_at : ℕ → List Instr
  groups_at k = groups_along naming (start k) vars (edges_before b k block) moves

  abbrev pub copy_at : ℕ → Instr → List Instr
  copy_at k instr = copied vars number (Place b k) instr moves ∷ stores vars (number k) b k moves

  -- what stands in the text from the place k on
  pub record TextStands (text : List Instr) (k : ℕ) : Type 0 where
    pub groups_stand : (j : ℕ) → k ≤ j → j ≤ length block.instrs → StandsAt text (start j) (groups_at j)
    pub copies_stand : (j : ℕ) (instr : Instr) → k ≤ j → slice_get block.instrs j ≡ Some instr → StandsAt text (number j) (copy_at j instr)
    pub ends : length text ≡ number (length block.instrs)

  text_stands : (instrs' : List Instr) (k : ℕ) (front : List Instr) → length front ≡ start k → ((i : ℕ) → slice_get instrs' i ≡ slice_get block.instrs (k + i)) → k + length instrs' ≡ length block.instrs → TextStands (front ++ text_from naming moves vars b block k instrs') k
  text_stands [] k front at suffix count =
      let is : k ≡ length block.instrs = omega (arith, count) in
      record {
        groups_stand = λ j le le'.
            let e : k ≡ j = omega (arith, le, le', is) in
            let at' : length front + 0 ≡ start k = omega (arith, at) in
            subst (λ j. StandsAt (front ++ groups_at k) (start j) (groups_at j)) e
            (subst (λ n. StandsAt (front ++ groups_at k) n (groups_at k)) at' (stands_behind front (groups_at k) 0 (groups_at k) (stands_whole (groups_at k))));
        copies_stand = λ j instr le here. absurd (omega (arith, slice_get_within block.instrs j instr here, le, is));
        ends = length-append front (groups_at k) ∙ ap (λ n. n + length (groups_at k)) at ∙ ap number is;
      }
  text_stands (instr ∷ instrs') k front at suffix count =
      let rest = text_from naming moves vars b block (suc k) instrs' in
      let front1 = front ++ groups_at k in
      let front2 = front1 ++ copy_at k instr in
      let text = front ++ (groups_at k ++ (copy_at k instr ++ rest)) in
      let one : front1 ++ (copy_at k instr ++ rest) ≡ text = append_assoc front (groups_at k) (copy_at k instr ++ rest) in
      let both : front2 ++ rest ≡ text = append_assoc front1 (copy_at k instr) rest ∙ one in
      let at1 : length front1 ≡ number k = length-append front (groups_at k) ∙ ap (λ n. n + length (groups_at k)) at in
      let at2 : length front2 ≡ start (suc k) = omega (arith, length-append front1 (copy_at k instr), at1) in
      let e0 : k + 0 ≡ k = omega arith in
      let here : slice_get block.instrs k ≡ Some instr = sym (suffix 0 ∙ ap (slice_get block.instrs) e0) in
      let further = subst (λ text. TextStands text (suc k)) both
      (text_stands instrs' (suc k) front2 at2 (λ i. let e : k + suc i ≡ suc k + i = omega arith in suffix (suc i) ∙ ap (slice_get block.instrs) e) (omega (arith, count))) in
      record {
        groups_stand = λ j le le'. ⊎_elim
            (λ lt. further.groups_stand j (omega (arith, lt)) le')
            (λ ge.
            let e : k ≡ j = omega (arith, ge, le) in
            subst (λ j. StandsAt text (start j) (groups_at j)) e (stands_middle front (groups_at k) (copy_at k instr ++ rest) (start k) at))
            (cases_lt k j);
        copies_stand = λ j other le here'. ⊎_elim
            (λ lt. further.copies_stand j other (omega (arith, lt)) here')
            (λ ge.
            let e : k ≡ j = omega (arith, ge, le) in
            let same : instr ≡ other = let both : Some instr ≡ Some other = sym here ∙ ap (slice_get block.instrs) e ∙ here' in cc in
            subst (λ j. StandsAt text (number j) (copy_at j other)) e
            (subst (λ o. StandsAt text (number k) (copy_at k o)) same
            (subst (λ text. StandsAt text (number k) (copy_at k instr)) one (stands_middle front1 (copy_at k instr) rest (number k) at1))))
            (cases_lt k j);
        ends = further.ends;
      }

  pub new_text_stands : TextStands (text_from naming moves vars b block 0 block.instrs) 0
  new_text_stands = text_stands block.instrs 0 [] refl (λ i. let e : i ≡ 0 + i = omega arith in ap (slice_get block.instrs) e) (omega arith)

  pub block_applied : (layout : Layout) → BlockApplied naming moves vars layout b block (new_block naming moves vars layout b block)
  block_applied layout =
      let stands = new_text_stands in
      record {
        name = refl;
        start = start;
        number = number;
        start_zero = refl;
        number_is = λ k. refl;
        groups_stand = λ k le. stands.groups_stand k (omega arith) le;
        copy_stands = λ k instr here. stands.copies_stand k instr (omega arith) here;
        start_next = λ k. refl;
        ends = stands.ends;
        term = refl;
      }

get_behind : {X : Type 0} (xs ys : List X) (n : ℕ) → slice_get (xs ++ ys) (length xs + n) ≡ slice_get ys n
get_behind [] ys n = let e : 0 + n ≡ n = omega arith in ap (slice_get ys) e
get_behind (x ∷ xs) ys n =
    let e : suc (length xs) + n ≡ suc (length xs + n) = omega arith in
    ap (slice_get (x ∷ (xs ++ ys))) e ∙ get_behind xs ys n

get_within : {X : Type 0} (xs ys : List X) (n : ℕ) (x : X) → slice_get xs n ≡ Some x → slice_get (xs ++ ys) n ≡ Some x
get_within [] ys n x e = absurd cc
get_within (z ∷ zs) ys zero x e = e
get_within (z ∷ zs) ys (suc n) x e = get_within zs ys n x e

module _ (naming : Naming) (moves : List Move) (vars : ℕ) (layout : Layout) where
  length_one : (b slot target : ℕ) (single : Bool) → length (split_one naming moves vars layout b single slot target) ≡ (if single then 0 else (if has_groups (Slot b slot) moves then 1 else 0))
  length_one b slot target true = refl
  length_one b slot target false = by (has_groups (Slot b slot) moves)
    where
      by : (q : Bool) → length (if q then split_block naming vars (Slot b slot) (layout.home target) moves ∷ [] else []) ≡ (if q then 1 else 0)
      by true = refl
      by false = refl

  -- the blocks of these slots
  length_from : (b : ℕ) (term : Terminator) (slot : ℕ) (rest : List ℕ) → splits_before b slot term moves + length (splits_from naming moves vars layout b (is_single term) slot rest) ≡ splits_before b (slot + length rest) term moves
  length_from b term slot [] = let z : slot ≡ slot + 0 = omega arith in omega (arith, ap (λ k. splits_before b k term moves) z)
  length_from b term slot (target ∷ rest) =
      let z : suc slot + length rest ≡ slot + suc (length rest) = omega arith in
      omega (arith, length-append (split_one naming moves vars layout b (is_single term) slot target) (splits_from naming moves vars layout b (is_single term) (suc slot) rest), length_one b slot target (is_single term), length_from b term (suc slot) rest, ap (λ k. splits_before b k term moves) z)

  pub length_splits : (b : ℕ) (term : Terminator) → length (split_blocks naming moves vars layout b term) ≡ splits_before b (length (targets term)) term moves
  length_splits b term =
      let z : 0 + length (targets term) ≡ length (targets term) = omega arith in
      omega (arith, length_from b term 0 (targets term), ap (λ k. splits_before b k term moves) z)

  one_there : (b slot target : ℕ) (single : Bool) → single ≡ false → has_groups (Slot b slot) moves ≡ true → split_one naming moves vars layout b single slot target ≡ split_block naming vars (Slot b slot) (layout.home target) moves ∷ []
  one_there b slot target true e e' = absurd cc
  one_there b slot target false e e' = ap (λ q. if q then split_block naming vars (Slot b slot) (layout.home target) moves ∷ [] else []) e'

  pub before_more : (b : ℕ) (term : Terminator) (slot j : ℕ) → slot ≤ j → splits_before b slot term moves ≤ splits_before b j term moves
  before_more b term slot zero le = let is : slot ≡ 0 = omega (arith, le) in omega (arith, ap (λ k. splits_before b k term moves) is)
  before_more b term slot (suc j) le = ⊎_elim
      (λ lt. omega (arith, before_more b term slot j (omega (arith, lt))))
      (λ ge. let is : slot ≡ suc j = omega (arith, ge, le) in omega (arith, ap (λ k. splits_before b k term moves) is))
      (cases_lt slot (suc j))

  -- the block of the slot j, in the list from the slot on
  split_at : (b j target : ℕ) (block : Block) → IsSplit moves b j target block → (slot : ℕ) (rest : List ℕ) (place : ℕ) → ((i : ℕ) → slice_get rest i ≡ slot_target block.term (slot + i)) → slot ≤ j → j < slot + length rest → splits_before b slot block.term moves + place ≡ splits_before b j block.term moves → slice_get (splits_from naming moves vars layout b (is_single block.term) slot rest) place ≡ Some (split_block naming vars (Slot b j) (layout.home target) moves)
  split_at b j target block split slot [] place suffix le lt at = absurd (omega (arith, le, lt))
  split_at b j target block split slot (to ∷ rest) place suffix le lt at =
      let first = split_one naming moves vars layout b (is_single block.term) slot to in
      let others = splits_from naming moves vars layout b (is_single block.term) (suc slot) rest in
      ⊎_elim
      (λ further.
      let le' : suc slot ≤ j = omega (arith, further) in
      let more = before_more b block.term (suc slot) j le' in
      let size = length_one b slot to (is_single block.term) in
      let place' = place - length first in
      let back : place ≡ length first + place' = omega (arith, at, more, size) in
      ap (slice_get (first ++ others)) back ∙ get_behind first others place'
      ∙ split_at b j target block split (suc slot) rest place' (λ i. let e : slot + suc i ≡ suc slot + i = omega arith in suffix (suc i) ∙ ap (slot_target block.term) e) le' (omega (arith, lt)) (omega (arith, at, more, size)))
      (λ here.
      let is : slot ≡ j = omega (arith, le, here) in
      let zero_place : place ≡ 0 = omega (arith, at, ap (λ k. splits_before b k block.term moves) is) in
      let z : slot + 0 ≡ j = omega (arith, is) in
      let same : to ≡ target = let both : Some to ≡ Some target = suffix 0 ∙ ap (slot_target block.term) z ∙ split.leads in cc in
      let one = one_there b slot to (is_single block.term) split.many (ap (λ k. has_groups (Slot b k) moves) is ∙ split.inserted) in
      ap (slice_get (first ++ others)) zero_place ∙ ap (λ l. slice_get (l ++ others) 0) one
      ∙ ap (λ t. Some (split_block naming vars (Slot b slot) (layout.home t) moves)) same
      ∙ ap (λ k. Some (split_block naming vars (Slot b k) (layout.home target) moves)) is)
      (cases_lt slot j)

  split_there : (b slot target : ℕ) (block : Block) → IsSplit moves b slot target block → slice_get (split_blocks naming moves vars layout b block.term) (splits_before b slot block.term moves) ≡ Some (split_block naming vars (Slot b slot) (layout.home target) moves)
  split_there b slot target block split =
      let within = slice_get_within (targets block.term) slot target split.leads in
      split_at b slot target block split 0 (targets block.term) (splits_before b slot block.term moves)
      (λ i. let e : i ≡ 0 + i = omega arith in ap (slot_target block.term) e) (omega arith) (omega (arith, within)) (omega arith)

  -- the blocks from the block c on
  pub home_step : (blocks : List Block) (c j : ℕ) → home_from moves c blocks (suc j) ≡ home_from moves c blocks j + block_count moves (c + j) (slice_get blocks j)
  home_step [] c zero = refl
  home_step [] c (suc j) = refl
  home_step (x ∷ xs) c zero =
      let n : c ≡ c + 0 = omega arith in
      omega (arith, ap (λ k. splits_before k (length (targets x.term)) x.term moves) n)
  home_step (x ∷ xs) c (suc j) =
      let n : suc c + j ≡ c + suc j = omega arith in
      omega (arith, home_step xs (suc c) j, ap (λ k. block_count moves k (slice_get xs j)) n)

  pub length_blocks : (blocks : List Block) (c : ℕ) → length (new_blocks naming moves vars layout c blocks) ≡ home_from moves c blocks (length blocks)
  length_blocks [] c = refl
  length_blocks (x ∷ xs) c =
      omega (arith, length_blocks xs (suc c), length-append (split_blocks naming moves vars layout c x.term) (new_blocks naming moves vars layout (suc c) xs), length_splits c x.term)

  get_next : (x : Block) (xs : List Block) (c n : ℕ) → slice_get (new_blocks naming moves vars layout c (x ∷ xs)) (suc (splits_before c (length (targets x.term)) x.term moves) + n) ≡ slice_get (new_blocks naming moves vars layout (suc c) xs) n
  get_next x xs c n =
      let splits = split_blocks naming moves vars layout c x.term in
      let e : suc (splits_before c (length (targets x.term)) x.term moves) + n ≡ suc (length splits + n) = omega (arith, length_splits c x.term) in
      ap (slice_get (new_blocks naming moves vars layout c (x ∷ xs))) e ∙ get_behind splits (new_blocks naming moves vars layout (suc c) xs) n

  block_there : (blocks : List Block) (c j : ℕ) (block : Block) → slice_get blocks j ≡ Some block → slice_get (new_blocks naming moves vars layout c blocks) (home_from moves c blocks j) ≡ Some (new_block naming moves vars layout (c + j) block)
  block_there [] c j block e = absurd cc
  block_there (x ∷ xs) c zero block e =
      let same : x ≡ block = cc in
      let n : c ≡ c + 0 = omega arith in
      ap (λ y. Some (new_block naming moves vars layout c y)) same ∙ ap (λ k. Some (new_block naming moves vars layout k block)) n
  block_there (x ∷ xs) c (suc j) block e =
      let n : suc c + j ≡ c + suc j = omega arith in
      get_next x xs c (home_from moves (suc c) xs j) ∙ block_there xs (suc c) j block e ∙ ap (λ k. Some (new_block naming moves vars layout k block)) n

  splits_there : (blocks : List Block) (c j slot target : ℕ) (block : Block) → slice_get blocks j ≡ Some block → IsSplit moves (c + j) slot target block → slice_get (new_blocks naming moves vars layout c blocks) (suc (home_from moves c blocks j) + splits_before (c + j) slot block.term moves) ≡ Some (split_block naming vars (Slot (c + j) slot) (layout.home target) moves)
  splits_there [] c j slot target block e split = absurd cc
  splits_there (x ∷ xs) c zero slot target block e split =
      let same : x ≡ block = cc in
      let n : c + 0 ≡ c = omega arith in
      let splits = split_blocks naming moves vars layout c x.term in
      let rest = new_blocks naming moves vars layout (suc c) xs in
      let split' = subst (λ k. IsSplit moves k slot target block) n split in
      let there = subst (λ y. slice_get (split_blocks naming moves vars layout c y.term) (splits_before c slot block.term moves) ≡ Some (split_block naming vars (Slot c slot) (layout.home target) moves)) (sym same) (split_there c slot target block split') in
      let place : suc 0 + splits_before (c + 0) slot block.term moves ≡ suc (splits_before c slot block.term moves) = omega (arith, ap (λ k. splits_before k slot block.term moves) n) in
      ap (slice_get (new_blocks naming moves vars layout c (x ∷ xs))) place
      ∙ get_within splits rest (splits_before c slot block.term moves) _ there
      ∙ ap (λ k. Some (split_block naming vars (Slot k slot) (layout.home target) moves)) (sym n)
  splits_there (x ∷ xs) c (suc j) slot target block e split =
      let n : c + suc j ≡ suc c + j = omega arith in
      let split' = subst (λ k. IsSplit moves k slot target block) n split in
      let place : suc (home_from moves c (x ∷ xs) (suc j)) + splits_before (c + suc j) slot block.term moves ≡ suc (splits_before c (length (targets x.term)) x.term moves) + (suc (home_from moves (suc c) xs j) + splits_before (suc c + j) slot block.term moves) =
      omega (arith, ap (λ k. splits_before k slot block.term moves) n) in
      ap (slice_get (new_blocks naming moves vars layout c (x ∷ xs))) place
      ∙ get_next x xs c _
      ∙ splits_there xs (suc c) j slot target block e split'
      ∙ ap (λ k. Some (split_block naming vars (Slot k slot) (layout.home target) moves)) (sym n)

function_applied : (plan : Plan) (function : Function) → FunctionApplied plan function (applied_function plan function)
function_applied plan function =
    let naming = plan.naming in
    let moves = plan.moves in
    let layout = layout_of moves function.blocks in
    let vars = length function.vars in
    let zero_more = λ (b : ℕ). let e : 0 + b ≡ b = omega arith in e in
    record {
      name = refl;
      ret = refl;
      params = refl;
      vars = refl;
      layout = layout;
      home_first = refl;
      home_next = λ b. home_step naming moves vars layout function.blocks 0 b ∙ ap (λ k. layout.home b + block_count moves k (slice_get function.blocks b)) (zero_more b);
      split_next = λ b slot. refl;
      ends = length_blocks naming moves vars layout function.blocks 0;
      blocks = λ b block there. (new_block naming moves vars layout b block, block_there naming moves vars layout function.blocks 0 b block there ∙ ap (λ k. Some (new_block naming moves vars layout k block)) (zero_more b), block_applied naming moves vars b block layout);
      splits = λ b slot target block there split.
          let at : layout.split b slot ≡ suc (layout.home b) + splits_before (0 + b) slot block.term moves = ap (λ o. suc (layout.home b) + splits_at moves b slot o) there ∙ ap (λ k. suc (layout.home b) + splits_before k slot block.term moves) (sym (zero_more b)) in
          ap (slice_get (new_blocks naming moves vars layout 0 function.blocks)) at
          ∙ splits_there naming moves vars layout function.blocks 0 b slot target block there (subst (λ k. IsSplit moves k slot target block) (sym (zero_more b)) split)
          ∙ ap (λ k. Some (split_block naming vars (Slot k slot) (layout.home target) moves)) (zero_more b);
    }

all_applied : (plans : ℕ → Plan) (i : ℕ) (functions : List Function) → AllApplied plans i functions (applied_from plans i functions)
all_applied plans i [] = tt
all_applied plans i (function ∷ functions) = (function_applied (plans i) function, all_applied plans (suc i) functions)

pub is_applied : (m : Program) (plans : ℕ → Plan) → IsApplied m plans (applied m plans)
is_applied m plans = record { globals = refl; functions = all_applied plans 0 m.functions }
