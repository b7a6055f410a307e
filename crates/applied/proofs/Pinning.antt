-- The relation on places leaves one module.
use Rattle.std.proofs.Common.{◌≡◌, ℕ, zero, suc, ◌+◌, ◌≤◌, Bool, true, false, if◌then◌else◌, List, [], ◌∷◌, ◌++◌, length, Option, Some, refl, sym, ap, ◌∙◌, subst, arith, append_assoc}
use Rattle.std.specs.Prelude.{slice_get}
use Rattle.std.proofs.lemmas.List.{append-nil}
use Rattle.mc_num.specs.declared.op.Width.{Width}
use Rattle.ir_types.specs.Program.{Program}
use Rattle.ir_types.specs.WellFormed.{targets}
use Rattle.ir_types.specs.declared.name.Name.{Name}
use Rattle.ir_types.specs.declared.syntax.Instr.{Instr}
use Rattle.ir_types.specs.declared.syntax.Terminator.{Terminator}
use Rattle.ir_types.specs.declared.syntax.Block.{Block}
use Rattle.ir_types.specs.declared.syntax.Function.{Function}
use Rattle.ir_types.specs.declared.syntax.Global.{Global}
use Rattle.point_graph.specs.Graph.{Place, Slot}
use Rattle.applied.specs.Motion.{slot_target, Move}
use Rattle.applied.specs.Applied.{Naming, Plan, StandsAt, groups_along, edges_before, copied, stores, has_groups, Layout, new_term, splits_before, is_single, splits_at, block_count, split_block, temporaries, BlockApplied, FunctionApplied, AllApplied, IsApplied}
use Rattle.applied.specs.Built.{start_of, number_of, text_from, new_block, split_one, splits_from, split_blocks, new_blocks, home_from, layout_of, applied_function, applied_from, applied}
use Rattle.applied.proofs.Building.{home_step}

-- functions with the same values are the same
same_function : {X Y : Type 0} (f g : X → Y) → ((x : X) → f x ≡ g x) → f ≡ g
same_function f g same = λ i. λ x. same x i

abbrev behind : {X : Type 0} → ℕ → List X → List X
behind zero l = l
behind (suc n) [] = []
behind (suc n) (x ∷ xs) = behind n xs

behind_get : {X : Type 0} (l : List X) (n : ℕ) (x : X) → slice_get l n ≡ Some x → behind n l ≡ x ∷ behind (suc n) l
behind_get [] n x e = absurd cc
behind_get (y ∷ ys) zero x e = let same : y ≡ x = cc in ap (λ z. z ∷ ys) same
behind_get (y ∷ ys) (suc n) x e = behind_get ys n x e

behind_end : {X : Type 0} (l : List X) (n : ℕ) → length l ≤ n → behind n l ≡ []
behind_end [] zero le = refl
behind_end [] (suc n) le = refl
behind_end (x ∷ xs) zero le = absurd (omega (arith, le))
behind_end (x ∷ xs) (suc n) le = behind_end xs n (omega (arith, le))

behind_stands : (l : List Instr) (n : ℕ) (instrs' : List Instr) → StandsAt l n instrs' → behind n l ≡ instrs' ++ behind (n + length instrs') l
behind_stands l n [] stands = let e : n ≡ n + 0 = omega arith in ap (λ k. behind k l) e
behind_stands l n (instr ∷ instrs') stands =
    let e : suc n + length instrs' ≡ n + suc (length instrs') = omega arith in
    behind_get l n instr stands.0 ∙ ap (λ rest. instr ∷ rest) (behind_stands l (suc n) instrs' stands.1 ∙ ap (λ k. instrs' ++ behind k l) e)

abbrev block_of : Name → List Instr → Terminator → Block
block_of name instrs term = record { name = name; instrs = instrs; term = term }

module _ (naming : Naming) (moves : List Move) (vars b : ℕ) (block block' : Block) (layout : Layout) (text : BlockApplied naming moves vars layout b block block') where
  abbrev number : ℕ → ℕ
  number = number_of naming moves vars b block

  starts : (k : ℕ) → text.start k ≡ start_of naming moves vars b block k
  starts zero = text.start_zero
  starts (suc k) =
      let same : text.number k ≡ number k = text.number_is k ∙ ap (λ n. n + length (groups_along naming n vars (edges_before b k block) moves)) (starts k) in
      text.start_next k ∙ ap (λ n. suc n + length (stores vars n b k moves)) same

  numbers : (k : ℕ) → text.number k ≡ number k
  numbers k = text.number_is k ∙ ap (λ n. n + length (groups_along naming n vars (edges_before b k block) moves)) (starts k)

  all_numbers : text.number ≡ number
  all_numbers = same_function text.number number numbers

  abbrev groups_at : ℕ → List Instr
  groups_at k = groups_along naming (start_of naming moves vars b block k) vars (edges_before b k block) moves

  abbrev copy_at : ℕ → Instr → List Instr
  copy_at k instr = copied vars number (Place b k) instr moves ∷ stores vars (number k) b k moves

  groups_first : (k : ℕ) → k ≤ length block.instrs → behind (start_of naming moves vars b block k) block'.instrs ≡ groups_at k ++ behind (number k) block'.instrs
  groups_first k le =
      behind_stands block'.instrs (start_of naming moves vars b block k) (groups_at k)
      (subst (λ n. StandsAt block'.instrs n (groups_along naming n vars (edges_before b k block) moves)) (starts k) (text.groups_stand k le))

  text_is : (instrs' : List Instr) (k : ℕ) → ((i : ℕ) → slice_get instrs' i ≡ slice_get block.instrs (k + i)) → k + length instrs' ≡ length block.instrs → behind (start_of naming moves vars b block k) block'.instrs ≡ text_from naming moves vars b block k instrs'
  text_is [] k suffix count =
      let end : k ≡ length block.instrs = omega (arith, count) in
      let nothing : behind (number k) block'.instrs ≡ [] = behind_end block'.instrs (number k) (omega (arith, text.ends, numbers (length block.instrs), ap number end)) in
      groups_first k (omega (arith, count)) ∙ ap (λ rest. groups_at k ++ rest) nothing ∙ append-nil (groups_at k)
  text_is (instr ∷ instrs') k suffix count =
      let z : k + 0 ≡ k = omega arith in
      let here : slice_get block.instrs k ≡ Some instr = sym (suffix 0 ∙ ap (slice_get block.instrs) z) in
      let stands : StandsAt block'.instrs (number k) (copy_at k instr) =
      subst (λ num. StandsAt block'.instrs (num k) (copied vars num (Place b k) instr moves ∷ stores vars (num k) b k moves)) all_numbers (text.copy_stands k instr here) in
      let next : number k + length (copy_at k instr) ≡ start_of naming moves vars b block (suc k) = omega arith in
      let rest = text_is instrs' (suc k) (λ i. let e : k + suc i ≡ suc k + i = omega arith in suffix (suc i) ∙ ap (slice_get block.instrs) e) (omega (arith, count)) in
      groups_first k (omega (arith, count))
      ∙ ap (λ l. groups_at k ++ l) (behind_stands block'.instrs (number k) (copy_at k instr) stands ∙ ap (λ n. copy_at k instr ++ behind n block'.instrs) next ∙ ap (λ l. copy_at k instr ++ l) rest)

  block_is : block' ≡ new_block naming moves vars layout b block
  block_is =
      let instrs = text_is block.instrs 0 (λ i. let e : i ≡ 0 + i = omega arith in ap (slice_get block.instrs) e) (omega arith) in
      ap (λ name. block_of name block'.instrs block'.term) text.name ∙ ap (λ l. block_of block.name l block'.term) instrs ∙ ap (block_of block.name (text_from naming moves vars b block 0 block.instrs)) (text.term ∙ ap (λ num. new_term num layout b block.term moves) all_numbers)

abbrev layout_by : (ℕ → ℕ) → (ℕ → ℕ → ℕ) → Layout
layout_by home split = record { home = home; split = split }

module _ (plan : Plan) (function function' : Function) (is : FunctionApplied plan function function') where
  abbrev naming : Naming
  naming = plan.naming

  abbrev moves : List Move
  moves = plan.moves

  abbrev vars : ℕ
  vars = length function.vars

  abbrev layout : Layout
  layout = is.layout

  homes : (b : ℕ) → layout.home b ≡ home_from moves 0 function.blocks b
  homes zero = is.home_first
  homes (suc b) =
      let z : 0 + b ≡ b = omega arith in
      is.home_next b ∙ ap (λ n. n + block_count moves b (slice_get function.blocks b)) (homes b)
      ∙ sym (home_step naming moves vars layout function.blocks 0 b ∙ ap (λ c. home_from moves 0 function.blocks b + block_count moves c (slice_get function.blocks b)) z)

  layout_is : layout ≡ layout_of moves function.blocks
  layout_is =
      let split = λ (b : ℕ). same_function (layout.split b) (λ slot. suc (home_from moves 0 function.blocks b) + splits_at moves b slot (slice_get function.blocks b))
      (λ slot. is.split_next b slot ∙ ap (λ n. suc n + splits_at moves b slot (slice_get function.blocks b)) (homes b)) in
      ap (λ home. layout_by home layout.split) (same_function layout.home (home_from moves 0 function.blocks) homes)
      ∙ ap (layout_by (home_from moves 0 function.blocks)) (same_function layout.split (λ b slot. suc (home_from moves 0 function.blocks b) + splits_at moves b slot (slice_get function.blocks b)) split)

  one_is : (b slot target n : ℕ) (block : Block) → slice_get function.blocks b ≡ Some block → slot_target block.term slot ≡ Some target → layout.split b slot ≡ n → (single : Bool) → is_single block.term ≡ single → (q : Bool) → has_groups (Slot b slot) moves ≡ q → behind n function'.blocks ≡ (if single then [] else (if q then split_block naming vars (Slot b slot) (layout.home target) moves ∷ [] else [])) ++ behind (n + (if single then 0 else (if q then 1 else 0))) function'.blocks
  one_is b slot target n block there leads at true single q e = let z : n ≡ n + 0 = omega arith in ap (λ k. behind k function'.blocks) z
  one_is b slot target n block there leads at false single true q =
      let e : suc n ≡ n + 1 = omega arith in
      behind_get function'.blocks n _ (ap (slice_get function'.blocks) (sym at) ∙ is.splits b slot target block there (record { leads = leads; many = single; inserted = q }))
      ∙ ap (λ k. split_block naming vars (Slot b slot) (layout.home target) moves ∷ behind k function'.blocks) e
  one_is b slot target n block there leads at false single false q = let e : n ≡ n + 0 = omega arith in ap (λ k. behind k function'.blocks) e

  slots_are : (b : ℕ) (block : Block) → slice_get function.blocks b ≡ Some block → (slot : ℕ) (rest : List ℕ) → ((i : ℕ) → slice_get rest i ≡ slot_target block.term (slot + i)) → behind (suc (layout.home b) + splits_before b slot block.term moves) function'.blocks ≡ splits_from naming moves vars layout b (is_single block.term) slot rest ++ behind (suc (layout.home b) + splits_before b (slot + length rest) block.term moves) function'.blocks
  slots_are b block there slot [] suffix =
      let z : slot ≡ slot + 0 = omega arith in ap (λ k. behind (suc (layout.home b) + splits_before b k block.term moves) function'.blocks) z
  slots_are b block there slot (target ∷ rest) suffix =
      let h = suc (layout.home b) in
      let term = block.term in
      let start : slot + 0 ≡ slot = omega arith in
      let leads : slot_target term slot ≡ Some target = sym (suffix 0 ∙ ap (slot_target term) start) in
      let first = split_one naming moves vars layout b (is_single term) slot target in
      let place = h + splits_before b slot term moves in
      let at : layout.split b slot ≡ place = is.split_next b slot ∙ ap (λ o. h + splits_at moves b slot o) there in
      let next : place + (if is_single term then 0 else (if has_groups (Slot b slot) moves then 1 else 0)) ≡ h + splits_before b (suc slot) term moves = omega arith in
      let z : suc slot + length rest ≡ slot + suc (length rest) = omega arith in
      let last = λ (k : ℕ). behind (h + splits_before b k term moves) function'.blocks in
      let others = splits_from naming moves vars layout b (is_single term) (suc slot) rest in
      one_is b slot target place block there leads at _ refl _ refl
      ∙ ap (λ k. first ++ behind k function'.blocks) next
      ∙ ap (λ l. first ++ l) (slots_are b block there (suc slot) rest (λ i. let e : slot + suc i ≡ suc slot + i = omega arith in suffix (suc i) ∙ ap (slot_target term) e) ∙ ap (λ k. others ++ last k) z)
      ∙ sym (append_assoc first others (last (slot + suc (length rest))))

  splits_are : (b : ℕ) (block : Block) → slice_get function.blocks b ≡ Some block → behind (suc (layout.home b)) function'.blocks ≡ split_blocks naming moves vars layout b block.term ++ behind (layout.home (suc b)) function'.blocks
  splits_are b block there =
      let count = length (targets block.term) in
      let z : suc (layout.home b) ≡ suc (layout.home b) + splits_before b 0 block.term moves = omega arith in
      let c : 0 + count ≡ count = omega arith in
      let e : suc (layout.home b) + splits_before b (0 + count) block.term moves ≡ layout.home (suc b) =
      omega (arith, is.home_next b ∙ ap (λ o. layout.home b + block_count moves b o) there, ap (λ k. splits_before b k block.term moves) c) in
      ap (λ k. behind k function'.blocks) z ∙ slots_are b block there 0 (targets block.term) (λ i. let e : i ≡ 0 + i = omega arith in ap (slot_target block.term) e)
      ∙ ap (λ k. split_blocks naming moves vars layout b block.term ++ behind k function'.blocks) e

  blocks_are : (blocks : List Block) (c : ℕ) → ((i : ℕ) → slice_get blocks i ≡ slice_get function.blocks (c + i)) → c + length blocks ≡ length function.blocks → behind (layout.home c) function'.blocks ≡ new_blocks naming moves vars layout c blocks
  blocks_are [] c suffix count =
      let end : c ≡ length function.blocks = omega (arith, count) in
      behind_end function'.blocks (layout.home c) (omega (arith, is.ends, ap layout.home end))
  blocks_are (block ∷ blocks) c suffix count =
      let z : c + 0 ≡ c = omega arith in
      let there : slice_get function.blocks c ≡ Some block = sym (suffix 0 ∙ ap (slice_get function.blocks) z) in
      let new = is.blocks c block there in
      let rest = blocks_are blocks (suc c) (λ i. let e : c + suc i ≡ suc c + i = omega arith in suffix (suc i) ∙ ap (slice_get function.blocks) e) (omega (arith, count)) in
      behind_get function'.blocks (layout.home c) new.0 new.1
      ∙ ap (λ x. x ∷ behind (suc (layout.home c)) function'.blocks) (block_is naming moves vars c block new.0 layout new.2)
      ∙ ap (λ l. new_block naming moves vars layout c block ∷ l) (splits_are c block there ∙ ap (λ l. split_blocks naming moves vars layout c block.term ++ l) rest)

  abbrev function_of : List ℕ → Option Width → List (Width × Name) → List (Width × Name) → List Block → Function
  function_of name ret params vars blocks = record { name = name; ret = ret; params = params; vars = vars; blocks = blocks }

  function_is : function' ≡ applied_function plan function
  function_is =
      let blocks = ap (λ n. behind n function'.blocks) (sym is.home_first) ∙ blocks_are function.blocks 0 (λ i. let e : i ≡ 0 + i = omega arith in ap (slice_get function.blocks) e) (omega arith)
      ∙ ap (λ layout. new_blocks naming moves vars layout 0 function.blocks) layout_is in
      ap (λ n. function_of n function'.ret function'.params function'.vars function'.blocks) is.name
      ∙ ap (λ r. function_of function.name r function'.params function'.vars function'.blocks) is.ret
      ∙ ap (λ p. function_of function.name function.ret p function'.vars function'.blocks) is.params
      ∙ ap (λ v. function_of function.name function.ret function.params v function'.blocks) is.vars
      ∙ ap (function_of function.name function.ret function.params (function.vars ++ temporaries naming moves)) blocks

functions_are : (plans : ℕ → Plan) (i : ℕ) (fs gs : List Function) → AllApplied plans i fs gs → gs ≡ applied_from plans i fs
functions_are plans i [] [] all = refl
functions_are plans i (f ∷ fs) (g ∷ gs) all =
    ap (λ x. x ∷ gs) (function_is (plans i) f g all.0) ∙ ap (λ l. applied_function (plans i) f ∷ l) (functions_are plans (suc i) fs gs all.1)
functions_are plans i [] (g ∷ gs) all = absurd all
functions_are plans i (f ∷ fs) [] all = absurd all

abbrev program_of : List Global → List Function → Program
program_of globals functions = record { globals = globals; functions = functions }

pub one_module : (m : Program) (plans : ℕ → Plan) (m' : Program) → IsApplied m plans m' → m' ≡ applied m plans
one_module m plans m' all =
    ap (λ globals. program_of globals m'.functions) all.globals ∙ ap (program_of m.globals) (functions_are plans 0 m.functions m'.functions all.functions)
