-- How much the tree of a function has.
use Rattle.std.proofs.Common.{◌≡◌, ◌≤◌, ◌+◌, ◌^◌, ◌++◌, ◌||◌, not, nat_lt, ℕ, suc, Bool, true, false, List, [], ◌∷◌, Option, None, Some, length, cond, refl, ap, subst, sym, ◌∙◌, arith}
use Rattle.std.specs.List.{AllZip, count_by, sum_by}
use Rattle.std.proofs.lemmas.List.Sums.{sum_by-append, sum_by-cons}
use Rattle.std.proofs.lemmas.Bool.Decides.{nat_tests}
use Rattle.mc_num.specs.declared.op.Width.{Width}
use Rattle.ir_types.specs.Program.{Program}
use Rattle.ir_types.specs.Limits.{is_alloca, slot_count, raw_slot_count, is_above, is_above_limits, IsWithinLimits}
use Rattle.ir_types.specs.TreeOf.{IsTreeAlloca, IsTreeInstr, IsTreeTerm, IsTreeBlock, IsTreeCase}
use Rattle.ir_types.specs.declared.name.Name.{Name}
use Rattle.ir_types.specs.declared.syntax.Block.{Block}
use Rattle.ir_types.specs.declared.syntax.Function.{Function}
use Rattle.ir_types.specs.declared.syntax.Instr.{Instr}
use Rattle.ir_types.specs.declared.syntax.Operand.{Operand}
use Rattle.ir_types.specs.declared.syntax.Terminator.{Terminator}
use Rattle.ir_types.specs.declared.syntax.Terminator.TheVariants.{Return, Jump, Branch, Switch, Unreachable}
use Rattle.ir_types.specs.declared.tree.RawBlock.{RawBlock}
use Rattle.ir_types.specs.declared.tree.RawFunction.{RawFunction}
use Rattle.ir_types.specs.declared.tree.RawInstr.{RawInstr}
use Rattle.ir_types.specs.declared.tree.RawTerm.{RawTerm}
use Rattle.ir_types.specs.declared.tree.RawTerm.TheVariants as terms
use Rattle.module_trees.proofs.Doing.{shaped}
use Rattle.module_trees.proofs.Lists.{same_length}

-- ---- instructions

-- so many allocas and so many other instructions
record Counts (xs : List RawInstr) (allocas others : ℕ) : Type 0 where
  are_allocas : count_by (λ x. is_alloca x.kind) xs ≡ allocas
  are_others : count_by (λ x. not (is_alloca x.kind)) xs ≡ others

none_counted : Counts [] 0 0
none_counted = record { are_allocas = refl; are_others = refl }

one_more : (p : RawInstr → Bool) (x : RawInstr) (xs : List RawInstr) (b : Bool) → p x ≡ b → count_by p (x ∷ xs) ≡ cond b 1 0 + count_by p xs
one_more p x xs b e = sum_by-cons (λ (y : RawInstr). cond (p y) 1 0) x xs ∙ ap (λ (t : Bool). cond t 1 0 + count_by p xs) e

more_yes : (p : RawInstr → Bool) (x : RawInstr) (xs : List RawInstr) (n : ℕ) → p x ≡ true → count_by p xs ≡ n → count_by p (x ∷ xs) ≡ suc n
more_yes p x xs n e h = let more : count_by p (x ∷ xs) ≡ 1 + count_by p xs = one_more p x xs true e in omega (arith, more, h)

more_no : (p : RawInstr → Bool) (x : RawInstr) (xs : List RawInstr) (n : ℕ) → p x ≡ false → count_by p xs ≡ n → count_by p (x ∷ xs) ≡ n
more_no p x xs n e h = let more : count_by p (x ∷ xs) ≡ 0 + count_by p xs = one_more p x xs false e in omega (arith, more, h)

alloca_more : (x : RawInstr) (xs : List RawInstr) (n : ℕ) → is_alloca x.kind ≡ true → Counts xs n 0 → Counts (x ∷ xs) (suc n) 0
alloca_more x xs n e h = record {
  are_allocas = more_yes (λ y. is_alloca y.kind) x xs n e h.are_allocas;
  are_others = more_no (λ y. not (is_alloca y.kind)) x xs 0 (ap not e) h.are_others;
}

other_more : (x : RawInstr) (xs : List RawInstr) (n : ℕ) → is_alloca x.kind ≡ false → Counts xs 0 n → Counts (x ∷ xs) 0 (suc n)
other_more x xs n e h = record {
  are_allocas = more_no (λ y. is_alloca y.kind) x xs 0 e h.are_allocas;
  are_others = more_yes (λ y. not (is_alloca y.kind)) x xs n (ap not e) h.are_others;
}

of_allocas : (vars : List (Width × Name)) (xs : List RawInstr) → AllZip IsTreeAlloca vars xs → Counts xs (length vars) 0
of_allocas [] [] h = none_counted
of_allocas [] (x ∷ xs) h = elim h [ ]
of_allocas (v ∷ vars) [] h = elim h [ ]
of_allocas (v ∷ vars) (x ∷ xs) h = alloca_more x xs (length vars) (ap is_alloca h.0.kind) (of_allocas vars xs h.1)

module _ (m : Program) (f : Function) where
  of_others : (b : Block) (is : List Instr) (xs : List RawInstr) → AllZip (IsTreeInstr m f b) is xs → Counts xs 0 (length is)
  of_others b [] [] h = none_counted
  of_others b [] (x ∷ xs) h = elim h [ ]
  of_others b (i ∷ is) [] h = elim h [ ]
  of_others b (i ∷ is) (x ∷ xs) h = other_more x xs (length is) (shaped m f b i.kind x.kind h.0.kind).alloca (of_others b is xs h.1)

  of_instrs : (vars : List (Width × Name)) (b : Block) (x : RawBlock) → IsTreeBlock m f vars b x → Counts x.instrs (length vars) (length b.instrs)
  of_instrs vars b x t =
      let one = of_allocas vars t.allocas t.are_allocas in
      let two = of_others b b.instrs t.others t.are_others in
      let sum_allocas = sum_by-append (λ (y : RawInstr). cond (is_alloca y.kind) 1 0) t.allocas t.others in
      let sum_others = sum_by-append (λ (y : RawInstr). cond (not (is_alloca y.kind)) 1 0) t.allocas t.others in
      let whole : Counts (t.allocas ++ t.others) (length vars) (length b.instrs) = record {
        are_allocas = omega (arith, sum_allocas, one.are_allocas, two.are_allocas);
        are_others = omega (arith, sum_others, one.are_others, two.are_others);
      } in
      subst (λ xs. Counts xs (length vars) (length b.instrs)) (sym t.instrs) whole

  -- ---- terminators

  of_return : (b : Block) (v : Option Operand) (x : RawTerm) → IsTreeTerm f b (Return v) x → raw_slot_count x ≡ 0
  of_return b None (terms.Return None) t = refl
  of_return b (Some o) (terms.Return (Some v)) t = refl
  of_return b None _ t = elim t [ ]
  of_return b (Some o) _ t = elim t [ ]

  of_jump : (b : Block) (k : ℕ) (x : RawTerm) → IsTreeTerm f b (Jump k) x → raw_slot_count x ≡ 1
  of_jump b k (terms.Jump l) t = refl
  of_jump b k _ t = elim t [ ]

  of_branch : (b : Block) (o : Operand) (j k : ℕ) (x : RawTerm) → IsTreeTerm f b (Branch o j k) x → raw_slot_count x ≡ 2
  of_branch b o j k (terms.Branch v l r) t = refl
  of_branch b o j k _ t = elim t [ ]

  of_switch : (b : Block) (w : Width) (o : Operand) (k : ℕ) (cs : List (ℕ × ℕ)) (x : RawTerm) → IsTreeTerm f b (Switch w o k cs) x → raw_slot_count x ≡ 1 + length cs
  of_switch b w o k cs (terms.Switch v y l xs) t = omega (arith, same_length (IsTreeCase f w) cs xs t.3)
  of_switch b w o k cs _ t = elim t [ ]

  of_unreachable : (b : Block) (x : RawTerm) → IsTreeTerm f b Unreachable x → raw_slot_count x ≡ 0
  of_unreachable b terms.Unreachable t = refl
  of_unreachable b _ t = elim t [ ]

  of_term : (b : Block) (t : Terminator) (x : RawTerm) → IsTreeTerm f b t x → raw_slot_count x ≡ slot_count t
  of_term b (Return v) x h = of_return b v x h
  of_term b (Jump k) x h = of_jump b k x h
  of_term b (Branch o j k) x h = of_branch b o j k x h
  of_term b (Switch w o k cs) x h = of_switch b w o k cs x h
  of_term b Unreachable x h = of_unreachable b x h

  -- ---- blocks

  -- as many instructions, blocks and slots as these blocks, and so many allocas
  record BlocksCount (bs : List Block) (xs : List RawBlock) (vars : ℕ) : Type 0 where
    instrs : sum_by (λ b. count_by (λ x. not (is_alloca x.kind)) b.instrs) xs ≡ sum_by (λ b. length b.instrs) bs
    blocks : length xs ≡ length bs
    slots : sum_by (λ b. raw_slot_count b.term) xs ≡ sum_by (λ b. slot_count b.term) bs
    variables : sum_by (λ b. count_by (λ x. is_alloca x.kind) b.instrs) xs ≡ vars

  no_blocks : BlocksCount [] [] 0
  no_blocks = record { instrs = refl; blocks = refl; slots = refl; variables = refl }

  block_more : (vars : List (Width × Name)) (b : Block) (x : RawBlock) (bs : List Block) (xs : List RawBlock) → IsTreeBlock m f vars b x → BlocksCount bs xs 0
      → BlocksCount (b ∷ bs) (x ∷ xs) (length vars)
  block_more vars b x bs xs t more =
      let one = of_instrs vars b x t in
      record {
        instrs = omega (
          arith,
          one.are_others,
          more.instrs,
          sum_by-cons (λ (y : RawBlock). count_by (λ (z : RawInstr). not (is_alloca z.kind)) y.instrs) x xs,
          sum_by-cons (λ (y : Block). length y.instrs) b bs,
        );
        blocks = omega (arith, more.blocks);
        slots = omega (
          arith,
          of_term b b.term x.term t.term,
          more.slots,
          sum_by-cons (λ (y : RawBlock). raw_slot_count y.term) x xs,
          sum_by-cons (λ (y : Block). slot_count y.term) b bs,
        );
        variables = omega (arith, one.are_allocas, more.variables, sum_by-cons (λ (y : RawBlock). count_by (λ (z : RawInstr). is_alloca z.kind) y.instrs) x xs);
      }

  of_blocks : (bs : List Block) (xs : List RawBlock) → AllZip (IsTreeBlock m f []) bs xs → BlocksCount bs xs 0
  of_blocks [] [] h = no_blocks
  of_blocks [] (x ∷ xs) h = elim h [ ]
  of_blocks (b ∷ bs) [] h = elim h [ ]
  of_blocks (b ∷ bs) (x ∷ xs) h = block_more [] b x bs xs h.0 (of_blocks bs xs h.1)

  not_above : (n limit : ℕ) → n ≤ limit → nat_lt limit n ≡ false
  not_above n limit h = grind (arith, nat_tests)

  none_above : (instrs blocks slots variables : ℕ) → instrs ≤ 2 ^ 18 → blocks ≤ 2 ^ 16 → slots ≤ 2 ^ 17 → variables ≤ 2 ^ 20 → is_above instrs blocks slots variables ≡ false
  none_above instrs blocks slots variables g h i j =
      let one = not_above instrs (2 ^ 18) g in
      let two = not_above blocks (2 ^ 16) h in
      let three = not_above slots (2 ^ 17) i in
      let four = not_above variables (2 ^ 20) j in
      λ k. one k || two k || three k || four k

  pub within : (b : Block) (bs : List Block) (x : RawFunction) (y : RawBlock) (ys : List RawBlock) → f.blocks ≡ b ∷ bs → x.blocks ≡ y ∷ ys → IsTreeBlock m f f.vars b y
      → AllZip (IsTreeBlock m f []) bs ys → IsWithinLimits f → is_above_limits x ≡ false
  within b bs x y ys e g t ts few =
      let count : BlocksCount (b ∷ bs) (y ∷ ys) (length f.vars) = block_more f.vars b y bs ys t (of_blocks bs ys ts) in
      let counts : BlocksCount f.blocks x.blocks (length f.vars) =
      subst (λ cs. BlocksCount cs x.blocks (length f.vars)) (sym e) (subst (λ zs. BlocksCount (b ∷ bs) zs (length f.vars)) (sym g) count) in
      (λ i. is_above (counts.instrs i) (counts.blocks i) (counts.slots i) (counts.variables i)) ∙ none_above _ _ _ _ few.instrs few.blocks few.slots few.vars
