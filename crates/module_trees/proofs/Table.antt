-- What the names of a function mean, one by one in text order, and that a look-up finds each of them.
use Rattle.std.proofs.Common.{◌≡◌, ◌+◌, ◌++◌, ℕ, zero, suc, List, [], ◌∷◌, Option, None, Some, slice_get, sym, subst, append-nil, arith}
use Rattle.std.specs.List.{IsDistinct}
use Rattle.std.specs.Map.{keys_of}
use Rattle.std.proofs.lemmas.Map.Entries.{lookup_from_place}
use Rattle.mc_num.specs.declared.op.Width.{Width}
use Rattle.ir_types.specs.Names.{spelled}
use Rattle.ir_types.specs.Definitions.{Defined, same_name, meaning_of}
use Rattle.ir_types.specs.TreeOf.{type_tree}
use Rattle.ir_types.specs.WellFormed.{Scope, given_by}
use Rattle.ir_types.specs.declared.name.Name.{Name}
use Rattle.ir_types.specs.declared.rules.Meaning.{Meaning}
use Rattle.ir_types.specs.declared.rules.Meaning.TheVariants as meaning
use Rattle.ir_types.specs.declared.syntax.Block.{Block}
use Rattle.ir_types.specs.declared.syntax.Function.{Function}
use Rattle.ir_types.specs.declared.syntax.Instr.{Instr}
use Rattle.ir_types.specs.declared.syntax.Kind.{Kind}
use Rattle.ir_types.specs.declared.tree.Ty.TheVariants.{Int}
use Rattle.module_trees.proofs.Names.{name_equivalence}
use Rattle.module_trees.proofs.Ready.{IsReady}

-- what the names of a list mean, where each item has such a name and means so with its number, counted from this number
abbrev pub listed : {X : Type 0} → (X → Name) → (ℕ → X → Meaning) → ℕ → List X → List (Name × Meaning)
listed name means i [] = []
listed name means i (x ∷ xs) = (name x, means i x) ∷ listed name means (i + 1) xs

-- the same of names with widths
abbrev pub numbered : (ℕ → Width → Meaning) → ℕ → List (Width × Name) → List (Name × Meaning)
numbered means i xs = listed (λ x. spelled x.1) (λ k x. means k x.0) i xs

-- the register of an instruction, if it has a name
abbrev pub with_register : Scope → ℕ → ℕ → Kind → Option Name → List (Name × Meaning) → List (Name × Meaning)
with_register s k i kind None rest = rest
with_register s k i kind (Some n) rest = (spelled n, meaning.Register k i (type_tree (given_by s kind))) ∷ rest

-- what the names of the results of block k mean, counted from this number
abbrev pub registers_from : Scope → ℕ → ℕ → List Instr → List (Name × Meaning)
registers_from s k i [] = []
registers_from s k i (x ∷ xs) = with_register s k i x.kind x.result (registers_from s k (i + 1) xs)

abbrev pub variables_from : ℕ → List (Width × Name) → List (Name × Meaning)
variables_from i xs = numbered meaning.Variable i xs

-- what the names of a block with these variables mean
abbrev pub of_block : Scope → ℕ → List (Width × Name) → Block → List (Name × Meaning)
of_block s k vars b = (spelled b.name, meaning.Block k) ∷ (variables_from 0 vars ++ registers_from s k 0 b.instrs)

-- what the names of blocks without variables mean, of which the first has number k
abbrev pub of_blocks : Scope → ℕ → List Block → List (Name × Meaning)
of_blocks s k [] = []
of_blocks s k (b ∷ bs) = of_block s k [] b ++ of_blocks s (k + 1) bs

abbrev pub of_body : Scope → List (Width × Name) → List Block → List (Name × Meaning)
of_body s vars [] = []
of_body s vars (b ∷ bs) = of_block s 0 vars b ++ of_blocks s 1 bs

abbrev pub of_function : Scope → Function → List (Name × Meaning)
of_function s f = numbered meaning.Parameter 0 f.params ++ of_body s f.vars f.blocks

-- ---- places

-- a name with its meaning stands at a place
pub record IsPlaced (es : List (Name × Meaning)) (n : Name) (m : Meaning) : Type 0 where
  pub place : ℕ
  pub is : slice_get es place ≡ Some (n, m)

behind : (e : Name × Meaning) (es : List (Name × Meaning)) (n : Name) (m : Meaning) → IsPlaced es n m → IsPlaced (e ∷ es) n m
behind e es n m h = record { place = suc h.place; is = h.is }

pub behind_all : (front es : List (Name × Meaning)) (n : Name) (m : Meaning) → IsPlaced es n m → IsPlaced (front ++ es) n m
behind_all [] es n m h = h
behind_all (e ∷ front) es n m h = behind e (front ++ es) n m (behind_all front es n m h)

in_front : (front es : List (Name × Meaning)) (n : Name) (m : Meaning) → (i : ℕ) → slice_get front i ≡ Some (n, m) → IsPlaced (front ++ es) n m
in_front [] es n m i h = cc
in_front (e ∷ front) es n m zero h = record { place = 0; is = h }
in_front (e ∷ front) es n m (suc i) h = behind e (front ++ es) n m (in_front front es n m i h)

pub before_all : (front es : List (Name × Meaning)) (n : Name) (m : Meaning) → IsPlaced front n m → IsPlaced (front ++ es) n m
before_all front es n m h = in_front front es n m h.place h.is

at_head : (es : List (Name × Meaning)) (n : Name) (m : Meaning) → IsPlaced ((n, m) ∷ es) n m
at_head es n m = record { place = 0; is = λ i. Some (n, m) }

pub listed_placed : {X : Type 0} (name : X → Name) (means : ℕ → X → Meaning) (i : ℕ) (xs : List X) (j : ℕ) (x : X) → slice_get xs j ≡ Some x
    → IsPlaced (listed name means i xs) (name x) (means (i + j) x)
listed_placed name means i [] j x h = cc
listed_placed {X} name means i (y ∷ ys) zero x h =
    let same : y ≡ x = cc in
    let number : i ≡ i + 0 = omega arith in
    subst (λ (z : X). IsPlaced (listed name means i (y ∷ ys)) (name z) (means (i + 0) z)) same
    (subst (λ k. IsPlaced (listed name means i (y ∷ ys)) (name y) (means k y)) number (at_head (listed name means (i + 1) ys) (name y) (means i y)))
listed_placed name means i (y ∷ ys) (suc j) x h =
    let number : (i + 1) + j ≡ i + suc j = omega arith in
    subst (λ k. IsPlaced (listed name means i (y ∷ ys)) (name x) (means k x)) number
    (behind (name y, means i y) (listed name means (i + 1) ys) (name x) (means ((i + 1) + j) x) (listed_placed name means (i + 1) ys j x h))

-- counted from 0, an item has the number of its place
pub item_placed : {X : Type 0} (name : X → Name) (means : ℕ → X → Meaning) (xs : List X) (j : ℕ) (x : X) → slice_get xs j ≡ Some x → IsPlaced (listed name means 0 xs) (name x) (means j x)
item_placed name means xs j x h =
    let number : 0 + j ≡ j = omega arith in
    subst (λ k. IsPlaced (listed name means 0 xs) (name x) (means k x)) number (listed_placed name means 0 xs j x h)

behind_register : (s : Scope) (k i : ℕ) (kind : Kind) (o : Option Name) (es : List (Name × Meaning)) (n : Name) (m : Meaning) → IsPlaced es n m → IsPlaced (with_register s k i kind o es) n m
behind_register s k i kind None es n m h = h
behind_register s k i kind (Some x) es n m h = behind (spelled x, meaning.Register k i (type_tree (given_by s kind))) es n m h

module _ (s : Scope) (k : ℕ) where
  register_here : (i : ℕ) (x : Instr) (rest : List (Name × Meaning)) (n : Name) (w : Width) → x.result ≡ Some n → given_by s x.kind ≡ Some w
      → IsPlaced (with_register s k i x.kind x.result rest) (spelled n) (meaning.Register k i (Int w))
  register_here i x rest n w named gives =
      subst (λ o. IsPlaced (with_register s k i x.kind o rest) (spelled n) (meaning.Register k i (Int w))) (sym named)
      (subst (λ g. IsPlaced ((spelled n, meaning.Register k i (type_tree g)) ∷ rest) (spelled n) (meaning.Register k i (Int w))) (sym gives)
      (at_head rest (spelled n) (meaning.Register k i (Int w))))

  register_placed : (i : ℕ) (is : List Instr) (r : ℕ) (x : Instr) (n : Name) (w : Width) → slice_get is r ≡ Some x → x.result ≡ Some n → given_by s x.kind ≡ Some w
      → IsPlaced (registers_from s k i is) (spelled n) (meaning.Register k (i + r) (Int w))
  register_placed i [] r x n w e named gives = cc
  register_placed i (y ∷ ys) zero x n w e named gives =
      let same : x ≡ y = cc in
      let number : i ≡ i + 0 = omega arith in
      subst (λ j. IsPlaced (registers_from s k i (y ∷ ys)) (spelled n) (meaning.Register k j (Int w))) number
      (register_here i y (registers_from s k (i + 1) ys) n w (subst (λ z. z.result ≡ Some n) same named) (subst (λ z. given_by s z.kind ≡ Some w) same gives))
  register_placed i (y ∷ ys) (suc r) x n w e named gives =
      let number : (i + 1) + r ≡ i + suc r = omega arith in
      subst (λ j. IsPlaced (registers_from s k i (y ∷ ys)) (spelled n) (meaning.Register k j (Int w))) number
      (behind_register s k i y.kind y.result (registers_from s k (i + 1) ys) (spelled n) (meaning.Register k ((i + 1) + r) (Int w)) (register_placed (i + 1) ys r x n w e named gives))

  in_block : (vars : List (Width × Name)) (b : Block) (r : ℕ) (x : Instr) (n : Name) (w : Width) → slice_get b.instrs r ≡ Some x → x.result ≡ Some n → given_by s x.kind ≡ Some w
      → IsPlaced (of_block s k vars b) (spelled n) (meaning.Register k r (Int w))
  in_block vars b r x n w e named gives =
      let number : 0 + r ≡ r = omega arith in
      behind (spelled b.name, meaning.Block k) (variables_from 0 vars ++ registers_from s k 0 b.instrs) (spelled n) (meaning.Register k r (Int w))
      (behind_all (variables_from 0 vars) (registers_from s k 0 b.instrs) (spelled n) (meaning.Register k r (Int w))
      (subst (λ j. IsPlaced (registers_from s k 0 b.instrs) (spelled n) (meaning.Register k j (Int w))) number (register_placed 0 b.instrs r x n w e named gives)))

-- what stands among the meanings of a block stands among those of the blocks
block_placed : (s : Scope) (k : ℕ) (bs : List Block) (t : ℕ) (b : Block) (n : Name) (m : Meaning) → slice_get bs t ≡ Some b → IsPlaced (of_block s (k + t) [] b) n m
    → IsPlaced (of_blocks s k bs) n m
block_placed s k [] t b n m e h = cc
block_placed s k (a ∷ bs) zero b n m e h =
    let same : b ≡ a = cc in
    let number : k + 0 ≡ k = omega arith in
    before_all (of_block s k [] a) (of_blocks s (k + 1) bs) n m (subst (λ j. IsPlaced (of_block s j [] a) n m) number (subst (λ x. IsPlaced (of_block s (k + 0) [] x) n m) same h))
block_placed s k (a ∷ bs) (suc t) b n m e h =
    let number : k + suc t ≡ (k + 1) + t = omega arith in
    behind_all (of_block s k [] a) (of_blocks s (k + 1) bs) n m (block_placed s (k + 1) bs t b n m e (subst (λ j. IsPlaced (of_block s j [] b) n m) number h))

body_placed : (s : Scope) (vars : List (Width × Name)) (bs : List Block) (t : ℕ) (b : Block) (n : Name) (m : Meaning) → slice_get bs t ≡ Some b
    → ((vs : List (Width × Name)) → IsPlaced (of_block s t vs b) n m) → IsPlaced (of_body s vars bs) n m
body_placed s vars [] t b n m e h = cc
body_placed s vars (a ∷ bs) zero b n m e h =
    let same : b ≡ a = cc in
    before_all (of_block s 0 vars a) (of_blocks s 1 bs) n m (subst (λ x. IsPlaced (of_block s 0 vars x) n m) same (h vars))
body_placed s vars (a ∷ bs) (suc t) b n m e h =
    let number : suc t ≡ 1 + t = omega arith in
    behind_all (of_block s 0 vars a) (of_blocks s 1 bs) n m (block_placed s 1 bs t b n m e (subst (λ j. IsPlaced (of_block s j [] b) n m) number (h [])))

-- the variables stand in the first block, which is there
variable_placed : (s : Scope) (vars : List (Width × Name)) (bs : List Block) (t : ℕ) (b : Block) (v : ℕ) (x : Width × Name) → slice_get bs t ≡ Some b → slice_get vars v ≡ Some x
    → IsPlaced (of_body s vars bs) (spelled x.1) (meaning.Variable v x.0)
variable_placed s vars [] t b v x e h = cc
variable_placed s vars (a ∷ bs) t b v x e h =
    behind (spelled a.name, meaning.Block 0) _ (spelled x.1) (meaning.Variable v x.0)
    (before_all (variables_from 0 vars ++ registers_from s 0 0 a.instrs) (of_blocks s 1 bs) (spelled x.1) (meaning.Variable v x.0)
    (before_all (variables_from 0 vars) (registers_from s 0 0 a.instrs) (spelled x.1) (meaning.Variable v x.0)
    (item_placed (λ (y : Width × Name). spelled y.1) (λ k y. meaning.Variable k y.0) vars v x h)))

-- ---- look-ups

pub found : (d : Defined) (n : Name) (m : Meaning) → IsDistinct same_name (keys_of d.meanings) → IsPlaced d.meanings n m → meaning_of d n ≡ Some m
found d n m h p = lookup_from_place name_equivalence d.meanings p.place n m h p.is

-- the names of a function with blocks mean its parameters, blocks, variables and registers
pub record KnowsLocals (s : Scope) (f : Function) (d : Defined) : Type 0 where
  pub parameter : (t : ℕ) (b : Block) (p : ℕ) (x : Width × Name) → slice_get f.blocks t ≡ Some b → slice_get f.params p ≡ Some x → meaning_of d (spelled x.1) ≡ Some (meaning.Parameter p x.0)
  pub variable : (t : ℕ) (b : Block) (v : ℕ) (x : Width × Name) → slice_get f.blocks t ≡ Some b → slice_get f.vars v ≡ Some x → meaning_of d (spelled x.1) ≡ Some (meaning.Variable v x.0)
  pub block : (t : ℕ) (b : Block) → slice_get f.blocks t ≡ Some b → meaning_of d (spelled b.name) ≡ Some (meaning.Block t)
  pub register : (t : ℕ) (b : Block) (r : ℕ) (i : Instr) (n : Name) (w : Width) → slice_get f.blocks t ≡ Some b → slice_get b.instrs r ≡ Some i → i.result ≡ Some n → given_by s i.kind ≡ Some w
      → meaning_of d (spelled n) ≡ Some (meaning.Register t r (Int w))

pub knows_locals : (s : Scope) (f : Function) (d : Defined) → IsReady d [] → d.meanings ≡ of_function s f → KnowsLocals s f d
knows_locals s f d ready e =
    let differ : IsDistinct same_name (keys_of d.meanings) = subst (IsDistinct same_name) (append-nil (keys_of d.meanings)) ready.differ in
    let params : List (Name × Meaning) = numbered meaning.Parameter 0 f.params in
    let body : List (Name × Meaning) = of_body s f.vars f.blocks in
    record {
      parameter = λ t b p x there h.
          found d (spelled x.1) (meaning.Parameter p x.0) differ (subst (λ es. IsPlaced es (spelled x.1) (meaning.Parameter p x.0)) (sym e)
          (before_all params body (spelled x.1) (meaning.Parameter p x.0)
          (item_placed (λ (y : Width × Name). spelled y.1) (λ k y. meaning.Parameter k y.0) f.params p x h)));
      variable = λ t b v x there h.
          found d (spelled x.1) (meaning.Variable v x.0) differ (subst (λ es. IsPlaced es (spelled x.1) (meaning.Variable v x.0)) (sym e)
          (behind_all params body (spelled x.1) (meaning.Variable v x.0) (variable_placed s f.vars f.blocks t b v x there h)));
      block = λ t b there.
          found d (spelled b.name) (meaning.Block t) differ (subst (λ es. IsPlaced es (spelled b.name) (meaning.Block t)) (sym e)
          (behind_all params body (spelled b.name) (meaning.Block t)
          (body_placed s f.vars f.blocks t b (spelled b.name) (meaning.Block t) there (λ vs. at_head (variables_from 0 vs ++ registers_from s t 0 b.instrs) (spelled b.name) (meaning.Block t)))));
      register = λ t b r i n w there here named gives.
          found d (spelled n) (meaning.Register t r (Int w)) differ (subst (λ es. IsPlaced es (spelled n) (meaning.Register t r (Int w))) (sym e)
          (behind_all params body (spelled n) (meaning.Register t r (Int w))
          (body_placed s f.vars f.blocks t b (spelled n) (meaning.Register t r (Int w)) there (λ vs. in_block s t vs b r i n w here named gives))));
    }
