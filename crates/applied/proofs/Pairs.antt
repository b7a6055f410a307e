-- Functions and their new texts, pair by pair.
use Rattle.std.proofs.Common.{◌≡◌, ℕ, zero, suc, ◌+◌, Bool, true, false, List, [], ◌∷◌, length, map, Option, Some, None, refl, sym, ap, ◌∙◌, subst, arith}
use Rattle.std.specs.Prelude.{slice_get, if◌then◌else◌}
use Rattle.ir_types.specs.WellFormed.{widths}
use Rattle.mc_num.specs.declared.op.Width.{Width}
use Rattle.ir_types.specs.declared.syntax.Variable.TheVariants.{Local}
use Rattle.ir_types.specs.declared.syntax.Instr.{Instr}
use Rattle.ir_types.specs.declared.syntax.Kind.TheVariants.{Load}
use Rattle.ir_types.specs.declared.syntax.Block.{Block}
use Rattle.ir_types.specs.declared.syntax.Function.{Function}
use Rattle.ir_machine.specs.Same.{Outline, outline, is_defined}
use Rattle.applied.specs.Renamed.{renamed_kind}
use Rattle.point_graph.specs.Graph.{Point, Edge}
use Rattle.applied.specs.Motion.{Move}
use Rattle.applied.specs.Applied.{Plan, copied, has_groups, block_count, FunctionApplied, AllApplied}
use Rattle.applied.proofs.Trapping.{block_found}

pub pair_at : (plans : ℕ → Plan) (k : ℕ) (fs gs : List Function) → AllApplied plans k fs gs → (i : ℕ) (f : Function) → slice_get fs i ≡ Some f → (g : Function) × (slice_get gs i ≡ Some g) × FunctionApplied (plans (k + i)) f g
pair_at plans k [] [] all i f e = absurd cc
pair_at plans k (x ∷ xs) (y ∷ ys) all zero f e =
    let same : x ≡ f = cc in
    let n : k ≡ k + 0 = omega arith in
    (y, refl, subst (λ j. FunctionApplied (plans j) f y) n (subst (λ h. FunctionApplied (plans k) h y) same all.0))
pair_at plans k (x ∷ xs) (y ∷ ys) all (suc i) f e =
    let r = pair_at plans (suc k) xs ys all.1 i f e in
    let n : suc k + i ≡ k + suc i = omega arith in
    (r.0, r.1, subst (λ j. FunctionApplied (plans j) f r.0) n r.2)
pair_at plans k [] (y ∷ ys) all i f e = absurd all
pair_at plans k (x ∷ xs) [] all i f e = absurd all

pub none_at : (plans : ℕ → Plan) (k : ℕ) (fs gs : List Function) → AllApplied plans k fs gs → (i : ℕ) → slice_get fs i ≡ None → slice_get gs i ≡ None
none_at plans k [] [] all i e = refl
none_at plans k (x ∷ xs) (y ∷ ys) all zero e = absurd cc
none_at plans k (x ∷ xs) (y ∷ ys) all (suc i) e = none_at plans (suc k) xs ys all.1 i e
none_at plans k [] (y ∷ ys) all i e = absurd all
none_at plans k (x ∷ xs) [] all i e = absurd all

-- both have blocks, or neither has
pub not_only_new : (plan : Plan) (f g : Function) → FunctionApplied plan f g → (b : Block) (bs : List Block) → f.blocks ≡ [] → g.blocks ≡ b ∷ bs → ⊥
not_only_new plan f g applied b bs e e' =
    let n : length g.blocks ≡ 0 = applied.ends ∙ ap (λ l. applied.layout.home (length l)) e ∙ applied.home_first in
    omega (arith, n, ap length e')

pub not_only_old : (plan : Plan) (f g : Function) → FunctionApplied plan f g → (b : Block) (bs : List Block) → f.blocks ≡ b ∷ bs → g.blocks ≡ [] → ⊥
not_only_old plan f g applied b bs e e' =
    let count : length f.blocks ≡ suc (length bs) = ap length e in
    let last = block_found f.blocks (length bs) (omega (arith, count)) in
    let n : length g.blocks ≡ applied.layout.home (suc (length bs)) = applied.ends ∙ ap applied.layout.home count in
    omega (arith, n, applied.home_next (length bs) ∙ ap (λ o. applied.layout.home (length bs) + block_count plan.moves (length bs) o) last.1, ap length e')

defined_alike : (plan : Plan) (f g : Function) → FunctionApplied plan f g → (blocks blocks' : List Block) → f.blocks ≡ blocks → g.blocks ≡ blocks' → is_defined blocks ≡ is_defined blocks'
defined_alike plan f g applied [] [] e e' = refl
defined_alike plan f g applied (b ∷ bs) (b' ∷ bs') e e' = refl
defined_alike plan f g applied [] (b' ∷ bs') e e' = absurd (not_only_new plan f g applied b' bs' e e')
defined_alike plan f g applied (b ∷ bs) [] e e' = absurd (not_only_old plan f g applied b bs e e')

abbrev outline_of : List ℕ → Option Width → List Width → Bool → Outline
outline_of name ret params defined = record { name = name; types = record { ret = ret; params = params }; defined = defined }

pub same_outlines : (plans : ℕ → Plan) (k : ℕ) (fs gs : List Function) → AllApplied plans k fs gs → map outline fs ≡ map outline gs
same_outlines plans k [] [] all = refl
same_outlines plans k (f ∷ fs) (g ∷ gs) all =
    let a = all.0 in
    let one : outline f ≡ outline g =
    ap (λ n. outline_of n f.ret (widths f.params) (is_defined f.blocks)) (sym a.name)
    ∙ ap (λ r. outline_of g.name r (widths f.params) (is_defined f.blocks)) (sym a.ret)
    ∙ ap (λ p. outline_of g.name g.ret (widths p) (is_defined f.blocks)) (sym a.params)
    ∙ ap (outline_of g.name g.ret (widths g.params)) (defined_alike (plans k) f g a f.blocks g.blocks refl refl) in
    ap (λ s. s ∷ map outline fs) one ∙ ap (λ l. outline g ∷ l) (same_outlines plans (suc k) fs gs all.1)
same_outlines plans k [] (y ∷ ys) all = absurd all
same_outlines plans k (x ∷ xs) [] all = absurd all

-- the expression that is deleted here
pub record Deleted (v : Point) (moves : List Move) (temp : ℕ) (new : Instr) : Type 0 where
  pub index : ℕ
  pub move : Move
  pub there : slice_get moves index ≡ Some move
  pub deleted : move.deleted v ≡ true
  pub load : new.kind ≡ Load (Local (temp + index))

pub data Copied (v : Point) (number : ℕ → ℕ) (instr : Instr) (moves : List Move) (temp : ℕ) (new : Instr) : Type 0 where
  AsItWas : new.kind ≡ renamed_kind number instr.kind → Copied v number instr moves temp new
  IsDeleted : Deleted v moves temp new → Copied v number instr moves temp new

further_down : (v : Point) (number : ℕ → ℕ) (instr : Instr) (move : Move) (moves : List Move) (temp : ℕ) (new : Instr) → Copied v number instr moves (suc temp) new → Copied v number instr (move ∷ moves) temp new
further_down v number instr move moves temp new (AsItWas e) = AsItWas e
further_down v number instr move moves temp new (IsDeleted d) =
    let n : suc temp + d.index ≡ temp + suc d.index = omega arith in
    IsDeleted (record { index = suc d.index; move = d.move; there = d.there; deleted = d.deleted; load = d.load ∙ ap (λ k. Load (Local k)) n })

abbrev load_of : ℕ → Instr → Instr
load_of temp instr = record { result = instr.result; kind = Load (Local temp) }

copied_one : (v : Point) (number : ℕ → ℕ) (instr : Instr) (move : Move) (moves : List Move) (temp : ℕ) (other : Instr) → Copied v number instr moves (suc temp) other → (q : Bool) → move.deleted v ≡ q → Copied v number instr (move ∷ moves) temp (if q then load_of temp instr else other)
copied_one v number instr move moves temp other rest true e =
    let n : temp ≡ temp + 0 = omega arith in
    IsDeleted (record { index = 0; move = move; there = refl; deleted = e; load = ap (λ k. Load (Local k)) n })
copied_one v number instr move moves temp other rest false e = further_down v number instr move moves temp other rest

pub copied_is : (v : Point) (number : ℕ → ℕ) (instr : Instr) (moves : List Move) (temp : ℕ) → Copied v number instr moves temp (copied temp number v instr moves)
copied_is v number instr [] temp = AsItWas refl
copied_is v number instr (move ∷ moves) temp =
    copied_one v number instr move moves temp (copied (suc temp) number v instr moves) (copied_is v number instr moves (suc temp)) (move.deleted v) refl

none_one : (edge : Edge) (move : Move) (moves : List Move) → ((x : ℕ) (other : Move) → slice_get moves x ≡ Some other → other.inserted edge ≡ false) → move.inserted edge ≡ false → (x : ℕ) (other : Move) → slice_get (move ∷ moves) x ≡ Some other → other.inserted edge ≡ false
none_one edge move moves rest e zero other there = let same : move ≡ other = cc in ap (λ o. o.inserted edge) (sym same) ∙ e
none_one edge move moves rest e (suc x) other there = rest x other there

none_by : (edge : Edge) (move : Move) (moves : List Move) → (has_groups edge moves ≡ false → (x : ℕ) (other : Move) → slice_get moves x ≡ Some other → other.inserted edge ≡ false) → (q : Bool) → move.inserted edge ≡ q → (if q then true else has_groups edge moves) ≡ false → (x : ℕ) (other : Move) → slice_get (move ∷ moves) x ≡ Some other → other.inserted edge ≡ false
none_by edge move moves rest true is e = absurd cc
none_by edge move moves rest false is e = none_one edge move moves (rest e) is

-- no expression is inserted on an edge without groups
pub none_inserted : (edge : Edge) (moves : List Move) → has_groups edge moves ≡ false → (x : ℕ) (move : Move) → slice_get moves x ≡ Some move → move.inserted edge ≡ false
none_inserted edge [] e x move there = absurd cc
none_inserted edge (move ∷ moves) e x other there = none_by edge move moves (none_inserted edge moves) (move.inserted edge) refl e x other there
