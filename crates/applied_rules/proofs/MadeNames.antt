-- The made names of a new function differ.
use Rattle.std.proofs.Common.{◌≡◌, ◌≢◌, ℕ, suc, ◌+◌, ◌^◌, ◌<◌, ◌≤◌, Bool, true, false, if◌then◌else◌, List, [], ◌∷◌, ◌++◌, length, refl, ap, arith}
use Rattle.ir_types.specs.declared.name.Made.{Made}
use Rattle.ir_types.specs.declared.name.Made.TheVariants.{Temp, Sum, Operand, Split}
use Rattle.point_graph.specs.Graph.{Edge}
use Rattle.expressions.specs.declared.syntax.Arg.{Arg}
use Rattle.expressions.specs.declared.syntax.Arg.TheVariants.{Const as ConstArg, Param as ParamArg, Var as VarArg}
use Rattle.applied.specs.Motion.{Move}
use Rattle.applied.specs.Applied.{Naming}
use Rattle.applied_rules.proofs.Apart.{Each, EachPair, Apart, each_by, each_append, apart_append}
use Rattle.applied_rules.proofs.Spelled.{FitsMade}
use Rattle.applied_rules.proofs.Tags.{arg_mades, group_mades, edge_mades}

-- the number of an expression in a name
abbrev expr_number : Made → ℕ
expr_number (Temp x) = x
expr_number (Sum x p) = x
expr_number (Operand x p i) = x
expr_number (Split p) = 0

abbrev pub edge_in : Made → ℕ
edge_in (Temp x) = 0
edge_in (Sum x p) = p
edge_in (Operand x p i) = p
edge_in (Split p) = p

-- the name is of the edge of this number
abbrev pub IsNumbered : ℕ → Made → Type 0
IsNumbered n (Temp x) = ⊥
IsNumbered n (Sum x p) = (p ≡ n) × (x < 2 ^ 64)
IsNumbered n (Operand x p i) = (p ≡ n) × (x < 2 ^ 64) × (i < 2 ^ 64)
IsNumbered n (Split p) = p ≡ n

pub edge_in_is : (n : ℕ) (made : Made) → IsNumbered n made → edge_in made ≡ n
edge_in_is n (Temp x) is = absurd is
edge_in_is n (Sum x p) is = is.0
edge_in_is n (Operand x p i) is = is.0
edge_in_is n (Split p) is = is

pub numbered_fits : (n : ℕ) (made : Made) → n < 2 ^ 64 → IsNumbered n made → FitsMade made
numbered_fits n (Temp x) lt is = absurd is
numbered_fits n (Sum x p) lt is = (is.1, omega (arith, is.0, lt))
numbered_fits n (Operand x p i) lt is = (is.1, omega (arith, is.0, lt), is.2)
numbered_fits n (Split p) lt is = omega (arith, is, lt)

-- ---- the names of one group

-- an operand's name from this operand on
abbrev FromOperand : ℕ → Made → Type 0
FromOperand i (Operand x p k) = i ≤ k
FromOperand i (Temp x) = ⊥
FromOperand i (Sum x p) = ⊥
FromOperand i (Split p) = ⊥

abbrev IsSum : Made → Type 0
IsSum (Sum x p) = Unit {0}
IsSum (Temp x) = ⊥
IsSum (Operand x p k) = ⊥
IsSum (Split p) = ⊥

abbrev pub IsSplit : Made → Type 0
IsSplit (Split p) = Unit {0}
IsSplit (Sum x p) = ⊥
IsSplit (Temp x) = ⊥
IsSplit (Operand x p k) = ⊥

from_more : (i : ℕ) (made : Made) → FromOperand (suc i) made → FromOperand i made
from_more i (Operand x p k) le = omega (arith, le)
from_more i (Temp x) le = absurd le
from_more i (Sum x p) le = absurd le
from_more i (Split p) le = absurd le

args_from : (x p i : ℕ) (args : List Arg) → Each (FromOperand i) (arg_mades x p i args)
args_from x p i [] = tt
args_from x p i (ConstArg c ∷ args) = each_by (FromOperand (suc i)) (FromOperand i) (from_more i) (arg_mades x p (suc i) args) (args_from x p (suc i) args)
args_from x p i (ParamArg q ∷ args) = each_by (FromOperand (suc i)) (FromOperand i) (from_more i) (arg_mades x p (suc i) args) (args_from x p (suc i) args)
args_from x p i (VarArg v ∷ args) =
    (omega arith, each_by (FromOperand (suc i)) (FromOperand i) (from_more i) (arg_mades x p (suc i) args) (args_from x p (suc i) args))

later_differs : (x p i : ℕ) (made : Made) → FromOperand (suc i) made → Operand x p i ≢ made
later_differs x p i (Operand y q k) le e = let same : i ≡ k = cc in omega (arith, le, same)
later_differs x p i (Temp y) le e = le
later_differs x p i (Sum y q) le e = le
later_differs x p i (Split q) le e = le

args_apart : (x p i : ℕ) (args : List Arg) → Apart (arg_mades x p i args)
args_apart x p i [] = tt
args_apart x p i (ConstArg c ∷ args) = args_apart x p (suc i) args
args_apart x p i (ParamArg q ∷ args) = args_apart x p (suc i) args
args_apart x p i (VarArg v ∷ args) =
    (each_by (FromOperand (suc i)) (λ made. Operand x p i ≢ made) (later_differs x p i) (arg_mades x p (suc i) args) (args_from x p (suc i) args), args_apart x p (suc i) args)

operand_no_sum : (a b : Made) → FromOperand 0 a → IsSum b → a ≢ b
operand_no_sum (Operand x p k) (Sum y q) from sum e = cc
operand_no_sum (Operand x p k) (Temp y) from sum e = sum
operand_no_sum (Operand x p k) (Operand y q j) from sum e = sum
operand_no_sum (Operand x p k) (Split q) from sum e = sum
operand_no_sum (Temp x) b from sum e = from
operand_no_sum (Sum x p) b from sum e = from
operand_no_sum (Split p) b from sum e = from

args_numbered : (n x i : ℕ) (args : List Arg) → x < 2 ^ 64 → i + length args < 2 ^ 64 → Each (IsNumbered n) (arg_mades x n i args)
args_numbered n x i [] lt few = tt
args_numbered n x i (ConstArg c ∷ args) lt few = args_numbered n x (suc i) args lt (omega (arith, few))
args_numbered n x i (ParamArg q ∷ args) lt few = args_numbered n x (suc i) args lt (omega (arith, few))
args_numbered n x i (VarArg v ∷ args) lt few = ((refl, lt, omega (arith, few)), args_numbered n x (suc i) args lt (omega (arith, few)))

args_number : (x p i : ℕ) (args : List Arg) → Each (λ made. expr_number made ≡ x) (arg_mades x p i args)
args_number x p i [] = tt
args_number x p i (ConstArg c ∷ args) = args_number x p (suc i) args
args_number x p i (ParamArg q ∷ args) = args_number x p (suc i) args
args_number x p i (VarArg v ∷ args) = (refl, args_number x p (suc i) args)

abbrev pub NoSplit : Made → Type 0
NoSplit made = ¬ IsSplit made

from_no_split : (made : Made) → FromOperand 0 made → NoSplit made
from_no_split (Operand x p k) from = λ o. o
from_no_split (Temp x) from = λ o. o
from_no_split (Sum x p) from = λ o. o
from_no_split (Split p) from = absurd from

pub split_differs : (p : ℕ) (made : Made) → NoSplit made → Split p ≢ made
split_differs p (Split q) none e = none tt
split_differs p (Temp y) none e = cc
split_differs p (Sum y q) none e = cc
split_differs p (Operand y q k) none e = cc

module _ (naming : Naming) (edge : Edge) where
  abbrev edge_no : ℕ
  edge_no = naming.edge_number edge

  group_apart : (move : Move) → Apart (group_mades naming edge move)
  group_apart move =
      let x = move.number in
      apart_append (FromOperand 0) IsSum operand_no_sum (arg_mades x edge_no 0 move.expr.args) (Sum x edge_no ∷ []) (args_from x edge_no 0 move.expr.args) (tt, tt)
      (args_apart x edge_no 0 move.expr.args) (tt, tt)

  group_number : (move : Move) → Each (λ made. expr_number made ≡ move.number) (group_mades naming edge move)
  group_number move =
      let x = move.number in
      each_append (λ made. expr_number made ≡ x) (arg_mades x edge_no 0 move.expr.args) (Sum x edge_no ∷ []) (args_number x edge_no 0 move.expr.args) (refl, tt)

  pub group_numbered : (move : Move) → move.number < 2 ^ 64 → length move.expr.args < 2 ^ 64 → Each (IsNumbered edge_no) (group_mades naming edge move)
  group_numbered move lt few =
      let x = move.number in
      each_append (IsNumbered edge_no) (arg_mades x edge_no 0 move.expr.args) (Sum x edge_no ∷ [])
      (args_numbered edge_no x 0 move.expr.args lt (omega (arith, few))) ((refl, lt), tt)

  group_no_split : (move : Move) → Each NoSplit (group_mades naming edge move)
  group_no_split move =
      let x = move.number in
      each_append NoSplit (arg_mades x edge_no 0 move.expr.args) (Sum x edge_no ∷ [])
      (each_by (FromOperand 0) NoSplit from_no_split (arg_mades x edge_no 0 move.expr.args) (args_from x edge_no 0 move.expr.args)) ((λ o. o), tt)

  -- ---- the names of one edge

  abbrev if_inserted : Bool → Move → List Made
  if_inserted q move = if q then group_mades naming edge move else []

  pub edge_each : (P : Made → Type 0) (moves : List Move) → Each (λ move. move.inserted edge ≡ true → Each P (group_mades naming edge move)) moves → Each P (edge_mades naming edge moves)
  edge_each P [] each = tt
  edge_each P (move ∷ moves) each = by (move.inserted edge) refl (edge_each P moves each.1)
    where
      by : (q : Bool) → move.inserted edge ≡ q → Each P (edge_mades naming edge moves) → Each P (if_inserted q move ++ edge_mades naming edge moves)
      by true is rest = each_append P (group_mades naming edge move) (edge_mades naming edge moves) (each.0 is) rest
      by false is rest = rest

  number_apart : (n : ℕ) (a b : Made) → expr_number a ≡ n → n < expr_number b → a ≢ b
  number_apart n a b is lt e = omega (arith, is, lt, ap expr_number e)

  later_numbers : (n : ℕ) (moves : List Move) → Each (λ next. n < next.number) moves → Each (λ made. n < expr_number made) (edge_mades naming edge moves)
  later_numbers n moves each =
      edge_each (λ made. n < expr_number made) moves
      (each_by (λ next. n < next.number) (λ move. move.inserted edge ≡ true → Each (λ made. n < expr_number made) (group_mades naming edge move))
      (λ move lt is. each_by (λ made. expr_number made ≡ move.number) (λ made. n < expr_number made) (λ made e. omega (arith, lt, e)) (group_mades naming edge move) (group_number move)) moves each)

  pub edge_apart : (moves : List Move) → EachPair (λ move next. move.number < next.number) moves → Apart (edge_mades naming edge moves)
  edge_apart [] ascending = tt
  edge_apart (move ∷ moves) ascending = by (move.inserted edge) (edge_apart moves ascending.1)
    where
      by : (q : Bool) → Apart (edge_mades naming edge moves) → Apart (if_inserted q move ++ edge_mades naming edge moves)
      by true rest =
          apart_append (λ made. expr_number made ≡ move.number) (λ made. move.number < expr_number made) (number_apart move.number) (group_mades naming edge move) (edge_mades naming edge moves)
          (group_number move) (later_numbers move.number moves ascending.0) (group_apart move) rest
      by false rest = rest

  all_moves : (P : Move → Type 0) → ((move : Move) → P move) → (moves : List Move) → Each P moves
  all_moves P by [] = tt
  all_moves P by (move ∷ moves) = (by move, all_moves P by moves)

  pub edge_no_split : (moves : List Move) → Each NoSplit (edge_mades naming edge moves)
  edge_no_split moves = edge_each NoSplit moves (all_moves (λ move. move.inserted edge ≡ true → Each NoSplit (group_mades naming edge move)) (λ move is. group_no_split move) moves)
