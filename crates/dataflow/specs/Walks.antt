-- Where a walk in depth over a graph stands.
use Rattle.std.specs.Prelude.{◌≡◌, ℕ, ◌<◌, ◌+◌, ◌++◌, ◌⊎◌, Bool, true, false, not, All, Contains, List, [], ◌∷◌, count_by, length, map, slice_index_or}
use Rattle.std.specs.List.{sum_by}
use Rattle.dataflow.specs.declared.order.Walk.{Walk}

-- the flag of node n is set
abbrev pub IsFlagged : List Bool → ℕ → Type 0
IsFlagged flags n = slice_index_or flags n false ≡ true

abbrev pub IsEntered : Walk → ℕ → Type 0
IsEntered w n = IsFlagged w.entered.items n

-- all are nodes, and a node that was entered is on the path or was left
pub record Walking (entered : List Bool) (ends : List (List ℕ)) (path order : List ℕ) : Type 0 where
  pub lists : length ends ≡ length entered
  pub ends_below : (n : ℕ) → All (λ end. end < length entered) (slice_index_or ends n [])
  pub path_below : All (λ n. n < length entered) path
  pub order_below : All (λ n. n < length entered) order
  pub placed : (n : ℕ) → IsFlagged entered n → Contains path n ⊎ Contains order n

-- for each node the ends that weren't followed yet
abbrev pub ends_of : Walk → List (List ℕ)
ends_of w = map (λ list. list.items) w.ends.items

abbrev pub IsWalking : Walk → Type 0
IsWalking w = Walking w.entered.items (ends_of w) w.path.items w.order.items

-- with one node more on the path
abbrev pub IsWalkingWith : ℕ → Walk → Type 0
IsWalkingWith node w = Walking w.entered.items (ends_of w) (w.path.items ++ node ∷ []) w.order.items

-- what was entered stays so
pub record Keeps (old new : Walk) : Type 0 where
  pub len : length new.entered.items ≡ length old.entered.items
  pub entered : (n : ℕ) → IsEntered old n → IsEntered new n

-- how many nodes aren't entered yet, how many arcs aren't followed, and how many nodes aren't left
abbrev pub work : Walk → ℕ
work w = count_by not w.entered.items + sum_by length (ends_of w) + length w.path.items
