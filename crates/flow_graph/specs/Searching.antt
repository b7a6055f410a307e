-- How the search for the reached blocks goes on.
use Rattle.std.specs.Prelude.{◌≡◌, ◌<◌, ◌+◌, ◌⊎◌, ℕ, true, not, Some, List, length, count_by, Contains}
use Rattle.ir_types.specs.declared.syntax.Function.{Function}
use Rattle.flow_graph.specs.declared.reaching.Search.{Search}
use Rattle.flow_graph.specs.Slots.{next_block}
use Rattle.flow_graph.specs.Paths.{IsReached, is_marked}

abbrev pub IsMarked : Search → ℕ → Type 0
IsMarked s b = is_marked s.marks.items b ≡ true

-- how many blocks are not visited yet, marked or not
abbrev pub work : Search → ℕ
work s = count_by not s.marks.items + length s.pending.items

-- these blocks are marked now, and those that weren't before are to be visited
pub record Reaches (blocks : List ℕ) (old new : Search) : Type 0 where
  pub len : length new.marks.items ≡ length old.marks.items
  pub kept : (b : ℕ) → IsMarked old b → IsMarked new b
  pub marked : (b : ℕ) → Contains blocks b → b < length old.marks.items → IsMarked new b
  pub fresh : (b : ℕ) → IsMarked new b → IsMarked old b ⊎ (Contains blocks b × Contains new.pending.items b)
  pub waiting : (b : ℕ) → Contains old.pending.items b → Contains new.pending.items b
  pub added : (b : ℕ) → Contains new.pending.items b → Contains old.pending.items b ⊎ IsMarked new b
  pub work : work new ≡ work old

-- what the slots of a block lead to is marked
abbrev pub IsFollowed : Function → Search → ℕ → Type 0
IsFollowed f s b = (slot next : ℕ) → next_block f b slot ≡ Some next → next < length s.marks.items → IsMarked s next

-- the entry is marked, only reached blocks are, and each of them is followed or to be visited
pub record Searching (f : Function) (s : Search) : Type 0 where
  pub len : length s.marks.items ≡ length f.blocks
  pub entry : 0 < length f.blocks → IsMarked s 0
  pub sound : (b : ℕ) → IsMarked s b → IsReached f b
  pub waiting : (b : ℕ) → Contains s.pending.items b → IsMarked s b
  pub closed : (b : ℕ) → IsMarked s b → Contains s.pending.items b ⊎ IsFollowed f s b
