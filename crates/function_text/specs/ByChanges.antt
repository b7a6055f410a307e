-- Where the blocks of a function stand in the new one and where they lead, by its changes alone.
use Rattle.std.specs.Prelude.{ℕ, zero, suc, ◌+◌, ◌<◌, Bool, true, false, if◌then◌else◌, List, [], ◌∷◌, Some, None, drop, length, map, slice_get, slice_index}
use Rattle.std.specs.List.{zip}
use Rattle.std.specs.Option.{option_map_or}
use Rattle.ir_types.specs.WellFormed.{targets}
use Rattle.ir_types.specs.declared.syntax.Operand.{Operand}
use Rattle.ir_types.specs.declared.syntax.Operand.TheVariants.{Const, Param, Reg}
use Rattle.ir_types.specs.declared.syntax.Terminator.{Terminator}
use Rattle.ir_types.specs.declared.syntax.Terminator.TheVariants.{Return, Jump, Branch, Switch, Unreachable}
use Rattle.ir_types.specs.declared.syntax.Block.{Block}
use Rattle.applied.specs.Applied.{is_single}
use Rattle.applied.specs.Renamed.{renamed, renamed_option}
use Rattle.changes.specs.Changed.{listed}
use Rattle.changes.specs.declared.lists.Changes.{Changes}

-- ---- layout

-- the list has an element
abbrev pub is_filled : List ℕ → Bool
is_filled [] = false
is_filled (x ∷ xs) = true

-- what is inserted on the slots of block b
abbrev pub slot_lists : Changes → ℕ → List (List ℕ)
slot_lists c b = option_map_or (λ block. block.slots) (slice_get c.blocks b) []

-- a block splits this slot of a terminator on whose slots these lists are inserted
abbrev pub is_split : List (List ℕ) → Terminator → ℕ → Bool
is_split lists term slot = if is_single term then false else is_filled (listed lists slot)

-- how many blocks split the slots before this one
abbrev pub split_count : List (List ℕ) → Terminator → ℕ → ℕ
split_count lists term zero = 0
split_count lists term (suc slot) = split_count lists term slot + (if is_split lists term slot then 1 else 0)

-- how many blocks a block becomes
abbrev pub new_count : Changes → ℕ → Block → ℕ
new_count c b block = suc (split_count (slot_lists c b) block.term (length (targets block.term)))

-- how many blocks these become, the first of them being b
abbrev pub new_count_from : Changes → ℕ → List Block → ℕ
new_count_from c b [] = 0
new_count_from c b (block ∷ blocks) = new_count c b block + new_count_from c (suc b) blocks

-- where these blocks stand, the first of them being b and standing at n
abbrev pub homes_from : Changes → ℕ → ℕ → List Block → List ℕ
homes_from c n b [] = []
homes_from c n b (block ∷ blocks) = n ∷ homes_from c (n + new_count c b block) (suc b) blocks

-- where a slot leads that led to the block `target`, the first split block of its block standing at `first`
abbrev pub lead : List (List ℕ) → Terminator → List ℕ → ℕ → ℕ → ℕ → ℕ
lead lists term homes first slot target =
    if is_split lists term slot then first + split_count lists term slot else slice_index homes target

-- where the slots from this one on lead, which led to these blocks
abbrev pub leads_from : List (List ℕ) → Terminator → List ℕ → ℕ → ℕ → List ℕ → List ℕ
leads_from lists term homes first slot [] = []
leads_from lists term homes first slot (target ∷ rest) =
    lead lists term homes first slot target ∷ leads_from lists term homes first (suc slot) rest

-- ---- terminators

-- the cases with these targets
abbrev pub led_cases : List (ℕ × ℕ) → List ℕ → List (ℕ × ℕ)
led_cases cases leads = map (λ p. (p.0.0, p.1)) (zip cases leads)

-- the terminator with other numbers of registers, its slots leading to these blocks
abbrev pub led : (ℕ → ℕ) → List ℕ → Terminator → Terminator
led number leads (Return operand) = Return (renamed_option number operand)
led number leads (Jump _) = Jump (slice_index leads 0)
led number leads (Branch condition _ _) = Branch (renamed number condition) (slice_index leads 0) (slice_index leads 1)
led number leads (Switch width operand _ cases) =
    Switch width (renamed number operand) (slice_index leads 0) (led_cases cases (drop 1 leads))
led number leads Unreachable = Unreachable

-- the operand is no register, or one of the first n
abbrev pub IsBelow : ℕ → Operand → Type 0
IsBelow n (Const _) = Unit {0}
IsBelow n (Param _) = Unit {0}
IsBelow n (Reg r) = r < n

-- so are the operands of the terminator
abbrev pub AreBelow : ℕ → Terminator → Type 0
AreBelow n (Return None) = Unit {0}
AreBelow n (Return (Some operand)) = IsBelow n operand
AreBelow n (Jump _) = Unit {0}
AreBelow n (Branch condition _ _) = IsBelow n condition
AreBelow n (Switch _ operand _ _) = IsBelow n operand
AreBelow n Unreachable = Unit {0}
