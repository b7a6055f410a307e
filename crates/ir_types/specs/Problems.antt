-- The first problem of a tree, as it comes from the first problems of its parts.
use Rattle.std.specs.Prelude.{Bool, Option, Some, None, if◌then◌else◌}
use Rattle.ir_types.specs.declared.span.Span.{Span}
use Rattle.ir_types.specs.declared.rules.Rule.{Rule}
use Rattle.ir_types.specs.declared.rules.Problem.{Problem}

infixr 30 ◌>>◌
-- the first problem of two parts, in this order
abbrev pub ◌>>◌ : Option Problem → Option Problem → Option Problem
(Some p) >> later = Some p
None >> later = later

-- the problem that a rule is broken at a place, where it is
abbrev pub broken : Rule → Span → Bool → Option Problem
broken r s b = if b then Some (record { rule = r; span = s }) else None
