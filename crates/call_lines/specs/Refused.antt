-- What the line of a refused text says.
use Rattle.std.specs.Prelude.{ℕ, ◌-◌, ◌/◌, ◌%◌, List, [], ◌∷◌, ◌++◌, codes, take, drop, get_or}
use Rattle.std.specs.Fmt.{decimal}
use Rattle.ir_types.specs.declared.span.Span.{Span}
use Rattle.ir_types.specs.declared.rules.Rule.{Rule}
use Rattle.ir_types.specs.declared.rules.Rule.TheVariants as rule
use Rattle.ir_reader.specs.declared.reading.Refusal.{Refusal}
use Rattle.ir_reader.specs.declared.reading.Refusal.TheVariants.{BadByte, Syntax, OutOfProfile, Broken}

-- the place of a refusal
abbrev pub place_of : Refusal → Span
place_of (BadByte span byte) = span
place_of (Syntax span) = span
place_of (OutOfProfile span) = span
place_of (Broken problem) = problem.span

-- the code and the name of a rule
abbrev pub rule_text : Rule → List ℕ
rule_text rule.Undefined = codes "E5 Undefined"
rule_text rule.Duplicate = codes "E6 Duplicate"
rule_text rule.BadNumber = codes "E7 BadNumber"
rule_text rule.BadType = codes "E8 BadType"
rule_text rule.Escapes = codes "E9 Escapes"
rule_text rule.CrossBlock = codes "E10 CrossBlock"
rule_text rule.EntryHasPredecessor = codes "E11 EntryHasPredecessor"
rule_text rule.LateAlloca = codes "E12 LateAlloca"
rule_text rule.UnknownExternal = codes "E13 UnknownExternal"
rule_text rule.ConstantRange = codes "E14 ConstantRange"
rule_text rule.Limit = codes "E15 Limit"
rule_text rule.Phi = codes "E16 Phi"

-- what to do about it, where a pass of LLVM helps
abbrev pub advice_text : Rule → List ℕ
advice_text rule.CrossBlock = codes " (demote registers first)"
advice_text rule.Phi = codes " (demote registers first)"
advice_text _ = []

-- the text's bytes at a place, at most 40 of them
abbrev pub excerpt_at : List ℕ → Span → List ℕ
excerpt_at source span = take 40 (take (span.end - span.start) (drop span.start source))

-- a space and the excerpt; nothing at the end of a text
abbrev pub spaced : List ℕ → List ℕ
spaced [] = []
spaced (b ∷ bs) = codes " " ++ (b ∷ bs)

-- two lower-case hexadecimal digits
abbrev pub hex_text : ℕ → List ℕ
hex_text byte = get_or (codes "0123456789abcdef") (byte / 16) 0 ∷ get_or (codes "0123456789abcdef") (byte % 16) 0 ∷ []

-- what is wrong, with the excerpt
abbrev pub cause_text : Refusal → List ℕ → List ℕ
cause_text (BadByte span byte) excerpt = codes "E2 BadByte 0x" ++ hex_text byte
cause_text (Syntax span) excerpt = codes "E3 Syntax" ++ spaced excerpt
cause_text (OutOfProfile span) excerpt = codes "E4 OutOfProfile" ++ spaced excerpt
cause_text (Broken problem) excerpt = rule_text problem.rule ++ (spaced excerpt ++ advice_text problem.rule)

-- the line of a place
abbrev pub place_text : Span → List ℕ
place_text span = codes ":" ++ (decimal span.line ++ codes ": ")

-- the line, and what is wrong there
abbrev pub refused_text : Refusal → List ℕ → List ℕ
refused_text refusal excerpt = place_text (place_of refusal) ++ (cause_text refusal excerpt ++ codes "\n")
