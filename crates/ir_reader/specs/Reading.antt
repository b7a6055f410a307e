-- What a text means, or why it is refused.
use Rattle.std.specs.Prelude.{◌≡◌, List, ℕ, Option, None, Some, Ok, Err}
use Rattle.std.specs.declared.result.Result.{Result}
use Rattle.ir_types.specs.Program.{Program}
use Rattle.ir_types.specs.Rules.{tree_problem}
use Rattle.ir_types.specs.ModuleOf.{module_of}
use Rattle.ir_types.specs.Same.{plain}
use Rattle.ir_types.specs.declared.rules.Problem.{Problem}
use Rattle.ir_types.specs.declared.tree.Raw.{Raw}
use Rattle.ir_lexer.specs.Lexeme.{Lexeme}
use Rattle.ir_lexer.specs.Tokens.{tokens_of, end_of}
use Rattle.ir_parser.specs.Answers.{IsRefused}
use Rattle.ir_parser.specs.Module.{module_text}
use Rattle.ir_parser.specs.declared.parsing.ParseError.{ParseError}
use Rattle.ir_parser.specs.declared.parsing.ParseError.TheVariants as parse
use Rattle.ir_printer.specs.Text.{text_of}
use Rattle.grammar.specs.Grammar.{SpellsAll}
use Rattle.ir_reader.specs.declared.reading.Refusal.{Refusal}
use Rattle.ir_reader.specs.declared.reading.Refusal.TheVariants.{BadByte, Syntax, OutOfProfile, Broken}
use Rattle.ir_reader.specs.declared.reading.ReadError.{ReadError}
use Rattle.ir_reader.specs.declared.reading.ReadError.TheVariants.{Refused, NoMemory}

-- the text has tokens, and the grammar spells them as a tree with this problem, or with none
pub record HasTree (bytes : List ℕ) (problem : Option Problem) : Type 0 where
  pub tokens : List Lexeme
  pub lexed : tokens_of bytes ≡ Ok tokens
  pub tree : Raw
  pub spelled : SpellsAll module_text tokens tree
  pub problem_is : tree_problem tree ≡ problem

-- the text has tokens, in which the grammar stops as this error says
pub record Stops (bytes : List ℕ) (error : ParseError) : Type 0 where
  pub tokens : List Lexeme
  pub lexed : tokens_of bytes ≡ Ok tokens
  pub refused : IsRefused tokens (end_of bytes) error

-- A text reads as a module where it has a tree that breaks no rule, and the tree means the module.
unfoldable pub Reads : List ℕ → Program → Type 0
Reads bytes m = (t : HasTree bytes None) × (m ≡ module_of t.tree)

-- A text is refused: a byte starts no token, or the grammar stops, or the tree breaks a rule; the first in this order.
unfoldable pub Refuses : List ℕ → Refusal → Type 0
Refuses bytes (BadByte span byte) = tokens_of bytes ≡ Err (record { span = span; byte = byte })
Refuses bytes (Syntax span) = Stops bytes (parse.Syntax span)
Refuses bytes (OutOfProfile span) = Stops bytes (parse.OutOfProfile span)
Refuses bytes (Broken problem) = HasTree bytes (Some problem)

-- the module, or the refusal, unless memory ran out
abbrev pub Tells : List ℕ → Result Program ReadError → Type 0
Tells bytes (Ok m) = Reads bytes m
Tells bytes (Err (Refused refusal)) = Refuses bytes refusal
Tells bytes (Err NoMemory) = Unit {0}

-- a text reads as one module at most, or is refused for one reason at most, and not both
pub record HasOneAnswer (bytes : List ℕ) : Type 0 where
  pub one_module : (m n : Program) → Reads bytes m → Reads bytes n → m ≡ n
  pub one_refusal : (r s : Refusal) → Refuses bytes r → Refuses bytes s → r ≡ s
  pub not_both : (m : Program) (r : Refusal) → Reads bytes m → ¬ (Refuses bytes r)

-- the canonical text of a module means the same module again, with each name as it is spelled
pub record ReadsBack (m : Program) : Type 0 where
  pub again : Program
  pub reads : Reads (text_of m) again
  pub same : again ≡ plain m
