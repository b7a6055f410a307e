-- What the canonical text of a module spells.
use Rattle.std.specs.Prelude.{◌≡◌, List, Ok}
use Rattle.ir_types.specs.Program.{Program}
use Rattle.ir_types.specs.TreeOf.{IsTreeOf}
use Rattle.ir_types.specs.declared.tree.Raw.{Raw}
use Rattle.ir_lexer.specs.Lexeme.{Lexeme}
use Rattle.ir_lexer.specs.Tokens.{tokens_of}
use Rattle.grammar.specs.Grammar.{SpellsAll}
use Rattle.ir_parser.specs.Module.{module_text}
use Rattle.ir_printer.specs.Text.{text_of}

-- the canonical text of the module has tokens, and the grammar spells them as the tree of the module
pub record SpellsTree (m : Program) : Type 0 where
  pub tokens : List Lexeme
  pub lexed : tokens_of (text_of m) ≡ Ok tokens
  pub tree : Raw
  pub spelled : SpellsAll module_text tokens tree
  pub is : IsTreeOf m tree
