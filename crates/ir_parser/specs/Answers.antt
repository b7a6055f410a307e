-- What the reading of a whole list of tokens answers.
use Rattle.std.specs.Prelude.{◌≡◌, Bool, true, false, List, [], ◌∷◌, ◌++◌, Result, Ok, Err}
use Rattle.ir_types.specs.declared.span.Span.{Span}
use Rattle.ir_types.specs.declared.tree.Raw.{Raw}
use Rattle.ir_lexer.specs.Lexeme.{Lexeme}
use Rattle.grammar.specs.Grammar.{StopsAt}
use Rattle.ir_parser.specs.Module.{module_text}
use Rattle.ir_parser.specs.Profile.{IsOutOfProfile}
use Rattle.ir_parser.specs.declared.parsing.ParseError.{ParseError}
use Rattle.ir_parser.specs.declared.parsing.ParseError.TheVariants.{Syntax, OutOfProfile, NoMemory}

-- the place of a stop: its token's, or the end
abbrev pub place_at : List Lexeme → Span → Span
place_at [] end = end
place_at (t ∷ ts) end = t.span

-- the tree, where one was returned, is this; a refusal was none
abbrev pub IsReadAs : Raw → Result Raw ParseError → Type 0
IsReadAs tree (Ok raw) = raw ≡ tree
IsReadAs tree (Err NoMemory) = Unit {0}
IsReadAs tree (Err (Syntax span)) = ⊥
IsReadAs tree (Err (OutOfProfile span)) = ⊥

-- the answer is whether this holds
abbrev pub Tells : Bool → Type 0 → Type 0
Tells true P = P
Tells false P = P → ⊥

-- The error names the place of the stop behind the tokens of front, and is told from the other one by the profile.
abbrev pub Names : List Lexeme → List Lexeme → Span → ParseError → Type 0
Names front stop end (Syntax span) = (span ≡ place_at stop end) × (IsOutOfProfile front stop → ⊥)
Names front stop end (OutOfProfile span) = (span ≡ place_at stop end) × IsOutOfProfile front stop
Names front stop end NoMemory = Unit {0}

-- the grammar stops in the tokens, at a place that the error names
pub record IsRefused (tokens : List Lexeme) (end : Span) (error : ParseError) : Type 0 where
  pub front : List Lexeme
  pub stop : List Lexeme
  pub parted : tokens ≡ front ++ stop
  pub stops : StopsAt module_text tokens stop
  pub named : Names front stop end error

-- a refusal for another reason than want of memory names the stop
abbrev pub StopsSo : List Lexeme → Span → Result Raw ParseError → Type 0
StopsSo tokens end (Ok raw) = Unit {0}
StopsSo tokens end (Err NoMemory) = Unit {0}
StopsSo tokens end (Err (Syntax span)) = IsRefused tokens end (Syntax span)
StopsSo tokens end (Err (OutOfProfile span)) = IsRefused tokens end (OutOfProfile span)
