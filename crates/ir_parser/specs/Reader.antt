-- What the functions of the reader answer, by the plain reader of a grammar; an index stands for the tokens from there on.
use Rattle.std.specs.Prelude.{◌≡◌, ℕ, List, Result, Ok, Err, drop, map}
use Rattle.ir_lexer.specs.Lexeme.{Lexeme, lexeme}
use Rattle.ir_lexer.specs.declared.token.Token.{Token}
use Rattle.grammar.specs.Reading.{Reading}
use Rattle.ir_parser.specs.declared.tokens.Stop.{Stop}
use Rattle.ir_parser.specs.declared.tokens.Trouble.{Trouble}
use Rattle.ir_parser.specs.declared.tokens.Trouble.TheVariants.{Memory, Stopped}

-- the answer is the tree of the reading, or its stop
abbrev pub Gives : {A : Type 0} → List Token → Result (A × ℕ) Stop → Reading Lexeme A → Type 0
Gives tokens (Ok x) reading = reading ≡ Ok (x.0, map lexeme (drop x.1 tokens))
Gives tokens (Err e) reading = reading ≡ Err (map lexeme (drop e.at tokens))

-- the same, where the tree is a token
abbrev pub GivesToken : List Token → Result (Token × ℕ) Stop → Reading Lexeme Lexeme → Type 0
GivesToken tokens (Ok x) reading = reading ≡ Ok (lexeme x.0, map lexeme (drop x.1 tokens))
GivesToken tokens (Err e) reading = reading ≡ Err (map lexeme (drop e.at tokens))

-- the same, where nothing is kept
abbrev pub Passes : List Token → Result ℕ Stop → Reading Lexeme (Unit {0}) → Type 0
Passes tokens (Ok next) reading = reading ≡ Ok (tt, map lexeme (drop next tokens))
Passes tokens (Err e) reading = reading ≡ Err (map lexeme (drop e.at tokens))

-- the same, unless memory ran out
abbrev pub GivesOrMemory : {A : Type 0} → List Token → Result (A × ℕ) Trouble → Reading Lexeme A → Type 0
GivesOrMemory tokens (Ok x) reading = reading ≡ Ok (x.0, map lexeme (drop x.1 tokens))
GivesOrMemory tokens (Err Memory) reading = Unit {0}
GivesOrMemory tokens (Err (Stopped e)) reading = reading ≡ Err (map lexeme (drop e.at tokens))
