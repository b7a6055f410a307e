-- The tokens before a stop and from it on, and the refusal there.
use Rattle.std.proofs.Common.{◌≡◌, ℕ, zero, suc, List, [], ◌∷◌, ◌++◌, take, drop, map, Err, refl, ap}
use Rattle.ir_types.specs.declared.span.Span.{Span}
use Rattle.ir_lexer.specs.Lexeme.{Lexeme}
use Rattle.grammar.specs.Grammar.{StopsAt}
use Rattle.ir_parser.specs.Module.{module_text}
use Rattle.ir_parser.specs.Answers.{Names, StopsSo}
use Rattle.ir_parser.specs.declared.parsing.ParseError.{ParseError}
use Rattle.ir_parser.specs.declared.parsing.ParseError.TheVariants.{Syntax, OutOfProfile, NoMemory}

pub parted : {X T : Type 0} (f : X → T) (at : ℕ) (xs : List X) → map f xs ≡ map f (take at xs) ++ map f (drop at xs)
parted f zero xs = refl
parted f (suc at) [] = refl
parted {X} {T} f (suc at) (x ∷ xs) = ap (λ (l : List T). f x ∷ l) (parted f at xs)

pub refused : (tokens front stop : List Lexeme) (end : Span) (error : ParseError) → tokens ≡ front ++ stop → StopsAt module_text tokens stop → Names front stop end error → StopsSo tokens end (Err error)
refused tokens front stop end (Syntax span) p s n = record { front = front; stop = stop; parted = p; stops = s; named = n }
refused tokens front stop end (OutOfProfile span) p s n = record { front = front; stop = stop; parted = p; stops = s; named = n }
refused tokens front stop end NoMemory p s n = tt
