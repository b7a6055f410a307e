-- Why a text is not read, by what stopped.
use Rattle.ir_lexer.specs.declared.lexing.LexError.{LexError}
use Rattle.ir_lexer.specs.declared.lexing.LexError.TheVariants as lex
use Rattle.ir_parser.specs.declared.parsing.ParseError.{ParseError}
use Rattle.ir_parser.specs.declared.parsing.ParseError.TheVariants as parse
use Rattle.ir_uses.specs.declared.error.CheckError.{CheckError}
use Rattle.ir_uses.specs.declared.error.CheckError.TheVariants as check
use Rattle.ir_reader.specs.declared.reading.Refusal.TheVariants.{BadByte, Syntax, OutOfProfile, Broken}
use Rattle.ir_reader.specs.declared.reading.ReadError.{ReadError}
use Rattle.ir_reader.specs.declared.reading.ReadError.TheVariants.{Refused, NoMemory}

abbrev pub cause_of_lex : LexError → ReadError
cause_of_lex (lex.BadByte span byte) = Refused (BadByte span byte)
cause_of_lex lex.NoMemory = NoMemory

abbrev pub cause_of_parse : ParseError → ReadError
cause_of_parse (parse.Syntax span) = Refused (Syntax span)
cause_of_parse (parse.OutOfProfile span) = Refused (OutOfProfile span)
cause_of_parse parse.NoMemory = NoMemory

abbrev pub cause_of_check : CheckError → ReadError
cause_of_check (check.Broken problem) = Refused (Broken problem)
cause_of_check check.NoMemory = NoMemory
