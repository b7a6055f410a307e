-- A phrase begins where its first part does, which takes a token.
use Rattle.std.proofs.Common.{◌≡◌, Bool, true, false, ◌&&◌, ◌||◌, List, refl}
use Rattle.ir_lexer.specs.Lexeme.{Lexeme}
use Rattle.grammar.specs.Grammar.{Grammar, pair, is_empty, is_next}
use Rattle.ir_parser.specs.Values.{attached}
use Rattle.ir_parser.specs.Calls.{call_word, call, phi}
use Rattle.ir_parser.specs.Instrs.{binop, castop, alloca, load, binary, compare, convert, select, store, computing, giving, result_name, giving_instr, storing_instr, bare_instr, instr}

alone : (x y empty : Bool) → empty ≡ false → x || (empty && y) ≡ x
alone true y empty e = refl
alone false y empty e = rw e refl

pair_begins : {T A B : Type 0} (g : Grammar T A) (h : Grammar T B) (ts : List T) → is_empty g ≡ false → is_next (pair g h) ts ≡ is_next g ts
pair_begins g h ts e = alone (is_next g ts) (is_next h ts) (is_empty g) e

bare_instr_takes : is_empty bare_instr ≡ false
unfolding bare_instr giving_instr result_name giving alloca load computing binary binop compare convert castop select call call_word phi storing_instr store
bare_instr_takes = refl

pub instr_begins : (ts : List Lexeme) → is_next instr ts ≡ is_next bare_instr ts
unfolding instr
instr_begins ts = pair_begins bare_instr attached ts bare_instr_takes
