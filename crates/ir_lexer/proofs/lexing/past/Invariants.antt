use Rattle.std.proofs.Common.{◌≡◌, ◌≤◌, ◌+◌, drop}
use Rattle.ir_lexer.specs.Tokens.{past}
use Rattle.ir_lexer.proofs.lexing.past.Given as goal

abbrev pub invariant-loop-byte : goal.invariant-loop-byte
invariant-loop-byte l = record {
  line : l.there.line ≤ l.fn.here.line + l.byte-index;
  offset : l.there.offset ≡ l.fn.here.offset + l.byte-index;
  rest : past (drop l.byte-index l.bytes) l.there ≡ past l.bytes l.fn.here;
}
