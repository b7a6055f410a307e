use Rattle.std.proofs.Common.{◌≡◌, ◌-◌, ◌++◌, ◌∷◌, [], ℕ, List, length, take, drop, map, ap, subst, Ok, arith, length-drop}
use Rattle.std.proofs.lemmas.List.{take_all, map_push, length-map}
use Rattle.ir_lexer.specs.Lexeme.{Lexeme, lexeme}
use Rattle.ir_lexer.specs.Tokens.{tokens_of, IsSliceOf}
use Rattle.ir_lexer.proofs.Tokens.{none_lexed, all_lexed, passed_on, lexed_on}
use Rattle.ir_lexer.specs.Texts.{IsText}
use Rattle.ir_lexer.proofs.Each.{Fewer, Ordered, ordered, each_slice, each_text, fewer, all_tokens}
use Rattle.ir_lexer.proofs.lexing.lex.Goals as goal

-- `&s[i..]` is what stands from i on
from : (s : List ℕ) (i : ℕ) → take (length s - i) (drop i s) ≡ drop i s
from s i = take_all (length s - i) (drop i s) (omega (arith, length-drop i s))

pub loop-here-init : goal.loop-here-init
loop-here-init c = none_lexed c.args.source.now c.start-here.result (map lexeme c.new-tokens.result.items) c.start-here.ensures (ap (map lexeme) c.new-tokens.ensures.items)

pub loop-here-preserved-in-Gap : goal.loop-here-preserved-in-Gap
loop-here-preserved-in-Gap c =
    let k = c.in-Gap.ensures in
    let source = c.args.source.now in
    let here = c.loop-here.here in
    passed_on source (take (length source - here.offset) (drop here.offset source)) here (tokens_of source) (from source here.offset) (omega arith) c.in-Gap.len (map lexeme c.loop-here.tokens.items) c.past-here.result k.piece k.sized.1 c.past-here.ensures.place c.loop-here.invariant

pub loop-here-preserved : goal.loop-here-preserved
loop-here-preserved c =
    let k = c.in-Spelled.ensures in
    let m = c.in_ok-push-in-Spelled.ensures.items in
    let source = c.args.source.now in
    let here = c.loop-here.here in
    let n = c.in-Spelled.len in
    let rest : List ℕ = take (length source - here.offset) (drop here.offset source) in
    let spelled : Lexeme = record { kind = c.in-Spelled.kind; text = take n rest; span = c.span_of.result } in
    let items : map lexeme c.push.new.self.items ≡ map lexeme c.loop-here.tokens.items ++ spelled ∷ [] = rw m (map_push lexeme c.loop-here.tokens.items _) in
    rw items (lexed_on source rest here (tokens_of source) (from source here.offset) (omega arith) c.in-Spelled.kind n (map lexeme c.loop-here.tokens.items) spelled c.past-here-in-Spelled.result k.piece k.sized.1 c.past-here-in-Spelled.ensures.place (ap (λ s. record { kind = c.in-Spelled.kind; text = take n rest; span = s }) c.span_of.ensures) c.loop-here.invariant)

lexed : (c : goal.After-loop-here) → tokens_of c.args.source.now ≡ Ok (map lexeme c.loop-here.tokens.items)
lexed c = all_lexed c.args.source.now c.loop-here.here (map lexeme c.loop-here.tokens.items) (tokens_of c.args.source.now) c.loop-here-test.false c.loop-here.invariant

pub returns-clause-slices : goal.returns-clause-slices
returns-clause-slices c = all_tokens (IsSliceOf c.args.source.now) (tokens_of c.args.source.now) c.loop-here.tokens.items (each_slice c.args.source.now) (lexed c)

pub returns-clause-spelled : goal.returns-clause-spelled
returns-clause-spelled c = all_tokens (λ t. IsText t.kind t.text) (tokens_of c.args.source.now) c.loop-here.tokens.items (each_text c.args.source.now) (lexed c)

pub returns-clause-few : goal.returns-clause-few
returns-clause-few c =
    let few : Fewer (length c.args.source.now) (Ok (map lexeme c.loop-here.tokens.items)) = subst (Fewer (length c.args.source.now)) (lexed c) (fewer c.args.source.now) in
    omega (arith, few, length-map c.loop-here.tokens.items lexeme)

pub returns-clause-ordered : goal.returns-clause-ordered
returns-clause-ordered c = subst (Ordered 0) (lexed c) (ordered c.args.source.now)
