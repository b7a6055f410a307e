-- A text of tokens that are kept apart has those tokens.
use Rattle.std.proofs.Common.{◌≡◌, ℕ, Bool, true, List, [], ◌∷◌, ◌++◌, ◌-◌, length, take, drop, map, Ok, refl, ap, ◌∙◌, arith, append_assoc}
use Rattle.std.specs.List.{list_all}
use Rattle.std.proofs.lemmas.List.{take_at, drop_at}
use Rattle.ir_types.specs.Bytes.{is_blank}
use Rattle.ir_lexer.specs.declared.token.TokenKind.{TokenKind}
use Rattle.ir_lexer.specs.declared.lexing.Place.{Place}
use Rattle.ir_lexer.specs.declared.pieces.Piece.{Piece}
use Rattle.ir_lexer.specs.declared.pieces.Piece.TheVariants.{Gap}
use Rattle.ir_lexer.specs.Lexeme.{Lexeme}
use Rattle.ir_lexer.specs.Pieces.{piece_of}
use Rattle.ir_lexer.specs.Tokens.{past_byte, past, start, span_of, with_first, on_piece, tokens_behind, tokens_of}
use Rattle.ir_lexer.specs.Texts.{Bare, bare, Inked, text_of, IsParted, LexesBack}
use Rattle.ir_lexer.proofs.Tokens.{one_piece, go_on}
use Rattle.ir_lexer.proofs.Bytes.{all_cons}
use Rattle.ir_lexer.proofs.Single.{IsLexed, is_lexed}

blank_piece : (fresh : Bool) (b : ℕ) (bs : List ℕ) → is_blank b ≡ true → piece_of fresh (b ∷ bs) ≡ Gap 1
unfolding piece_of
blank_piece fresh b bs e = rw e refl

blanks : (gap rest : List ℕ) (here : Place) → list_all is_blank gap ≡ true → (there : Place) × (tokens_behind here 0 (gap ++ rest) ≡ tokens_behind there 0 rest)
blanks [] rest here e = (here, refl)
blanks (b ∷ bs) rest here e =
    let a = all_cons is_blank b bs e in
    let more = blanks bs rest (past_byte b here) a.1 in
    (more.0, ap (λ (p : Piece). on_piece p here b (b ∷ (bs ++ rest)) (λ n. tokens_behind (past_byte b here) (n - 1) (bs ++ rest))) (blank_piece here.fresh b (bs ++ rest) a.0) ∙ more.1)

-- one token, and what stands behind it
one_token : (kind : TokenKind) (text more : List ℕ) (here : Place) → IsLexed here.fresh kind text more
    → tokens_behind here 0 (text ++ more) ≡ with_first (record { kind = kind; text = text; span = span_of here (length text) }) (tokens_behind (past text here) 0 more)
one_token kind [] more here one = absurd (let l = one.1 in omega arith)
one_token kind (b ∷ bs) more here one =
    let text : List ℕ = b ∷ bs in
    let taken : take (length text) (text ++ more) ≡ text = take_at text more (length text) refl in
    let dropped : drop (length text) (text ++ more) ≡ more = drop_at text more (length text) refl in
    one_piece b (bs ++ more) here
    ∙ ap (λ (p : Piece). on_piece p here b (text ++ more) (go_on here (text ++ more))) one.0
    ∙ ap (λ (l : List ℕ). with_first (record { kind = kind; text = l; span = span_of here (length text) }) (tokens_behind (past l here) 0 (drop (length text) (text ++ more)))) taken
    ∙ ap (λ (l : List ℕ). with_first (record { kind = kind; text = text; span = span_of here (length text) }) (tokens_behind (past text here) 0 l)) dropped

lexes : (script : List Inked) → IsParted script → (here : Place) → (ts : List Lexeme) × (tokens_behind here 0 (text_of script) ≡ Ok ts) × (map bare ts ≡ map (λ i. i.0) script)
lexes [] parted here = ([], refl, refl)
lexes (i ∷ is) parted here =
    let kind = i.0.kind in
    let text = i.0.text in
    let behind : List ℕ = i.1 ++ text_of is in
    let one = is_lexed here.fresh kind text behind parted.0 parted.1 parted.3 in
    let gap = blanks i.1 (text_of is) (past text here) parted.2 in
    let more = lexes is parted.4 gap.0 in
    let t : Lexeme = record { kind = kind; text = text; span = span_of here (length text) } in
    let go : tokens_behind (past text here) 0 behind ≡ Ok more.0 = gap.1 ∙ more.1 in
    (t ∷ more.0, ap (tokens_behind here 0) (append_assoc text i.1 (text_of is)) ∙ one_token kind text behind here one ∙ ap (with_first t) go, cons_is refl more.2)
  where
    cons_is : {a b : Bare} {xs ys : List Bare} → a ≡ b → xs ≡ ys → a ∷ xs ≡ b ∷ ys
    cons_is e f = cc

pub lexes_back : (script : List Inked) → IsParted script → LexesBack script
unfolding tokens_of
lexes_back script parted = lexes script parted start
