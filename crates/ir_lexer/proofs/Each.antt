-- What holds of each token of a text.
use Rattle.std.proofs.Common.{◌≡◌, ℕ, suc, zero, ◌+◌, ◌-◌, ◌<◌, ◌≤◌, List, [], ◌∷◌, length, take, drop, map, Ok, Err, refl, sym, ap, subst, ◌∙◌, arith, length-drop}
use Rattle.std.specs.List.{AllByRecursion, All}
use Rattle.std.proofs.lemmas.List.{drop-drop}
use Rattle.std.proofs.lemmas.List.Elements.{All-from_recursion}
use Rattle.ir_lexer.specs.declared.token.Token.{Token}
use Rattle.ir_lexer.specs.declared.token.TokenKind.{TokenKind}
use Rattle.ir_lexer.specs.declared.lexing.Place.{Place}
use Rattle.ir_lexer.specs.declared.pieces.Piece.{Piece}
use Rattle.ir_lexer.specs.declared.pieces.Piece.TheVariants.{Gap, Spelled, Bad}
use Rattle.ir_lexer.specs.Lexeme.{Lexeme, lexeme}
use Rattle.ir_lexer.specs.Pieces.{piece_of, IsSized}
use Rattle.ir_lexer.specs.Tokens.{Lexing, past_byte, span_of, start, with_first, on_piece, tokens_behind, tokens_of, IsSliceOf, IsOrderedFrom}
use Rattle.ir_lexer.specs.Texts.{IsText}
use Rattle.ir_lexer.proofs.Sized.{piece_sized}
use Rattle.ir_lexer.proofs.Spelt.{IsToken, piece_token}

-- P holds of each token, where there are tokens
abbrev pub Each : (Lexeme → Type 0) → Lexing → Type 0
Each P (Ok ts) = AllByRecursion P ts
Each P (Err wrong) = Unit {0}

each_first : (P : Lexeme → Type 0) (t : Lexeme) (r : Lexing) → P t → Each P r → Each P (with_first t r)
each_first P t (Ok ts) one more = (one, more)
each_first P t (Err wrong) one more = tt

-- what holds of a token that a piece makes, and goes on to hold behind it
module _ (P : Lexeme → Type 0) (Stands : Place → List ℕ → Type 0)
    (step : (here : Place) (b : ℕ) (bs : List ℕ) → Stands here (b ∷ bs) → Stands (past_byte b here) bs)
    (one : (here : Place) (b : ℕ) (bs : List ℕ) (kind : TokenKind) (n : ℕ) → Stands here (b ∷ bs) → Spelled kind n ≡ piece_of here.fresh (b ∷ bs) → P (record { kind = kind; text = take n (b ∷ bs); span = span_of here n })) where
  on_each : (p : Piece) (here : Place) (b : ℕ) (bs : List ℕ) (go : ℕ → Lexing) → p ≡ piece_of here.fresh (b ∷ bs) → Stands here (b ∷ bs) → ((n : ℕ) → Each P (go n)) → Each P (on_piece p here b (b ∷ bs) go)
  on_each (Gap n) here b bs go e stands more = more n
  on_each (Spelled kind n) here b bs go e stands more = each_first P _ (go n) (one here b bs kind n stands e) (more n)
  on_each Bad here b bs go e stands more = tt

  pub each : (here : Place) (n : ℕ) (bytes : List ℕ) → Stands here bytes → Each P (tokens_behind here n bytes)
  each here n [] stands = tt
  each here (suc n) (b ∷ bs) stands = each (past_byte b here) n bs (step here b bs stands)
  each here zero (b ∷ bs) stands = on_each (piece_of here.fresh (b ∷ bs)) here b bs _ refl stands (λ n. each (past_byte b here) (n - 1) bs (step here b bs stands))

-- ---- each is a slice of the source

slice_step : (source : List ℕ) (offset b : ℕ) (bs : List ℕ) → b ∷ bs ≡ drop offset source → bs ≡ drop (offset + 1) source
slice_step source offset b bs e = ap (drop 1) e ∙ drop-drop 1 offset source

slice_one : (source : List ℕ) (here : Place) (b : ℕ) (bs : List ℕ) (kind : TokenKind) (n : ℕ) → b ∷ bs ≡ drop here.offset source → Spelled kind n ≡ piece_of here.fresh (b ∷ bs)
    → IsSliceOf source (record { kind = kind; text = take n (b ∷ bs); span = span_of here n })
slice_one source here b bs kind n e piece =
    let sized : IsSized (Spelled kind n) (b ∷ bs) = subst (λ p. IsSized p (b ∷ bs)) (sym piece) (piece_sized here.fresh (b ∷ bs)) in
    let len : length (b ∷ bs) ≡ length source - here.offset = ap length e ∙ length-drop here.offset source in
    let n_is : n ≡ here.offset + n - here.offset = omega arith in
    (omega (arith, len, sized), ap (take n) e ∙ ap (λ k. take k (drop here.offset source)) n_is)

pub each_slice : (source : List ℕ) → Each (IsSliceOf source) (tokens_of source)
unfolding tokens_of
each_slice source = each (IsSliceOf source) (λ here bytes. bytes ≡ drop here.offset source) (λ here b bs. slice_step source here.offset b bs) (slice_one source) start 0 source refl

-- ---- each has a text of its kind

pub each_text : (source : List ℕ) → Each (λ t. IsText t.kind t.text) (tokens_of source)
unfolding tokens_of
each_text source =
    each (λ t. IsText t.kind t.text) (λ here bytes. Unit {0}) (λ here b bs stands. tt)
    (λ here b bs kind n stands e. subst (λ p. IsToken p (b ∷ bs)) (sym e) (piece_token here.fresh b bs)) start 0 source tt

-- ---- no more tokens than bytes

abbrev pub Fewer : ℕ → Lexing → Type 0
Fewer n (Ok ts) = length ts ≤ n
Fewer n (Err wrong) = Unit {0}

fewer_first : (n : ℕ) (t : Lexeme) (r : Lexing) → Fewer n r → Fewer (suc n) (with_first t r)
fewer_first n t (Ok ts) few = omega arith
fewer_first n t (Err wrong) few = tt

fewer_gap : (n : ℕ) (r : Lexing) → Fewer n r → Fewer (suc n) r
fewer_gap n (Ok ts) few = omega arith
fewer_gap n (Err wrong) few = tt

on_fewer : (p : Piece) (here : Place) (b : ℕ) (bs : List ℕ) (go : ℕ → Lexing) → ((n : ℕ) → Fewer (length bs) (go n)) → Fewer (suc (length bs)) (on_piece p here b (b ∷ bs) go)
on_fewer (Gap n) here b bs go few = fewer_gap (length bs) (go n) (few n)
on_fewer (Spelled kind n) here b bs go few = fewer_first (length bs) _ (go n) (few n)
on_fewer Bad here b bs go few = tt

fewer_behind : (here : Place) (n : ℕ) (bytes : List ℕ) → Fewer (length bytes) (tokens_behind here n bytes)
fewer_behind here n [] = omega arith
fewer_behind here (suc n) (b ∷ bs) = fewer_gap (length bs) _ (fewer_behind (past_byte b here) n bs)
fewer_behind here zero (b ∷ bs) = on_fewer (piece_of here.fresh (b ∷ bs)) here b bs _ (λ n. fewer_behind (past_byte b here) (n - 1) bs)

pub fewer : (source : List ℕ) → Fewer (length source) (tokens_of source)
unfolding tokens_of
fewer source = fewer_behind start 0 source

-- ---- they are in order

abbrev pub Ordered : ℕ → Lexing → Type 0
Ordered offset (Ok ts) = IsOrderedFrom offset ts
Ordered offset (Err wrong) = Unit {0}

ordered_at : (a b : ℕ) (r : Lexing) → a ≡ b → Ordered a r → Ordered b r
ordered_at a b r e ordered = subst (λ n. Ordered n r) e ordered

ordered_sooner : (a b : ℕ) (ts : List Lexeme) → a ≤ b → IsOrderedFrom b ts → IsOrderedFrom a ts
ordered_sooner a b [] le ordered = tt
ordered_sooner a b (t ∷ ts) le ordered = (omega (arith, ordered.0), ordered.1, ordered.2)

gap_ordered : (a b : ℕ) (r : Lexing) → a ≤ b → Ordered b r → Ordered a r
gap_ordered a b (Ok ts) le ordered = ordered_sooner a b ts le ordered
gap_ordered a b (Err wrong) le ordered = tt

first_ordered : (kind : TokenKind) (n : ℕ) (text : List ℕ) (here : Place) (r : Lexing) → 0 < n → Ordered (here.offset + n) r
    → Ordered here.offset (with_first (record { kind = kind; text = text; span = span_of here n }) r)
first_ordered kind n text here (Ok ts) some ordered = (omega arith, omega arith, ordered)
first_ordered kind n text here (Err wrong) some ordered = tt

on_ordered : (p : Piece) (here : Place) (b : ℕ) (bs : List ℕ) (go : ℕ → Lexing) → IsSized p (b ∷ bs) → ((n : ℕ) → 0 < n → Ordered (here.offset + n) (go n)) → Ordered here.offset (on_piece p here b (b ∷ bs) go)
on_ordered (Gap n) here b bs go sized more = gap_ordered here.offset (here.offset + n) (go n) (omega arith) (more n sized.0)
on_ordered (Spelled kind n) here b bs go sized more = first_ordered kind n _ here (go n) sized.0 (more n sized.0)
on_ordered Bad here b bs go sized more = tt

ordered_behind : (here : Place) (n : ℕ) (bytes : List ℕ) → Ordered (here.offset + n) (tokens_behind here n bytes)
ordered_behind here n [] = tt
ordered_behind here (suc n) (b ∷ bs) = ordered_at _ _ (tokens_behind (past_byte b here) n bs) (omega arith) (ordered_behind (past_byte b here) n bs)
ordered_behind here zero (b ∷ bs) =
    ordered_at here.offset (here.offset + 0) (tokens_behind here 0 (b ∷ bs)) (omega arith)
    (on_ordered (piece_of here.fresh (b ∷ bs)) here b bs (λ n. tokens_behind (past_byte b here) (n - 1) bs) (piece_sized here.fresh (b ∷ bs))
    (λ n some. ordered_at (here.offset + 1 + (n - 1)) (here.offset + n) (tokens_behind (past_byte b here) (n - 1) bs) (omega arith) (ordered_behind (past_byte b here) (n - 1) bs)))

pub ordered : (source : List ℕ) → Ordered 0 (tokens_of source)
unfolding tokens_of
ordered source = ordered_behind start 0 source

-- ---- of the tokens that were returned

of_lexemes : (P : Lexeme → Type 0) (ts : List Token) → AllByRecursion P (map lexeme ts) → AllByRecursion (λ t. P (lexeme t)) ts
of_lexemes P [] all = tt
of_lexemes P (t ∷ ts) all = (all.0, of_lexemes P ts all.1)

pub all_tokens : (P : Lexeme → Type 0) (r : Lexing) (ts : List Token) → Each P r → r ≡ Ok (map lexeme ts) → All (λ t. P (lexeme t)) ts
all_tokens P r ts all e = All-from_recursion (λ t. P (lexeme t)) ts (of_lexemes P ts (subst (Each P) e all))

-- those of a text that has tokens
pub tokens_ordered : (source : List ℕ) (tokens : List Lexeme) → tokens_of source ≡ Ok tokens → IsOrderedFrom 0 tokens
tokens_ordered source tokens e = subst (Ordered 0) e (ordered source)
