-- A text that has tokens is made of their texts and of gaps.
use Rattle.std.proofs.Common.{◌≡◌, ℕ, suc, zero, ◌+◌, ◌-◌, ◌<◌, ◌≤◌, Bool, true, false, cond, ◌&&◌, ◌||◌, ◌==◌, nat_lt, List, [], ◌∷◌, ◌++◌, length, take, drop, Ok, Err, refl, sym, ap, subst, ◌∙◌, arith, append_assoc, length-append}
use Rattle.std.specs.List.{prefix_len}
use Rattle.ir_types.specs.Bytes.{heads, is_blank, is_digit, is_name_byte}
use Rattle.std.proofs.lemmas.List.{append-nil, take-append-drop, length-take-le}
use Rattle.ir_lexer.specs.declared.token.TokenKind.{TokenKind}
use Rattle.ir_lexer.specs.declared.token.TokenKind.TheVariants.{Local, Global, Label, Number, Word, Hash, Bang, Punct}
use Rattle.ir_lexer.specs.Lexeme.{Lexeme}
use Rattle.ir_lexer.specs.Pieces.{is_mark, is_in_line, is_number, quoted_len, is_dropped, name_piece, sign_piece, quoted_piece, run_piece, piece_of, IsSized}
use Rattle.ir_lexer.specs.Tokens.{Lexing, past_byte, span_of, start, with_first, on_piece, tokens_behind, tokens_of}
use Rattle.ir_lexer.proofs.Sized.{piece_sized}
use Rattle.token_gaps.specs.Gaps.{IsLineStart, IsPassedOver, IsGap, AreInGaps}
use Rattle.token_gaps.proofs.Lines.{fresh_on, nothing_before}
use Rattle.token_gaps.proofs.Parts.{IsPart, rest_passed, blank_passed}

-- ---- one part more at the front

no_gap : (front more : List ℕ) → IsGap front [] more
no_gap front more = record { parts = []; joined = refl; are = tt }

longer : (front text gap more : List ℕ) → IsPassedOver front text (gap ++ more) → IsGap (front ++ text) gap more → IsGap front (text ++ gap) more
longer front text gap more one g = record {
  parts = text ∷ g.parts;
  joined = ap (λ (l : List ℕ). text ++ l) g.joined;
  are = (subst (λ (l : List ℕ). IsPassedOver front text (l ++ more)) g.joined one, g.are);
}

gap_first : (front text rest : List ℕ) (ts : List Lexeme) → IsPassedOver front text rest → AreInGaps (front ++ text) rest ts → AreInGaps front (text ++ rest) ts
gap_first front text rest [] one all = longer front text rest [] (subst (IsPassedOver front text) (sym (append-nil rest)) one) all
gap_first front text rest (t ∷ ts) one ((gap, more, spelled, starts, ends, is, others)) =
    let joined : rest ≡ gap ++ (t.text ++ more) = spelled ∙ append_assoc gap t.text more in
    let moved : front ++ text ++ gap ≡ front ++ (text ++ gap) = append_assoc front text gap in (
      text ++ gap,
      more,
      ap (λ (l : List ℕ). text ++ l) joined ∙ sym (append_assoc text gap (t.text ++ more)) ∙ sym (append_assoc (text ++ gap) t.text more),
      starts ∙ ap length moved,
      ends ∙ ap (λ (l : List ℕ). length (l ++ t.text)) moved,
      longer front text gap (t.text ++ more) (subst (IsPassedOver front text) joined one) is,
      subst (λ (l : List ℕ). AreInGaps (l ++ t.text) more ts) moved others,
    )

token_first : (front text rest : List ℕ) (kind : TokenKind) (here : _) (n : ℕ) (ts : List Lexeme) → (span_of here 0).start ≡ length front → n ≡ length text → AreInGaps (front ++ text) rest ts
    → AreInGaps front (text ++ rest) (record { kind = kind; text = text; span = span_of here n } ∷ ts)
token_first front text rest kind here n ts at len others =
    let moved : front ++ [] ≡ front = append-nil front in (
      [],
      rest,
      refl,
      at ∙ ap length (sym moved),
      (let l : length (front ++ text) ≡ length front + length text = length-append front text in let e : (span_of here n).end ≡ length (front ++ text) = omega (arith, l) in e ∙ ap (λ (l : List ℕ). length (l ++ text)) (sym moved)),
      no_gap front (text ++ rest),
      subst (λ (l : List ℕ). AreInGaps (l ++ text) rest ts) (sym moved) others,
    )

-- ---- along a text

abbrev pub Holds : List ℕ → List ℕ → Lexing → Type 0
Holds front rest (Ok ts) = AreInGaps front rest ts
Holds front rest (Err wrong) = Unit {0}

held_gap : (front text rest : List ℕ) (r : Lexing) → IsPassedOver front text rest → Holds (front ++ text) rest r → Holds front (text ++ rest) r
held_gap front text rest (Ok ts) one all = gap_first front text rest ts one all
held_gap front text rest (Err wrong) one all = tt

held_token : (front text rest : List ℕ) (kind : TokenKind) (here : _) (n : ℕ) (r : Lexing) → (span_of here 0).start ≡ length front → n ≡ length text → Holds (front ++ text) rest r
    → Holds front (text ++ rest) (with_first (record { kind = kind; text = text; span = span_of here n }) r)
held_token front text rest kind here n (Ok ts) at len all = token_first front text rest kind here n ts at len all
held_token front text rest kind here n (Err wrong) at len all = tt

-- whatever stands at the front
module _ (front : List ℕ) (here : _) (at : (span_of here 0).start ≡ length front) (b : ℕ) (bs : List ℕ) (go : ℕ → Lexing)
    (more : (n : ℕ) → 0 < n → n ≤ length (b ∷ bs) → Holds (front ++ take n (b ∷ bs)) (drop n (b ∷ bs)) (go n)) where
  gap_held : (n : ℕ) → IsPart front (b ∷ bs) n → (0 < n) × (n ≤ length (b ∷ bs)) → Holds front (b ∷ bs) (go n)
  gap_held n part sized = subst (λ (l : List ℕ). Holds front l (go n)) (take-append-drop n (b ∷ bs)) (held_gap front (take n (b ∷ bs)) (drop n (b ∷ bs)) (go n) part (more n sized.0 sized.1))

  token_held : (kind : TokenKind) (n : ℕ) → (0 < n) × (n ≤ length (b ∷ bs)) → Holds front (b ∷ bs) (with_first (record { kind = kind; text = take n (b ∷ bs); span = span_of here n }) (go n))
  token_held kind n sized =
      let text : List ℕ = take n (b ∷ bs) in
      subst (λ (l : List ℕ). Holds front l (with_first (record { kind = kind; text = text; span = span_of here n }) (go n))) (take-append-drop n (b ∷ bs))
      (held_token front text (drop n (b ∷ bs)) kind here n (go n) at (sym (length-take-le n (b ∷ bs) sized.1)) (more n sized.0 sized.1))

  choose : (r : Bool) (x y : _) → (r ≡ true → IsSized x (b ∷ bs) → Holds front (b ∷ bs) (on_piece x here b (b ∷ bs) go)) → (r ≡ false → IsSized y (b ∷ bs) → Holds front (b ∷ bs) (on_piece y here b (b ∷ bs) go))
      → IsSized (cond r x y) (b ∷ bs) → Holds front (b ∷ bs) (on_piece (cond r x y) here b (b ∷ bs) go)
  choose true x y p q = p refl
  choose false x y p q = q refl

  name_held : (kind : TokenKind) → IsSized (name_piece kind bs) (b ∷ bs) → Holds front (b ∷ bs) (on_piece (name_piece kind bs) here b (b ∷ bs) go)
  unfolding name_piece
  name_held kind =
      choose (heads is_digit bs) _ _ (λ e. token_held kind (1 + prefix_len is_digit bs))
      (λ e. choose (heads is_name_byte bs) _ _ (λ e. token_held kind (1 + prefix_len is_name_byte bs))
      (λ e. choose (nat_lt 0 (quoted_len bs)) _ _ (λ e. token_held kind (1 + quoted_len bs)) (λ e sized. tt)))

  sign_held : (kind : TokenKind) → IsSized (sign_piece kind bs) (b ∷ bs) → Holds front (b ∷ bs) (on_piece (sign_piece kind bs) here b (b ∷ bs) go)
  unfolding sign_piece
  sign_held kind = choose (heads is_name_byte bs) _ _ (λ e. token_held kind (1 + prefix_len is_name_byte bs)) (λ e sized. tt)

  quoted_held : (n : ℕ) → IsSized (quoted_piece (b ∷ bs) n) (b ∷ bs) → Holds front (b ∷ bs) (on_piece (quoted_piece (b ∷ bs) n) here b (b ∷ bs) go)
  unfolding quoted_piece
  quoted_held n = choose (nat_lt 0 n && heads (λ b. b == 58) (drop n (b ∷ bs))) _ _ (λ e. token_held Label (1 + n)) (λ e sized. tt)

  run_held : (n : ℕ) → IsSized (run_piece (b ∷ bs) n) (b ∷ bs) → Holds front (b ∷ bs) (on_piece (run_piece (b ∷ bs) n) here b (b ∷ bs) go)
  unfolding run_piece
  run_held n =
      choose (heads (λ b. b == 58) (drop n (b ∷ bs))) _ _ (λ e. token_held Label (1 + n))
      (λ e. choose (is_number (take n (b ∷ bs))) _ _ (λ e. token_held Number n) (λ e. token_held Word n))

  piece_held : (fresh : Bool) → (fresh ≡ true → IsLineStart front) → IsSized (piece_of fresh (b ∷ bs)) (b ∷ bs) → Holds front (b ∷ bs) (on_piece (piece_of fresh (b ∷ bs)) here b (b ∷ bs) go)
  unfolding piece_of
  piece_held fresh starts =
      choose (is_blank b) _ _ (λ e. gap_held 1 (blank_passed front b bs e))
      (λ e. choose ((fresh && is_dropped (b ∷ bs)) || b == 59) _ _ (λ e. gap_held (prefix_len is_in_line (b ∷ bs)) (rest_passed front fresh starts b bs e))
      (λ e. choose (b == 37) _ _ (λ e. name_held Local)
      (λ e. choose (b == 64) _ _ (λ e. name_held Global)
      (λ e. choose (b == 35) _ _ (λ e. sign_held Hash)
      (λ e. choose (b == 33) _ _ (λ e. sign_held Bang)
      (λ e. choose (b == 34) _ _ (λ e. quoted_held (quoted_len (b ∷ bs)))
      (λ e. choose (is_name_byte b) _ _ (λ e. run_held (prefix_len is_name_byte (b ∷ bs)))
      (λ e. choose (is_mark b) _ _ (λ e. token_held Punct 1) (λ e sized. tt)))))))))

passing : (front : List ℕ) (b n : ℕ) (bs : List ℕ) (r : Lexing) → Holds (front ++ b ∷ [] ++ take n bs) (drop n bs) r → Holds (front ++ take (suc n) (b ∷ bs)) (drop (suc n) (b ∷ bs)) r
passing front b n bs r held = subst (λ (l : List ℕ). Holds l (drop n bs) r) (append_assoc front (b ∷ []) (take n bs)) held

passed : (front : List ℕ) (b : ℕ) (bs : List ℕ) (here : _) → ((n : ℕ) → n ≤ length bs → Holds (front ++ b ∷ [] ++ take n bs) (drop n bs) (tokens_behind (past_byte b here) n bs))
    → (n : ℕ) → 0 < n → n ≤ length (b ∷ bs) → Holds (front ++ take n (b ∷ bs)) (drop n (b ∷ bs)) (tokens_behind (past_byte b here) (n - 1) bs)
passed front b bs here more zero some le = absurd (omega arith)
passed front b bs here more (suc n) some le =
    let e : suc n - 1 ≡ n = omega arith in
    rw e (passing front b n bs (tokens_behind (past_byte b here) n bs) (more n (omega arith)))

behind : (here : _) (n : ℕ) (bytes front : List ℕ) → n ≤ length bytes → (span_of here 0).start ≡ length front → (here.fresh ≡ true → IsLineStart front) → Holds (front ++ take n bytes) (drop n bytes) (tokens_behind here n bytes)
behind here zero [] front le at starts = no_gap (front ++ []) []
behind here (suc n) [] front le at starts = no_gap (front ++ []) []
behind here (suc n) (b ∷ bs) front le at starts =
    let l : length (front ++ b ∷ []) ≡ length front + 1 = length-append front (b ∷ []) in
    passing front b n bs (tokens_behind (past_byte b here) n bs) (behind (past_byte b here) n bs (front ++ b ∷ []) (omega arith) (omega (arith, l, at)) (fresh_on here.fresh b front starts))
behind here zero (b ∷ bs) front le at starts =
    let l : length (front ++ b ∷ []) ≡ length front + 1 = length-append front (b ∷ []) in
    subst (λ (l : List ℕ). Holds l (b ∷ bs) (tokens_behind here 0 (b ∷ bs))) (sym (append-nil front))
    (piece_held front here at b bs (λ n. tokens_behind (past_byte b here) (n - 1) bs)
    (passed front b bs here (λ n le. behind (past_byte b here) n bs (front ++ b ∷ []) le (omega (arith, l, at)) (fresh_on here.fresh b front starts)))
    here.fresh starts (piece_sized here.fresh (b ∷ bs)))

held : (source : List ℕ) → Holds [] source (tokens_of source)
unfolding tokens_of
held source = behind start 0 source [] (omega arith) refl (λ e. nothing_before)

pub token_gaps : (source : List ℕ) (tokens : List Lexeme) → tokens_of source ≡ Ok tokens → AreInGaps [] source tokens
token_gaps source tokens e = subst (Holds [] source) e (held source)
