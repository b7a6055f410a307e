-- The token at the front of a text has a text of its kind.
use Rattle.std.proofs.Common.{◌≡◌, ℕ, suc, zero, ◌+◌, ◌<◌, Bool, true, false, cond, ◌&&◌, ◌||◌, not, List, [], ◌∷◌, ◌++◌, ◌⊎◌, inl, inr, length, take, drop, refl, ap, ◌∙◌, arith, ◌==◌, nat_lt}
use Rattle.std.specs.List.{prefix_len, list_all}
use Rattle.std.proofs.lemmas.Bool.{eqb-true, ltb-true}
use Rattle.std.proofs.lemmas.List.Folds.{length-prefix_len}
use Rattle.ir_types.specs.Bytes.{heads, is_blank, is_digit, is_name_byte, is_quotable, is_plain_name}
use Rattle.ir_lexer.specs.declared.token.TokenKind.{TokenKind}
use Rattle.ir_lexer.specs.declared.token.TokenKind.TheVariants.{Local, Global, Hash, Bang}
use Rattle.ir_lexer.specs.declared.pieces.Piece.{Piece}
use Rattle.ir_lexer.specs.declared.pieces.Piece.TheVariants.{Gap, Spelled, Bad}
use Rattle.ir_lexer.specs.Pieces.{is_mark, is_in_line, is_number, is_closed, quoted_len, is_dropped, name_piece, sign_piece, quoted_piece, run_piece, piece_of}
use Rattle.ir_lexer.specs.Texts.{IsRun, IsQuoted, IsName, IsSigned, IsLabel, IsText}
use Rattle.ir_lexer.proofs.Sized.{either, and_both, begins}

abbrev pub IsToken : Piece → List ℕ → Type 0
IsToken (Spelled kind n) bytes = IsText kind (take n bytes)
IsToken (Gap n) bytes = Unit {0}
IsToken Bad bytes = Unit {0}

-- ---- what stands within the front of a text

take_one : (n b : ℕ) (bs : List ℕ) → take (1 + n) (b ∷ bs) ≡ b ∷ take n bs
take_one n b bs = let e : 1 + n ≡ suc n = omega arith in ap (λ k. take k (b ∷ bs)) e

prefix_passes : (test : ℕ → Bool) (bytes : List ℕ) → list_all test (take (prefix_len test bytes) bytes) ≡ true
prefix_passes test [] = refl
prefix_passes test (b ∷ bs) = go (test b) refl (prefix_passes test bs)
  where
    go : (r : Bool) → test b ≡ r → list_all test (take (prefix_len test bs) bs) ≡ true → list_all test (take (cond r (1 + prefix_len test bs) 0) (b ∷ bs)) ≡ true
    go true e more = rw (take_one (prefix_len test bs) b bs, e) more
    go false e more = refl

prefix_run : (test : ℕ → Bool) (bytes : List ℕ) → heads test bytes ≡ true → IsRun test (take (prefix_len test bytes) bytes)
prefix_run test bytes e = (omega (arith, length-prefix_len test bytes, begins test bytes e), prefix_passes test bytes)

-- a byte that stands behind n bytes
closed_by : (c n : ℕ) (bytes : List ℕ) → heads (λ b. b == c) (drop n bytes) ≡ true → take (1 + n) bytes ≡ take n bytes ++ c ∷ []
closed_by c zero [] e = absurd cc
closed_by c (suc n) [] e = absurd cc
closed_by c zero (b ∷ bs) e = ap (λ x. x ∷ []) (eqb-true b c e)
closed_by c (suc n) (b ∷ bs) e =
    let count : suc n ≡ 1 + n = omega arith in
    take_one (suc n) b bs ∙ ap (λ (l : List ℕ). b ∷ l) (ap (λ k. take k bs) count ∙ closed_by c n bs e)

-- ---- the forms of names

not_empty : (n : ℕ) → 0 < n → n == 0 ≡ false
not_empty n some = go (n == 0) refl
  where
    go : (r : Bool) → n == 0 ≡ r → r ≡ false
    go true p = absurd (let e : n ≡ 0 = eqb-true n 0 p in omega arith)
    go false p = refl

plain_front : (bytes : List ℕ) → heads is_digit bytes ≡ false → heads is_name_byte bytes ≡ true → is_plain_name (take (prefix_len is_name_byte bytes) bytes) ≡ true
plain_front [] d e = absurd cc
plain_front (b ∷ bs) d e = go (is_name_byte b) e
  where
    n : ℕ
    n = prefix_len is_name_byte bs

    all_so : (z d e a : Bool) → z ≡ false → d ≡ false → e ≡ true → a ≡ true → not z && not d && (e && a) ≡ true
    all_so z d e a o p q r = rw (o, p, q, r) refl

    go : (r : Bool) → r ≡ true → is_plain_name (take (cond r (1 + n) 0) (b ∷ bs)) ≡ true
    go true p = ap is_plain_name (take_one n b bs) ∙ all_so (length (b ∷ take n bs) == 0) (is_digit b) (is_name_byte b) (list_all is_name_byte (take n bs)) (not_empty (length (b ∷ take n bs)) (omega arith)) d e (prefix_passes is_name_byte bs)
    go false p = absurd cc

quoted_front : (bytes : List ℕ) → 0 < quoted_len bytes → IsQuoted (take (quoted_len bytes) bytes)
quoted_front [] lt = absurd (omega arith)
quoted_front (b ∷ bs) lt = go (b == 34 && is_closed bs n) refl lt
  where
    n : ℕ
    n = prefix_len is_quotable bs

    go : (r : Bool) → b == 34 && is_closed bs n ≡ r → 0 < cond r (2 + n) 0 → IsQuoted (take (cond r (2 + n) 0) (b ∷ bs))
    go true e lt =
        let closed = and_both (b == 34) (is_closed bs n) e in
        let quote = and_both (nat_lt 0 n) (heads (λ b. b == 34) (drop n bs)) closed.1 in
        let count : 2 + n ≡ 1 + (1 + n) = omega arith in
        let some : 0 < n = ltb-true 0 n quote.0 in
        record {
          name = take n bs;
          is = (omega (arith, length-prefix_len is_quotable bs), prefix_passes is_quotable bs);
          spelled = ap (λ k. take k (b ∷ bs)) count ∙ take_one (1 + n) b bs ∙ ap (λ (l : List ℕ). b ∷ l) (closed_by 34 n bs quote.1) ∙ ap (λ c. c ∷ (take n bs ++ 34 ∷ [])) (eqb-true b 34 closed.0);
        }
    go false e lt = absurd (omega arith)

signed : (sign : ℕ) (Is : List ℕ → Type 0) (n b : ℕ) (bs : List ℕ) → b == sign ≡ true → Is (take n bs) → IsSigned sign Is (take (1 + n) (b ∷ bs))
signed sign Is n b bs e is = record { name = take n bs; is = is; spelled = take_one n b bs ∙ ap (λ c. c ∷ take n bs) (eqb-true b sign e) }

labelled : (n : ℕ) (bytes : List ℕ) → IsRun is_name_byte (take n bytes) ⊎ IsQuoted (take n bytes) → heads (λ b. b == 58) (drop n bytes) ≡ true → IsLabel (take (1 + n) bytes)
labelled n bytes is e = record { name = take n bytes; is = is; spelled = closed_by 58 n bytes e }

-- ---- the pieces

module _ (kind : TokenKind) (sign b : ℕ) (bs : List ℕ) (e : b == sign ≡ true) where
  name_token : ((n : ℕ) → IsSigned sign IsName (take n (b ∷ bs)) → IsText kind (take n (b ∷ bs))) → IsToken (name_piece kind bs) (b ∷ bs)
  unfolding name_piece
  name_token of_kind =
      either (λ p. IsToken p (b ∷ bs)) (heads is_digit bs) _ _ (λ d. of_kind (1 + prefix_len is_digit bs) (signed sign IsName (prefix_len is_digit bs) b bs e (inl (prefix_run is_digit bs d))))
      (λ d. either (λ p. IsToken p (b ∷ bs)) (heads is_name_byte bs) _ _ (λ m. of_kind (1 + prefix_len is_name_byte bs) (signed sign IsName (prefix_len is_name_byte bs) b bs e (inr (inl (plain_front bs d m)))))
      (λ m. either (λ p. IsToken p (b ∷ bs)) (nat_lt 0 (quoted_len bs)) _ _ (λ q. of_kind (1 + quoted_len bs) (signed sign IsName (quoted_len bs) b bs e (inr (inr (quoted_front bs (ltb-true 0 (quoted_len bs) q)))))) (λ q. tt)))

  sign_token : ((n : ℕ) → IsSigned sign (IsRun is_name_byte) (take n (b ∷ bs)) → IsText kind (take n (b ∷ bs))) → IsToken (sign_piece kind bs) (b ∷ bs)
  unfolding sign_piece
  sign_token of_kind = either (λ p. IsToken p (b ∷ bs)) (heads is_name_byte bs) _ _ (λ m. of_kind (1 + prefix_len is_name_byte bs) (signed sign (IsRun is_name_byte) (prefix_len is_name_byte bs) b bs e (prefix_run is_name_byte bs m))) (λ m. tt)

quoted_token : (bytes : List ℕ) → IsToken (quoted_piece bytes (quoted_len bytes)) bytes
unfolding quoted_piece
quoted_token bytes =
    let n = quoted_len bytes in
    either (λ p. IsToken p bytes) (nat_lt 0 n && heads (λ b. b == 58) (drop n bytes)) _ _
    (λ e. let both = and_both (nat_lt 0 n) (heads (λ b. b == 58) (drop n bytes)) e in labelled n bytes (inr (quoted_front bytes (ltb-true 0 n both.0))) both.1)
    (λ e. tt)

run_token : (bytes : List ℕ) (n : ℕ) → IsRun is_name_byte (take n bytes) → IsToken (run_piece bytes n) bytes
unfolding run_piece
run_token bytes n run =
    either (λ p. IsToken p bytes) (heads (λ b. b == 58) (drop n bytes)) _ _ (λ e. labelled n bytes (inl run) e)
    (λ e. either (λ p. IsToken p bytes) (is_number (take n bytes)) _ _ (λ number. (run, number)) (λ word. (run, word)))

pub piece_token : (fresh : Bool) (b : ℕ) (bs : List ℕ) → IsToken (piece_of fresh (b ∷ bs)) (b ∷ bs)
unfolding piece_of
piece_token fresh b bs =
    choose (is_blank b) _ _ (λ e. tt)
    (λ e. choose ((fresh && is_dropped bytes) || b == 59) (Gap (prefix_len is_in_line bytes)) _ (λ e. tt)
    (λ e. choose (b == 37) _ _ (λ e. name_token Local 37 b bs e (λ n is. is))
    (λ e. choose (b == 64) _ _ (λ e. name_token Global 64 b bs e (λ n is. is))
    (λ e. choose (b == 35) _ _ (λ e. sign_token Hash 35 b bs e (λ n is. is))
    (λ e. choose (b == 33) _ _ (λ e. sign_token Bang 33 b bs e (λ n is. is))
    (λ e. choose (b == 34) _ _ (λ e. quoted_token bytes)
    (λ e. choose (is_name_byte b) _ _ (λ e. run_token bytes (prefix_len is_name_byte bytes) (prefix_run is_name_byte bytes e))
    (λ e. choose (is_mark b) _ _ (λ e. record { mark = b; is = e; spelled = refl }) (λ e. tt)))))))))
  where
    bytes : List ℕ
    bytes = b ∷ bs

    choose : (r : Bool) (x y : Piece) → (r ≡ true → IsToken x (b ∷ bs)) → (r ≡ false → IsToken y (b ∷ bs)) → IsToken (cond r x y) (b ∷ bs)
    choose r x y = either (λ p. IsToken p (b ∷ bs)) r x y
