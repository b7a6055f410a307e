-- Where lines start and end.
use Rattle.std.proofs.Common.{◌≡◌, ℕ, suc, ◌+◌, Bool, true, false, cond, ◌&&◌, ◌||◌, List, [], ◌∷◌, ◌++◌, take, drop, inl, inr, refl, sym, ap, subst, ◌∙◌, arith, append_assoc, ◌==◌, nat_eq}
use Rattle.std.specs.List.{prefix_len, list_all, list_any, starts_with}
use Rattle.std.proofs.lemmas.Bool.{eqb-true}
use Rattle.std.proofs.lemmas.List.{append-nil}
use Rattle.ir_types.specs.Bytes.{heads, is_blank}
use Rattle.ir_lexer.specs.Pieces.{is_in_line, dropped_words, leads, is_dropped}
use Rattle.ir_lexer.proofs.Sized.{and_both}
use Rattle.token_gaps.specs.Gaps.{IsLineStart}

-- ---- the start of a line

pub nothing_before : IsLineStart []
nothing_before = record { lines = []; blanks = []; whole = inl refl; blank = refl; joined = refl }

behind_feed : (front : List ℕ) → IsLineStart (front ++ 10 ∷ [])
behind_feed front = record { lines = front ++ 10 ∷ []; blanks = []; whole = inr (front, refl); blank = refl; joined = sym (append-nil (front ++ 10 ∷ [])) }

one_more : (blanks : List ℕ) (b : ℕ) → list_all is_blank blanks ≡ true → is_blank b ≡ true → list_all is_blank (blanks ++ b ∷ []) ≡ true
one_more [] b all one = rw one refl
one_more (c ∷ cs) b all one = let both = and_both (is_blank c) (list_all is_blank cs) all in rw both.0 (one_more cs b both.1 one)

behind_blank : (front : List ℕ) (b : ℕ) → is_blank b ≡ true → IsLineStart front → IsLineStart (front ++ b ∷ [])
behind_blank front b e s = record {
  lines = s.lines;
  blanks = s.blanks ++ b ∷ [];
  whole = s.whole;
  blank = one_more s.blanks b s.blank e;
  joined = ap (λ (l : List ℕ). l ++ b ∷ []) s.joined ∙ append_assoc s.lines s.blanks (b ∷ []);
}

-- what is fresh, as a place is behind a byte, stands at the start of a line
pub fresh_on : (fresh : Bool) (b : ℕ) (front : List ℕ) → (fresh ≡ true → IsLineStart front) → (b == 10) || (fresh && is_blank b) ≡ true → IsLineStart (front ++ b ∷ [])
fresh_on fresh b front starts e = go (b == 10) refl e
  where
    go : (r : Bool) → b == 10 ≡ r → r || (fresh && is_blank b) ≡ true → IsLineStart (front ++ b ∷ [])
    go true p e = subst (λ c. IsLineStart (front ++ c ∷ [])) (sym (eqb-true b 10 p)) (behind_feed front)
    go false p e = let both = and_both fresh (is_blank b) e in behind_blank front b both.1 (starts both.0)

-- ---- the rest of a line

-- the bytes up to the next line feed
abbrev pub line : List ℕ → List ℕ
line bytes = take (prefix_len is_in_line bytes) bytes

take_one : (n b : ℕ) (bs : List ℕ) → take (1 + n) (b ∷ bs) ≡ b ∷ take n bs
take_one n b bs = let e : 1 + n ≡ suc n = omega arith in ap (λ k. take k (b ∷ bs)) e

drop_one : (n b : ℕ) (bs : List ℕ) → drop (1 + n) (b ∷ bs) ≡ drop n bs
drop_one n b bs = let e : 1 + n ≡ suc n = omega arith in ap (λ k. drop k (b ∷ bs)) e

pub line_first : (b : ℕ) (bs : List ℕ) → is_in_line b ≡ true → line (b ∷ bs) ≡ b ∷ line bs
line_first b bs e = go (is_in_line b) e
  where
    go : (r : Bool) → r ≡ true → take (cond r (1 + prefix_len is_in_line bs) 0) (b ∷ bs) ≡ b ∷ line bs
    go true e = take_one (prefix_len is_in_line bs) b bs
    go false e = absurd cc

pub in_one_line : (bytes : List ℕ) → list_all is_in_line (line bytes) ≡ true
in_one_line [] = refl
in_one_line (b ∷ bs) = go (is_in_line b) refl (in_one_line bs)
  where
    go : (r : Bool) → is_in_line b ≡ r → list_all is_in_line (line bs) ≡ true → list_all is_in_line (take (cond r (1 + prefix_len is_in_line bs) 0) (b ∷ bs)) ≡ true
    go true e more = rw (take_one (prefix_len is_in_line bs) b bs, e) more
    go false e more = refl

pub line_ends : (bytes : List ℕ) → heads is_in_line (drop (prefix_len is_in_line bytes) bytes) ≡ false
line_ends [] = refl
line_ends (b ∷ bs) = go (is_in_line b) refl (line_ends bs)
  where
    go : (r : Bool) → is_in_line b ≡ r → heads is_in_line (drop (prefix_len is_in_line bs) bs) ≡ false → heads is_in_line (drop (cond r (1 + prefix_len is_in_line bs) 0) (b ∷ bs)) ≡ false
    go true e more = rw (drop_one (prefix_len is_in_line bs) b bs) more
    go false e more = e

-- ---- what a dropped line begins with stands on that line

-- a byte that one line has is no line feed
same_byte : (a b : ℕ) → a == b ≡ true → is_in_line a ≡ true → is_in_line b ≡ true
same_byte a b e h = subst (λ c. is_in_line c ≡ true) (eqb-true a b e) h

gap_byte : (b : ℕ) → b == 32 || b == 9 ≡ true → is_in_line b ≡ true
gap_byte b e = go (b == 32) refl e
  where
    go : (r : Bool) → b == 32 ≡ r → r || b == 9 ≡ true → is_in_line b ≡ true
    go true p e = ap is_in_line (eqb-true b 32 p)
    go false p e = ap is_in_line (eqb-true b 9 e)

leads_line : (word bytes : List ℕ) → list_all is_in_line word ≡ true → leads bytes word ≡ true → leads (line bytes) word ≡ true
leads_line [] [] all e = absurd cc
leads_line [] (b ∷ bs) all e = rw (line_first b bs (gap_byte b e)) e
leads_line (w ∷ ws) [] all e = absurd cc
leads_line (w ∷ ws) (b ∷ bs) all e =
    let fits = and_both (is_in_line w) (list_all is_in_line ws) all in
    let both = and_both (starts_with nat_eq (b ∷ bs) (w ∷ ws)) _ e in
    let first = and_both (nat_eq w b) (starts_with nat_eq bs ws) both.0 in
    rw (line_first b bs (same_byte w b first.0 fits.0), first.0) (leads_line ws bs fits.1 (rw (first.1) both.1))

any_leads : (words : List (List ℕ)) (bytes : List ℕ) → list_all (list_all is_in_line) words ≡ true → list_any (leads bytes) words ≡ true → list_any (leads (line bytes)) words ≡ true
any_leads [] bytes all e = absurd cc
any_leads (w ∷ ws) bytes all e = let fits = and_both (list_all is_in_line w) (list_all (list_all is_in_line) ws) all in go (leads bytes w) refl fits.0 e (any_leads ws bytes fits.1)
  where
    or_true : (a : Bool) → a || true ≡ true
    or_true true = refl
    or_true false = refl

    go : (r : Bool) → leads bytes w ≡ r → list_all is_in_line w ≡ true → r || list_any (leads bytes) ws ≡ true → (list_any (leads bytes) ws ≡ true → list_any (leads (line bytes)) ws ≡ true) → leads (line bytes) w || list_any (leads (line bytes)) ws ≡ true
    go true p fits e more = rw (leads_line w bytes fits p) refl
    go false p fits e more = rw (more e) (or_true (leads (line bytes) w))

bang_line : (bytes : List ℕ) → heads (λ b. b == 33) bytes ≡ true → heads (λ b. b == 33) (line bytes) ≡ true
bang_line [] e = absurd cc
bang_line (b ∷ bs) e = let fits : is_in_line b ≡ true = ap is_in_line (eqb-true b 33 e) in rw (line_first b bs fits) e

pub dropped_line : (bytes : List ℕ) → is_dropped bytes ≡ true → is_dropped (line bytes) ≡ true
dropped_line bytes e = go (heads (λ b. b == 33) bytes) refl e
  where
    or_true : (a : Bool) → a || true ≡ true
    or_true true = refl
    or_true false = refl

    go : (r : Bool) → heads (λ b. b == 33) bytes ≡ r → r || list_any (leads bytes) dropped_words ≡ true → is_dropped (line bytes) ≡ true
    go true p e = rw (bang_line bytes p) refl
    go false p e = rw (any_leads dropped_words bytes refl e) (or_true (heads (λ b. b == 33) (line bytes)))
