-- What is passed over at the front of a text is a blank, a comment or a dropped line.
use Rattle.std.proofs.Common.{◌≡◌, ℕ, Bool, true, false, ◌&&◌, ◌||◌, List, ◌∷◌, take, drop, inl, inr, refl, ap, ◌∙◌, ◌==◌}
use Rattle.std.specs.List.{prefix_len}
use Rattle.std.proofs.lemmas.Bool.{eqb-true}
use Rattle.ir_types.specs.Bytes.{is_blank}
use Rattle.ir_lexer.specs.Pieces.{is_in_line, is_dropped}
use Rattle.ir_lexer.proofs.Sized.{and_both}
use Rattle.token_gaps.specs.Gaps.{IsLineStart, IsRestOfLine, IsComment, IsPassedOver}
use Rattle.token_gaps.proofs.Lines.{line, line_first, in_one_line, line_ends, dropped_line}

-- n bytes at the front are passed over
abbrev pub IsPart : List ℕ → List ℕ → ℕ → Type 0
IsPart front bytes n = IsPassedOver front (take n bytes) (drop n bytes)

rest_of_line : (bytes : List ℕ) → IsRestOfLine (line bytes) (drop (prefix_len is_in_line bytes) bytes)
rest_of_line bytes = record { in_line = in_one_line bytes; ends = line_ends bytes }

comment : (b : ℕ) (bs : List ℕ) → b == 59 ≡ true → IsComment (line (b ∷ bs)) (drop (prefix_len is_in_line (b ∷ bs)) (b ∷ bs))
comment b bs e =
    let is : b ≡ 59 = eqb-true b 59 e in
    let fits : is_in_line b ≡ true = ap is_in_line is in
    let all = rest_of_line (b ∷ bs) in
    record {
      words = line bs;
      spelled = line_first b bs fits ∙ ap (λ c. c ∷ line bs) is;
      rest = record { in_line = in_one_line bs; ends = all.ends };
    }

pub blank_passed : (front : List ℕ) (b : ℕ) (bs : List ℕ) → is_blank b ≡ true → IsPart front (b ∷ bs) 1
blank_passed front b bs e = inl (rw e refl)

module _ (front : List ℕ) (fresh : Bool) (starts : fresh ≡ true → IsLineStart front) (b : ℕ) (bs : List ℕ) where
  pub rest_passed : (fresh && is_dropped (b ∷ bs)) || b == 59 ≡ true → IsPart front (b ∷ bs) (prefix_len is_in_line (b ∷ bs))
  rest_passed e = go (fresh && is_dropped (b ∷ bs)) refl e
    where
      go : (r : Bool) → fresh && is_dropped (b ∷ bs) ≡ r → r || b == 59 ≡ true → IsPart front (b ∷ bs) (prefix_len is_in_line (b ∷ bs))
      go true p e =
          let both = and_both fresh (is_dropped (b ∷ bs)) p in
          inr (inr (record { starts = starts both.0; marked = dropped_line (b ∷ bs) both.1; rest = rest_of_line (b ∷ bs) }))
      go false p e = inr (inl (comment b bs e))
