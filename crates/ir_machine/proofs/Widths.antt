-- Lists of numbers that fit their widths.
use Rattle.std.proofs.Common.{◌≡◌, ◌≢◌, ℕ, zero, suc, ◌^◌, ◌<◌, ◌≤◌, List, [], ◌∷◌, ◌++◌, length, replicate, Option, Some, sym, ap, ◌∙◌, subst, arith, ⊎_elim, lit<, get_or-set_same, get_or-set_other, length-set, length-append}
use Rattle.std.specs.Prelude.{slice_get, slice_index, slice_set}
use Rattle.std.proofs.lemmas.Bool.{cases_lt}
use Rattle.std.proofs.lemmas.List.{get_or_past, get_or-replicate, length-replicate}
use Rattle.std.proofs.Math.ListN.{get_or-append}
use Rattle.std.proofs.Math.Seq.{get_or-append_seam}
use Rattle.mc_num.specs.Op.{bits}
use Rattle.mc_num.specs.Value.{HaveWidths}
use Rattle.mc_num.specs.declared.op.Width.{Width}
use Rattle.mc_num.specs.declared.op.Width.TheVariants.{I1, I8, I16, I32, I64}
use Rattle.ir_machine.specs.Fits.{FitWidths}

pub above_zero : (w : Width) → 0 < 2 ^ bits w
above_zero I1 = lit< tt
above_zero I8 = lit< tt
above_zero I16 = lit< tt
above_zero I32 = lit< tt
above_zero I64 = lit< tt

pub nothing_fits : (width_at : ℕ → Option Width) → FitWidths width_at []
nothing_fits width_at k w e = above_zero w

past_end_fits : (xs : List ℕ) (k : ℕ) (w : Width) → length xs ≤ k → slice_index xs k < 2 ^ bits w
past_end_fits xs k w le = subst (λ n. n < 2 ^ bits w) (sym (get_or_past xs k 0 le)) (above_zero w)

pub zeros_fit : (width_at : ℕ → Option Width) (n : ℕ) → FitWidths width_at (replicate n 0)
zeros_fit width_at n k w e =
    ⊎_elim
    (λ lt. subst (λ x. x < 2 ^ bits w) (sym (get_or-replicate n k 0 0 lt)) (above_zero w))
    (λ le. past_end_fits (replicate n 0) k w (omega (arith, length-replicate {A = ℕ} n 0, le)))
    (cases_lt k n)

-- one number more
pub push_fits : (width_at : ℕ → Option Width) (xs : List ℕ) (v : ℕ) → FitWidths width_at xs → ((w : Width) → width_at (length xs) ≡ Some w → v < 2 ^ bits w) → FitWidths width_at (xs ++ v ∷ [])
push_fits width_at xs v fits new k w e =
    ⊎_elim
    (λ lt. subst (λ x. x < 2 ^ bits w) (sym (get_or-append xs (v ∷ []) 0 k lt)) (fits k w e))
    (λ le. ⊎_elim
    (λ lt. past_end_fits (xs ++ v ∷ []) k w (omega (arith, length-append xs (v ∷ []), lt)))
    (λ le'.
    let is : length xs ≡ k = omega (arith, le, le') in
    let here : v < 2 ^ bits w = new w (ap width_at is ∙ e) in
    subst (λ j. slice_index (xs ++ v ∷ []) j < 2 ^ bits w) is (subst (λ x. x < 2 ^ bits w) (sym (get_or-append_seam xs v [] 0)) here))
    (cases_lt (length xs) k))
    (cases_lt k (length xs))

-- another number at a place
pub set_fits : (width_at : ℕ → Option Width) (xs : List ℕ) (i v : ℕ) → FitWidths width_at xs → ((w : Width) → width_at i ≡ Some w → v < 2 ^ bits w) → FitWidths width_at (slice_set xs i v)
set_fits width_at xs i v fits new k w e = ⊎_elim other (λ le. ⊎_elim other' (at le) (cases_lt i k)) (cases_lt k i)
  where
    elsewhere : k ≢ i → slice_index (slice_set xs i v) k < 2 ^ bits w
    elsewhere ne = subst (λ x. x < 2 ^ bits w) (sym (get_or-set_other xs i k v 0 ne)) (fits k w e)

    other : k < i → slice_index (slice_set xs i v) k < 2 ^ bits w
    other lt = elsewhere (omega arith)

    other' : i < k → slice_index (slice_set xs i v) k < 2 ^ bits w
    other' lt = elsewhere (omega arith)

    at : i ≤ k → k ≤ i → slice_index (slice_set xs i v) k < 2 ^ bits w
    at le le' =
        let is : i ≡ k = omega arith in
        let here : v < 2 ^ bits w = new w (ap width_at is ∙ e) in
        subst (λ j. slice_index (slice_set xs i v) j < 2 ^ bits w) is
        (⊎_elim
        (λ lt. subst (λ x. x < 2 ^ bits w) (sym (get_or-set_same xs i v 0 lt)) here)
        (λ past. past_end_fits (slice_set xs i v) i w (omega (arith, length-set xs i v, past)))
        (cases_lt i (length xs)))

pub along : (a b : ℕ → Option Width) (xs : List ℕ) → ((k : ℕ) → a k ≡ b k) → FitWidths b xs → FitWidths a xs
along a b xs same fits k w e = fits k w (sym (same k) ∙ e)

pub widths_fit : (ws : List Width) (xs : List ℕ) → HaveWidths ws xs → FitWidths (slice_get ws) xs
widths_fit [] [] have k w e = cc
widths_fit (v ∷ ws) (x ∷ xs) have zero w e = subst (λ u. x < 2 ^ bits u) (some_is v w e) have.0
  where
    some_is : (v w : Width) → Some v ≡ Some w → v ≡ w
    some_is v w e = cc
widths_fit (v ∷ ws) (x ∷ xs) have (suc k) w e = widths_fit ws xs have.1 k w e
widths_fit [] (x ∷ xs) have k w e = absurd have
widths_fit (v ∷ ws) [] have k w e = absurd have
