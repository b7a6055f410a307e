-- The temporaries of a function, one after another.
use Rattle.std.proofs.Common.{◌≡◌, ℕ, zero, suc, ◌+◌, ◌<◌, ◌≤◌, List, [], ◌∷◌, ◌++◌, length, drop, Some, refl, sym, ap, ◌∙◌, arith, add-one, append_assoc}
use Rattle.std.specs.Prelude.{slice_get}
use Rattle.std.specs.List.{AllZip}
use Rattle.std.proofs.lemmas.List.{append-nil, drop_all}
use Rattle.std.proofs.lemmas.Option.{slice_get_within}
use Rattle.mc_num.specs.Op.{result_width}
use Rattle.mc_num.specs.declared.op.Width.{Width}
use Rattle.ir_types.specs.declared.name.Made.TheVariants.{Temp}
use Rattle.ir_types.specs.declared.name.Name.{Name}
use Rattle.ir_types.specs.declared.name.Name.TheVariants.{Made as MadeName}
use Rattle.expressions.specs.declared.syntax.Expr.{Expr}
use Rattle.applied.specs.Motion.{Move}
use Rattle.applied.specs.Applied.{Plan, temporaries}
use Rattle.changes.specs.Changed.{AreChanges, IsTemp}
use Rattle.changes.specs.declared.lists.Changes.{Changes}
use Rattle.function_text.proofs.Layouts.{left_at}

-- the move of a temporary
pub record HasMove (exprs : List Expr) (moves : List Move) (i x : ℕ) : Type 0 where
  pub move : Move
  pub there : slice_get moves i ≡ Some move
  pub is_temp : IsTemp exprs x move

move_of : (exprs : List Expr) (temps : List ℕ) (moves : List Move) (i x : ℕ) → AllZip (IsTemp exprs) temps moves → slice_get temps i ≡ Some x → HasMove exprs moves i x
move_of exprs [] moves i x zip there = absurd cc
move_of exprs (y ∷ temps) [] i x zip there = absurd zip
move_of exprs (y ∷ temps) (move ∷ moves) zero x zip there =
    let same : y ≡ x = cc in
    record { move = move; there = refl; is_temp = record { number = zip.0.number ∙ same; expr = ap (slice_get exprs) (sym same) ∙ zip.0.expr } }
move_of exprs (y ∷ temps) (move ∷ moves) (suc i) x zip there =
    let r = move_of exprs temps moves i x zip.1 there in
    record { move = r.move; there = r.there; is_temp = r.is_temp }

pub count_moves : (exprs : List Expr) (temps : List ℕ) (moves : List Move) → AllZip (IsTemp exprs) temps moves → length moves ≡ length temps
count_moves exprs [] [] zip = refl
count_moves exprs [] (move ∷ moves) zip = absurd zip
count_moves exprs (x ∷ temps) [] zip = absurd zip
count_moves exprs (x ∷ temps) (move ∷ moves) zip = ap suc (count_moves exprs temps moves zip.1)

module _ {plan : Plan} {exprs : List Expr} {c : Changes} (changes : AreChanges plan exprs c) where
  pub temp_within : (i x : ℕ) → slice_get c.temps i ≡ Some x → x < length exprs
  temp_within i x there =
      let has = move_of exprs c.temps plan.moves i x changes.temps there in
      slice_get_within exprs x has.move.expr has.is_temp.expr

  -- one temporary more
  pub more_temps : (i x : ℕ) (expr : Expr) (built next whole : List (Width × Name)) → slice_get c.temps i ≡ Some x → slice_get exprs x ≡ Some expr
      → next ≡ built ++ (result_width expr.op, MadeName c.prefix (Temp x)) ∷ []
      → built ++ temporaries plan.naming (drop i plan.moves) ≡ whole → next ++ temporaries plan.naming (drop (i + 1) plan.moves) ≡ whole
  more_temps i x expr built next whole there expr_there e f =
      let has = move_of exprs c.temps plan.moves i x changes.temps there in
      let rest = temporaries plan.naming (drop (i + 1) plan.moves) in
      let same : has.move.expr ≡ expr = let both : Some has.move.expr ≡ Some expr = sym has.is_temp.expr ∙ expr_there in cc in
      let left : temporaries plan.naming (drop i plan.moves) ≡ (result_width expr.op, MadeName c.prefix (Temp x)) ∷ rest =
      ap (temporaries plan.naming) (left_at plan.moves i has.move has.there)
      ∙ ap (λ j. (result_width has.move.expr.op, MadeName plan.naming.prefix (Temp has.move.number)) ∷ temporaries plan.naming (drop j plan.moves)) (sym (add-one i))
      ∙ ap (λ y. (result_width y.op, MadeName plan.naming.prefix (Temp has.move.number)) ∷ rest) same
      ∙ ap (λ n. (result_width expr.op, MadeName plan.naming.prefix (Temp n)) ∷ rest) has.is_temp.number
      ∙ ap (λ n. (result_width expr.op, MadeName n (Temp x)) ∷ rest) changes.prefix
      in
      ap (λ l. l ++ rest) e ∙ append_assoc built ((result_width expr.op, MadeName c.prefix (Temp x)) ∷ []) rest ∙ ap (λ l. built ++ l) (sym left) ∙ f

  pub all_temps : (i : ℕ) (built whole : List (Width × Name)) → length c.temps ≤ i → built ++ temporaries plan.naming (drop i plan.moves) ≡ whole → built ≡ whole
  all_temps i built whole le f =
      sym (append-nil built)
      ∙ ap (λ l. built ++ temporaries plan.naming l) (sym (drop_all i plan.moves (omega (arith, le, count_moves exprs c.temps plan.moves changes.temps))))
      ∙ f
