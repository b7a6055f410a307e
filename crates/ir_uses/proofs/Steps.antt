-- Loops over the parts of a tree: what is left after one part more.
use Rattle.std.proofs.Common.{◌≡◌, ◌<◌, ◌≤◌, ◌+◌, ℕ, suc, List, [], ◌∷◌, ◌++◌, append_assoc, append-nil, Option, None, length, map, get_or, drop, drop-cons, add-one, refl, sym, ap, ◌∙◌}
use Rattle.std.proofs.lemmas.List.{drop_all}
use Rattle.std.specs.Prelude.{option_to_list}
use Rattle.ir_types.specs.Problems.{◌>>◌}
use Rattle.ir_types.specs.Uses.{Context, argument_problem, arguments_problem}
use Rattle.ir_types.specs.declared.rules.Here.{Here}
use Rattle.ir_types.specs.declared.rules.Problem.{Problem}
use Rattle.ir_types.specs.declared.tree.RawArg.{RawArg}
use Rattle.ir_types.specs.declared.tree.RawParam.{RawParam}
use Rattle.ir_uses.specs.Answers.{Tells}
use Rattle.ir_uses.specs.declared.error.CheckError.{CheckError}
use Rattle.ir_uses.specs.declared.error.CheckError.TheVariants.{Broken, NoMemory}

-- a part without a problem leaves what the rest has
pub passed : (p q w : Option Problem) → p ≡ None → w ≡ (p >> q) → w ≡ q
passed p q w h e = e ∙ ap (λ (o : Option Problem). o >> q) h

-- an error of a part is an error of the whole
pub stopped : (e : CheckError) (p q w : Option Problem) → Tells e p → w ≡ (p >> q) → Tells e w
stopped (Broken x) p q w h e = e ∙ ap (λ (o : Option Problem). o >> q) h
stopped NoMemory p q w h e = tt

pub drop_at : {X : Type 0} (xs : List X) (i : ℕ) (x : X) → i < length xs → x ≡ get_or xs i x → drop i xs ≡ x ∷ drop (i + 1) xs
drop_at xs i x l e = rw (add-one) (drop-cons xs i x l ∙ ap (λ y. y ∷ drop (suc i) xs) (sym e))

pub drop_end : {X : Type 0} (xs : List X) (i : ℕ) → length xs ≤ i → drop i xs ≡ []
drop_end xs i h = drop_all i xs h

-- what was built and what is left to build make the whole
pub more : {X : Type 0} (built front zs ys new all : List X) → new ≡ built ++ front → ys ≡ front ++ zs → built ++ ys ≡ all → new ++ zs ≡ all
more built front zs ys new all n e h = rw (n, append_assoc) (ap (λ l. built ++ l) (sym e) ∙ h)

-- the same of one item
pub more_one : {X : Type 0} (built : List X) (put next : X) (zs ys new all : List X) → new ≡ built ++ put ∷ [] → put ≡ next → ys ≡ next ∷ zs → built ++ ys ≡ all → new ++ zs ≡ all
more_one built put next zs ys new all n same e h = more built (next ∷ []) zs ys new all (n ∙ ap (λ x. built ++ x ∷ []) same) e h

-- the same where an item may be missing
pub more_some : {X : Type 0} (built : List X) (put next : Option X) (zs ys new all : List X) → new ≡ built ++ option_to_list put → put ≡ next → ys ≡ option_to_list next ++ zs → built ++ ys ≡ all → new ++ zs ≡ all
more_some built put next zs ys new all n same e h = more built (option_to_list next) zs ys new all (n ∙ ap (λ o. built ++ option_to_list o) same) e h

pub ended : {X : Type 0} (built ys all : List X) → ys ≡ [] → built ++ ys ≡ all → built ≡ all
ended built ys all e h = sym (append-nil built) ∙ (ap (λ l. built ++ l) (sym e) ∙ h)

module _ {X Y : Type 0} (f : X → Y) (xs : List X) (i : ℕ) where
  pub map-step : (x : X) → i < length xs → x ≡ get_or xs i x → map f (drop i xs) ≡ f x ∷ map f (drop (i + 1) xs)
  map-step x l e = rw (drop_at xs i x l e) refl

  pub map-end : length xs ≤ i → map f (drop i xs) ≡ []
  map-end h = rw (drop_end xs i h) refl

module _ (c : Context) (here : Here) (i : ℕ) (ps : List RawParam) (args : List RawArg) where
  pub arguments_problem-step : (p : RawParam) (a : RawArg) → i < length ps → p ≡ get_or ps i p → i < length args → a ≡ get_or args i a
      → arguments_problem c here (drop i ps) (drop i args) ≡ (argument_problem c here p.width a >> arguments_problem c here (drop (i + 1) ps) (drop (i + 1) args))
  unfolding arguments_problem
  arguments_problem-step p a l e m f = rw (drop_at ps i p l e, drop_at args i a m f) refl

  pub arguments_problem-end : length ps ≤ i → arguments_problem c here (drop i ps) (drop i args) ≡ None
  unfolding arguments_problem
  arguments_problem-end h = rw (drop_end ps i h) refl
