-- What a probe behind tokens tells.
use Rattle.std.proofs.Common.{◌≡◌, ℕ, nat_eq, not, Bool, true, false, List, [], ◌∷◌, ◌++◌, drop, map, length, Ok, Err, ◌⊎◌, inl, inr, refl, sym, ap, subst, ◌∙◌, arith, codes, length-append, length-drop}
use Rattle.std.proofs.lemmas.List.{length-map}
use Rattle.std.specs.Prelude.{IsTrue}
use Rattle.ir_types.specs.declared.tree.Raw.{Raw}
use Rattle.ir_lexer.specs.Lexeme.{Lexeme, lexeme}
use Rattle.ir_lexer.specs.declared.token.Token.{Token}
use Rattle.ir_lexer.specs.declared.token.TokenKind.TheVariants as kinds
use Rattle.grammar.specs.Grammar.{Grammar, StopsAt}
use Rattle.grammar.specs.Reading.{read}
use Rattle.grammar.proofs.Determined.{spelled, stopped}
use Rattle.grammar.proofs.ExactlyOne.{determined}
use Rattle.ir_parser.specs.Module.{module_text}
use Rattle.ir_parser.specs.Answers.{Tells}
use Rattle.ir_parser.specs.Profile.{probe, GoesOn, IsValueExpected, IsPointerExpected}
use Rattle.ir_parser.proofs.Whole.{err_stop, over_stop, ok_is, not_both}

pub told_yes : (b : Bool) (P : Type 0) → b ≡ true → Tells b P → P
told_yes true P e t = t
told_yes false P e t = absurd cc

pub told_no : (b : Bool) (P : Type 0) → b ≡ false → Tells b P → P → ⊥
told_no true P e t = absurd cc
told_no false P e t = t

-- what is left behind a phrase that is read, where the grammar stops at one token
left_of : {T A : Type 0} (g : Grammar T A) (ts rest : List T) (y : A) (t : T) → read g ts ≡ Ok (y, rest) → StopsAt g ts (t ∷ []) → rest ≡ t ∷ []
left_of g ts rest y t e (inl s) = absurd (not_both (y, rest) (t ∷ []) (sym e ∙ stopped g ts (t ∷ []) s))
left_of {T} {A} g ts rest y t e (inr s) = ap (λ (p : A × List T). p.1) (ok_is (y, rest) (s.0, t ∷ []) (sym e ∙ spelled g ts s.0 (t ∷ []) s.1))

-- ---- the last token is what is left from its index on alone

map_last : {X T : Type 0} (f : X → T) (front : List X) (x : X) → map f front ++ f x ∷ [] ≡ map f (front ++ x ∷ [])
map_last f [] x = refl
map_last {X} {T} f (y ∷ front) x = ap (λ (l : List T). f y ∷ l) (map_last f front x)

drop_last : {X T : Type 0} (f : X → T) (front : List X) (x : X) → map f (drop (length front) (front ++ x ∷ [])) ≡ f x ∷ []
drop_last f [] x = refl
drop_last f (y ∷ front) x = drop_last f front x

last_index : {X T : Type 0} (f : X → T) (front : List X) (x : X) (at : ℕ) → map f (drop at (front ++ x ∷ [])) ≡ f x ∷ [] → at ≡ length front
last_index f front x at e =
    let n : length (map f (drop at (front ++ x ∷ []))) ≡ 1 = ap length e in
    omega (arith, length-map (drop at (front ++ x ∷ [])) f, length-drop at (front ++ x ∷ []), length-append front (x ∷ []))

same_index : (a b : ℕ) → nat_eq a b ≡ true → a ≡ b
same_index a b e = grind arith

other_index : (a b : ℕ) → nat_eq a b ≡ false → a ≡ b → ⊥
other_index a b e s = absurd (grind arith)

-- ---- the answer of a probe, by where reading stops

-- reading stops, or is over, at this index
by_index : {T A X : Type 0} (g : Grammar T A) (f : X → T) (front : List X) (x : X) (at : ℕ)
    → (map f (drop at (front ++ x ∷ [])) ≡ f x ∷ [] → StopsAt g (map f (front ++ x ∷ [])) (f x ∷ []))
    → (StopsAt g (map f (front ++ x ∷ [])) (f x ∷ []) → map f (drop at (front ++ x ∷ [])) ≡ f x ∷ [])
    → Tells (not (nat_eq at (length front))) (StopsAt g (map f front ++ f x ∷ []) (f x ∷ []) → ⊥)
by_index {T} g f front x at there back = by_test (nat_eq at (length front)) refl
  where
    here : StopsAt g (map f front ++ f x ∷ []) (f x ∷ []) → StopsAt g (map f (front ++ x ∷ [])) (f x ∷ [])
    here s = let P : List T → Type 0 = λ l. StopsAt g l (f x ∷ []) in subst P (map_last f front x) s

    away : StopsAt g (map f (front ++ x ∷ [])) (f x ∷ []) → StopsAt g (map f front ++ f x ∷ []) (f x ∷ [])
    away s = let P : List T → Type 0 = λ l. StopsAt g l (f x ∷ []) in subst P (sym (map_last f front x)) s

    at_last : at ≡ length front → map f (drop at (front ++ x ∷ [])) ≡ f x ∷ []
    at_last e = ap (λ (n : ℕ). map f (drop n (front ++ x ∷ []))) e ∙ drop_last f front x

    by_test : (b : Bool) → nat_eq at (length front) ≡ b → Tells (not b) (StopsAt g (map f front ++ f x ∷ []) (f x ∷ []) → ⊥)
    by_test true e = λ goes. goes (away (there (at_last (same_index at (length front) e))))
    by_test false e = λ s. other_index at (length front) e (last_index f front x at (back (here s)))

pub read_tells : {T A X : Type 0} (g : Grammar T A) (f : X → T) (front : List X) (x : X) (at : ℕ) (y : A) → read g (map f (front ++ x ∷ [])) ≡ Ok (y, map f (drop at (front ++ x ∷ [])))
    → Tells (not (nat_eq at (length front))) (StopsAt g (map f front ++ f x ∷ []) (f x ∷ []) → ⊥)
read_tells {T} g f front x at y e = by_index g f front x at there (left_of g (map f (front ++ x ∷ [])) _ y (f x) e)
  where
    there : map f (drop at (front ++ x ∷ [])) ≡ f x ∷ [] → StopsAt g (map f (front ++ x ∷ [])) (f x ∷ [])
    there h =
        let P : List T → Type 0 = λ l. StopsAt g (map f (front ++ x ∷ [])) l in
        let n : length (map f (drop at (front ++ x ∷ []))) ≡ 1 = ap length h in
        subst P h (over_stop g (map f (front ++ x ∷ [])) _ y e (omega arith))

pub stop_tells : {T A X : Type 0} (g : Grammar T A) (f : X → T) (front : List X) (x : X) (at : ℕ) → read g (map f (front ++ x ∷ [])) ≡ Err (map f (drop at (front ++ x ∷ [])))
    → Tells (not (nat_eq at (length front))) (StopsAt g (map f front ++ f x ∷ []) (f x ∷ []) → ⊥)
stop_tells {T} g f front x at e =
    let stops : StopsAt g (map f (front ++ x ∷ [])) (map f (drop at (front ++ x ∷ []))) = err_stop g (map f (front ++ x ∷ [])) _ e in
    let P : List T → Type 0 = λ l. StopsAt g (map f (front ++ x ∷ [])) l in
    by_index g f front x at (λ h. subst P h stops) (λ s. (determined g (map f (front ++ x ∷ []))).one_stop _ _ stops s)

pub read_at : (front tokens : List Token) (x : Token) (at : ℕ) (y : Raw) → tokens ≡ front ++ x ∷ [] → read module_text (map lexeme tokens) ≡ Ok (y, map lexeme (drop at tokens))
    → Tells (not (nat_eq at (length front))) (GoesOn (map lexeme front) (lexeme x))
read_at front tokens x at y e r = let P : List Token → Type 0 = λ l. read module_text (map lexeme l) ≡ Ok (y, map lexeme (drop at l)) in read_tells module_text lexeme front x at y (subst P e r)

pub stops_at : (front tokens : List Token) (x : Token) (at : ℕ) → tokens ≡ front ++ x ∷ [] → read module_text (map lexeme tokens) ≡ Err (map lexeme (drop at tokens))
    → Tells (not (nat_eq at (length front))) (GoesOn (map lexeme front) (lexeme x))
stops_at front tokens x at e r = let P : List Token → Type 0 = λ l. read module_text (map lexeme l) ≡ Err (map lexeme (drop at l)) in stop_tells module_text lexeme front x at (subst P e r)

-- ---- a global

pub not_true : (b : Bool) → b ≡ false → IsTrue b → ⊥
not_true true e t = absurd cc
not_true false e t = absurd cc

pub global_told : (front : List Lexeme) (D : Type 0) (ends : Bool) → (D → ⊥) → GoesOn front (probe kinds.Local (codes "%x")) → (GoesOn front (probe kinds.Word (codes "undef")) → ⊥)
    → GoesOn front (probe kinds.Word (codes "noundef")) → Tells ends (GoesOn front (probe kinds.Punct (codes ")"))) → Tells (not ends) (D ⊎ (IsValueExpected front ⊎ IsPointerExpected front))
global_told front D true named local no_value attribute end = either
  where
    either : D ⊎ (IsValueExpected front ⊎ IsPointerExpected front) → ⊥
    either (inl d) = named d
    either (inr (inl v)) = no_value v.0
    either (inr (inr p)) = p.no_end end
global_told front D false named local no_value attribute no_end = inr (inr (record { local = local; attribute = attribute; no_value = no_value; no_end = no_end }))
