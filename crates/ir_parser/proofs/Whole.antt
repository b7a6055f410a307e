-- All the tokens: what the plain reader's answer says of the tree and of the stop.
use Rattle.std.proofs.Common.{◌≡◌, ◌<◌, ◌≤◌, List, [], ◌∷◌, drop, map, length, Ok, Err, refl, inl, inr, sym, ap, subst, ◌∙◌, arith, length-drop}
use Rattle.std.proofs.lemmas.List.{length-map}
use Rattle.grammar.specs.Grammar.{Grammar, SpellsAll, StopsAt, Spells}
use Rattle.grammar.specs.Reading.{Reading, read}
use Rattle.grammar.proofs.Determined.{spelled}
use Rattle.grammar.proofs.Rows.{read_is}

pub ok_is : {T A : Type 0} (p q : A × List T) → (let r : Reading T A = Ok p in r ≡ Ok q) → p ≡ q
ok_is p q e = cc

pub not_both : {T A : Type 0} (p : A × List T) (stop : List T) → (let r : Reading T A = Ok p in r ≡ Err stop) → ⊥
not_both p stop e = absurd cc

-- a phrase that stops is no tree
pub err_stop : {T A : Type 0} (g : Grammar T A) (ts stop : List T) → read g ts ≡ Err stop → StopsAt g ts stop
err_stop g ts stop h = inl (read_is g ts (Err stop) h)

pub err_only : {T A : Type 0} (g : Grammar T A) (ts stop : List T) (x : A) → read g ts ≡ Err stop → SpellsAll g ts x → ⊥
err_only g ts stop x h s = not_both (x, []) stop (sym (spelled g ts x [] s) ∙ h)

-- tokens behind the last part: the first of them is the stop
not_empty : {T : Type 0} (rest : List T) → 0 < length rest → rest ≡ [] → ⊥
not_empty rest lt e = let l = ap length e in absurd (omega arith)

pub over_stop : {T A : Type 0} (g : Grammar T A) (ts rest : List T) (x : A) → read g ts ≡ Ok (x, rest) → 0 < length rest → StopsAt g ts rest
over_stop g ts rest x h lt = inr (x, read_is g ts (Ok (x, rest)) h, not_empty rest lt)

pub over_only : {T A : Type 0} (g : Grammar T A) (ts rest : List T) (x y : A) → read g ts ≡ Ok (x, rest) → 0 < length rest → SpellsAll g ts y → ⊥
over_only {A} g ts rest x y h lt s =
    not_empty rest lt (ap (λ (p : _ × List _). p.1) (ok_is (x, rest) (y, []) (sym h ∙ spelled g ts y [] s)))

nil_is : {T : Type 0} (rest : List T) → length rest ≡ 0 → rest ≡ []
nil_is [] e = refl
nil_is (t ∷ ts) e = absurd (omega arith)

pub whole_found : {T A : Type 0} (g : Grammar T A) (ts rest : List T) (x : A) → read g ts ≡ Ok (x, rest) → length rest ≡ 0 → SpellsAll g ts x
whole_found g ts rest x h e = subst (λ (l : List _). Spells g ts x l) (nil_is rest e) (read_is g ts (Ok (x, rest)) h)

pub whole_only : {T A : Type 0} (g : Grammar T A) (ts rest : List T) (x y : A) → read g ts ≡ Ok (x, rest) → SpellsAll g ts y → x ≡ y
whole_only {A} g ts rest x y h s = ap (λ (p : _ × List _). p.0) (ok_is (x, rest) (y, []) (sym h ∙ spelled g ts y [] s))

-- the tokens from an index on are some exactly where it is below their number
pub some_left : {X Y : Type 0} (f : X → Y) (at : _) (xs : List X) → at < length xs → 0 < length (map f (drop at xs))
some_left f at xs l = omega (arith, length-drop at xs, length-map (drop at xs) f)

pub none_left : {X Y : Type 0} (f : X → Y) (at : _) (xs : List X) → length xs ≤ at → length (map f (drop at xs)) ≡ 0
none_left f at xs l = omega (arith, length-drop at xs, length-map (drop at xs) f)
