-- Which single tokens of a grammar are tried at a stop: those that are passed over there, and those that stop there
-- before they took a token.
use Rattle.std.specs.Prelude.{◌≡◌, Bool, true, false, ◌&&◌, ◌||◌, List, ◌⊎◌}
use Rattle.grammar.specs.Grammar.{Grammar, token, pair, choice, optional, repeated, gives, provided, is_empty, heads, is_next, Row, Spells}

-- A single token that t passes for can stand first in the phrase.
abbrev pub begins : {T A : Type 0} → Grammar T A → T → Bool
begins (token test) t = test t
begins (pair g h) t = begins g t || (is_empty g && begins h t)
begins (choice g h) t = begins g t || begins h t
begins (optional g) t = begins g t
begins (repeated g) t = begins g t
begins (gives f g) t = begins g t
begins (provided look g) t = begins g t

-- From ts on the phrase comes to the tokens of stop, and tries there a single token that t passes for.
-- A single token is tried where it stops. Where a phrase is passed over, or none of two is begun, what can stand
-- first in it is tried. Else it is tried in the part that the tokens lead to.
abbrev pub Tries : {T A : Type 0} → Grammar T A → List T → List T → T → Type 0
Tries (token test) ts stop t = (test t ≡ true) × (heads test ts ≡ false) × (ts ≡ stop)
Tries (pair g h) ts stop t = Tries g ts stop t ⊎ ((x : _) × (mid : List _) × Spells g ts x mid × Tries h mid stop t)
Tries (choice g h) ts stop t =
    ((is_next g ts ≡ true) × Tries g ts stop t)
    ⊎ (((is_next g ts ≡ false) × Tries h ts stop t) ⊎ ((is_next g ts || is_next h ts ≡ false) × (ts ≡ stop) × (begins g t ≡ true)))
Tries (optional g) ts stop t = ((is_next g ts ≡ true) × Tries g ts stop t) ⊎ ((is_next g ts ≡ false) × (ts ≡ stop) × (begins g t ≡ true))
Tries (repeated g) ts stop t =
    (xs : List _) × (mid : List _) × Row (is_next g) (Spells g) ts xs mid
    × (((is_next g mid ≡ true) × Tries g mid stop t) ⊎ ((is_next g mid ≡ false) × (mid ≡ stop) × (begins g t ≡ true)))
Tries (gives f g) ts stop t = Tries g ts stop t
Tries (provided look g) ts stop t = ((look ts ≡ true) × Tries g ts stop t) ⊎ ((look ts ≡ false) × (ts ≡ stop) × (begins g t ≡ true))
