-- Texts that grow at their ends.
use Rattle.std.proofs.Common.{◌≡◌, ℕ, ◌+◌, ◌<◌, ◌≤◌, List, [], ◌∷◌, ◌++◌, Ok, Err, IsTrue, OnOk, append_assoc, length, take, get_or, ap, sym, ◌∙◌, codes, refl}
use Rattle.std.specs.declared.result.Result.{Result}
use Rattle.std.specs.List.{flat_map}
use Rattle.std.proofs.lemmas.List.{flat_map_more, take_more, take_all}
use Rattle.mc_host.specs.Streams.{SinkState, Puts}

-- what the last put makes of the whole
pub last_put : {E : Type 0} (r : Result (Unit {0}) E) (bytes whole : List ℕ) (s t : SinkState) → Puts bytes r s t → IsTrue s.tells → s.written ++ bytes ≡ whole → OnOk r (t.written ≡ whole)
last_put (Ok _) bytes whole s t puts tells e = puts.whole tells ∙ e
last_put (Err _) bytes whole s t puts tells e = tt

-- the same whole in other parts
pub same_whole : {T E : Type 0} (r : Result T E) (written one other : List ℕ) → OnOk r (written ≡ one) → one ≡ other → OnOk r (written ≡ other)
same_whole (Ok _) written one other h e = h ∙ e
same_whole (Err _) written one other h e = tt

-- three parts behind what was there
pub in_three : (old one two three before behind : List ℕ) → before ≡ old ++ one → behind ≡ before ++ two → behind ++ three ≡ old ++ (one ++ (two ++ three))
in_three old one two three before behind e f = ap (λ (l : List ℕ). l ++ three) (f ∙ ap (λ (l : List ℕ). l ++ two) e) ∙ simp append_assoc

-- a part behind what was there, and what follows it
pub step : (before behind part rest : List ℕ) → behind ≡ before ++ part → behind ++ rest ≡ before ++ (part ++ rest)
step before behind part rest e = ap (λ (l : List ℕ). l ++ rest) e ∙ append_assoc before part rest

-- one item more of a list whose texts stand one after another
pub one_more : {X : Type 0} (text : X → List ℕ) (xs : List X) (i : ℕ) (x : X) (old before behind : List ℕ) → i < length xs → x ≡ get_or xs i x → before ≡ old ++ flat_map text (take i xs) → behind ≡ before ++ text x → behind ≡ old ++ flat_map text (take (i + 1) xs)
one_more text xs i x old before behind lt is e f =
    f ∙ ap (λ (l : List ℕ). l ++ text x) e ∙ flat_map_more text old (take i xs) x
    ∙ ap (λ (l : List _). old ++ flat_map text l) (ap (λ y. take i xs ++ y ∷ []) is ∙ sym (take_more xs i x lt))

-- all of them
pub all_done : {X : Type 0} (text : X → List ℕ) (xs ys : List X) (i : ℕ) (old before : List ℕ) → length ys ≤ i → ys ≡ xs → before ≡ old ++ flat_map text (take i ys) → before ≡ old ++ flat_map text xs
all_done text xs ys i old before le same e = e ∙ ap (λ (l : List _). old ++ flat_map text l) (take_all i ys le ∙ same)

-- six parts behind one another, of which the second to fourth are a whole of their own
pub in_six : (old one two three four five six w1 w2 w3 w4 w5 : List ℕ) → w1 ≡ old ++ one → w2 ≡ w1 ++ two → w3 ≡ w2 ++ three → w4 ≡ w3 ++ four → w5 ≡ w4 ++ five
    → w5 ++ six ≡ old ++ (one ++ (two ++ (three ++ (four ++ (five ++ six)))))
in_six old one two three four five six w1 w2 w3 w4 w5 a b c d e = step w4 w5 five six e ∙ step w3 w4 four _ d ∙ step w2 w3 three _ c ∙ step w1 w2 two _ b ∙ step old w1 one _ a

-- the head of a definition with its parameters, and what follows
pub regrouped_head : (type name params blocks : List ℕ) →
    (type ++ (codes " " ++ (name ++ codes "("))) ++ (params ++ (codes ") {\n" ++ (blocks ++ codes "}\n")))
    ≡ (type ++ (codes " " ++ (name ++ (codes "(" ++ (params ++ codes ")"))))) ++ (codes " {\n" ++ (blocks ++ codes "}\n"))
regrouped_head type name params blocks = simp append_assoc refl
