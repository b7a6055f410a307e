-- Marks of nodes that fall: one arc more.
use Rattle.std.proofs.Common.{◌≡◌, ℕ, ◌+◌, ◌<◌, ◌⊎◌, inl, inr, Bool, List, length, get_or, arith, refl, sym, subst, ap, ◌∙◌}
use Rattle.std.specs.Prelude.{◌↔◌, IsTrue, nat_lt}
use Rattle.std.proofs.lemmas.Bool.{ltb-true, lt-ltb, cases_lt}
use Rattle.std.proofs.lemmas.List.{get_or_default}
use Rattle.flow_net.specs.declared.Arc.{Arc}
use Rattle.flow_net.specs.declared.Net.{Net}
use Rattle.flow_net.specs.declared.Flow.{Flow}
use Rattle.flow_net.specs.Network.{LetsMore, loads}
use Rattle.flow_check.specs.Faults.{FallsFrom}
use Rattle.flow_check.specs.Marks.{FallsBefore, IsLower, IsMarked, rank_at}

-- what was marked for the arc in both directions
abbrev pub Here : List ℕ → Arc → ℕ → ℕ → Type 0
Here ranks a x v = ((v ≡ a.from) × (x < a.cap) × IsLower ranks a.to a.from) ⊎ ((v ≡ a.to) × (0 < x) × IsLower ranks a.from a.to)

kept : (ls : List (Arc × ℕ)) (ranks : List ℕ) (k v : ℕ) → FallsBefore ls ranks k v → FallsBefore ls ranks (k + 1) v
kept ls ranks k v f = record {
  place = f.place;
  load = f.load;
  to = f.to;
  before = omega (arith, f.before);
  there = f.there;
  lets_more = f.lets_more;
  lower = f.lower;
}

from_here : (ls : List (Arc × ℕ)) (ranks : List ℕ) (k : ℕ) (a : Arc) (x v : ℕ) → (a, x) ≡ get_or ls k (a, x) → Here ranks a x v → FallsBefore ls ranks (k + 1) v
from_here ls ranks k a x v read (inl (from, less, lower)) = record {
  place = k;
  load = (a, x);
  to = a.to;
  before = omega arith;
  there = sym read;
  lets_more = inl (sym from, refl, less);
  lower = subst (IsLower ranks a.to) (sym from) lower;
}
from_here ls ranks k a x v read (inr (to, some, lower)) = record {
  place = k;
  load = (a, x);
  to = a.from;
  before = omega arith;
  there = sym read;
  lets_more = inr (sym to, refl, some);
  lower = subst (IsLower ranks a.from) (sym to) lower;
}

here_from : (ranks : List ℕ) (a : Arc) (x v w : ℕ) → LetsMore v w (a, x) → IsLower ranks w v → Here ranks a x v
here_from ranks a x v w (inl (from, to, less)) lower = inl (sym from, less, rw (from, to) lower)
here_from ranks a x v w (inr (to, from, some)) lower = inr (sym to, some, rw (from, to) lower)

before_or_here : (ls : List (Arc × ℕ)) (ranks : List ℕ) (k : ℕ) (a : Arc) (x v : ℕ) → k < length ls → (a, x) ≡ get_or ls k (a, x) →
    FallsBefore ls ranks (k + 1) v → FallsBefore ls ranks k v ⊎ Here ranks a x v
before_or_here ls ranks k a x v inside read f = elim (cases_lt f.place k) [
  | inl less ↦ inl (record {
    place = f.place;
    load = f.load;
    to = f.to;
    before = less;
    there = f.there;
    lets_more = f.lets_more;
    lower = f.lower;
  })
  | inr past ↦
      (let last : f.place ≡ k = omega (arith, f.before) in
      let same : f.load ≡ (a, x) = sym f.there ∙ ap (λ i. get_or ls i f.load) last ∙ get_or_default ls k f.load (a, x) inside ∙ sym read in
      inr (here_from ranks a x v f.to (subst (LetsMore v f.to) same f.lets_more) f.lower))
]

-- one arc more marks what falls by it
pub falls_more : (ls : List (Arc × ℕ)) (ranks : List ℕ) (k : ℕ) (a : Arc) (x : ℕ) (forward backward : Bool) (old mid new : List Bool) →
    k < length ls → (a, x) ≡ get_or ls k (a, x) →
    (IsTrue forward ↔ (IsTrue (nat_lt x a.cap) × IsLower ranks a.to a.from)) →
    (IsTrue backward ↔ (IsTrue (nat_lt 0 x) × IsLower ranks a.from a.to)) →
    ((v : ℕ) → IsMarked mid v ↔ (IsMarked old v ⊎ (IsTrue forward × (v ≡ a.from)))) →
    ((v : ℕ) → IsMarked new v ↔ (IsMarked mid v ⊎ (IsTrue backward × (v ≡ a.to)))) →
    ((v : ℕ) → IsMarked old v ↔ FallsBefore ls ranks k v) →
    (v : ℕ) → IsMarked new v ↔ FallsBefore ls ranks (k + 1) v
falls_more ls ranks k a x forward backward old mid new inside read f b first second was v =
    let by_forward : IsTrue forward × (v ≡ a.from) → FallsBefore ls ranks (k + 1) v =
    λ w. from_here ls ranks k a x v read (inl (w.1, ltb-true x a.cap (f.0 w.0).0, (f.0 w.0).1)) in
    let by_backward : IsTrue backward × (v ≡ a.to) → FallsBefore ls ranks (k + 1) v =
    λ w. from_here ls ranks k a x v read (inr (w.1, ltb-true 0 x (b.0 w.0).0, (b.0 w.0).1)) in
    let in_mid : IsMarked mid v → FallsBefore ls ranks (k + 1) v =
    λ m. elim ((first v).0 m) [ inl o ↦ kept ls ranks k v ((was v).0 o) | inr w ↦ by_forward w ] in (
      (λ m. elim ((second v).0 m) [ inl o ↦ in_mid o | inr w ↦ by_backward w ]),
      (λ falls. elim (before_or_here ls ranks k a x v inside read falls) [
        | inl before ↦ (second v).1 (inl ((first v).1 (inl ((was v).1 before))))
        | inr (inl (from, less, lower)) ↦ (second v).1 (inl ((first v).1 (inr (f.1 (lt-ltb x a.cap less, lower), from))))
        | inr (inr (to, some, lower)) ↦ (second v).1 (inr (b.1 (lt-ltb 0 x some, lower), to))
      ]),
    )

-- all arcs mark what falls
pub falls_all : (net : Net) (flow : Flow) (ranks : List ℕ) (k v : ℕ) → k ≡ length (loads net flow) →
    FallsBefore (loads net flow) ranks k v ↔ FallsFrom net flow (rank_at ranks) v
falls_all net flow ranks k v all = (
  (λ f. (f.to, (f.place, f.load, omega (arith, f.before), f.there, f.lets_more), f.lower)),
  (λ (w, (i, l, inside, there, lets), lower). record {
    place = i;
    load = l;
    to = w;
    before = omega arith;
    there = there;
    lets_more = lets;
    lower = lower;
  }),
)
