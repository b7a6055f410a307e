-- One more amount is carried along a path, step by step, from the source to the sink.
use Rattle.std.proofs.Common.{◌≡◌, ◌≢◌, ℕ, suc, zero, ◌+◌, ◌-◌, ◌<◌, ◌≤◌, ◌==◌, Bool, true, false, cond, List, [], ◌∷◌, length, refl, ap, arith, sym, ◌∙◌, get_or, set, inl, inr, subst, drop, ◌⊎◌}
use Rattle.std.specs.List.{zip}
use Rattle.std.proofs.lemmas.List.{get_or-set_same, get_or-set_other, length-set, get_or_default}
use Rattle.std.proofs.lemmas.List.Sums.{sum_by-set}
use Rattle.std.proofs.lemmas.List.Elements.{All-get_or}
use Rattle.std.proofs.lemmas.Bool.{cases_eq, ne_eqb}
use Rattle.std.proofs.lemmas.Slice.Zip.{get_or-zip, length-zip}
use Rattle.flow_net.specs.declared.Arc.{Arc}
use Rattle.flow_net.specs.declared.Net.{Net}
use Rattle.flow_net.specs.declared.Flow.{Flow}
use Rattle.flow_net.specs.declared.levels.Distances.{Distances}
use Rattle.flow_net.specs.Network.{inflow, outflow, amount_where, IsArcOf, IsValid, IsWithin, IsBalanced, LetsMore, loads}
use Rattle.flow_net.proofs.Loads.{load_at, loads_len}
use Rattle.flow_net.specs.Levels.{distance_of}
use Rattle.max_flow.specs.declared.pushing.Step.{Step}
use Rattle.max_flow.specs.Path.{arc_at, end_of, room_of, StepsFrom, IsPath, IsNearer, LeadsFarther, pushed}

abbrev no_arc : Arc
no_arc = record { from = 0; to = 0; cap = 0 }

zip_set : (arcs : List Arc) (xs : List ℕ) (i y : ℕ) → i < length arcs → length xs ≡ length arcs → zip arcs (set xs i y) ≡ set (zip arcs xs) i (arc_at arcs i, y)
zip_set [] xs i y h same = absurd (omega arith)
zip_set (a ∷ arcs) [] i y h same = absurd (omega arith)
zip_set (a ∷ arcs) (x ∷ xs) zero y h same = refl
zip_set (a ∷ arcs) (x ∷ xs) (suc i) y h same = ap (λ ls. (a, x) ∷ ls) (zip_set arcs xs i y (omega arith) (omega arith))

-- what a sum over the arcs becomes where one amount changes
amount_set : (test : Arc → Bool) (arcs : List Arc) (xs : List ℕ) (i y : ℕ) → i < length arcs → length xs ≡ length arcs →
    amount_where test (zip arcs (set xs i y)) + cond (test (arc_at arcs i)) (get_or xs i 0) 0 ≡ amount_where test (zip arcs xs) + cond (test (arc_at arcs i)) y 0
amount_set test arcs xs i y h same =
    let long : i < length (zip arcs xs) = omega (arith, length-zip arcs xs) in
    let at : get_or (zip arcs xs) i (no_arc, 0) ≡ (arc_at arcs i, get_or xs i 0) = get_or-zip arcs xs i (no_arc, 0) h (omega arith) in
    let changed : amount_where test (set (zip arcs xs) i (arc_at arcs i, y)) + cond (test (get_or (zip arcs xs) i (no_arc, 0)).0) (get_or (zip arcs xs) i (no_arc, 0)).1 0 ≡ amount_where test (zip arcs xs) + cond (test (arc_at arcs i)) y 0 =
    sum_by-set (λ (l : Arc × ℕ). cond (test l.0) l.1 0) (zip arcs xs) i (arc_at arcs i, y) (no_arc, 0) long in
    let was : cond (test (get_or (zip arcs xs) i (no_arc, 0)).0) (get_or (zip arcs xs) i (no_arc, 0)).1 0 ≡ cond (test (arc_at arcs i)) (get_or xs i 0) 0 = ap (λ (l : Arc × ℕ). cond (test l.0) l.1 0) at in
    let now : amount_where test (zip arcs (set xs i y)) ≡ amount_where test (set (zip arcs xs) i (arc_at arcs i, y)) = ap (amount_where test) (zip_set arcs xs i y h same) in
    omega arith

amount_raised : (b : Bool) (x y : ℕ) → cond b (x + y) 0 ≡ cond b x 0 + cond b y 0
amount_raised true x y = refl
amount_raised false x y = refl

-- an amount is as before, or more where its arc leads nearer, or less where the way back does
abbrev pub Moved : List Arc → List ℕ → List ℕ → Distances → ℕ → Type 0
Moved arcs old now found i = (get_or now i 0 ≡ get_or old i 0) ⊎
    (((get_or old i 0 < get_or now i 0) × IsNearer found (arc_at arcs i).from (arc_at arcs i).to) ⊎
    ((get_or now i 0 < get_or old i 0) × IsNearer found (arc_at arcs i).to (arc_at arcs i).from))

-- the amounts on their way: what stands at cur has come from the source, and is not gone on yet
pub record Carrying (n : ℕ) (arcs : List Arc) (old now : List ℕ) (found : Distances) (amount cur : ℕ) : Type 0 where
  pub len : length now ≡ length arcs
  pub below : (i : ℕ) → i < length arcs → get_or now i 0 ≤ (arc_at arcs i).cap
  pub excess : (v : ℕ) → 2 ≤ v → v < n → inflow (zip arcs now) v ≡ outflow (zip arcs now) v + cond (cur == v) amount 0
  pub source : outflow (zip arcs now) 0 + cond (cur == 0) amount 0 ≡ outflow (zip arcs old) 0 + amount
  pub kept : (i : ℕ) → i < length arcs → distance_of found (arc_at arcs i).from ≤ distance_of found cur → distance_of found (arc_at arcs i).to ≤ distance_of found cur → get_or now i 0 ≡ get_or old i 0
  pub near : distance_of found cur ≤ distance_of found 0
  pub moved : (i : ℕ) → i < length arcs → Moved arcs old now found i

module _ (n : ℕ) (arcs : List Arc) (all : (i : ℕ) → i < length arcs → IsArcOf n (arc_at arcs i)) (old now : List ℕ) (found : Distances) (amount : ℕ) where
  not_source : (w v : ℕ) → distance_of found v ≤ distance_of found 0 → distance_of found v ≡ distance_of found w + 1 → w ≢ 0
  not_source w v near less same = (let eq : distance_of found w ≡ distance_of found 0 = ap (distance_of found) same in omega arith)

  moved_still : (j : ℕ) (new : List ℕ) → get_or new j 0 ≡ get_or now j 0 → Moved arcs old now found j → Moved arcs old new found j
  moved_still j new same (inl kept) = inl (same ∙ kept)
  moved_still j new same (inr (inl (more, nearer))) = inr (inl (omega arith, nearer))
  moved_still j new same (inr (inr (fewer, nearer))) = inr (inr (omega arith, nearer))

  forward_more : (i : ℕ) → i < length arcs → Carrying n arcs old now found amount (arc_at arcs i).from →
      IsNearer found (arc_at arcs i).from (arc_at arcs i).to → amount ≤ (arc_at arcs i).cap - get_or now i 0 → 0 < amount →
      Carrying n arcs old (set now i (get_or now i 0 + amount)) found amount (arc_at arcs i).to
  forward_more i h c nearer room some =
      let less : distance_of found (arc_at arcs i).from ≡ distance_of found (arc_at arcs i).to + 1 = nearer.1 in
      let short : i < length now = omega (arith, c.len) in
      let fits : get_or now i 0 ≤ (arc_at arcs i).cap = c.below i h in
      let first : (arc_at arcs i).to ≢ 0 = not_source (arc_at arcs i).to (arc_at arcs i).from c.near less in
      record {
        len = length-set now i (get_or now i 0 + amount) ∙ c.len;
        below = λ j inside. elim (cases_eq j i) [
          | inl same ↦ (let here : get_or (set now i (get_or now i 0 + amount)) j 0 ≡ get_or now i 0 + amount = ap (λ k. get_or (set now i (get_or now i 0 + amount)) k 0) same ∙ get_or-set_same now i (get_or now i 0 + amount) 0 short in
              let there : (arc_at arcs j).cap ≡ (arc_at arcs i).cap = ap (λ k. (arc_at arcs k).cap) same in omega arith)
          | inr differs ↦ (let here : get_or (set now i (get_or now i 0 + amount)) j 0 ≡ get_or now j 0 = get_or-set_other now i j (get_or now i 0 + amount) 0 differs in
              let there : get_or now j 0 ≤ (arc_at arcs j).cap = c.below j inside in omega arith)
        ];
        excess = λ v two inside.
            (let into : inflow (zip arcs (set now i (get_or now i 0 + amount))) v + cond ((arc_at arcs i).to == v) (get_or now i 0) 0 ≡ inflow (zip arcs now) v + cond ((arc_at arcs i).to == v) (get_or now i 0 + amount) 0 =
            amount_set (λ a. a.to == v) arcs now i (get_or now i 0 + amount) h c.len in
            let out : outflow (zip arcs (set now i (get_or now i 0 + amount))) v + cond ((arc_at arcs i).from == v) (get_or now i 0) 0 ≡ outflow (zip arcs now) v + cond ((arc_at arcs i).from == v) (get_or now i 0 + amount) 0 =
            amount_set (λ a. a.from == v) arcs now i (get_or now i 0 + amount) h c.len in
            let before : inflow (zip arcs now) v ≡ outflow (zip arcs now) v + cond ((arc_at arcs i).from == v) amount 0 = c.excess v two inside in
            let r1 = amount_raised ((arc_at arcs i).to == v) (get_or now i 0) amount in
            let r2 = amount_raised ((arc_at arcs i).from == v) (get_or now i 0) amount in
            omega arith);
        source =
            (let out : outflow (zip arcs (set now i (get_or now i 0 + amount))) 0 + cond ((arc_at arcs i).from == 0) (get_or now i 0) 0 ≡ outflow (zip arcs now) 0 + cond ((arc_at arcs i).from == 0) (get_or now i 0 + amount) 0 =
            amount_set (λ a. a.from == 0) arcs now i (get_or now i 0 + amount) h c.len in
            let before : outflow (zip arcs now) 0 + cond ((arc_at arcs i).from == 0) amount 0 ≡ outflow (zip arcs old) 0 + amount = c.source in
            let r = amount_raised ((arc_at arcs i).from == 0) (get_or now i 0) amount in
            let gone : cond ((arc_at arcs i).to == 0) amount 0 ≡ 0 = ap (λ b. cond b amount 0) (ne_eqb (arc_at arcs i).to 0 first) in
            omega arith);
        kept = λ j inside from to. elim (cases_eq j i) [
          | inl same ↦ (let eq : distance_of found (arc_at arcs j).from ≡ distance_of found (arc_at arcs i).from = ap (λ k. distance_of found (arc_at arcs k).from) same in absurd (omega arith))
          | inr differs ↦ get_or-set_other now i j (get_or now i 0 + amount) 0 differs ∙ c.kept j inside (omega arith) (omega arith)
        ];
        near = (let was : distance_of found (arc_at arcs i).from ≤ distance_of found 0 = c.near in omega arith);
        moved = λ j inside. elim (cases_eq j i) [
          | inl same ↦
              (let new : get_or (set now i (get_or now i 0 + amount)) i 0 ≡ get_or now i 0 + amount = get_or-set_same now i (get_or now i 0 + amount) 0 short in
              let was : get_or now i 0 ≡ get_or old i 0 = c.kept i h (omega arith) (omega arith) in
              subst (Moved arcs old (set now i (get_or now i 0 + amount)) found) (sym same) (inr (inl (omega arith, nearer))))
          | inr differs ↦ moved_still j (set now i (get_or now i 0 + amount)) (get_or-set_other now i j (get_or now i 0 + amount) 0 differs) (c.moved j inside)
        ];
      }

  backward_more : (i : ℕ) → i < length arcs → Carrying n arcs old now found amount (arc_at arcs i).to →
      IsNearer found (arc_at arcs i).to (arc_at arcs i).from → amount ≤ get_or now i 0 → 0 < amount →
      Carrying n arcs old (set now i (get_or now i 0 - amount)) found amount (arc_at arcs i).from
  backward_more i h c nearer room some =
      let less : distance_of found (arc_at arcs i).to ≡ distance_of found (arc_at arcs i).from + 1 = nearer.1 in
      let short : i < length now = omega (arith, c.len) in
      let fits : get_or now i 0 ≤ (arc_at arcs i).cap = c.below i h in
      let first : (arc_at arcs i).from ≢ 0 = not_source (arc_at arcs i).from (arc_at arcs i).to c.near less in
      let enters : 0 < (arc_at arcs i).to = (all i h).2 in
      record {
        len = length-set now i (get_or now i 0 - amount) ∙ c.len;
        below = λ j inside. elim (cases_eq j i) [
          | inl same ↦ (let here : get_or (set now i (get_or now i 0 - amount)) j 0 ≡ get_or now i 0 - amount = ap (λ k. get_or (set now i (get_or now i 0 - amount)) k 0) same ∙ get_or-set_same now i (get_or now i 0 - amount) 0 short in
              let there : (arc_at arcs j).cap ≡ (arc_at arcs i).cap = ap (λ k. (arc_at arcs k).cap) same in omega arith)
          | inr differs ↦ (let here : get_or (set now i (get_or now i 0 - amount)) j 0 ≡ get_or now j 0 = get_or-set_other now i j (get_or now i 0 - amount) 0 differs in
              let there : get_or now j 0 ≤ (arc_at arcs j).cap = c.below j inside in omega arith)
        ];
        excess = λ v two inside.
            (let into : inflow (zip arcs (set now i (get_or now i 0 - amount))) v + cond ((arc_at arcs i).to == v) (get_or now i 0) 0 ≡ inflow (zip arcs now) v + cond ((arc_at arcs i).to == v) (get_or now i 0 - amount) 0 =
            amount_set (λ a. a.to == v) arcs now i (get_or now i 0 - amount) h c.len in
            let out : outflow (zip arcs (set now i (get_or now i 0 - amount))) v + cond ((arc_at arcs i).from == v) (get_or now i 0) 0 ≡ outflow (zip arcs now) v + cond ((arc_at arcs i).from == v) (get_or now i 0 - amount) 0 =
            amount_set (λ a. a.from == v) arcs now i (get_or now i 0 - amount) h c.len in
            let before : inflow (zip arcs now) v ≡ outflow (zip arcs now) v + cond ((arc_at arcs i).to == v) amount 0 = c.excess v two inside in
            let r1 = lowered ((arc_at arcs i).to == v) (get_or now i 0) room in
            let r2 = lowered ((arc_at arcs i).from == v) (get_or now i 0) room in
            omega arith);
        source =
            (let out : outflow (zip arcs (set now i (get_or now i 0 - amount))) 0 + cond ((arc_at arcs i).from == 0) (get_or now i 0) 0 ≡ outflow (zip arcs now) 0 + cond ((arc_at arcs i).from == 0) (get_or now i 0 - amount) 0 =
            amount_set (λ a. a.from == 0) arcs now i (get_or now i 0 - amount) h c.len in
            let before : outflow (zip arcs now) 0 + cond ((arc_at arcs i).to == 0) amount 0 ≡ outflow (zip arcs old) 0 + amount = c.source in
            let gone : cond ((arc_at arcs i).to == 0) amount 0 ≡ 0 = ap (λ b. cond b amount 0) (ne_eqb (arc_at arcs i).to 0 (λ same. omega arith)) in
            let none : (x : ℕ) → cond ((arc_at arcs i).from == 0) x 0 ≡ 0 = (λ x. ap (λ b. cond b x 0) (ne_eqb (arc_at arcs i).from 0 first)) in
            omega (arith, none amount, none (get_or now i 0), none (get_or now i 0 - amount)));
        kept = λ j inside from to. elim (cases_eq j i) [
          | inl same ↦ (let eq : distance_of found (arc_at arcs j).to ≡ distance_of found (arc_at arcs i).to = ap (λ k. distance_of found (arc_at arcs k).to) same in absurd (omega arith))
          | inr differs ↦ get_or-set_other now i j (get_or now i 0 - amount) 0 differs ∙ c.kept j inside (omega arith) (omega arith)
        ];
        near = (let was : distance_of found (arc_at arcs i).to ≤ distance_of found 0 = c.near in omega arith);
        moved = λ j inside. elim (cases_eq j i) [
          | inl same ↦
              (let new : get_or (set now i (get_or now i 0 - amount)) i 0 ≡ get_or now i 0 - amount = get_or-set_same now i (get_or now i 0 - amount) 0 short in
              let was : get_or now i 0 ≡ get_or old i 0 = c.kept i h (omega arith) (omega arith) in
              subst (Moved arcs old (set now i (get_or now i 0 - amount)) found) (sym same) (inr (inr (omega arith, nearer))))
          | inr differs ↦ moved_still j (set now i (get_or now i 0 - amount)) (get_or-set_other now i j (get_or now i 0 - amount) 0 differs) (c.moved j inside)
        ];
      }
    where
      lowered : (b : Bool) (x : ℕ) → amount ≤ x → cond b (x - amount) 0 + cond b amount 0 ≡ cond b x 0
      lowered true x le = omega arith
      lowered false x le = refl

  step_at : (i : ℕ) (along : Bool) (cur : ℕ) → StepsFrom arcs found cur (record { arc = i; forward = along }) → Carrying n arcs old now found amount cur → amount ≤ room_of arcs old (record { arc = i; forward = along }) → 0 < amount →
      Carrying n arcs old (pushed now (record { arc = i; forward = along }) amount) found amount (end_of arcs (record { arc = i; forward = along }))
  step_at i true cur s c room some =
      let here : distance_of found (arc_at arcs i).from ≡ distance_of found cur = ap (distance_of found) s.start in
      let near : distance_of found cur ≡ distance_of found (arc_at arcs i).to + 1 = s.nearer.1 in
      let same : get_or now i 0 ≡ get_or old i 0 = c.kept i s.inside (omega arith) (omega arith) in
      forward_more i s.inside (subst (λ v. Carrying n arcs old now found amount v) (sym s.start) c) (s.nearer.0, here ∙ near) (omega arith) some
  step_at i false cur s c room some =
      let here : distance_of found (arc_at arcs i).to ≡ distance_of found cur = ap (distance_of found) s.start in
      let near : distance_of found cur ≡ distance_of found (arc_at arcs i).from + 1 = s.nearer.1 in
      let same : get_or now i 0 ≡ get_or old i 0 = c.kept i s.inside (omega arith) (omega arith) in
      backward_more i s.inside (subst (λ v. Carrying n arcs old now found amount v) (sym s.start) c) (s.nearer.0, here ∙ near) (omega arith) some

  pub carry_step : (s : Step) (cur : ℕ) → StepsFrom arcs found cur s → Carrying n arcs old now found amount cur → amount ≤ room_of arcs old s → 0 < amount →
      Carrying n arcs old (pushed now s amount) found amount (end_of arcs s)
  carry_step s cur = step_at s.arc s.forward cur

  room_at : (i : ℕ) (along : Bool) (cur : ℕ) → StepsFrom arcs found cur (record { arc = i; forward = along }) → Carrying n arcs old now found amount cur →
      room_of arcs now (record { arc = i; forward = along }) ≡ room_of arcs old (record { arc = i; forward = along })
  room_at i true cur s c =
      let here : distance_of found (arc_at arcs i).from ≡ distance_of found cur = ap (distance_of found) s.start in
      let near : distance_of found cur ≡ distance_of found (arc_at arcs i).to + 1 = s.nearer.1 in
      let same : get_or now i 0 ≡ get_or old i 0 = c.kept i s.inside (omega arith) (omega arith) in
      omega arith
  room_at i false cur s c =
      let here : distance_of found (arc_at arcs i).to ≡ distance_of found cur = ap (distance_of found) s.start in
      let near : distance_of found cur ≡ distance_of found (arc_at arcs i).from + 1 = s.nearer.1 in
      c.kept i s.inside (omega arith) (omega arith)

  pub room_kept : (s : Step) (cur : ℕ) → StepsFrom arcs found cur s → Carrying n arcs old now found amount cur → room_of arcs now s ≡ room_of arcs old s
  room_kept s cur = room_at s.arc s.forward cur

  -- what stands at the sink has arrived
  pub carry_balanced : Carrying n arcs old now found amount 1 → (v : ℕ) → 2 ≤ v → v < n → inflow (zip arcs now) v ≡ outflow (zip arcs now) v
  carry_balanced c v two inside =
      let here : inflow (zip arcs now) v ≡ outflow (zip arcs now) v + cond (1 == v) amount 0 = c.excess v two inside in
      let none : cond (1 == v) amount 0 ≡ 0 = ap (λ b. cond b amount 0) (ne_eqb 1 v (λ same. omega arith)) in
      omega arith

-- before the first step
pub carry_first : (net : Net) (flow : Flow) (found : Distances) (amount : ℕ) → IsWithin net flow → IsBalanced net flow →
    Carrying net.nodes net.arcs.items flow.amounts.items flow.amounts.items found amount 0
carry_first net flow found amount w b = record {
  len = w.len;
  below = λ i h.
      (let read : get_or (loads net flow) i (no_arc, 0) ≡ (arc_at net.arcs.items i, get_or flow.amounts.items i 0) = load_at net flow i no_arc 0 w h in
      rw read at (All-get_or (λ l. l.1 ≤ l.0.cap) (loads net flow) i (no_arc, 0) (omega (arith, loads_len net flow w)) w.below));
  excess = λ v two inside.
      (let here : inflow (loads net flow) v ≡ outflow (loads net flow) v = b v two inside in
      let none : cond (0 == v) amount 0 ≡ 0 = ap (λ b. cond b amount 0) (ne_eqb 0 v (λ same. omega arith)) in
      omega arith);
  source = refl;
  kept = λ i h from to. refl;
  near = omega arith;
  moved = λ i h. inl refl;
}

pub carry_within : (net : Net) (flow now : Flow) (found : Distances) (amount cur : ℕ) → Carrying net.nodes net.arcs.items flow.amounts.items now.amounts.items found amount cur → IsWithin net now
carry_within net flow now found amount cur c = record {
  len = c.len;
  below = λ k d h.
      (let inside : k < length net.arcs.items = omega (arith, length-zip net.arcs.items now.amounts.items) in
      let short : k < length now.amounts.items = omega (arith, c.len) in
      let read : get_or (loads net now) k d ≡ (get_or net.arcs.items k d.0, get_or now.amounts.items k d.1) = get_or-zip net.arcs.items now.amounts.items k d inside short in
      let arc : get_or net.arcs.items k d.0 ≡ arc_at net.arcs.items k = get_or_default net.arcs.items k d.0 no_arc inside in
      let amount : get_or now.amounts.items k d.1 ≡ get_or now.amounts.items k 0 = get_or_default now.amounts.items k d.1 0 short in
      let fits : get_or now.amounts.items k 0 ≤ (arc_at net.arcs.items k).cap = c.below k inside in
      rw (read, arc, amount) fits);
}

pub arcs_in_net : (net : Net) → IsValid net → (i : ℕ) → i < length net.arcs.items → IsArcOf net.nodes (arc_at net.arcs.items i)
arcs_in_net net v i h = v.arcs i no_arc h

-- the steps that are left begin with the next one
pub path_next : (arcs : List Arc) (found : Distances) (steps : List Step) (i cur : ℕ) (d : Step) → i < length steps → IsPath arcs found cur (drop i steps) →
    StepsFrom arcs found cur (get_or steps i d) × IsPath arcs found (end_of arcs (get_or steps i d)) (drop (i + 1) steps)
path_next arcs found [] i cur d h path = absurd (omega arith)
path_next arcs found (s ∷ steps) zero cur d h path = path
path_next arcs found (s ∷ steps) (suc i) cur d h path =
    let up : suc i + 1 ≡ suc (i + 1) = omega arith in
    let rest = path_next arcs found steps i cur d (omega arith) path in
    (rest.0, subst (λ m. IsPath arcs found (end_of arcs (get_or steps i d)) (drop m (s ∷ steps))) (sym up) rest.1)

pub path_end : (arcs : List Arc) (found : Distances) (steps : List Step) (i cur : ℕ) → length steps ≤ i → IsPath arcs found cur (drop i steps) → cur ≡ 1
path_end arcs found [] i cur h path = at_end arcs found i cur path
  where
    at_end : (arcs : List Arc) (found : Distances) (i cur : ℕ) → IsPath arcs found cur (drop i []) → cur ≡ 1
    at_end arcs found zero cur path = path
    at_end arcs found (suc i) cur path = path
path_end arcs found (s ∷ steps) zero cur h path = absurd (omega arith)
path_end arcs found (s ∷ steps) (suc i) cur h path = path_end arcs found steps i cur (omega arith) path

farther_here : (found : Distances) (u v i : ℕ) (a : Arc) (x y : ℕ) →
    ((y ≡ x) ⊎ (((x < y) × IsNearer found a.from a.to) ⊎ ((y < x) × IsNearer found a.to a.from))) → LetsMore u v (a, y) → LetsMore u v (a, x) ⊎ IsNearer found v u
farther_here found u v i a x y (inl same) (inl (from, to, less)) = inl (inl (from, to, omega arith))
farther_here found u v i a x y (inl same) (inr (to, from, some)) = inl (inr (to, from, omega arith))
farther_here found u v i a x y (inr (inl (more, nearer))) (inl (from, to, less)) = inl (inl (from, to, omega arith))
farther_here found u v i a x y (inr (inl (more, nearer))) (inr (to, from, some)) = inr (rw (← to, ← from) nearer)
farther_here found u v i a x y (inr (inr (fewer, nearer))) (inl (from, to, less)) = inr (rw (← from, ← to) nearer)
farther_here found u v i a x y (inr (inr (fewer, nearer))) (inr (to, from, some)) = inl (inr (to, from, omega arith))

-- what an arc lets go after the amounts moved it let go before, or it leads one farther
pub farther : (net : Net) (flow now : Flow) (found : Distances) (amount cur : ℕ) → IsWithin net flow → Carrying net.nodes net.arcs.items flow.amounts.items now.amounts.items found amount cur →
    LeadsFarther found (loads net flow) (loads net now)
farther net flow now found amount cur w c =
    let after : IsWithin net now = carry_within net flow now found amount cur c in
    record {
      len = omega (arith, loads_len net now after, loads_len net flow w);
      each = λ i u v l h lets.
          (let inside : i < length net.arcs.items = omega (arith, loads_len net now after) in
          let long : i < length (loads net flow) = omega (arith, loads_len net flow w) in
          let before_at : get_or (loads net flow) i l ≡ (arc_at net.arcs.items i, get_or flow.amounts.items i 0) =
          get_or_default (loads net flow) i l (no_arc, 0) long ∙ load_at net flow i no_arc 0 w inside in
          let after_at : get_or (loads net now) i l ≡ (arc_at net.arcs.items i, get_or now.amounts.items i 0) =
          get_or_default (loads net now) i l (no_arc, 0) h ∙ load_at net now i no_arc 0 after inside in
          elim (farther_here found u v i (arc_at net.arcs.items i) (get_or flow.amounts.items i 0) (get_or now.amounts.items i 0) (c.moved i inside) (subst (λ m. LetsMore u v m) after_at lets)) [
            | inl old ↦ inl (subst (λ m. LetsMore u v m) (sym before_at) old)
            | inr back ↦ inr back
          ]);
    }
