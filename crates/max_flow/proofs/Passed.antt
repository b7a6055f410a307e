-- The arcs that lead nowhere, while nodes die and amounts move.
use Rattle.std.proofs.Common.{◌≡◌, ℕ, ◌+◌, ◌<◌, ◌≤◌, Bool, true, false, List, length, ap, arith, sym, ◌∙◌, get_or, set, inl, inr, subst}
use Rattle.std.specs.Prelude.{Contains, Vec}
use Rattle.std.specs.declared.alloc.Global.{Global}
use Rattle.std.proofs.lemmas.Bool.{cases_eq}
use Rattle.std.proofs.lemmas.List.{get_or-set_same, get_or-set_other, length-set}
use Rattle.std.proofs.lemmas.Grind.{get_or_default_zero}
use Rattle.flow_net.specs.declared.Arc.{Arc}
use Rattle.flow_net.specs.declared.Net.{Net}
use Rattle.flow_net.specs.declared.Flow.{Flow}
use Rattle.flow_net.specs.declared.incidence.Incidence.{Incidence}
use Rattle.flow_net.specs.declared.levels.Distances.{Distances}
use Rattle.flow_net.specs.Network.{LetsMore, ResidualArc, IsWithin, loads}
use Rattle.flow_net.specs.Incidence.{IsIncidenceOf, arcs_in}
use Rattle.flow_net.specs.Levels.{distance_of}
use Rattle.flow_net.proofs.Loads.{loads_len, load_at}
use Rattle.max_flow.specs.declared.blocking.Marks.{Marks}
use Rattle.max_flow.specs.Path.{IsStuck, LeadsNowhere, LeadsFarther, is_dead}
use Rattle.max_flow.specs.Marking.{ArePassed}

starts_there : (lists : List (Vec ℕ Global)) (e u v : ℕ) (a : Arc) (x : ℕ) → Contains (arcs_in lists a.from) e × Contains (arcs_in lists a.to) e → LetsMore u v (a, x) → Contains (arcs_in lists u) e
starts_there lists e u v a x both (inl (from, to, less)) = subst (λ w. Contains (arcs_in lists w) e) from both.0
starts_there lists e u v a x both (inr (to, from, some)) = subst (λ w. Contains (arcs_in lists w) e) to both.1

-- each residual arc out of a node stands in its list
residual_starts : (net : Net) (flow : Flow) (incidence : Incidence) → IsWithin net flow → IsIncidenceOf net incidence → (u v : ℕ) (arc : ResidualArc (loads net flow) u v) → Contains (arcs_in incidence.arcs_at.items u) arc.0
residual_starts net flow incidence w i u v arc =
    let inside : arc.0 < length net.arcs.items = omega (arith, arc.2, loads_len net flow w) in
    let read : get_or (loads net flow) arc.0 arc.1 ≡ (get_or net.arcs.items arc.0 arc.1.0, get_or flow.amounts.items arc.0 arc.1.1) = load_at net flow arc.0 arc.1.0 arc.1.1 w inside in
    starts_there incidence.arcs_at.items arc.0 u v (get_or net.arcs.items arc.0 arc.1.0) (get_or flow.amounts.items arc.0 arc.1.1) (i.ends arc.0 arc.1.0 inside)
    (subst (λ l. LetsMore u v l) (sym arc.3 ∙ read) arc.4)

-- once each arc in its list leads nowhere, a node is stuck
pub stuck_at_end : (net : Net) (flow : Flow) (incidence : Incidence) → IsWithin net flow → IsIncidenceOf net incidence → (found : Distances) (dead : List Bool) (v n : ℕ) (items : List ℕ) → items ≡ arcs_in incidence.arcs_at.items v → length items ≤ n →
    ((k : ℕ) → k < n → k < length items → LeadsNowhere (loads net flow) found dead v (get_or items k 0)) → IsStuck (loads net flow) found dead v
stuck_at_end net flow incidence w i found dead v n items same all passed next arc nearer =
    let there : Contains items arc.0 = subst (λ list. Contains list arc.0) (sym same) (residual_starts net flow incidence w i v next arc) in
    let at : get_or items there.0 0 ≡ arc.0 = sym (get_or_default_zero items there.0 arc.0 there.1) ∙ there.2 in
    passed there.0 (omega (arith, there.1)) there.1 next arc.1 (subst (λ l. LetsMore v next l) (sym (ap (λ e. get_or (loads net flow) e arc.1) at ∙ arc.3)) arc.4) nearer

-- a phase begins with no arc passed
pub passed_first : (nodes : ℕ) (ls : List (Arc × ℕ)) (found : Distances) (incidence : Incidence) (marks : Marks) → length marks.next.items ≡ nodes → ((v : ℕ) → get_or marks.next.items v 0 ≡ 0) → ArePassed nodes ls found incidence marks
passed_first nodes ls found incidence marks len none = record { len = len; each = λ v k before. absurd (omega (arith, none v)) }

-- amounts that move along nearer arcs leave the passed arcs
pub passed_more : (nodes : ℕ) (old new : List (Arc × ℕ)) (found : Distances) (incidence : Incidence) (marks : Marks) → ((v : ℕ) (k : ℕ) → k < length (arcs_in incidence.arcs_at.items v) → get_or (arcs_in incidence.arcs_at.items v) k 0 < length new) →
    LeadsFarther found old new → ArePassed nodes old found incidence marks → ArePassed nodes new found incidence marks
passed_more nodes old new found incidence marks inside farther p = record {
  len = p.len;
  each = λ v k before long u l lets nearer. elim (farther.each (get_or (arcs_in incidence.arcs_at.items v) k 0) v u l (inside v k long) lets) [
    | inl was ↦ p.each v k before long u l was nearer
    | inr back ↦
        (let up : distance_of found u ≡ distance_of found v + 1 = back.1 in
        let down : distance_of found v ≡ distance_of found u + 1 = nearer.1 in
        absurd (omega arith))
  ];
}

-- so does the death of a node
pub passed_dead : (nodes : ℕ) (ls : List (Arc × ℕ)) (found : Distances) (incidence : Incidence) (old new : Marks) (node : ℕ) → node < length old.dead.items → new.dead.items ≡ set old.dead.items node true → new.next ≡ old.next →
    ArePassed nodes ls found incidence old → ArePassed nodes ls found incidence new
passed_dead nodes ls found incidence old new node short dies same p =
    let items : new.next.items ≡ old.next.items = ap (λ n. n.items) same in
    let still : (u : ℕ) → is_dead old.dead.items u ≡ true → is_dead new.dead.items u ≡ true = (λ u h. ap (λ ds. is_dead ds u) dies ∙ (elim (cases_eq u node) [
      | inl here ↦ ap (λ w. is_dead (set old.dead.items node true) w) here ∙ get_or-set_same old.dead.items node true false short
      | inr differs ↦ get_or-set_other old.dead.items node u true false differs ∙ h
    ])) in
    record {
      len = ap length items ∙ p.len;
      each = λ v k before long u l lets nearer. still u (p.each v k (subst (λ xs. k < get_or xs v 0) items before) long u l lets nearer);
    }

-- a mark moves on past arcs that lead nowhere
pub passed_set : (nodes : ℕ) (ls : List (Arc × ℕ)) (found : Distances) (incidence : Incidence) (old new : Marks) (node place : ℕ) → node < length old.next.items → new.dead ≡ old.dead → new.next.items ≡ set old.next.items node place →
    ((k : ℕ) → k < place → k < length (arcs_in incidence.arcs_at.items node) → LeadsNowhere ls found old.dead.items node (get_or (arcs_in incidence.arcs_at.items node) k 0)) →
    ArePassed nodes ls found incidence old → ArePassed nodes ls found incidence new
passed_set nodes ls found incidence old new node place short dead moved here p =
    let dead_items : old.dead.items ≡ new.dead.items = ap (λ d. d.items) (sym dead) in
    record {
      len = ap length moved ∙ length-set old.next.items node place ∙ p.len;
      each = λ v k before long. subst (λ ds. LeadsNowhere ls found ds v (get_or (arcs_in incidence.arcs_at.items v) k 0)) dead_items (elim (cases_eq v node) [
        | inl same ↦
            (let first : k < place = subst (λ n. k < n) (ap (λ xs. get_or xs v 0) moved ∙ ap (λ w. get_or (set old.next.items node place) w 0) same ∙ get_or-set_same old.next.items node place 0 short) before in
            subst (λ w. LeadsNowhere ls found old.dead.items w (get_or (arcs_in incidence.arcs_at.items w) k 0)) (sym same) (here k first (subst (λ w. k < length (arcs_in incidence.arcs_at.items w)) same long)))
        | inr differs ↦ p.each v k (subst (λ n. k < n) (ap (λ xs. get_or xs v 0) moved ∙ get_or-set_other old.next.items node v place 0 differs) before) long
      ]);
    }
