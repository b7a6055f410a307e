-- Whether an arc leads on.
use Rattle.std.proofs.Common.{◌≡◌, ℕ, ◌<◌, Bool, true, List, length, arith, sym, ◌∙◌, get_or, inl, inr}
use Rattle.std.proofs.lemmas.List.{get_or_default}
use Rattle.flow_net.specs.declared.Arc.{Arc}
use Rattle.flow_net.specs.declared.Net.{Net}
use Rattle.flow_net.specs.declared.Flow.{Flow}
use Rattle.flow_net.specs.declared.levels.Distances.{Distances}
use Rattle.flow_net.specs.Network.{LetsMore, IsWithin, loads}
use Rattle.flow_net.proofs.Loads.{loads_len}
use Rattle.max_flow.specs.Path.{IsNearer, LeadsNowhere, is_dead}

only_two : (found : Distances) (dead : List Bool) (v u : ℕ) (a : Arc) (x : ℕ) → (a.from ≡ v → x < a.cap → IsNearer found v a.to → is_dead dead a.to ≡ true) → (a.to ≡ v → 0 < x → IsNearer found v a.from → is_dead dead a.from ≡ true) →
    LetsMore v u (a, x) → IsNearer found v u → is_dead dead u ≡ true
only_two found dead v u a x forward backward (inl (from, to, less)) nearer = rw (← to) (forward from less (rw to nearer))
only_two found dead v u a x forward backward (inr (to, from, some)) nearer = rw (← from) (backward to some (rw from nearer))

pub nowhere_here : (net : Net) (flow : Flow) (found : Distances) (dead : List Bool) (v i : ℕ) (a : Arc) (x : ℕ) → IsWithin net flow → i < length net.arcs.items → (a, x) ≡ get_or (loads net flow) i (a, x) →
    (a.from ≡ v → x < a.cap → IsNearer found v a.to → is_dead dead a.to ≡ true) → (a.to ≡ v → 0 < x → IsNearer found v a.from → is_dead dead a.from ≡ true) → LeadsNowhere (loads net flow) found dead v i
nowhere_here net flow found dead v i a x w inside read forward backward u d lets nearer =
    let at : get_or (loads net flow) i d ≡ (a, x) = get_or_default (loads net flow) i d (a, x) (omega (arith, loads_len net flow w)) ∙ sym read in
    only_two found dead v u a x forward backward (rw at at lets) nearer
