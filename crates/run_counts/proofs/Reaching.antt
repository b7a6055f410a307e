-- Frames stand where paths lead, so the events of a run do.
use Rattle.std.proofs.Common.{◌≡◌, ℕ, zero, suc, ◌-◌, ◌^◌, List, [], ◌∷◌, Some, None, refl, sym, subst}
use Rattle.machines.specs.declared.events.Event.{Event}
use Rattle.machines.specs.declared.events.Event.TheVariants.{Went, Took, Entered, Wants, Shows, Returned, Trapped}
use Rattle.machines.specs.Runs.{Exchange, At}
use Rattle.machines.specs.Acts.{Act, Slot, Goes, Calls, Reads, Writes, Returns, Traps, Frames, Running, Turn, acted, turn, got}
use Rattle.machines.specs.Meaning.{State, ByReturn, ByTrap, effect_of, followed}
use Rattle.machines.specs.Events.{events_of}
use Rattle.run_counts.proofs.Conserved.{Place, place, Stands}
use Rattle.run_counts.proofs.Runs.{Every, over_events}

abbrev pub slot_at : ℕ → ℕ → ℕ → Slot
slot_at f b s = record { function = f; block = b; slot = s }

-- a slot that is taken is one of a reached block, and a function that is entered is defined
abbrev pub IsFound : (Slot → Type 0) → (ℕ → Type 0) → (Place → Type 0) → Event → Type 0
IsFound IsSlot IsDefined IsReached (Took f b s) = IsSlot (slot_at f b s) × IsReached (place f b)
IsFound IsSlot IsDefined IsReached (Entered f) = IsDefined f
IsFound IsSlot IsDefined IsReached Went = Unit {0}
IsFound IsSlot IsDefined IsReached Wants = Unit {0}
IsFound IsSlot IsDefined IsReached (Shows byte) = Unit {0}
IsFound IsSlot IsDefined IsReached (Returned value) = Unit {0}
IsFound IsSlot IsDefined IsReached (Trapped trap) = Unit {0}

-- what is reached: the entry of a defined function, and whither a slot leads from what is reached
pub record Reaches (target : ℕ → ℕ → ℕ → ℕ) (IsSlot : Slot → Type 0) (IsDefined : ℕ → Type 0) (IsReached : Place → Type 0) : Type 0 where
  pub entry : (f : ℕ) → IsDefined f → IsReached (place f 0)
  pub leads : (f b s : ℕ) → IsSlot (slot_at f b s) → IsReached (place f b) → IsReached (place f (target f b s))

module _ {F G : Type 0} (frames : Frames F G) (at : F → Place) (target : ℕ → ℕ → ℕ → ℕ) (IsSlot : Slot → Type 0) (IsDefined : ℕ → Type 0) (IsEnd : Place → Type 0) (stands : Stands frames at target IsSlot IsDefined IsEnd) (IsReached : Place → Type 0) (reaches : Reaches target IsSlot IsDefined IsReached) where
  abbrev pub AllReached : Running F G → Type 0
  AllReached r = IsReached (at r.top) × Every (λ f. IsReached (at f)) r.below

  abbrev Found : Turn F G → Type 0
  Found t = IsFound IsSlot IsDefined IsReached t.event × AllReached t.running

  acted_found : (act : Act F G) (top : F) (below : List F) (g : G) → frames.act g top ≡ act → IsReached (at top) → Every (λ f. IsReached (at f)) below → Found (acted frames act top below g)
  acted_found (Goes None f' g') top below g e r rs = (tt, (subst IsReached (sym (stands.goes g top f' g' e)) r, rs))
  acted_found (Goes (Some slot) f' g') top below g e r rs =
      let a = stands.takes g top slot f' g' e in
      let here = subst IsReached a.0 r in
      ((a.2, here), (subst IsReached (sym a.1) (reaches.leads slot.function slot.block slot.slot a.2 here), rs))
  acted_found (Calls i f') top below g e r rs =
      let a = stands.calls g top i f' e in
      (a.1, (subst IsReached (sym a.0) (reaches.entry i a.1), (r, rs)))
  acted_found Reads top below g e r rs = (tt, (r, rs))
  acted_found (Writes byte f') top below g e r rs = (tt, (subst IsReached (sym (stands.writes g top byte f' e)) r, rs))
  acted_found (Returns value) top [] g e r rs = (tt, (r, tt))
  acted_found (Returns value) top (caller ∷ below) g e r rs = (tt, (subst IsReached (sym (stands.gives caller value)) rs.0, rs.1))
  acted_found (Traps trap) top below g e r rs = (tt, (r, rs))

  pub turn_found : (r : Running F G) → AllReached r → Found (turn frames r)
  turn_found r all = acted_found (frames.act r.globals r.top) r.top r.below r.globals refl all.0 all.1

  pub got_reached : (r : Running F G) (value : ℕ) → AllReached r → AllReached (got frames r value)
  got_reached r value all = (subst IsReached (sym (stands.gives r.top (Some value))) all.0, all.1)

  abbrev AllFound : List Event → Type 0
  AllFound es = Every (IsFound IsSlot IsDefined IsReached) es

  found_more : (n : ℕ) → ((s : State F G) → AllReached s.running → AllFound (events_of frames n (At s))) → (event : Event) (running : Running F G) (input : List ℕ) (w : List Exchange) → AllReached running → AllFound (events_of frames n (followed frames (effect_of event) running input w))
  found_more n rest Went running input w all = rest _ all
  found_more n rest (Took f b s) running input w all = rest _ all
  found_more n rest (Entered f) running input w all = rest _ all
  found_more n rest Wants running [] w all = rest _ (got_reached running (2 ^ 32 - 1) all)
  found_more n rest Wants running (byte ∷ input) w all = rest _ (got_reached running byte all)
  found_more n rest (Shows byte) running input w all = rest _ all
  found_more n rest (Returned value) running input w all = subst AllFound (sym (over_events frames n (ByReturn value) w)) tt
  found_more n rest (Trapped trap) running input w all = subst AllFound (sym (over_events frames n (ByTrap trap) w)) tt

  pub run_found : (n : ℕ) (s : State F G) → AllReached s.running → AllFound (events_of frames n (At s))
  run_found zero s all = tt
  run_found (suc n) s all =
      let t = turn_found s.running all in
      (t.0, found_more n (run_found n) (turn frames s.running).event (turn frames s.running).running s.input s.transcript t.1)
