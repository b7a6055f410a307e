-- What enters a block leaves it, or stands in it still.
use Rattle.std.proofs.Common.{◌≡◌, ℕ, ◌+◌, List, [], ◌∷◌, Option, Some, None, refl, ap, arith}
use Rattle.std.specs.Prelude.{sum_by}
use Rattle.std.proofs.lemmas.List.Sums.{sum_by-cons}
use Rattle.machines.specs.declared.events.Event.{Event}
use Rattle.machines.specs.declared.events.Event.TheVariants.{Went, Took, Entered, Wants, Shows, Returned, Trapped}
use Rattle.machines.specs.Acts.{Act, Slot, Goes, Calls, Reads, Writes, Returns, Traps, Frames, Running, Turn, acted, turn}

-- a block of a function
pub record Place : Type 0 where
  pub function : ℕ
  pub block : ℕ

abbrev pub place : ℕ → ℕ → Place
place function block = record { function = function; block = block }

module _ (target : ℕ → ℕ → ℕ → ℕ) (weight : Place → ℕ) where
  -- what an event counts of entering the places, each by its weight
  abbrev pub entering_by : Event → ℕ
  entering_by (Took f b s) = weight (place f (target f b s))
  entering_by (Entered f) = weight (place f 0)
  entering_by Went = 0
  entering_by Wants = 0
  entering_by (Shows byte) = 0
  entering_by (Returned value) = 0
  entering_by (Trapped trap) = 0

  -- and of leaving them
  abbrev pub leaving_by : Event → ℕ
  leaving_by (Took f b s) = weight (place f b)
  leaving_by (Entered f) = 0
  leaving_by Went = 0
  leaving_by Wants = 0
  leaving_by (Shows byte) = 0
  leaving_by (Returned value) = 0
  leaving_by (Trapped trap) = 0

-- where frames stand, and how their acts move them
pub record Stands {F G : Type 0} (frames : Frames F G) (at : F → Place) (target : ℕ → ℕ → ℕ → ℕ) (IsSlot : Slot → Type 0) (IsDefined : ℕ → Type 0) (IsEnd : Place → Type 0) : Type 0 where
  pub goes : (g : G) (f : F) (f' : F) (g' : G) → frames.act g f ≡ Goes None f' g' → at f' ≡ at f
  pub takes : (g : G) (f : F) (slot : Slot) (f' : F) (g' : G) → frames.act g f ≡ Goes (Some slot) f' g' → (at f ≡ place slot.function slot.block) × (at f' ≡ place slot.function (target slot.function slot.block slot.slot)) × IsSlot slot
  pub calls : (g : G) (f : F) (i : ℕ) (f' : F) → frames.act g f ≡ Calls i f' → (at f' ≡ place i 0) × IsDefined i
  pub writes : (g : G) (f : F) (byte : ℕ) (f' : F) → frames.act g f ≡ Writes byte f' → at f' ≡ at f
  pub returns : (g : G) (f : F) (value : Option ℕ) → frames.act g f ≡ Returns value → IsEnd (at f)
  pub gives : (f : F) (value : Option ℕ) → at (frames.give f value) ≡ at f

module _ {F G : Type 0} (frames : Frames F G) (at : F → Place) (target : ℕ → ℕ → ℕ → ℕ) (IsSlot : Slot → Type 0) (IsDefined : ℕ → Type 0) (IsEnd : Place → Type 0) (stands : Stands frames at target IsSlot IsDefined IsEnd) (weight : Place → ℕ) (no_end : (p : Place) → IsEnd p → weight p ≡ 0) where
  -- the weight of the places where the frames stand
  abbrev pub standing : Running F G → ℕ
  standing running = weight (at running.top) + sum_by (λ f. weight (at f)) running.below

  abbrev Conserves : Turn F G → ℕ → Type 0
  Conserves t before = entering_by target weight t.event + before ≡ leaving_by target weight t.event + standing t.running

  acted_conserves : (act : Act F G) (top : F) (below : List F) (g : G) → frames.act g top ≡ act → Conserves (acted frames act top below g) (standing (record { top = top; below = below; globals = g }))
  acted_conserves (Goes None f' g') top below g e = let a = ap weight (stands.goes g top f' g' e) in omega arith
  acted_conserves (Goes (Some slot) f' g') top below g e =
      let a = stands.takes g top slot f' g' e in
      let b = ap weight a.0 in
      let c = ap weight a.1 in
      omega arith
  acted_conserves (Calls i f') top below g e =
      let a = ap weight (stands.calls g top i f' e).0 in
      let b = sum_by-cons (λ f. weight (at f)) top below in
      omega arith
  acted_conserves Reads top below g e = refl
  acted_conserves (Writes byte f') top below g e = let a = ap weight (stands.writes g top byte f' e) in omega arith
  acted_conserves (Returns value) top [] g e = refl
  acted_conserves (Returns value) top (caller ∷ below) g e =
      let a = no_end (at top) (stands.returns g top value e) in
      let b = ap weight (stands.gives caller value) in
      let c = sum_by-cons (λ f. weight (at f)) caller below in
      omega arith
  acted_conserves (Traps trap) top below g e = refl

  pub turn_conserves : (running : Running F G) → Conserves (turn frames running) (standing running)
  turn_conserves running = acted_conserves (frames.act running.globals running.top) running.top running.below running.globals refl

  -- the last frame returns at the end of a block
  abbrev EndsAtEnd : Turn F G → Type 0
  EndsAtEnd t = (value : Option ℕ) → t.event ≡ Returned value → standing t.running ≡ 0

  acted_ends : (act : Act F G) (top : F) (below : List F) (g : G) → frames.act g top ≡ act → EndsAtEnd (acted frames act top below g)
  acted_ends (Goes None f' g') top below g e value r = cc
  acted_ends (Goes (Some slot) f' g') top below g e value r = cc
  acted_ends (Calls i f') top below g e value r = cc
  acted_ends Reads top below g e value r = cc
  acted_ends (Writes byte f') top below g e value r = cc
  acted_ends (Returns v) top [] g e value r = let a = no_end (at top) (stands.returns g top v e) in omega arith
  acted_ends (Returns v) top (caller ∷ below) g e value r = cc
  acted_ends (Traps trap) top below g e value r = cc

  pub turn_ends : (running : Running F G) → EndsAtEnd (turn frames running)
  turn_ends running = acted_ends (frames.act running.globals running.top) running.top running.below running.globals refl
