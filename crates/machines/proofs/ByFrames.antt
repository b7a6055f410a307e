-- How to show that two machines of frames run alike: by the running frame alone.
use Rattle.std.proofs.Common.{◌≡◌, ℕ, zero, suc, List, [], ◌∷◌, Option, Some, None, refl, sym, ap, subst}
use Rattle.mc_num.specs.declared.op.Trap.{Trap}
use Rattle.machines.specs.Runs.{Exchange, RunAlike}
use Rattle.machines.specs.Acts.{Act, Goes, Calls, Reads, Writes, Returns, Traps, Frames, Running, acted}
use Rattle.machines.specs.Meaning.{state, ByReturn, ByTrap, machine_of, Quiet, effect_of}
use Rattle.machines.proofs.Alike.{Leads, StopsIn, Arrives, AnswersTurn, Follows, Steps, StopsToo, alike_by_running}

abbrev pub running : {F G : Type 0} → F → List F → G → Running F G
running top below globals = record { top = top; below = below; globals = globals }

module _ {F G : Type 0} (frames : Frames F G) where
  -- the frame goes on by itself to where P holds
  abbrev pub Onwards : Act F G → (G → F → Type 0) → Type 0
  Onwards (Goes slot frame globals) P = P globals frame
  Onwards other P = ⊥

  -- n steps of the frame by itself lead to where P holds
  abbrev pub Alone : ℕ → G → F → (G → F → Type 0) → Type 0
  Alone zero globals frame P = P globals frame
  Alone (suc n) globals frame P = Onwards (frames.act globals frame) (λ globals frame. Alone n globals frame P)

  abbrev Led : ℕ → Running F G → List F → (G → F → Type 0) → Type 0
  Led n from below P = (globals : G) × (frame : F) × Leads frames n from (running frame below globals) × P globals frame

  went_on : (n : ℕ) (P : G → F → Type 0) (below : List F) → ((globals : G) (frame : F) → Alone n globals frame P → Led n (running frame below globals) below P) → (act : Act F G) (top : F) (globals : G) → Onwards act (λ globals frame. Alone n globals frame P) → (effect_of (acted frames act top below globals).event ≡ Quiet) × Led n (acted frames act top below globals).running below P
  went_on n P below rest (Goes None frame globals') top globals a = (refl, rest globals' frame a)
  went_on n P below rest (Goes (Some slot) frame globals') top globals a = (refl, rest globals' frame a)
  went_on n P below rest other top globals a = absurd a

  pub alone_leads : (n : ℕ) (P : G → F → Type 0) (below : List F) (globals : G) (frame : F) → Alone n globals frame P → Led n (running frame below globals) below P
  alone_leads zero P below globals frame a = (globals, frame, refl, a)
  alone_leads (suc n) P below globals frame a =
      let r = went_on n P below (alone_leads n P below) (frames.act globals frame) frame globals a in
      (r.1.0, r.1.1, (r.0, r.1.2), r.1.3)

  -- the frame comes by itself to a trap
  abbrev pub TrapsIn : ℕ → G → F → Trap → Type 0
  TrapsIn n globals frame trap = Alone n globals frame (λ globals frame. frames.act globals frame ≡ Traps trap)

  pub stops_by_trap : (n : ℕ) (below : List F) (globals : G) (frame : F) (trap : Trap) → TrapsIn n globals frame trap → StopsIn frames n (running frame below globals) (ByTrap trap)
  stops_by_trap n below globals frame trap traps =
      let a = alone_leads n _ below globals frame traps in
      (running a.1 below a.0, a.2, ap (λ act. effect_of (acted frames act a.1 below a.0).event) a.3)

module _ {F F' G : Type 0} (old : Frames F G) (new : Frames F' G) (related : G → F → F' → Type 0) where
  -- the new frame comes by itself to one that is related to the old one
  abbrev pub Comes : G → F → G → F' → Type 0
  Comes globals f globals' f' = (n : ℕ) × Alone new n globals' f' (λ h k. (h ≡ globals) × related globals f k)

  -- whatever value a call gives, and whatever the globals are then, the new frame comes to one that is related
  abbrev pub Waits : F → F' → Type 0
  Waits f f' = (value : Option ℕ) (globals : G) → Comes globals (old.give f value) globals (new.give f' value)

  -- the old frame's act and the new frame's are alike, and the frames come to be related again
  abbrev pub AnswersAct : Act F G → Act F' G → G → F → F' → Type 0
  AnswersAct (Goes slot a g) (Goes slot' b g') globals f f' = Comes g a g' b
  AnswersAct (Calls i a) (Calls i' b) globals f f' = Comes globals a globals b × Waits f f'
  AnswersAct Reads Reads globals f f' = (value : ℕ) → Comes globals (old.give f (Some value)) globals (new.give f' (Some value))
  AnswersAct (Writes c a) (Writes c' b) globals f f' = (c ≡ c') × Comes globals a globals b
  AnswersAct (Returns v) (Returns v') globals f f' = v ≡ v'
  AnswersAct (Traps t) (Traps t') globals f f' = t ≡ t'
  AnswersAct act act' globals f f' = ⊥

  -- the new frame answers the old one's act after some steps of its own, or both come by themselves to the same trap
  pub data FollowsFrame (globals : G) (f : F) (f' : F') : Type 0 where
    Answered : (n : ℕ) → Alone new n globals f' (λ h k. (h ≡ globals) × AnswersAct (old.act globals f) (new.act globals k) globals f k) → FollowsFrame globals f f'
    TrapsToo : (i j : ℕ) (trap : Trap) → TrapsIn old i globals f trap → TrapsIn new j globals f' trap → FollowsFrame globals f f'

  abbrev pub AllWait : List F → List F' → Type 0
  AllWait [] [] = Unit {0}
  AllWait (f ∷ fs) (f' ∷ fs') = Waits f f' × AllWait fs fs'
  AllWait [] (f' ∷ fs') = ⊥
  AllWait (f ∷ fs) [] = ⊥

  -- the running frames are related, and the frames that wait wait for the same
  abbrev pub Stacked : Running F G → Running F' G → Type 0
  Stacked s t = (s.globals ≡ t.globals) × related s.globals s.top t.top × AllWait s.below t.below

  arrives : (globals : G) (f : F) (globals' : G) (f' : F') (below : List F) (below' : List F') → Comes globals f globals' f' → AllWait below below' → Arrives old new Stacked (running f below globals) (running f' below' globals')
  arrives globals f globals' f' below below' comes wait =
      let a = alone_leads new comes.0 _ below' globals' f' comes.1 in
      (comes.0, running a.1 below' a.0, a.2, (sym a.3.0, a.3.1, wait))

  answers : (act : Act F G) (act' : Act F' G) (globals : G) (f : F) (f' : F') (below : List F) (below' : List F') → AnswersAct act act' globals f f' → AllWait below below' → AnswersTurn old new Stacked (acted old act f below globals) (acted new act' f' below' globals)
  answers (Goes None a g) (Goes None b g') globals f f' below below' r wait = arrives g a g' b below below' r wait
  answers (Goes None a g) (Goes (Some s') b g') globals f f' below below' r wait = arrives g a g' b below below' r wait
  answers (Goes (Some s) a g) (Goes None b g') globals f f' below below' r wait = arrives g a g' b below below' r wait
  answers (Goes (Some s) a g) (Goes (Some s') b g') globals f f' below below' r wait = arrives g a g' b below below' r wait
  answers (Calls i a) (Calls i' b) globals f f' below below' r wait = arrives globals a globals b (f ∷ below) (f' ∷ below') r.0 (r.1, wait)
  answers Reads Reads globals f f' below below' r wait = λ value. arrives globals (old.give f (Some value)) globals (new.give f' (Some value)) below below' (r value) wait
  answers (Writes c a) (Writes c' b) globals f f' below below' r wait = (r.0, arrives globals a globals b below below' r.1 wait)
  answers (Returns v) (Returns v') globals f f' [] [] r wait = ap ByReturn r
  answers (Returns v) (Returns v') globals f f' (c ∷ cs) (c' ∷ cs') r wait =
      arrives globals (old.give c v) globals (new.give c' v') cs cs' (subst (λ x. Comes globals (old.give c v) globals (new.give c' x)) r (wait.0 v globals)) wait.1
  answers (Returns v) (Returns v') globals f f' [] (c' ∷ cs') r wait = absurd wait
  answers (Returns v) (Returns v') globals f f' (c ∷ cs) [] r wait = absurd wait
  answers (Traps t) (Traps t') globals f f' below below' r wait = ap ByTrap r
  answers act act' globals f f' below below' r wait = absurd r

  follows_by : (globals : G) (f : F) (f' : F') (below : List F) (below' : List F') → AllWait below below' → FollowsFrame globals f f' → Follows old new Stacked (running f below globals) (running f' below' globals)
  follows_by globals f f' below below' wait (Answered n alone) =
      let a = alone_leads new n _ below' globals f' alone in
      let leads = subst (λ h. Leads new n (running f' below' globals) (running a.1 below' h)) a.3.0 a.2 in
      Steps n (running a.1 below' globals) leads (answers (old.act globals f) (new.act globals a.1) globals f a.1 below below' a.3.1 wait)
  follows_by globals f f' below below' wait (TrapsToo i j trap traps traps') =
      StopsToo i j (ByTrap trap) (stops_by_trap old i below globals f trap traps) (stops_by_trap new j below' globals f' trap traps')

  -- it is enough to follow the running frame
  pub alike_by_frames : ((globals : G) (f : F) (f' : F') → related globals f f' → FollowsFrame globals f f') → (globals : G) (f : F) (f' : F') (input : List ℕ) (w : List Exchange) → Comes globals f globals f' → RunAlike (machine_of old) (machine_of new) (state (running f [] globals) input w) (state (running f' [] globals) input w)
  alike_by_frames follows globals f f' input w comes =
      alike_by_running old new Stacked
      (λ s t stacked.
      let P : G → Type 0 = λ g. Follows old new Stacked s (running t.top t.below g) in
      subst P stacked.0 (follows_by s.globals s.top t.top s.below t.below stacked.2 (follows s.globals s.top t.top stacked.1)))
      (running f [] globals) (running f' [] globals) input w (arrives globals f globals f' [] [] comes tt)
