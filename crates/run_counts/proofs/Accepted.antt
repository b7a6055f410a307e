-- The counts of a run that returned are accepted.
use Rattle.std.proofs.Common.{◌≡◌, ℕ, suc, ◌+◌, ◌^◌, ◌<◌, Bool, true, false, cond, List, [], ◌∷◌, ◌++◌, length, map, filter, Some, refl, sym, ap, ◌∙◌, subst, arith}
use Rattle.std.specs.Prelude.{not, slice_get, slice_index, option_and_then, All}
use Rattle.std.specs.List.{AllZip}
use Rattle.std.proofs.lemmas.Option.{get_or_from_slice_get, slice_get_within, slice_get-get_or}
use Rattle.ir_types.specs.Program.{Program}
use Rattle.ir_types.specs.Rules.{is_nil}
use Rattle.ir_types.specs.WellFormed.{IsWellFormed, IsFunctionIn, IsBlockIn, scope}
use Rattle.ir_types.specs.declared.syntax.Block.{Block}
use Rattle.ir_types.specs.declared.syntax.Function.{Function}
use Rattle.machines.specs.declared.events.Event.{Event}
use Rattle.machines.specs.declared.events.Event.TheVariants.{Went, Took, Entered, Wants, Shows, Returned, Trapped}
use Rattle.machines.specs.Runs.{At}
use Rattle.machines.specs.Events.{events_of}
use Rattle.machines.specs.Meaning.{State}
use Rattle.ir_machine.specs.Same.{start, is_defined}
use Rattle.ir_machine.specs.Step.{frames_of, blocks_of}
use Rattle.ir_machine.specs.Prof.{function_counts, counts_of}
use Rattle.flow_graph.specs.Slots.{slots_of, next_block}
use Rattle.flow_graph.specs.Paths.{IsPath}
use Rattle.profile.specs.Counts.{AreCounts, IsAccepted, defined}
use Rattle.run_counts.specs.Counted.{fn_counts, AcceptsReturned}
use Rattle.run_counts.proofs.Runs.{Every, few_moves, run_conserves}
use Rattle.run_counts.proofs.Reaching.{IsFound, Reaches, slot_at, run_found}
use Rattle.run_counts.proofs.Placed.{at, target_in, targets_at, IsSlotIn, IsDefinedIn, IsEndIn, module_stands}
use Rattle.run_counts.proofs.Tallied.{defined_from}
use Rattle.run_counts.proofs.Balanced.{IsReachedIn, Gathered, are_counts}
use Rattle.run_counts.proofs.Totals.{totals}

-- ---- the counts of all functions

not_nil : (blocks : List Block) → not (is_nil blocks) ≡ is_defined blocks
not_nil [] = refl
not_nil (b ∷ blocks) = refl

all_counts : (main : ℕ) (events : List Event) (i : ℕ) (fs : List Function) → ((j : ℕ) (f : Function) → slice_get fs j ≡ Some f → AreCounts f (fn_counts (function_counts main events (i + j) f))) → AllZip AreCounts (filter (λ f. not (is_nil f.blocks)) fs) (map fn_counts (map (λ x. function_counts main events x.0 x.1) (defined_from i fs)))
all_counts main events i [] are = tt
all_counts main events i (f ∷ fs) are =
    let z : i + 0 ≡ i = omega arith in
    let here : AreCounts f (fn_counts (function_counts main events i f)) = subst (λ k. AreCounts f (fn_counts (function_counts main events k f))) z (are 0 f refl) in
    let rest = all_counts main events (i + 1) fs (λ j g there. let e : i + suc j ≡ (i + 1) + j = omega arith in subst (λ k. AreCounts g (fn_counts (function_counts main events k g))) e (are (suc j) g there)) in
    let later = defined_from (i + 1) fs in
    let below = filter (λ (f : Function). not (is_nil f.blocks)) fs in
    let counted : List (ℕ × Function) → List _ = λ l. map fn_counts (map (λ x. function_counts main events x.0 x.1) l) in
    let whole : (b : Bool) → AllZip AreCounts (cond b (f ∷ below) below) (counted (cond b ((i, f) ∷ later) later)) = elim [ true ↦ (here, rest) | false ↦ rest ] in
    subst (λ t. AllZip AreCounts (cond t (f ∷ below) below) (counted (cond (is_defined f.blocks) ((i, f) ∷ later) later))) (sym (not_nil f.blocks)) (whole (is_defined f.blocks))

every_weaker : (P Q : Event → Type 0) → ((e : Event) → P e → Q e) → (events : List Event) → Every P events → Every Q events
every_weaker P Q weaker [] all = tt
every_weaker P Q weaker (e ∷ events) all = (weaker e all.0, every_weaker P Q weaker events all.1)

module _ (m : Program) where
  abbrev Known : Event → Type 0
  Known e = IsFound (IsSlotIn m) (IsDefinedIn m) (IsReachedIn m) e

  forget : (e : Event) → Known e → IsFound (IsSlotIn m) (IsDefinedIn m) (λ p. Unit {0}) e
  forget (Took g b s) known = (known.0, tt)
  forget (Entered g) known = known
  forget Went known = tt
  forget Wants known = tt
  forget (Shows byte) known = tt
  forget (Returned value) known = tt
  forget (Trapped trap) known = tt

  pub accepted : (main : ℕ) → IsDefinedIn m main → (events : List Event) → Gathered m main events → IsAccepted m (map fn_counts (counts_of m main events))
  accepted main first events gathered =
      let sum = totals m main first events (every_weaker Known _ forget events gathered.found) in
      record {
        functions = all_counts main events 0 m.functions (λ j f there.
            let z : 0 + j ≡ j = omega arith in
            subst (λ k. AreCounts f (fn_counts (function_counts main events k f))) (sym z) (are_counts m j f there main events gathered));
        total = subst (λ n. n < 2 ^ 62) (sym sum) gathered.few;
      }

  -- ---- what paths meet

  path_on : (f : Function) (b : ℕ) (path : List ℕ) (c slot next : ℕ) → IsPath f b path c → next_block f c slot ≡ Some next → IsPath f b (path ++ slot ∷ []) next
  path_on f b [] c slot next is leads = (next, ap (λ k. next_block f k slot) is ∙ leads, refl)
  path_on f b (s ∷ path) c slot next is leads = (is.0, is.1, path_on f is.0 path c slot next is.2 leads)

all_at : {X : Type 0} (P : X → Type 0) (xs : List X) (k : ℕ) (x : X) → All P xs → slice_get xs k ≡ Some x → P x
all_at P xs k x all e = subst P (get_or_from_slice_get xs k x x e) (all k x (slice_get_within xs k x e))

module _ (m : Program) (rules : IsWellFormed m) where
  module _ (g : Function) (f b s : ℕ) (there : slice_get m.functions f ≡ Some g) (slot : IsSlotIn m (slot_at f b s)) where
    block_there : slice_get g.blocks b ≡ Some slot.0
    block_there = sym (ap (λ o. slice_get (blocks_of o) b) there) ∙ slot.1

    target_there : slice_get (slots_of slot.0.term) s ≡ Some (target_in m f b s)
    target_there = slice_get-get_or (slots_of slot.0.term) s 0 slot.2 ∙ ap (λ o. Some (slice_index (targets_at o) s)) (sym slot.1)

    leads_on : next_block g b s ≡ Some (target_in m f b s)
    leads_on = ap (option_and_then (λ (x : Block). slice_get (slots_of x.term) s)) block_there ∙ target_there

    target_inside : target_in m f b s < length g.blocks
    target_inside =
        let function : IsFunctionIn m g = all_at (IsFunctionIn m) m.functions f g rules.functions there in
        let block : IsBlockIn (scope m g) slot.0 = all_at (IsBlockIn (scope m g)) g.blocks b slot.0 function.blocks block_there in
        (all_at (λ t. (0 < t) × (t < length g.blocks)) (slots_of slot.0.term) s (target_in m f b s) block.targets_exist target_there).1

  entry_inside : (blocks : List Block) → is_defined blocks ≡ true → 0 < length blocks
  entry_inside [] e = cc
  entry_inside (b ∷ blocks) e = omega arith

  pub module_reaches : Reaches (target_in m) (IsSlotIn m) (IsDefinedIn m) (IsReachedIn m)
  module_reaches = record {
    entry = λ f defined. (defined.0, defined.1, record { inside = entry_inside defined.0.blocks defined.2; path = []; leads = refl });
    leads = λ f b s slot reached. (
      reached.0,
      reached.1,
      record {
        inside = target_inside reached.0 f b s reached.1 slot;
        path = reached.2.path ++ s ∷ [];
        leads = path_on m reached.0 0 reached.2.path b s (target_in m f b s) reached.2.leads (leads_on reached.0 f b s reached.1 slot);
      },
    );
  }

pub accepts_returned : AcceptsReturned
accepts_returned m main n f input value w rules there defined lt ends =
    let first : IsDefinedIn m main = (f, there, defined) in
    let reaches = module_reaches m rules in
    let s : State _ _ = start m main f [] input in
    let frames = frames_of m in
    let stands = module_stands m in
    accepted m main first (events_of frames n (At s)) (record {
      found = run_found frames at (target_in m) (IsSlotIn m) (IsDefinedIn m) (IsEndIn m) stands (IsReachedIn m) reaches n s (reaches.entry main first, tt);
      conserved = λ weight no_end. (
          let a = run_conserves frames at (target_in m) (IsSlotIn m) (IsDefinedIn m) (IsEndIn m) stands weight no_end n s (value, w, ends) in
          omega (arith, a));
      few = let a = few_moves frames n s (value, w, ends) in omega (arith, a, lt);
    })
