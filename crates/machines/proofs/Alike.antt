-- How to show that two machines of frames run alike: by what runs alone, and by the running frames alone.
use Rattle.std.proofs.Common.{◌≡◌, ℕ, zero, suc, ◌+◌, ◌≤◌, List, [], ◌∷◌, ◌++◌, Option, Some, None, refl, sym, ap, ◌∙◌, subst, subst₂, arith, length, length-append}
use Rattle.std.specs.Prelude.{option_to_list}
use Rattle.std.proofs.lemmas.List.{append-nil}
use Rattle.machines.specs.Runs.{Exchange, TookByte, MetEnd, ShowedByte, At, Over, SaysInTurn, after, said, RunAlike, Together, Meet}
use Rattle.machines.specs.Acts.{Frames, Running, Turn, turn, got}
use Rattle.machines.specs.Meaning.{State, state, End, machine_of, Effect, Quiet, Asks, Puts, Stops, effect_of, followed}
use Rattle.machines.proofs.Lockstep.{after-add, run_alike_soon}

module _ {F G : Type 0} (frames : Frames F G) where
  says_at_most_one : (effect : Effect) (running : Running F G) (input : List ℕ) (w : List Exchange) → (more : Option Exchange) × (said (machine_of frames) (followed frames effect running input w) ≡ w ++ option_to_list more)
  says_at_most_one Quiet running input w = (None, sym (append-nil w))
  says_at_most_one Asks running [] w = (Some MetEnd, refl)
  says_at_most_one Asks running (byte ∷ input) w = (Some (TookByte byte), refl)
  says_at_most_one (Puts byte) running input w = (Some (ShowedByte byte), refl)
  says_at_most_one (Stops end) running input w = (None, sym (append-nil w))

  pub says_in_turn : SaysInTurn (machine_of frames)
  says_in_turn s = let t = turn frames s.running in says_at_most_one (effect_of t.event) t.running s.input s.transcript

  -- n steps that exchange nothing lead from one to the other
  abbrev pub Leads : ℕ → Running F G → Running F G → Type 0
  Leads zero from to = from ≡ to
  Leads (suc n) from to = (effect_of (turn frames from).event ≡ Quiet) × Leads n (turn frames from).running to

  -- the run comes by n quiet steps to a step that stops it so
  abbrev pub StopsIn : ℕ → Running F G → End → Type 0
  StopsIn n from end = (at : Running F G) × Leads n from at × (effect_of (turn frames at).event ≡ Stops end)

  led : (n : ℕ) (from to : Running F G) (input : List ℕ) (w : List Exchange) → Leads n from to → after (machine_of frames) n (At (state from input w)) ≡ At (state to input w)
  led zero from to input w leads = ap (λ running. At (state running input w)) leads
  led (suc n) from to input w leads =
      ap (λ effect. after (machine_of frames) n (followed frames effect (turn frames from).running input w)) leads.0
      ∙ led n (turn frames from).running to input w leads.1

  -- a step at the end of quiet ones
  stepped_after : (n : ℕ) (from at : Running F G) (input : List ℕ) (w : List Exchange) → Leads n from at → after (machine_of frames) (suc n) (At (state from input w)) ≡ followed frames (effect_of (turn frames at).event) (turn frames at).running input w
  stepped_after n from at input w leads =
      let e : suc n ≡ n + 1 = omega arith in
      ap (λ k. after (machine_of frames) k (At (state from input w))) e
      ∙ after-add (machine_of frames) n 1 (At (state from input w))
      ∙ ap (after (machine_of frames) 1) (led n from at input w leads)

  stops_in : (i : ℕ) (from : Running F G) (end : End) (input : List ℕ) (w : List Exchange) → StopsIn i from end → after (machine_of frames) (suc i) (At (state from input w)) ≡ Over end w
  stops_in i from end input w stops =
      stepped_after i from stops.0 input w stops.1
      ∙ ap (λ effect. followed frames effect (turn frames stops.0).running input w) stops.2

at_most_one : (option : Option Exchange) → length (option_to_list option) ≤ 1
at_most_one None = omega arith
at_most_one (Some x) = omega arith

module _ {F F' G : Type 0} (old : Frames F G) (new : Frames F' G) (related : Running F G → Running F' G → Type 0) where
  -- the new run comes quietly to what is related to the old one
  abbrev pub Arrives : Running F G → Running F' G → Type 0
  Arrives s t = (n : ℕ) × (to : Running F' G) × Leads new n t to × related s to

  -- the old step and the new step have the same effect, and then the new run arrives
  abbrev pub Answers : Effect → Running F G → Effect → Running F' G → Type 0
  Answers Quiet s Quiet t = Arrives s t
  Answers Asks s Asks t = (value : ℕ) → Arrives (got old s value) (got new t value)
  Answers (Puts a) s (Puts b) t = (a ≡ b) × Arrives s t
  Answers (Stops end) s (Stops end') t = end ≡ end'
  Answers effect s effect' t = ⊥

  abbrev pub AnswersTurn : Turn F G → Turn F' G → Type 0
  AnswersTurn a b = Answers (effect_of a.event) a.running (effect_of b.event) b.running

  -- by quiet steps and one that answers the old step, or both stop alike
  pub data Follows (s : Running F G) (t : Running F' G) : Type 0 where
    Steps : (n : ℕ) (at : Running F' G) → Leads new n t at → AnswersTurn (turn old s) (turn new at) → Follows s t
    StopsToo : (i j : ℕ) (end : End) → StopsIn old i s end → StopsIn new j t end → Follows s t

  -- related, with the same input left and the same transcript
  abbrev Lifted : State F G → State F' G → Type 0
  Lifted s t = related s.running t.running × (s.input ≡ t.input) × (s.transcript ≡ t.transcript)

  arrived : (s : Running F G) (t : Running F' G) (input : List ℕ) (w : List Exchange) → Arrives s t → (k : ℕ) × Together Lifted (At (state s input w)) (after (machine_of new) k (At (state t input w)))
  arrived s t input w a =
      (a.0, subst (Together Lifted (At (state s input w))) (sym (led new a.0 t a.1 input w a.2)) (a.3, refl, refl))

  answered : (effect effect' : Effect) (s : Running F G) (t : Running F' G) (input : List ℕ) (w : List Exchange) → Answers effect s effect' t → (k : ℕ) × Together Lifted (followed old effect s input w) (after (machine_of new) k (followed new effect' t input w))
  answered Quiet Quiet s t input w a = arrived s t input w a
  answered Asks Asks s t [] w a = arrived (got old s _) (got new t _) [] _ (a _)
  answered Asks Asks s t (byte ∷ input) w a = arrived (got old s byte) (got new t byte) input _ (a byte)
  answered (Puts b) (Puts b') s t input w a =
      subst (λ c. (k : ℕ) × Together Lifted (followed old (Puts b) s input w) (after (machine_of new) k (followed new (Puts c) t input w))) a.0 (arrived s t input (w ++ ShowedByte b ∷ []) a.1)
  answered (Stops end) (Stops end') s t input w a = (0, (a, refl))
  answered effect effect' s t input w a = absurd a

  one_item_more : (s : State F G) → length (said (machine_of old) ((machine_of old).step s)) ≤ suc (length s.transcript)
  one_item_more s =
      let more = says_in_turn old s in
      omega (arith, ap length more.1, length-append s.transcript (option_to_list more.0), at_most_one more.0)

  meets : (s : Running F G) (t : Running F' G) (input : List ℕ) (w : List Exchange) → Follows s t → Meet (machine_of old) (machine_of new) Lifted (state s input w) (state t input w)
  meets s t input w (Steps n at leads answer) =
      let o = turn old s in
      let t' = turn new at in
      let a = answered (effect_of o.event) (effect_of t'.event) o.running t'.running input w answer in
      let e : suc (n + a.0) ≡ suc n + a.0 = omega arith in
      let f = ap (λ k. after (machine_of new) k (At (state t input w))) e
      ∙ after-add (machine_of new) (suc n) a.0 (At (state t input w))
      ∙ ap (after (machine_of new) a.0) (stepped_after new n t at input w leads) in
      record {
        old_more = 0;
        new_more = n + a.0;
        together = subst (Together Lifted (followed old (effect_of o.event) o.running input w)) (sym f) a.1;
        one_item = one_item_more (state s input w);
      }
  meets s t input w (StopsToo i j end stops stops') =
      let e = stops_in old i s end input w stops in
      let f = stops_in new j t end input w stops' in
      record {
        old_more = i;
        new_more = j;
        together = subst (λ p. Together Lifted p (after (machine_of new) (suc j) (At (state t input w)))) (sym e) (subst (Together Lifted (Over end w)) (sym f) (refl, refl));
        one_item = omega (arith, ap (λ p. length (said (machine_of old) p)) e);
      }

  -- it is enough to follow what runs
  pub alike_by_running : ((s : Running F G) (t : Running F' G) → related s t → Follows s t) → (s : Running F G) (t : Running F' G) (input : List ℕ) (w : List Exchange) → Arrives s t → RunAlike (machine_of old) (machine_of new) (state s input w) (state t input w)
  alike_by_running follows s t input w arrives =
      let e = led new arrives.0 t arrives.1 input w arrives.2 in
      run_alike_soon (machine_of old) (machine_of new) Lifted (says_in_turn old) (says_in_turn new)
      (record {
        alike = λ s t l. l.2;
        meet = λ s t l.
            let P : List ℕ → List Exchange → Type 0 = λ input w. Meet (machine_of old) (machine_of new) Lifted s (state t.running input w) in
            subst₂ P l.1 l.2 (meets s.running t.running s.input s.transcript (follows s.running t.running l.0));
      })
      (state s input w) (state t input w) arrives.0 (subst (Together Lifted (At (state s input w))) (sym e) (arrives.3, refl, refl)) (ap (said (machine_of new)) e)
