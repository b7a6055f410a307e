-- A token is tried at a stop exactly where a probe that passes for it would go on.
use Rattle.std.proofs.Common.{◌≡◌, ◌++◌, Bool, true, false, not, ◌&&◌, ◌||◌, List, [], ◌∷◌, inl, inr, refl, sym, ap, subst, ◌∙◌}
use Rattle.std.proofs.lemmas.List.{append_cancel_right}
use Rattle.grammar.specs.Grammar.{Grammar, token, pair, choice, optional, repeated, gives, provided, is_empty, is_next, Spells, Stops, StopsAt}
use Rattle.grammar.proofs.ExactlyOne.{determined}
use Rattle.expected_phrases.specs.Tried.{begins, Tries}
use Rattle.expected_phrases.proofs.Places.{and_first, and_second, is_full, TakesAll}
use Rattle.expected_phrases.proofs.Probes.{Swapped, Within, IsSteadyNext, Steady, OrTried, spells_or_tries}
use Rattle.expected_phrases.proofs.Stopped.{stops_or_tries}
use Rattle.expected_phrases.proofs.Taken.{tries_takes}

module _ {T A : Type 0} (g : Grammar T A) (front stop : List T) (p : T) (full : is_full g ≡ true) (steady : Steady stop p g) where
  same_front : (us : List T) → Swapped stop p (front ++ stop) us → us ≡ front ++ p ∷ []
  same_front us ((u, e, f)) = f ∙ ap (λ (l : List T). l ++ p ∷ []) (sym (append_cancel_right front u stop e))

  not_empty : (stop : List T) → stop ≡ p ∷ [] → stop ≡ [] → ⊥
  not_empty stop e f = cc

  goes : (us : List T) → TakesAll g us → StopsAt g us (p ∷ []) → ⊥
  goes us (inl s) t = (determined g us).not_both s.0 (p ∷ []) s.1 t
  goes us (inr s) t = not_empty (p ∷ []) refl ((determined g us).one_stop (p ∷ []) [] t (inl s))

  pub tried_goes_on : Tries g (front ++ stop) stop p → StopsAt g (front ++ p ∷ []) (p ∷ []) → ⊥
  tried_goes_on s t =
      let i = tries_takes stop p g full steady (front ++ stop) s in
      goes (front ++ p ∷ []) (subst (λ (l : List T). TakesAll g l) (same_front i.0 i.1) i.2) t

  pub goes_on_tried : StopsAt g (front ++ stop) stop → (StopsAt g (front ++ p ∷ []) (p ∷ []) → ⊥) → Tries g (front ++ stop) stop p
  goes_on_tried (inl s) on = go (stops_or_tries stop p g full steady (front ++ stop) s)
    where
      go : OrTried stop p (front ++ stop) (λ us. Stops g us (p ∷ [])) (Tries g (front ++ stop) stop p) → Tries g (front ++ stop) stop p
      go ((us, v, inl i)) = absurd (on (subst (λ (l : List T). StopsAt g l (p ∷ [])) (same_front us v) (inl i)))
      go ((us, v, inr t)) = t
  goes_on_tried (inr s) on = go (spells_or_tries stop p g full steady (front ++ stop) s.0 stop (p ∷ []) s.1 ([], refl, refl))
    where
      go : OrTried stop p (front ++ stop) (λ us. Spells g us s.0 (p ∷ [])) (Tries g (front ++ stop) stop p) → Tries g (front ++ stop) stop p
      go ((us, v, inl i)) = absurd (on (subst (λ (l : List T). StopsAt g l (p ∷ [])) (same_front us v) (inr (s.0, i, not_empty (p ∷ []) refl))))
      go ((us, v, inr t)) = t

-- ---- phrases that look at the next token alone

abbrev pub is_plain : {T A : Type 0} → Grammar T A → Bool
is_plain (token test) = true
is_plain (pair g h) = is_plain g && is_plain h
is_plain (choice g h) = is_plain g && is_plain h
is_plain (optional g) = is_plain g
is_plain (repeated g) = is_plain g
is_plain (gives f g) = is_plain g
is_plain (provided look g) = false

-- at least where they begin
abbrev pub is_led : {T A : Type 0} → Grammar T A → Bool
is_led (token test) = true
is_led (pair g h) = is_led g && (not (is_empty g) || is_led h)
is_led (choice g h) = is_led g && is_led h
is_led (optional g) = is_led g
is_led (repeated g) = is_led g
is_led (gives f g) = is_led g
is_led (provided look g) = false

both_true : (a b : Bool) → a ≡ true → b ≡ true → a && b ≡ true
both_true true b e h = h
both_true false b e h = absurd cc

later : (a b : Bool) → b ≡ true → a || b ≡ true
later true b e = refl
later false b e = e

plain_led : {T A : Type 0} (g : Grammar T A) → is_plain g ≡ true → is_led g ≡ true
plain_led (token test) e = refl
plain_led (pair g h) e =
    both_true (is_led g) (not (is_empty g) || is_led h) (plain_led g (and_first (is_plain g) (is_plain h) e))
    (later (not (is_empty g)) (is_led h) (plain_led h (and_second (is_plain g) (is_plain h) e)))
plain_led (choice g h) e = both_true (is_led g) (is_led h) (plain_led g (and_first (is_plain g) (is_plain h) e)) (plain_led h (and_second (is_plain g) (is_plain h) e))
plain_led (optional g) e = plain_led g e
plain_led (repeated g) e = plain_led g e
plain_led (gives f g) e = plain_led g e
plain_led (provided look g) e = absurd cc

either_told : (empty a b c : Bool) → not empty || c ≡ true → (c ≡ true → a ≡ b) → empty && a ≡ empty && b
either_told true a b c e same = same e
either_told false a b c e same = refl

led_told : {T A : Type 0} (g : Grammar T A) → is_led g ≡ true → (t : T) (us : List T) → is_next g (t ∷ us) ≡ begins g t
led_told (token test) e t us = refl
led_told (pair g h) e t us =
    let a = led_told g (and_first (is_led g) (not (is_empty g) || is_led h) e) t us in
    let b = either_told (is_empty g) (is_next h (t ∷ us)) (begins h t) (is_led h) (and_second (is_led g) (not (is_empty g) || is_led h) e) (λ l. led_told h l t us) in
    rw (a, b) refl
led_told (choice g h) e t us = rw (led_told g (and_first (is_led g) (is_led h) e) t us, led_told h (and_second (is_led g) (is_led h) e) t us) refl
led_told (optional g) e t us = led_told g e t us
led_told (repeated g) e t us = led_told g e t us
led_told (gives f g) e t us = led_told g e t us
led_told (provided look g) e t us = absurd cc

module _ {T : Type 0} (stop : List T) (p : T) where
  same_next : {A : Type 0} (g : Grammar T A) → is_led g ≡ true → (ts us : List T) → Within stop p ts us → is_next g us ≡ is_next g ts
  same_next g e ts us ((t, u, d, f)) =
      ap (is_next g) f ∙ led_told g e t (u ++ p ∷ []) ∙ sym (led_told g e t (u ++ stop)) ∙ ap (is_next g) (sym d)

  pub led_next : {A : Type 0} (g : Grammar T A) → is_led g ≡ true → IsSteadyNext stop p g
  led_next g e = record {
    at_probe = led_told g e p [];
    stays_out = λ ts us w n. same_next g e ts us w ∙ n;
    stays_in = λ ts us w n r. same_next g e ts us w ∙ n;
  }

  pub plain_steady : {A : Type 0} (g : Grammar T A) → is_plain g ≡ true → Steady stop p g
  plain_steady (token test) e = tt
  plain_steady (pair g h) e = (plain_steady g (and_first (is_plain g) (is_plain h) e), plain_steady h (and_second (is_plain g) (is_plain h) e))
  plain_steady (choice g h) e =
      let a = and_first (is_plain g) (is_plain h) e in
      (led_next g (plain_led g a), plain_steady g a, plain_steady h (and_second (is_plain g) (is_plain h) e))
  plain_steady (optional g) e = (led_next g (plain_led g e), plain_steady g e)
  plain_steady (repeated g) e = (led_next g (plain_led g e), plain_steady g e)
  plain_steady (gives f g) e = plain_steady g e
  plain_steady (provided look g) e = absurd cc
