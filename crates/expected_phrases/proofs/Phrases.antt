-- Whole texts look at the token behind the next one only where a comma may begin a further pair of a phi.
use Rattle.std.proofs.Common.{◌≡◌, Bool, true, false, ◌||◌, List, [], ◌∷◌, length, drop, inl, inr, refl, sym, ap, subst, ◌∙◌, arith}
use Rattle.std.specs.Prelude.{codes}
use Rattle.grammar.specs.Grammar.{heads, is_next}
use Rattle.grammar.proofs.Determined.{progress}
use Rattle.ir_lexer.specs.Lexeme.{Lexeme}
use Rattle.ir_lexer.specs.declared.token.TokenKind.TheVariants as kinds
use Rattle.ir_parser.specs.Tokens.{is_spelled, comma, ◌▸◌}
use Rattle.ir_parser.specs.Values.{int_type, ret, cvalue, gvalue, value, addr, target, detail, attach, attached, extra, extras}
use Rattle.ir_parser.specs.Calls.{arg, next_arg, some_args, args, call_word, call_words, call, incoming, brackets_next, next_incoming, incomings, phi}
use Rattle.ir_parser.specs.Instrs.{binop, predicate, castop, flags, alloca, load, binary, compare, convert, select, computing, giving, store, result_name, giving_instr, storing_instr, bare_instr, instr, instrs}
use Rattle.ir_parser.specs.Terms.{returned, branched, switch_case, cases, switched, bare_term, term, label, block, blocks}
use Rattle.ir_parser.specs.Module.{par, next_par, some_pars, pars, signature, declare, define, variable, part, parts_of, module_text}
use Rattle.expected_phrases.specs.Tried.{begins}
use Rattle.expected_phrases.proofs.Places.{apart, and_both, or_left, is_full, advances, tried_first}
use Rattle.expected_phrases.proofs.Probes.{Within, Reaches, IsSteadyNext, IsSteadyLook, Steady}
use Rattle.expected_phrases.proofs.Behind.{led_next, plain_steady}

-- the punctuation
abbrev is_comma : Lexeme → Bool
is_comma = is_spelled kinds.Punct (codes ",")

abbrev is_bracket : Lexeme → Bool
is_bracket = is_spelled kinds.Punct (codes "[")

tail_is : {T : Type 0} (t c : T) (ts us : List T) → t ∷ ts ≡ c ∷ us → ts ≡ us
tail_is {T} t c ts us e = ap (λ (l : List T). drop 1 l) e

or_none : (a : Bool) → a ≡ false → a || false ≡ false
or_none true e = absurd cc
or_none false e = refl

module _ (stop : List Lexeme) (p : Lexeme) (no_comma : is_comma p ≡ false) (no_bracket : is_bracket p ≡ false) where
  full_incoming : is_full incoming ≡ true
  unfolding incoming value gvalue cvalue
  full_incoming = refl

  incoming_next : (ts : List Lexeme) → heads is_bracket ts ≡ true → is_next incoming ts ≡ true
  unfolding incoming
  incoming_next ts e = or_left (heads is_bracket ts) false e

  incoming_not : begins incoming p ≡ false
  unfolding incoming
  incoming_not = or_none (is_bracket p) no_bracket

  -- a comma right before a stop that is a bracket begins a pair that doesn't stop there
  never : (t : Lexeme) (ts : List Lexeme) → heads is_bracket stop ≡ true → ts ≡ t ∷ stop → Reaches stop p (comma ▸ incoming) ts → ⊥
  never t ts e d (inl s) =
      let x = s.2.2 in
      let same : stop ≡ x.0 = tail_is t s.2.0.0 stop x.0 (sym d ∙ x.1.1) in
      let l = progress incoming x.0 s.2.0.1 s.1 (incoming_next x.0 (subst (λ (l : List Lexeme). heads is_bracket l ≡ true) same e)) x.2 in
      let m = ap length same in
      let b = s.3 in
      absurd (omega arith)
  never t ts e d (inr (inl (inl s))) = let a = ap length s.1 in let b = ap length d in absurd (omega arith)
  never t ts e d (inr (inl (inr s))) =
      let same : stop ≡ s.1 = tail_is t s.0 stop s.1 (sym d ∙ s.2.1) in
      let l = advances incoming s.1 stop full_incoming (incoming_next s.1 (subst (λ (l : List Lexeme). heads is_bracket l ≡ true) same e)) s.3 in
      let m = ap length same in
      absurd (omega arith)
  never t ts e d (inr (inr (inl s))) = let a = ap length s.2 in let b = ap length d in absurd (omega arith)
  never t ts e d (inr (inr (inr s))) =
      let same : stop ≡ s.1 = tail_is t s.0 stop s.1 (sym d ∙ s.2.1) in
      let m = ap length same in
      apart (begins incoming p) (tried_first incoming s.1 stop p (omega arith) s.3) incoming_not

  look_stays : (ts us : List Lexeme) → Within stop p ts us → brackets_next ts ≡ true → Reaches stop p (comma ▸ incoming) ts → brackets_next us ≡ true
  look_stays ts us ((t, [], d, f)) e r = absurd (never t ts (ap brackets_next (sym d) ∙ e) d r)
  look_stays ts us ((t, b ∷ u, d, f)) e r = ap brackets_next f ∙ ap brackets_next (sym d) ∙ e

  look_steady : IsSteadyLook stop p brackets_next (comma ▸ incoming)
  look_steady = record {
    at_probe = refl;
    begins_not = or_none (is_comma p) no_comma;
    stays_in = look_stays;
  }

  within_look : (ts : List Lexeme) → Reaches stop p next_incoming ts → brackets_next ts ≡ true → Reaches stop p (comma ▸ incoming) ts
  unfolding next_incoming
  within_look ts (inl s) e = inl (s.0, s.1, s.2.1, s.3)
  within_look ts (inr (inl (inl s))) e = inr (inl s.1)
  within_look ts (inr (inl (inr s))) e = absurd (apart (brackets_next ts) e s.0)
  within_look ts (inr (inr (inl s))) e = inr (inr s.1)
  within_look ts (inr (inr (inr s))) e = absurd (apart (brackets_next ts) e s.0)

  out : (ts us : List Lexeme) → Within stop p ts us → is_next next_incoming ts ≡ false → is_next next_incoming us ≡ false
  unfolding next_incoming
  out ts us ((t, [], d, f)) n = ap (is_next next_incoming) f ∙ rw no_bracket refl
  out ts us ((t, b ∷ u, d, f)) n = ap (is_next next_incoming) f ∙ (ap (is_next next_incoming) (sym d) ∙ n)

  stays : (ts us : List Lexeme) → Within stop p ts us → is_next next_incoming ts ≡ true → Reaches stop p next_incoming ts → is_next next_incoming us ≡ true
  unfolding next_incoming
  stays ts us ((t, [], d, f)) n r =
      let e = (and_both (brackets_next ts) (is_next (comma ▸ incoming) ts) n).0 in
      absurd (never t ts (ap brackets_next (sym d) ∙ e) d (within_look ts r e))
  stays ts us ((t, b ∷ u, d, f)) n r = ap (is_next next_incoming) f ∙ (ap (is_next next_incoming) (sym d) ∙ n)

  next_steady : IsSteadyNext stop p next_incoming
  unfolding next_incoming
  next_steady = record {
    at_probe = sym (or_none (is_comma p) no_comma);
    stays_out = out;
    stays_in = stays;
  }

  phi_steady : Steady stop p phi
  unfolding phi int_type incomings incoming next_incoming value gvalue cvalue
  phi_steady = (tt, (plain_steady stop p int_type refl, (plain_steady stop p incoming refl, (next_steady, (look_steady, (tt, plain_steady stop p incoming refl))))))

  giving_steady : Steady stop p giving
  unfolding giving alloca load computing binary compare convert select call call_word call_words args some_args next_arg arg binop predicate castop flags ret int_type value gvalue cvalue addr extras extra detail
  giving_steady = (
    led_next stop p alloca refl,
    plain_steady stop p alloca refl,
    (
      led_next stop p load refl,
      plain_steady stop p load refl,
      (
        led_next stop p computing refl,
        plain_steady stop p computing refl,
        (led_next stop p call refl, plain_steady stop p call refl, phi_steady),
      ),
    ),
  )

  instrs_steady : Steady stop p instrs
  unfolding instrs instr bare_instr giving_instr storing_instr store result_name giving alloca load computing binary compare convert select call call_word phi binop castop int_type value gvalue cvalue addr attached attach detail
  instrs_steady = (
    led_next stop p instr refl,
    ((led_next stop p giving_instr refl, (plain_steady stop p result_name refl, giving_steady), plain_steady stop p storing_instr refl), plain_steady stop p attached refl),
  )

  blocks_steady : Steady stop p blocks
  unfolding blocks block label instrs instr bare_instr giving_instr storing_instr store result_name giving alloca load computing binary compare convert select call call_word phi binop castop term bare_term returned branched switched cases switch_case target int_type value gvalue cvalue attached attach detail
  blocks_steady =
      let one : Steady stop p block = (plain_steady stop p label refl, (instrs_steady, plain_steady stop p term refl)) in
      (one, (led_next stop p block refl, one))

  define_steady : Steady stop p define
  unfolding define signature ret pars some_pars next_par par int_type extras extra detail
  define_steady = (tt, (plain_steady stop p signature refl, (tt, (blocks_steady, tt))))

  pub module_steady : Steady stop p module_text
  unfolding module_text parts_of part declare define variable signature ret pars some_pars next_par par int_type gvalue cvalue attached attach extras extra detail
  module_steady = (
    led_next stop p part refl,
    (
      led_next stop p _ refl,
      plain_steady stop p declare refl,
      (led_next stop p _ refl, define_steady, plain_steady stop p variable refl),
    ),
  )

pub module_full : is_full module_text ≡ true
unfolding module_text parts_of part declare define variable signature ret pars some_pars next_par par blocks block label instrs instr bare_instr giving_instr storing_instr store result_name giving alloca load computing binary compare convert select call call_word call_words args some_args next_arg arg phi incomings incoming next_incoming binop predicate castop flags term bare_term returned branched switched cases switch_case target int_type value gvalue cvalue addr attached attach extras extra detail
module_full = refl
