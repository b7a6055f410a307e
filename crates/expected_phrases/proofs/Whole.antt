-- What is expected at a stop of a whole text is what is tried there.
use Rattle.std.proofs.Common.{◌≡◌, ℕ, ◌++◌, false, List, [], ◌∷◌, inl, inr, refl}
use Rattle.std.specs.Prelude.{codes}
use Rattle.ir_lexer.specs.Lexeme.{Lexeme}
use Rattle.ir_lexer.specs.declared.token.TokenKind.{TokenKind}
use Rattle.ir_lexer.specs.declared.token.TokenKind.TheVariants as kinds
use Rattle.grammar.specs.Grammar.{StopsAt}
use Rattle.ir_parser.specs.Tokens.{is_spelled}
use Rattle.ir_parser.specs.Module.{module_text}
use Rattle.ir_parser.specs.Profile.{probe, GoesOn, IsTypeExpected, IsDeclareExpected, IsValueExpected, IsPointerExpected, IsOutOfProfile}
use Rattle.ir_parser.specs.Profile as profile
use Rattle.expected_phrases.specs.Expected.{IsTried, IsTypeTried, IsDeclareTried, IsValueTried, IsPointerTried, IsOutAt, IsOut, Same, IsExpectedAsTried}
use Rattle.expected_phrases.proofs.Behind.{tried_goes_on, goes_on_tried}
use Rattle.expected_phrases.proofs.Phrases.{module_steady, module_full}

module _ (front stop : List Lexeme) (stops : StopsAt module_text (front ++ stop) stop) where
  one_token : (t : Lexeme) → is_spelled kinds.Punct (codes ",") t ≡ false → is_spelled kinds.Punct (codes "[") t ≡ false → Same (GoesOn front t) (IsTried front stop t)
  one_token t a b =
      let steady = module_steady stop t a b in
      (goes_on_tried module_text front stop t module_full steady stops, tried_goes_on module_text front stop t module_full steady)

  local_token : Same (GoesOn front (probe kinds.Local (codes "%x"))) (IsTried front stop (probe kinds.Local (codes "%x")))
  local_token = one_token (probe kinds.Local (codes "%x")) refl refl

  undef_token : Same (GoesOn front (probe kinds.Word (codes "undef"))) (IsTried front stop (probe kinds.Word (codes "undef")))
  undef_token = one_token (probe kinds.Word (codes "undef")) refl refl

  attribute_token : Same (GoesOn front (probe kinds.Word (codes "noundef"))) (IsTried front stop (probe kinds.Word (codes "noundef")))
  attribute_token = one_token (probe kinds.Word (codes "noundef")) refl refl

  end_token : Same (GoesOn front (probe kinds.Punct (codes ")"))) (IsTried front stop (probe kinds.Punct (codes ")")))
  end_token = one_token (probe kinds.Punct (codes ")")) refl refl

  type_phrase : Same (IsTypeExpected front) (IsTypeTried front stop)
  type_phrase = one_token (probe kinds.Word (codes "i32")) refl refl

  declare_phrase : Same (IsDeclareExpected front) (IsDeclareTried front stop)
  declare_phrase = one_token (probe kinds.Word (codes "declare")) refl refl

  value_phrase : Same (IsValueExpected front) (IsValueTried front stop)
  value_phrase = (λ e. (undef_token.0 e.0, local_token.0 e.1), λ t. (undef_token.1 t.0, local_token.1 t.1))

  pointer_phrase : Same (IsPointerExpected front) (IsPointerTried front stop)
  pointer_phrase = (
    λ e. record { local = local_token.0 e.local; attribute = attribute_token.0 e.attribute; no_value = λ t. e.no_value (undef_token.1 t); no_end = λ t. e.no_end (end_token.1 t) },
    λ t. record { local = local_token.1 t.local; attribute = attribute_token.1 t.attribute; no_value = λ e. t.no_value (undef_token.0 e); no_end = λ e. t.no_end (end_token.0 e) },
  )

  out_is_tried : (kind : TokenKind) (text : List ℕ) → profile.IsOutAt kind front text → IsOutAt kind front stop text
  out_is_tried kinds.Word text o = o
  out_is_tried kinds.Hash text o = o
  out_is_tried kinds.Punct text (inl o) = inl o
  out_is_tried kinds.Punct text (inr o) = inr (o.0, type_phrase.0 o.1)
  out_is_tried kinds.Local text o = declare_phrase.0 o
  out_is_tried kinds.Global text (inl o) = inl o
  out_is_tried kinds.Global text (inr (inl o)) = inr (inl (value_phrase.0 o))
  out_is_tried kinds.Global text (inr (inr o)) = inr (inr (pointer_phrase.0 o))
  out_is_tried kinds.Label text o = o
  out_is_tried kinds.Number text o = o
  out_is_tried kinds.Bang text o = o

  tried_is_out : (kind : TokenKind) (text : List ℕ) → IsOutAt kind front stop text → profile.IsOutAt kind front text
  tried_is_out kinds.Word text o = o
  tried_is_out kinds.Hash text o = o
  tried_is_out kinds.Punct text (inl o) = inl o
  tried_is_out kinds.Punct text (inr o) = inr (o.0, type_phrase.1 o.1)
  tried_is_out kinds.Local text o = declare_phrase.1 o
  tried_is_out kinds.Global text (inl o) = inl o
  tried_is_out kinds.Global text (inr (inl o)) = inr (inl (value_phrase.1 o))
  tried_is_out kinds.Global text (inr (inr o)) = inr (inr (pointer_phrase.1 o))
  tried_is_out kinds.Label text o = o
  tried_is_out kinds.Number text o = o
  tried_is_out kinds.Bang text o = o

out_of_profile : (front stop : List Lexeme) → StopsAt module_text (front ++ stop) stop → Same (IsOutOfProfile front stop) (IsOut front stop)
out_of_profile front [] stops = (λ o. o, λ o. o)
out_of_profile front (t ∷ ts) stops = (out_is_tried front (t ∷ ts) stops t.kind t.text, tried_is_out front (t ∷ ts) stops t.kind t.text)

pub expected_as_tried : (front stop : List Lexeme) → StopsAt module_text (front ++ stop) stop → IsExpectedAsTried front stop
expected_as_tried front stop stops = record {
  tokens = one_token front stop stops;
  types = type_phrase front stop stops;
  declares = declare_phrase front stop stops;
  values = value_phrase front stop stops;
  pointers = pointer_phrase front stop stops;
  profile = out_of_profile front stop stops;
}
