-- The test for the same name.
use Rattle.std.proofs.Common.{◌≡◌, Bool, true, false, refl, sym, ap, ◌∙◌, Decides, rules}
use Rattle.std.specs.Cmp.{IsEquivalence}
use Rattle.ir_types.specs.Definitions.{same_name}
use Rattle.ir_types.specs.declared.name.Name.{Name}

pub same : (a b : Name) → same_name a b ≡ true → a ≡ b
same a b h = search rules

pub itself : (a : Name) → same_name a a ≡ true
itself a = search rules

pub decided : (a b : Name) → Decides (same_name a b) (a ≡ b)
decided a b = (same a b, λ e. ap (same_name a) (sym e) ∙ itself a)

one_way : (a b : Name) (x y : Bool) → same_name a b ≡ x → same_name b a ≡ y → x ≡ y
one_way a b true true e f = refl
one_way a b false false e f = refl
one_way a b true false e f = sym ((decided b a).1 (sym (same a b e))) ∙ f
one_way a b false true e f = sym e ∙ (decided a b).1 (sym (same b a f))

pub name_equivalence : IsEquivalence same_name
name_equivalence = record {
  refl = itself;
  symm = λ a b. one_way a b (same_name a b) (same_name b a) refl refl;
  congr = λ a b c e. ap (λ (n : Name). same_name n c) (same a b e);
}
