-- The numbers of the prefixes of names, as names are gone over.
use Rattle.std.proofs.Common.{◌≡◌, ◌≢◌, ℕ, ◌<◌, ◌+◌, ◌^◌, ◌↔◌, List, [], ◌∷◌, ◌++◌, Option, Some, None, length, map, get_or, take, refl, sym, ◌∙◌, subst, ap, ⊎_elim, ◌⊎◌, inl, inr, Contains, arith}
use Rattle.std.specs.Prelude.{filter_map}
use Rattle.std.specs.List.{cons_option}
use Rattle.std.specs.Option.{option_to_list}
use Rattle.std.proofs.lemmas.List.{take_more, append-nil}
use Rattle.std.proofs.lemmas.List.Concat.{flat_map-append}
use Rattle.std.proofs.lemmas.List.Elements.{All-contains, Contains-append_left, Contains-append_right, Contains-append_cases, Contains-push, Contains-push_cases, Contains-get_or, filter_map-append}
use Rattle.ir_types.specs.Names.{prefix, spelled}
use Rattle.ir_types.specs.WellFormed.{names, body_names, block_names, result_names}
use Rattle.ir_types.specs.declared.name.Name.{Name}
use Rattle.ir_types.specs.declared.name.Name.TheVariants.{Text}
use Rattle.ir_types.specs.declared.syntax.Instr.{Instr}
use Rattle.ir_types.specs.declared.syntax.Block.{Block}
use Rattle.ir_types.specs.declared.syntax.Function.{Function}
use Rattle.applied.specs.Applied.{IsFreshPrefix}
use Rattle.fresh_prefix.specs.Prefixes.{Extends, HasPrefix, SomeHas}
use Rattle.fresh_prefix.specs.Missing.{IsLeastMissing}

no_member : {X : Type 0} (x : X) → Contains [] x → ⊥
no_member x c = let h : c.0 < 0 = c.1 in absurd (omega (arith, h))

one_member : {X : Type 0} (y x : X) → Contains (y ∷ []) x → y ≡ x
one_member y x c = ⊎_elim (λ (none : Contains [] x). absurd (no_member x none)) (λ (same : y ≡ x). same) (Contains-push_cases [] y x c)

-- ---- one name more

pub ext_none : (old new : List ℕ) → new ≡ old → Extends [] old new
ext_none old new same j lt = (
  λ h. inl (subst (λ l. Contains l j) same h),
  λ h. ⊎_elim (λ (i : Contains old j). subst (λ l. Contains l j) (sym same) i) (λ (s : SomeHas [] j). absurd (no_member s.name s.among)) h,
)

module _ (name : Name) (r : Option ℕ) (exact : (j : ℕ) → j < 2 ^ 32 → (r ≡ Some j) ↔ HasPrefix j name) (old new : List ℕ) where
  among_one : (j : ℕ) → SomeHas (name ∷ []) j → HasPrefix j name
  among_one j s = subst (HasPrefix j) (sym (one_member name s.name s.among)) s.has

  pub ext_some : (p : ℕ) → r ≡ Some p → new ≡ old ++ p ∷ [] → Extends (name ∷ []) old new
  ext_some p found grown j lt = (
    λ h. ⊎_elim
        (λ (i : Contains old j). inl i)
        (λ (same : p ≡ j). inr (record { name = name; among = Contains-push [] name; has = (exact j lt).0 (found ∙ ap Some same) }))
        (Contains-push_cases old p j (subst (λ l. Contains l j) grown h)),
    λ h. subst (λ l. Contains l j) (sym grown) (⊎_elim
        (λ (i : Contains old j). Contains-append_left old (p ∷ []) j i)
        (λ (s : SomeHas (name ∷ []) j).
        let both : Some p ≡ Some j = sym found ∙ (exact j lt).1 (among_one j s) in
        let same : p ≡ j = cc in
        subst (Contains (old ++ p ∷ [])) same (Contains-push old p))
        h),
  )

  pub ext_without : r ≡ None → new ≡ old → Extends (name ∷ []) old new
  ext_without none same j lt = (
    λ h. inl (subst (λ l. Contains l j) same h),
    λ h. ⊎_elim
        (λ (i : Contains old j). subst (λ l. Contains l j) (sym same) i)
        (λ (s : SomeHas (name ∷ []) j). let both : None ≡ Some j = sym none ∙ (exact j lt).1 (among_one j s) in absurd cc)
        h,
  )

pub ext_append : (a b : List Name) (x y z : List ℕ) → Extends a x y → Extends b y z → Extends (a ++ b) x z
ext_append a b x y z first second j lt = (
  λ h. ⊎_elim
      (λ (i : Contains y j). ⊎_elim
      (λ (k : Contains x j). inl k)
      (λ (s : SomeHas a j). inr (record { name = s.name; among = Contains-append_left a b s.name s.among; has = s.has }))
      ((first j lt).0 i))
      (λ (s : SomeHas b j). inr (record { name = s.name; among = Contains-append_right a b s.name s.among; has = s.has }))
      ((second j lt).0 h),
  λ h. ⊎_elim
      (λ (k : Contains x j). (second j lt).1 (inl ((first j lt).1 (inl k))))
      (λ (s : SomeHas (a ++ b) j). ⊎_elim
      (λ (i : Contains a s.name). (second j lt).1 (inl ((first j lt).1 (inr (record { name = s.name; among = i; has = s.has })))))
      (λ (i : Contains b s.name). (second j lt).1 (inr (record { name = s.name; among = i; has = s.has })))
      (Contains-append_cases a b s.name s.among))
      h,
)

pub ext_same : (a b : List Name) (x y : List ℕ) → a ≡ b → Extends b x y → Extends a x y
ext_same a b x y same e = subst (λ l. Extends l x y) (sym same) e

-- ---- lists of names that grow

cons_one : {X : Type 0} (o : Option X) → cons_option o [] ≡ option_to_list o
cons_one None = refl
cons_one (Some x) = refl

pub results_more : (instrs : List Instr) (i : ℕ) (d : Instr) → i < length instrs → filter_map (λ instr. instr.result) (take (i + 1) instrs) ≡ filter_map (λ instr. instr.result) (take i instrs) ++ option_to_list (get_or instrs i d).result
results_more instrs i d lt =
    ap (filter_map (λ instr. instr.result)) (take_more instrs i d lt)
    ∙ filter_map-append (λ instr. instr.result) (take i instrs) (get_or instrs i d ∷ [])
    ∙ ap (λ l. filter_map (λ instr. instr.result) (take i instrs) ++ l) (cons_one (get_or instrs i d).result)

pub blocks_more : (blocks : List Block) (i : ℕ) (d : Block) → i < length blocks → block_names (take (i + 1) blocks) ≡ block_names (take i blocks) ++ ((get_or blocks i d).name ∷ result_names (get_or blocks i d))
blocks_more blocks i d lt =
    ap block_names (take_more blocks i d lt)
    ∙ flat_map-append (λ b. b.name ∷ result_names b) (take i blocks) (get_or blocks i d ∷ [])
    ∙ ap (λ l. block_names (take i blocks) ++ l) (append-nil ((get_or blocks i d).name ∷ result_names (get_or blocks i d)))

-- ---- the names of a function

abbrev pub all_names : List Name → List Name → List Block → List Name
all_names params vars blocks = (params ++ vars) ++ block_names blocks

to_body : (vars : List Name) (blocks : List Block) (x : Name) → Contains vars x ⊎ Contains (block_names blocks) x → Contains (body_names vars blocks) x
to_body vars [] x (inl v) = v
to_body vars [] x (inr b) = absurd (no_member x b)
to_body vars (entry ∷ blocks) x (inl v) = Contains-append_right (entry.name ∷ []) (vars ++ (result_names entry ++ block_names blocks)) x (Contains-append_left vars (result_names entry ++ block_names blocks) x v)
to_body vars (entry ∷ blocks) x (inr b) =
    let rest = result_names entry ++ block_names blocks in
    ⊎_elim
    (λ (first : Contains (entry.name ∷ []) x). Contains-append_left (entry.name ∷ []) (vars ++ rest) x first)
    (λ (later : Contains rest x). Contains-append_right (entry.name ∷ []) (vars ++ rest) x (Contains-append_right vars rest x later))
    (Contains-append_cases (entry.name ∷ []) rest x b)

from_body : (vars : List Name) (blocks : List Block) (x : Name) → Contains (body_names vars blocks) x → Contains vars x ⊎ Contains (block_names blocks) x
from_body vars [] x h = inl h
from_body vars (entry ∷ blocks) x h =
    let rest = result_names entry ++ block_names blocks in
    ⊎_elim
    (λ (first : Contains (entry.name ∷ []) x). inr (Contains-append_left (entry.name ∷ []) rest x first))
    (λ (later : Contains (vars ++ rest) x). ⊎_elim
    (λ (v : Contains vars x). inl v)
    (λ (b : Contains rest x). inr (Contains-append_right (entry.name ∷ []) rest x b))
    (Contains-append_cases vars rest x later))
    (Contains-append_cases (entry.name ∷ []) (vars ++ rest) x h)

module _ (f : Function) where
  abbrev params : List Name
  params = map (λ x. x.1) f.params

  abbrev vars : List Name
  vars = map (λ x. x.1) f.vars

  listed : (x : Name) → Contains (names f) x → Contains (all_names params vars f.blocks) x
  listed x h = ⊎_elim
      (λ (p : Contains params x). Contains-append_left (params ++ vars) (block_names f.blocks) x (Contains-append_left params vars x p))
      (λ (b : Contains (body_names vars f.blocks) x). ⊎_elim
      (λ (v : Contains vars x). Contains-append_left (params ++ vars) (block_names f.blocks) x (Contains-append_right params vars x v))
      (λ (c : Contains (block_names f.blocks) x). Contains-append_right (params ++ vars) (block_names f.blocks) x c)
      (from_body vars f.blocks x b))
      (Contains-append_cases params (body_names vars f.blocks) x h)

  named : (x : Name) → Contains (all_names params vars f.blocks) x → Contains (names f) x
  named x h = ⊎_elim
      (λ (l : Contains (params ++ vars) x). ⊎_elim
      (λ (p : Contains params x). Contains-append_left params (body_names vars f.blocks) x p)
      (λ (v : Contains vars x). Contains-append_right params (body_names vars f.blocks) x (to_body vars f.blocks x (inl v)))
      (Contains-append_cases params vars x l))
      (λ (c : Contains (block_names f.blocks) x). Contains-append_right params (body_names vars f.blocks) x (to_body vars f.blocks x (inr c)))
      (Contains-append_cases (params ++ vars) (block_names f.blocks) x h)

  pub is_fresh : (numbers : List ℕ) (j : ℕ) → Extends (all_names params vars f.blocks) [] numbers → IsLeastMissing numbers j → j < 2 ^ 32 → IsFreshPrefix f j
  is_fresh numbers j extends least small = record {
    unused = λ k d lt rest is.
        let name = get_or (names f) k d in
        let some : SomeHas (all_names params vars f.blocks) j = record { name = name; among = listed name (Contains-get_or (names f) k d lt); has = record { rest = rest; is = is } } in
        least.missing ((extends j small).1 (inr some));
    least = λ i lt unused. ⊎_elim
        (λ (none : Contains [] i). no_member i none)
        (λ (s : SomeHas (all_names params vars f.blocks) i). (All-contains (λ name. (rest : List ℕ) → spelled name ≢ Text (prefix i ++ rest)) (names f) s.name unused (named s.name s.among)) s.has.rest s.has.is)
        ((extends i (omega (arith, lt, small))).0 (least.least i lt));
  }
