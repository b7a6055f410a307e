-- What the table of definitions keeps.
use Rattle.std.proofs.Common.{◌≡◌, Bool, true, false, List, [], ◌∷◌, ◌++◌, Option, None, Some, is_some, cond, if◌then◌else◌, refl, sym, ap, ◌∙◌}
use Rattle.std.specs.Map.{lookup}
use Rattle.indexmap.specs.IndexMap.{IndexMap, get, insert_entry}
use Rattle.indexmap.proofs.CallerLemmas.{insert_entry-new}
use Rattle.ir_types.specs.declared.name.Name.{Name}
use Rattle.ir_types.specs.declared.rules.Meaning.{Meaning}
use Rattle.ir_types.specs.Definitions.{same_name, with_meaning}

module _ {S : Type 0} (m : IndexMap Name Meaning S) (k : Name) (v : Meaning) where
  -- a new name goes last
  pub added : (new : List (Name × Meaning)) → get same_name m k ≡ None → new ≡ insert_entry same_name m.entries k v → new ≡ with_meaning m.entries k v
  added new absent h =
      h ∙ (insert_entry-new same_name m k v absent ∙ sym (ap (λ (o : Option Meaning). if is_some o then m.entries else (m.entries ++ (k, v) ∷ [])) absent))

-- what is put back makes the entries what they were
put_back : (test : Name → Name → Bool) (e : Name × Meaning) (es : List (Name × Meaning)) (k : Name) (v first : Meaning) (b : Bool) → test k e.0 ≡ b → lookup (test k) (e ∷ es) ≡ Some first
    → (lookup (test k) es ≡ Some first → insert_entry test (insert_entry test es k v) k first ≡ es) → insert_entry test (insert_entry test (e ∷ es) k v) k first ≡ e ∷ es
put_back test e es k v first true is h rest =
    let found : Some e.1 ≡ Some first = sym (ap (λ b. cond b (Some e.1) (lookup (test k) es)) is) ∙ h in
    let same : e.1 ≡ first = cc in
    rw (is, is) (ap (λ (x : Meaning). (e.0, x) ∷ es) (sym same))
put_back test e es k v first false is h rest =
    rw (is, is) (ap (λ (x : List (Name × Meaning)). e ∷ x) (rest (sym (ap (λ b. cond b (Some e.1) (lookup (test k) es)) is) ∙ h)))

restored : (test : Name → Name → Bool) (es : List (Name × Meaning)) (k : Name) (v first : Meaning) → lookup (test k) es ≡ Some first → insert_entry test (insert_entry test es k v) k first ≡ es
restored test [] k v first h = cc
restored test (e ∷ es) k v first h = put_back test e es k v first (test k e.0) refl h (restored test es k v first)

module _ {S : Type 0} (m : IndexMap Name Meaning S) (k : Name) (v first : Meaning) where
  -- the first definition of a name holds
  pub kept : (between new : List (Name × Meaning)) → get same_name m k ≡ Some first → between ≡ insert_entry same_name m.entries k v → new ≡ insert_entry same_name between k first → new ≡ with_meaning m.entries k v
  kept between new there e h =
      h ∙ (ap (λ (es : List (Name × Meaning)). insert_entry same_name es k first) e
      ∙ (restored same_name m.entries k v first there ∙ sym (ap (λ (o : Option Meaning). if is_some o then m.entries else (m.entries ++ (k, v) ∷ [])) there)))
