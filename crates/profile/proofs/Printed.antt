-- The lines of the functions that are still to be put.
use Rattle.std.proofs.Common.{◌≡◌, ℕ, ◌+◌, ◌<◌, ◌==◌, not, true, false, cond, List, ◌∷◌, ◌++◌, length, drop, get_or, sym, ap, subst, ◌∙◌, inl, inr, append_assoc}
use Rattle.std.specs.Prelude.{filter}
use Rattle.std.specs.List.{AllZip, flat_map}
use Rattle.std.proofs.lemmas.List.{drop_more, drop_all}
use Rattle.std.proofs.lemmas.List.Concat.{flat_map-append}
use Rattle.std.proofs.lemmas.Bool.{cases_lt}
use Rattle.ir_types.specs.declared.syntax.Function.{Function}
use Rattle.profile.specs.declared.counts.FnCounts.{FnCounts}
use Rattle.profile.specs.declared.lines.Line.TheVariants as line
use Rattle.profile.specs.Counts.{is_defined, HasSlots}
use Rattle.profile.specs.Text.{line_text, block_lines, function_lines}
use Rattle.profile.proofs.Functions.{is_nil_is}

-- the next function that has blocks, with its counts
pub record IsNext (all : List Function) (i : ℕ) (f : Function) (counts : List FnCounts) (n : ℕ) (c : FnCounts) : Type 0 where
  pub functions : filter is_defined (drop i all) ≡ f ∷ filter is_defined (drop (i + 1) all)
  pub inside : n < length counts
  pub first : drop n counts ≡ c ∷ drop (n + 1) counts
  pub slots : HasSlots f c
  pub shape : AllZip HasSlots (filter is_defined (drop (i + 1) all)) (drop (n + 1) counts)

kept : (all : List Function) (i : ℕ) (f : Function) → i < length all → f ≡ get_or all i f → filter is_defined (drop i all) ≡ cond (is_defined f) (f ∷ filter is_defined (drop (i + 1) all)) (filter is_defined (drop (i + 1) all))
kept all i f lt is = ap (filter is_defined) (drop_more all i f lt ∙ ap (λ g. g ∷ drop (i + 1) all) (sym is))

some_counts : (fs : List Function) (f : Function) (counts : List FnCounts) (n : ℕ) → AllZip HasSlots (f ∷ fs) (drop n counts) → n < length counts
some_counts fs f counts n shape = elim (cases_lt n (length counts)) [
  | inl lt ↦ lt
  | inr le ↦ absurd (subst (λ l. AllZip HasSlots (f ∷ fs) l) (drop_all n counts le) shape)
]

pub next_inside : (all : List Function) (i : ℕ) (f : Function) (counts : List FnCounts) (n : ℕ) → i < length all → f ≡ get_or all i f → length f.blocks == 0 ≡ false → AllZip HasSlots (filter is_defined (drop i all)) (drop n counts) → n < length counts
next_inside all i f counts n lt is some shape =
    let fs : filter is_defined (drop i all) ≡ f ∷ filter is_defined (drop (i + 1) all) =
    kept all i f lt is ∙ ap (λ b. cond b (f ∷ filter is_defined (drop (i + 1) all)) (filter is_defined (drop (i + 1) all))) (ap not (is_nil_is f.blocks ∙ some)) in
    some_counts (filter is_defined (drop (i + 1) all)) f counts n (subst (λ l. AllZip HasSlots l (drop n counts)) fs shape)

pub next_is : (all : List Function) (i : ℕ) (f : Function) (counts : List FnCounts) (n : ℕ) (c : FnCounts) → i < length all → f ≡ get_or all i f → length f.blocks == 0 ≡ false → AllZip HasSlots (filter is_defined (drop i all)) (drop n counts) → c ≡ get_or counts n c → IsNext all i f counts n c
next_is all i f counts n c lt is some shape read =
    let fs : filter is_defined (drop i all) ≡ f ∷ filter is_defined (drop (i + 1) all) =
    kept all i f lt is ∙ ap (λ b. cond b (f ∷ filter is_defined (drop (i + 1) all)) (filter is_defined (drop (i + 1) all))) (ap not (is_nil_is f.blocks ∙ some)) in
    let inside = next_inside all i f counts n lt is some shape in
    let cs : drop n counts ≡ c ∷ drop (n + 1) counts = drop_more counts n c inside ∙ ap (λ d. d ∷ drop (n + 1) counts) (sym read) in
    let both : AllZip HasSlots (f ∷ filter is_defined (drop (i + 1) all)) (c ∷ drop (n + 1) counts) =
    subst (λ l. AllZip HasSlots (f ∷ filter is_defined (drop (i + 1) all)) l) cs (subst (λ l. AllZip HasSlots l (drop n counts)) fs shape) in
    record { functions = fs; inside = inside; first = cs; slots = both.0; shape = both.1 }

pub next_put : (all : List Function) (i : ℕ) (f : Function) (counts : List FnCounts) (n : ℕ) (c : FnCounts) (old new : List ℕ) → IsNext all i f counts n c → new ≡ old ++ flat_map line_text (line.Function n c.entry ∷ block_lines 0 f.blocks c.slots) →
    new ++ flat_map line_text (function_lines (n + 1) (filter is_defined (drop (i + 1) all)) (drop (n + 1) counts)) ≡ old ++ flat_map line_text (function_lines n (filter is_defined (drop i all)) (drop n counts))
next_put all i f counts n c old new next put =
    let own = line.Function n c.entry ∷ block_lines 0 f.blocks c.slots in
    let later = function_lines (n + 1) (filter is_defined (drop (i + 1) all)) (drop (n + 1) counts) in
    ap (λ l. l ++ flat_map line_text later) put ∙ append_assoc old (flat_map line_text own) (flat_map line_text later) ∙ ap (λ l. old ++ l) (sym (flat_map-append line_text own later))
    ∙ ap (λ l. old ++ flat_map line_text (function_lines n (f ∷ filter is_defined (drop (i + 1) all)) l)) (sym next.first) ∙ ap (λ l. old ++ flat_map line_text (function_lines n l (drop n counts))) (sym next.functions)

pub skipped : (all : List Function) (i : ℕ) (f : Function) → i < length all → f ≡ get_or all i f → length f.blocks == 0 ≡ true → filter is_defined (drop i all) ≡ filter is_defined (drop (i + 1) all)
skipped all i f lt is none = kept all i f lt is ∙ ap (λ b. cond b (f ∷ filter is_defined (drop (i + 1) all)) (filter is_defined (drop (i + 1) all))) (ap not (is_nil_is f.blocks ∙ none))
