-- The text of a certificate is read back as its value.
use Rattle.std.proofs.Common.{◌≡◌, ℕ, suc, ◌^◌, ◌<◌, ◌≤◌, List, [], ◌∷◌, ◌++◌, map, Option, Some, None, option_and_then, option_map, Bool, true, false, codes, refl, sym, ap, ◌∙◌, arith, lit≤, append-nil, IsUtf8, decimal}
use Rattle.std.specs.List.{AllByRecursion}
use Rattle.std.proofs.lemmas.Str.{IsUtf8-append, IsUtf8-from_ascii}
use Rattle.std.proofs.lemmas.Fmt.{IsAscii-decimal_wide, IsAscii-decimal}
use Rattle.json.specs.Json as json
use Rattle.json.specs.Lex.{tokens}
use Rattle.json.specs.Print.{quoted}
use Rattle.json.specs.Tree as tree
use Rattle.json.proofs.Printed.Decimals.{IsNumber-decimal}
use Rattle.json.proofs.Printed.Tokens.{tokens-print}
use Rattle.json.proofs.Printed.Trees.{value-json_tokens, ArePrintable-json_tokens}
use Rattle.json.proofs.Printed.Utf8.{are_ascii, IsUtf8-are_ascii, IsUtf8-quoted}
use Rattle.serde_json.specs.Data.{Data, Items, item, Members, no_members, member, put, number, array, object}
use Rattle.serde_json.specs.Read.{of_json, of_items, of_members, read, max_depth}
use Rattle.serde_json.specs.View.{items_of}
use Rattle.serde_json.specs.Written.{outline, items_outline, members_outline, compact_text, comma_if, items_text, members_text}
use Rattle.serde_json.proofs.Numbers.{number_of-decimal}
use Rattle.json.specs.Token.{Token}
use Rattle.serde_json.proofs.Texts.{print-outline}
use Rattle.certificate.specs.Text.{number_data, amount_data, list_data, entry_data, function_data, certificate_data, json as json_text}
use Rattle.certificate.specs.Holds.{Holds}
use Rattle.certificate.specs.Limits.{AllBelow, EntryIsWithin, IsWithin}
use Rattle.placement.specs.declared.placements.Placement.{Placement}
use Rattle.certificate.specs.declared.types.Entry.{Entry}
use Rattle.certificate.specs.declared.types.Certificate.{Certificate}
use Rattle.certificate.proofs.Decimals.{below_wide}
use Rattle.certificate.proofs.WrittenHolds.{certificate_holds}

-- the value is written as text that reads as the value, and nests n deep at most
pub record IsClear (n : ℕ) (d : Data) : Type 0 where
  pub reads : of_json (outline d) ≡ Some d
  pub numbers : tree.HasNumbers (outline d)
  pub shallow : tree.depth (outline d) ≤ n
  pub utf8 : IsUtf8 (compact_text d)

abbrev whole : Option (json.Json × List Token) → Option Data
whole o = option_and_then of_json (option_and_then (λ p. json.if_last p.0 p.1) o)

pub read-compact_text : (d : Data) → IsClear max_depth d → read (compact_text d) ≡ Some d
read-compact_text d clear =
    let lexed = ap tokens (sym (print-outline d)) ∙ tokens-print (tree.json_tokens (outline d)) (ArePrintable-json_tokens (outline d) clear.numbers) in
    ap whole (ap (json.value max_depth) (lexed ∙ sym (append-nil (tree.json_tokens (outline d)))) ∙ value-json_tokens (outline d) max_depth [] clear.shallow) ∙ clear.reads

number_clear : (n : ℕ) → n < 2 ^ 32 → IsClear 0 (number_data n)
number_clear n h =
    let far : 2 ^ 32 ≤ 2 ^ 64 = lit≤ tt in
    let small : n < 2 ^ 64 = omega arith in
    record { reads = ap (option_map number) (number_of-decimal n small); numbers = IsNumber-decimal n small; shallow = omega arith; utf8 = IsUtf8-from_ascii (decimal n) (IsAscii-decimal n small) }

amount_clear : (n : ℕ) → n < 2 ^ 120 → IsClear 0 (amount_data n)
amount_clear n h =
    record { reads = refl; numbers = tt; shallow = omega arith; utf8 = IsUtf8-quoted (decimal n) (IsUtf8-from_ascii (decimal n) (IsAscii-decimal_wide n (below_wide n h))) }

utf8_cons : (x : ℕ) (xs : List ℕ) → are_ascii (x ∷ []) ≡ true → IsUtf8 xs → IsUtf8 (x ∷ xs)
utf8_cons x xs small utf8 = IsUtf8-append (x ∷ []) xs (IsUtf8-are_ascii (x ∷ []) small) utf8

comma_utf8 : (later : Bool) (text : List ℕ) → IsUtf8 text → IsUtf8 (comma_if later ++ text)
comma_utf8 true text utf8 = utf8_cons 44 text refl utf8
comma_utf8 false text utf8 = utf8

-- ---- lists

record ItemsAreClear (n : ℕ) (ds : Items) : Type 0 where
  reads : of_items (items_outline ds) ≡ Some ds
  numbers : tree.ItemsHaveNumbers (items_outline ds)
  shallow : tree.items_depth (items_outline ds) ≤ n
  utf8 : (later : Bool) → IsUtf8 (items_text later ds)

module _ {T : Type 0} (written : T → Data) (Within : T → Type 0) (n : ℕ) (each : (x : T) → Within x → IsClear n (written x)) where
  items_clear : (xs : List T) → AllByRecursion Within xs → ItemsAreClear n (items_of (map written xs))
  items_clear [] h = record { reads = refl; numbers = tt; shallow = omega arith; utf8 = λ later. IsUtf8-are_ascii (93 ∷ []) refl }
  items_clear (x ∷ xs) h =
      let first = each x h.0 in
      let rest = items_clear xs h.1 in
      record {
        reads = ap (option_and_then (λ d. option_map (item d) (of_items (items_outline (items_of (map written xs)))))) first.reads ∙ ap (option_map (item (written x))) rest.reads;
        numbers = (first.numbers, rest.numbers);
        shallow = omega (arith, first.shallow, rest.shallow);
        utf8 = λ later. comma_utf8 later _ (IsUtf8-append (compact_text (written x)) _ first.utf8 (rest.utf8 true));
      }

  list_clear : (xs : List T) → AllByRecursion Within xs → IsClear (suc n) (list_data written xs)
  list_clear xs h =
      let items = items_clear xs h in
      record { reads = ap (option_map array) items.reads; numbers = items.numbers; shallow = omega (arith, items.shallow); utf8 = utf8_cons 91 _ refl (items.utf8 false) }

-- ---- objects

-- with these members behind those that were found, the result is read
record MembersAreClear (n : ℕ) (found result ms : Members) : Type 0 where
  reads : of_members (members_outline ms) found ≡ Some result
  numbers : tree.MembersHaveNumbers (members_outline ms)
  shallow : tree.members_depth (members_outline ms) ≤ n
  utf8 : (later : Bool) → IsUtf8 (members_text later ms)

no_members_clear : (n : ℕ) (found : Members) → MembersAreClear n found found no_members
no_members_clear n found = record { reads = refl; numbers = tt; shallow = omega arith; utf8 = λ later. IsUtf8-are_ascii (125 ∷ []) refl }

member_clear : (n : ℕ) (k : List ℕ) (d : Data) (found result ms : Members) → are_ascii k ≡ true → IsClear n d → MembersAreClear n (put k d found) result ms → MembersAreClear n found result (member k d ms)
member_clear n k d found result ms ascii first rest =
    record {
      reads = ap (option_and_then (λ e. of_members (members_outline ms) (put k e found))) first.reads ∙ rest.reads;
      numbers = (first.numbers, rest.numbers);
      shallow = omega (arith, first.shallow, rest.shallow);
      utf8 = λ later.
          comma_utf8 later _ (IsUtf8-append (quoted k) _ (IsUtf8-quoted k (IsUtf8-are_ascii k ascii)) (utf8_cons 58 _ refl (IsUtf8-append (compact_text d) _ first.utf8 (rest.utf8 true))));
    }

object_clear : (n : ℕ) (ms : Members) → MembersAreClear n no_members ms ms → IsClear (suc n) (object ms)
object_clear n ms members = record { reads = ap (option_map object) members.reads; numbers = members.numbers; shallow = omega (arith, members.shallow); utf8 = utf8_cons 123 _ refl (members.utf8 false) }

-- ---- a certificate

numbers_clear : (ns : List ℕ) → AllBelow (2 ^ 32) ns → IsClear 1 (list_data number_data ns)
numbers_clear = list_clear number_data (λ n. n < 2 ^ 32) 0 number_clear

amounts_clear : (ns : List ℕ) → AllBelow (2 ^ 120) ns → IsClear 1 (list_data amount_data ns)
amounts_clear = list_clear amount_data (λ n. n < 2 ^ 120) 0 amount_clear

abbrev entry : Option (List ℕ) → Placement → Option (List ℕ) → Entry
entry flow placement ranks = record { placement = placement; flow = flow; ranks = ranks }

entry_clear_at : (flow : Option (List ℕ)) (p : Placement) (ranks : Option (List ℕ)) → EntryIsWithin (entry flow p ranks) → IsClear 2 (entry_data (entry flow p ranks))
entry_clear_at None p None h =
    object_clear 1 _
    (member_clear 1 (codes "inserted") _ no_members _ _ refl (numbers_clear p.inserted h.inserted) (member_clear 1 (codes "kept") _ _ _ _ refl (numbers_clear p.kept h.kept) (no_members_clear 1 _)))
entry_clear_at None p (Some ranks) h =
    object_clear 1 _
    (member_clear 1 (codes "inserted") _ no_members _ _ refl (numbers_clear p.inserted h.inserted)
    (member_clear 1 (codes "kept") _ _ _ _ refl (numbers_clear p.kept h.kept) (member_clear 1 (codes "ranks") _ _ _ _ refl (numbers_clear ranks h.ranks) (no_members_clear 1 _))))
entry_clear_at (Some flow) p None h =
    object_clear 1 _
    (member_clear 1 (codes "flow") _ no_members _ _ refl (amounts_clear flow h.flow)
    (member_clear 1 (codes "inserted") _ _ _ _ refl (numbers_clear p.inserted h.inserted) (member_clear 1 (codes "kept") _ _ _ _ refl (numbers_clear p.kept h.kept) (no_members_clear 1 _))))
entry_clear_at (Some flow) p (Some ranks) h =
    object_clear 1 _
    (member_clear 1 (codes "flow") _ no_members _ _ refl (amounts_clear flow h.flow)
    (member_clear 1 (codes "inserted") _ _ _ _ refl (numbers_clear p.inserted h.inserted)
    (member_clear 1 (codes "kept") _ _ _ _ refl (numbers_clear p.kept h.kept) (member_clear 1 (codes "ranks") _ _ _ _ refl (numbers_clear ranks h.ranks) (no_members_clear 1 _)))))

entry_clear : (e : Entry) → EntryIsWithin e → IsClear 2 (entry_data e)
entry_clear e h = entry_clear_at e.flow e.placement e.ranks h

function_clear : (es : List Entry) → AllByRecursion EntryIsWithin es → IsClear 4 (function_data es)
function_clear es h = object_clear 3 _ (member_clear 3 (codes "expressions") _ no_members _ _ refl (list_clear entry_data EntryIsWithin 2 entry_clear es h) (no_members_clear 3 _))

deeper : (m n : ℕ) (d : Data) → m ≤ n → IsClear m d → IsClear n d
deeper m n d h clear = record { reads = clear.reads; numbers = clear.numbers; shallow = omega (arith, clear.shallow); utf8 = clear.utf8 }

one_clear : IsClear 5 (number_data 1)
one_clear = deeper 0 5 (number_data 1) (omega arith) (number_clear 1 (omega arith))

pub certificate_clear : (c : Certificate) → IsWithin c → IsClear 6 (certificate_data c)
certificate_clear c h =
    object_clear 5 _
    (member_clear 5 (codes "functions") _ no_members _ _ refl (list_clear function_data (AllByRecursion EntryIsWithin) 4 function_clear c.functions h) (member_clear 5 (codes "version") _ _ _ _ refl one_clear (no_members_clear 5 _)))

-- the text of a certificate holds it
pub json_holds : (c : Certificate) → IsWithin c → Holds (json_text c) c
json_holds c h =
    let clear = deeper 6 max_depth (certificate_data c) (omega arith) (certificate_clear c h) in
    record { value = certificate_data c; is_value = record { utf8 = clear.utf8; value = read-compact_text (certificate_data c) clear }; certificate = certificate_holds c h }
