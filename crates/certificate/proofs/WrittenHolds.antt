-- The value that is written for a certificate holds it.
use Rattle.std.proofs.Common.{◌≡◌, ℕ, ◌^◌, ◌<◌, List, [], ◌∷◌, map, Option, Some, None, option_and_then, codes, refl, if◌then◌else◌, ap}
use Rattle.std.specs.List.{AllZip, AllByRecursion}
use Rattle.serde_json.specs.Data.{Data}
use Rattle.serde_json.specs.Find.{get}
use Rattle.serde_json.specs.View.{items_of}
use Rattle.certificate.specs.Values.{list_in, listed}
use Rattle.certificate.specs.Text.{number_data, amount_data, list_data, entry_data, function_data, certificate_data}
use Rattle.certificate.specs.Holds.{HoldsNumber, HoldsAmount, HoldsList, HoldsEntry, HoldsFunction, HoldsCertificate}
use Rattle.certificate.specs.Limits.{AllBelow, EntryIsWithin, IsWithin}
use Rattle.placement.specs.declared.placements.Placement.{Placement}
use Rattle.certificate.specs.declared.types.Entry.{Entry}
use Rattle.certificate.specs.declared.types.Certificate.{Certificate}
use Rattle.certificate.proofs.Decimals.{below, decimal_in-decimal}

number_holds : (n : ℕ) → n < 2 ^ 32 → HoldsNumber (number_data n) n
number_holds n h = ap (λ b. if b then Some n else None) (below n (2 ^ 32) _ refl h)

amount_holds : (n : ℕ) → n < 2 ^ 120 → HoldsAmount (amount_data n) n
amount_holds n h = decimal_in-decimal _ n h refl

module _ {T : Type 0} (holds : Data → T → Type 0) (written : T → Data) (Within : T → Type 0) (each : (x : T) → Within x → holds (written x) x) where
  items_hold : (xs : List T) → AllByRecursion Within xs → AllZip holds (listed (items_of (map written xs))) xs
  items_hold [] h = tt
  items_hold (x ∷ xs) h = (each x h.0, items_hold xs h.1)

  list_holds : (key : List ℕ) (d : Data) (xs : List T) → get key d ≡ Some (list_data written xs) → AllByRecursion Within xs → HoldsList holds key d xs
  list_holds key d xs e h = record { values = listed (items_of (map written xs)); is_list = ap (option_and_then list_in) e; each = items_hold xs h }

abbrev entry : Option (List ℕ) → Placement → Option (List ℕ) → Entry
entry flow placement ranks = record { placement = placement; flow = flow; ranks = ranks }

numbers_hold : (key : List ℕ) (d : Data) (ns : List ℕ) → get key d ≡ Some (list_data number_data ns) → AllBelow (2 ^ 32) ns → HoldsList HoldsNumber key d ns
numbers_hold = list_holds HoldsNumber number_data (λ n. n < 2 ^ 32) number_holds

amounts_hold : (key : List ℕ) (d : Data) (ns : List ℕ) → get key d ≡ Some (list_data amount_data ns) → AllBelow (2 ^ 120) ns → HoldsList HoldsAmount key d ns
amounts_hold = list_holds HoldsAmount amount_data (λ n. n < 2 ^ 120) amount_holds

entry_holds_at : (flow : Option (List ℕ)) (p : Placement) (ranks : Option (List ℕ)) → EntryIsWithin (entry flow p ranks) → HoldsEntry (entry_data (entry flow p ranks)) (entry flow p ranks)
entry_holds_at None p None h =
    let d = entry_data (entry None p None) in
    record { flow = refl; inserted = numbers_hold _ d p.inserted refl h.inserted; kept = numbers_hold _ d p.kept refl h.kept; ranks = refl }
entry_holds_at None p (Some ranks) h =
    let d = entry_data (entry None p (Some ranks)) in
    record { flow = refl; inserted = numbers_hold _ d p.inserted refl h.inserted; kept = numbers_hold _ d p.kept refl h.kept; ranks = numbers_hold _ d ranks refl h.ranks }
entry_holds_at (Some flow) p None h =
    let d = entry_data (entry (Some flow) p None) in
    record { flow = amounts_hold _ d flow refl h.flow; inserted = numbers_hold _ d p.inserted refl h.inserted; kept = numbers_hold _ d p.kept refl h.kept; ranks = refl }
entry_holds_at (Some flow) p (Some ranks) h =
    let d = entry_data (entry (Some flow) p (Some ranks)) in
    record { flow = amounts_hold _ d flow refl h.flow; inserted = numbers_hold _ d p.inserted refl h.inserted; kept = numbers_hold _ d p.kept refl h.kept; ranks = numbers_hold _ d ranks refl h.ranks }

entry_holds : (e : Entry) → EntryIsWithin e → HoldsEntry (entry_data e) e
entry_holds e h = entry_holds_at e.flow e.placement e.ranks h

function_holds : (es : List Entry) → AllByRecursion EntryIsWithin es → HoldsFunction (function_data es) es
function_holds es h = list_holds HoldsEntry entry_data EntryIsWithin entry_holds (codes "expressions") (function_data es) es refl h

pub certificate_holds : (c : Certificate) → IsWithin c → HoldsCertificate (certificate_data c) c
certificate_holds c h =
    record { version = refl; functions = list_holds HoldsFunction function_data (AllByRecursion EntryIsWithin) function_holds (codes "functions") (certificate_data c) c.functions refl h }
