-- What a certificate places.
use Rattle.std.specs.Prelude.{◌≡◌, ℕ, List, Some, length, slice_get}
use Rattle.certificate.specs.declared.types.Entry.{Entry}
use Rattle.certificate.specs.declared.types.Certificate.{Certificate}
use Rattle.transform.specs.declared.placed.Placed.{Placed}
use Rattle.certified.specs.Certified.{placements_in}
use Rattle.checker.specs.declared.numbered.Numbered.{Numbered}

-- the points and the table of a function, with the placements that entries name
abbrev pub placed_by : Numbered → List Entry → Placed
placed_by q entries = record { points = q.points; table = q.table; placements = placements_in entries }

-- what the certificate places in each of these functions
pub record ArePlacedBy (numbered : List Numbered) (certificate : Certificate) (placed : List Placed) : Type 0 where
  pub count : length placed ≡ length numbered
  pub each : (j : ℕ) (q : Numbered) (entries : List Entry) → slice_get numbered j ≡ Some q → slice_get certificate.functions j ≡ Some entries
      → slice_get placed j ≡ Some (placed_by q entries)
