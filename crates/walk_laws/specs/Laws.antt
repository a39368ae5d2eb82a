-- The laws of the walk along a listing.
--     AttestedLaw                  an attested listing is true, and has so many reports
--     OneComesLaw                  of each job and each listing one thing comes
use Rattle.std.specs.Prelude.{◌≡◌, ℕ, List, length}
use Rattle.walk_definitions.specs.Checkers.{Checker}
use Rattle.walk_definitions.specs.Walker.{Found, Attested}
use Rattle.walk_definitions.specs.Found.{EndsIn}
use Rattle.walk_laws.specs.Proved.{IsTrueListing}

abbrev pub AttestedLaw : Checker → Type 0
AttestedLaw C =
    (bytes lines : List ℕ) (count : ℕ) → EndsIn C bytes lines (Attested count) → (proved : IsTrueListing C bytes lines) × (length proved.reports ≡ count)

abbrev pub OneComesLaw : Checker → Type 0
OneComesLaw C = (bytes lines : List ℕ) → (found : Found) × EndsIn C bytes lines found × ((other : Found) → EndsIn C bytes lines other → other ≡ found)
