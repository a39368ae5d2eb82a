-- Basis decks, worked: what they say, their faults, and the deck of a basis. The decks begin at card 33 of a job.
use Rattle.std.specs.Prelude.{◌≡◌, refl, ℕ, List, [], ◌∷◌, codes, Some, None, Result, Ok, Err, map}
use Prim.Native.String.{String}
use Rattle.std.proofs.Common.{pos}
use Rattle.exact_values.specs.Rational.{whole, zero_ℚ}
use Rattle.lp_definitions.specs.LinearProgram.{LinearProgram}
use Rattle.lp_definitions.specs.declared.Sense.TheVariants.{Min}
use Rattle.lp_definitions.specs.declared.Status.{Status}
use Rattle.lp_definitions.specs.declared.Status.TheVariants.{Bs, Ll, Ul}
use Rattle.card_definitions.specs.Cards.{numbered_from}
use Rattle.card_definitions.specs.Fields.{reading_of}
use Rattle.problem_definitions.specs.Problem.{Problem, plain_row}
use Rattle.problem_definitions.specs.declared.RowKind.TheVariants.{N, L, G, E}
use Rattle.deck_definitions.specs.Written.{data_card}
use Rattle.deck_definitions.specs.declared.DeckFault.{DeckFault}
use Rattle.deck_definitions.specs.declared.DeckFaultKind.{DeckFaultKind}
use Rattle.deck_definitions.specs.declared.DeckFaultKind.TheVariants.{SectionOrder, BadBasisCode, NamedTwice, NoSuchLimit}
use Rattle.basis_deck_definitions.specs.Reading.{stands_for, basis_card_fault, basis_reading}
use Rattle.basis_deck_definitions.specs.Writing.{basis_deck}

abbrev small : Problem ℕ
small = record {
  name = codes "SMALL";
  rows = plain_row N (codes "COST") ∷ plain_row L (codes "UPR") ∷ plain_row G (codes "LOR") ∷ plain_row E (codes "EQ") ∷ [];
  columns = record { name = codes "A"; items = [] } ∷ record { name = codes "B"; items = [] } ∷ record { name = codes "C"; items = [] } ∷ [];
  rhs = [];
  ranges = [];
  bounds = [];
}

-- its limits are all that decks ask for
abbrev program : LinearProgram
program = record {
  matrix = record { rows = 4; cols = 3; columns = [] ∷ [] ∷ [] ∷ [] };
  lower = None ∷ None ∷ Some (whole (pos 1)) ∷ Some (whole (pos 3)) ∷ Some zero_ℚ ∷ None ∷ Some zero_ℚ ∷ [];
  upper = None ∷ Some (whole (pos 4)) ∷ None ∷ Some (whole (pos 3)) ∷ Some (whole (pos 2)) ∷ Some (whole (pos 1)) ∷ Some (whole (pos 5)) ∷ [];
  rhs = zero_ℚ ∷ whole (pos 4) ∷ whole (pos 1) ∷ whole (pos 3) ∷ [];
  objective = 1;
  change = None;
  sense = Min;
}

abbrev read : List String → Result (List Status) DeckFault
read cards = basis_reading small program (numbered_from 33 (map codes cards))

abbrev in_deck : List String → Result (List Status) DeckFault
in_deck cards = read ("NAME          START" ∷ cards)

abbrev found : ℕ → DeckFaultKind → Result (List Status) DeckFault
found card kind = Err (record { card = card; kind = kind })

two : in_deck (" XU A         UPR" ∷ " XL C         EQ" ∷ " UL B" ∷ "ENDATA" ∷ []) ≡ Ok (Bs ∷ Ul ∷ Bs ∷ Ll ∷ Bs ∷ Ul ∷ Bs ∷ [])
unfolding basis_reading stands_for basis_card_fault reading_of
two = refl

none : read ("NAME          NOTHING       FREE" ∷ "ENDATA" ∷ []) ≡ Ok (Bs ∷ Bs ∷ Bs ∷ Bs ∷ Ll ∷ Ul ∷ Ll ∷ [])
unfolding basis_reading stands_for basis_card_fault reading_of
none = refl

bad_code : in_deck (" XX A         UPR" ∷ "ENDATA" ∷ []) ≡ found 34 BadBasisCode
unfolding basis_reading basis_card_fault reading_of
bad_code = refl

column_twice : in_deck (" XL A         LOR" ∷ " UL A" ∷ "ENDATA" ∷ []) ≡ found 35 NamedTwice
unfolding basis_reading basis_card_fault reading_of
column_twice = refl

no_limit : in_deck (" LL B         UPR" ∷ "ENDATA" ∷ []) ≡ found 34 NoSuchLimit
unfolding basis_reading basis_card_fault reading_of
no_limit = refl

other_section : in_deck ("ROWS" ∷ "ENDATA" ∷ []) ≡ found 34 SectionOrder
unfolding basis_reading basis_card_fault reading_of
other_section = refl

punched : basis_deck small program (Bs ∷ Bs ∷ Bs ∷ Ll ∷ Ul ∷ Ul ∷ Bs ∷ []) ≡ map codes ("NAME          SMALL" ∷ " XL C         EQ" ∷ " UL A" ∷ "ENDATA" ∷ [])
unfolding basis_deck data_card
punched = refl

punched_two : basis_deck small program (Bs ∷ Ul ∷ Bs ∷ Ll ∷ Bs ∷ Ul ∷ Bs ∷ []) ≡ map codes
    ("NAME          SMALL" ∷ " XU A         UPR" ∷ " XL C         EQ" ∷ "ENDATA" ∷ [])
unfolding basis_deck data_card
punched_two = refl
