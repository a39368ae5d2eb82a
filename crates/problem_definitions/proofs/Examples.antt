-- Worked cases, computed.
use Rattle.std.specs.Prelude.{◌≡◌, refl, ℕ, List, [], ◌∷◌, ◌++◌, codes, Some, None, option_map, map, true, false}
use Rattle.card_definitions.specs.Numbers.{decimal_of}
use Rattle.problem_definitions.specs.declared.RowKind.TheVariants.{N, G}
use Rattle.problem_definitions.specs.declared.BoundKind.TheVariants.{Up, Lo, Fx, Fr, Mi, Pl}
use Rattle.problem_definitions.specs.Names.{Name, number_in, name_at, different}
use Rattle.problem_definitions.specs.Kinds.{meet}
use Rattle.problem_definitions.specs.Problem.{plain_row, combination, Problem, Group, has_free_row, has_combination, entry_count}
use Rattle.problem_definitions.specs.Parts.{parts_of, in_row, rows_before}
use Rattle.problem_definitions.specs.Groups.{grouped, in_set}
use Rattle.problem_definitions.specs.Numbering.{numbered, by_names}
use Rattle.problem_definitions.specs.Valid.{is_combination}

first_seen : different (codes "B" ∷ codes "A" ∷ codes "B" ∷ codes "C" ∷ codes "A" ∷ []) ≡ codes "B" ∷ codes "A" ∷ codes "C" ∷ []
first_seen = refl

second : number_in (codes "A" ∷ codes "B" ∷ []) (codes "B") ≡ 2
second = refl

absent : number_in (codes "A" ∷ codes "B" ∷ []) (codes "C") ≡ 0
absent = refl

named_second : name_at (codes "A" ∷ codes "B" ∷ []) 2 ≡ codes "B"
named_second = refl

-- the groups of one name become one, at the place of the first
three_parts : List (Group ℕ)
three_parts = record { name = codes "B"; items = 1 ∷ 2 ∷ [] } ∷ record { name = codes "A"; items = 3 ∷ [] } ∷ record { name = codes "B"; items = 4 ∷ [] } ∷ []

two_groups : grouped three_parts ≡ record { name = codes "B"; items = 1 ∷ 2 ∷ 4 ∷ [] } ∷ record { name = codes "A"; items = 3 ∷ [] } ∷ []
unfolding three_parts
two_groups = refl

new_set : in_set (codes "C") (λ items. 5 ∷ items)
    (grouped three_parts) ≡ record { name = codes "B"; items = 1 ∷ 2 ∷ 4 ∷ [] } ∷ record { name = codes "A"; items = 3 ∷ [] } ∷ record {
      name = codes "C";
      items = 5 ∷ [];
    } ∷ []
unfolding three_parts
new_set = refl

old_set : in_set (codes "A") (λ items. 5 ∷ items)
    (grouped three_parts) ≡ record { name = codes "B"; items = 1 ∷ 2 ∷ 4 ∷ [] } ∷ record { name = codes "A"; items = 5 ∷ 3 ∷ [] } ∷ []
unfolding three_parts
old_set = refl

-- UP and LO touch different ends, UP and PL the same one, FX and FR both
apart : (meet Up Lo ≡ false) × (meet Up Mi ≡ false) × (meet Pl Lo ≡ false) × (meet Pl Mi ≡ false)
apart = (refl, refl, refl, refl)

meeting : (meet Up Up ≡ true) × (meet Up Pl ≡ true) × (meet Lo Mi ≡ true) × (meet Fx Lo ≡ true) × (meet Up Fx ≡ true) × (meet Fr Mi ≡ true) ×
    (meet Fr Fx ≡ true)
meeting = (refl, refl, refl, refl, refl, refl, refl)

-- a problem of two rows and one column, with a right-hand side and a bound
small : Problem Name
small = record {
  name = codes "SMALL";
  rows = plain_row N (codes "COST") ∷ plain_row G (codes "LOW") ∷ [];
  columns =
      record {
        name = codes "X";
        items = record { row = codes "LOW"; value = decimal_of (codes "1") } ∷ record {
          row = codes "COST";
          value = decimal_of
              (codes "2");
        } ∷ [];
      } ∷ [];
  rhs = record { name = codes "B"; items = record { row = codes "LOW"; value = decimal_of (codes "1") } ∷ [] } ∷ [];
  ranges = [];
  bounds = record { name = codes "BND"; items = record { kind = Mi; column = codes "X"; value = None } ∷ [] } ∷ [];
}

two_entries : entry_count small ≡ 2
unfolding small
two_entries = refl

free_row : (has_free_row small.rows (codes "COST") ≡ true) × (has_free_row small.rows (codes "LOW") ≡ false)
unfolding small
free_row = (refl, refl)

-- the rows of the column's entries by number, and the names again
row_numbers : map (λ column. map (λ entry. entry.row) column.items) (numbered small).columns ≡ (2 ∷ 1 ∷ []) ∷ []
unfolding small numbered
row_numbers = refl

names_again : by_names (numbered small) ≡ small
unfolding small numbered by_names
names_again = refl

-- the same problem with a row that is twice LOW less COST
combined : Problem Name
unfolding small
combined = record small {
  rows =
      small.rows ++ combination G (codes "SUM")
      (record { row = codes "LOW"; value = decimal_of (codes "2") } ∷ record { row = codes "COST"; value = decimal_of (codes "-1") } ∷ []) ∷ [];
}

which_combine : (has_combination combined.rows (codes "SUM") ≡ true) × (has_combination combined.rows (codes "LOW") ≡ false) ×
    (is_combination combined.rows 3 ≡ true) × (is_combination combined.rows 2 ≡ false) × (is_combination combined.rows 4 ≡ false)
unfolding small combined
which_combine = (refl, refl, refl, refl, refl)

-- the rows of its parts by number, and the names again
part_numbers : map (λ row. option_map (map (λ part. part.row)) row.parts) (numbered combined).rows ≡ None ∷ None ∷ Some (2 ∷ 1 ∷ []) ∷ []
unfolding small combined numbered
part_numbers = refl

parts_again : by_names (numbered combined) ≡ combined
unfolding small combined numbered by_names
parts_again = refl

-- the parts by the row's name, the rows before it, and a part more
by_row : (map (λ part. part.row) (parts_of (codes "SUM") combined.rows) ≡ codes "LOW" ∷ codes "COST" ∷ []) × (parts_of (codes "LOW") combined.rows ≡ []) ×
    (rows_before (codes "SUM") combined.rows ≡ small.rows)
    × (rows_before (codes "NONE") combined.rows ≡ combined.rows)
unfolding small combined
by_row = (refl, refl, refl, refl)

part_more : map (λ row. option_map (map (λ part. part.row)) row.parts)
    (in_row (codes "SUM") (λ parts. parts ++ record { row = codes "X"; value = decimal_of (codes "1") } ∷ []) combined.rows)
    ≡ None ∷ None ∷ Some (codes "LOW" ∷ codes "COST" ∷ codes "X" ∷ []) ∷ []
unfolding small combined
part_more = refl

-- a plain row has no parts to change
no_parts : in_row (codes "LOW") (λ parts. []) combined.rows ≡ combined.rows
unfolding small combined
no_parts = refl
