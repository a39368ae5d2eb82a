-- Tables, and the columns of their numbers.
use Rattle.std.proofs.Common.{◌≡◌, ℕ, suc, List, [], ◌∷◌, map, length, Option, Some, None, refl, sym, ap, ◌∙◌}
use Rattle.std.proofs.lemmas.List.{length-map}
use Rattle.std.proofs.lemmas.Option.{same_Some}
use Rattle.std.proofs.lemmas.Simd.{map-map}
use Rattle.std.specs.Prelude.{option_map}
use Rattle.exact_values.specs.Rational.{ℚ}
use Rattle.lp_definitions.specs.LinearProgram.{variables, size}
use Rattle.lp_laws.proofs.Opening.{length-numbers_from}
use Rattle.listing_definitions.specs.Report.{Line}
use Rattle.question_definitions.specs.Answers.{Sheet}
use Rattle.walk_definitions.specs.Words.{Parsed}
use Rattle.walk_definitions.specs.Tables.{Slot, line_in, table_in, then_more, column_of, multipliers}
use Rattle.listing_readers.specs.declared.tables.Numbers.{Numbers}
use Rattle.listing_readers.specs.declared.tables.Shape.{Shape}
use Rattle.listing_readers.specs.Tables.{numbers_of}

-- a table has a line for each of its variables
pub table_counted : (of : List ℕ → Option ℚ) (sheet : Sheet) (slots : ℕ → List Slot) (ks : List ℕ) (rest : List ℕ) (lines : List Line) (new : List ℕ) →
    table_in of sheet slots ks rest ≡ Some (lines, new) → length lines ≡ length ks
table_counted of sheet slots [] rest lines new e = ap length (sym (ap (λ (p : List Line × List ℕ). p.0) (same_Some ([], rest) (lines, new) e)))
table_counted of sheet slots (k ∷ ks) rest lines new e = by (line_in of sheet (slots k) k rest) (table_counted of sheet slots ks) e
  where
    more_by : (line : Line) (o : Parsed (List Line)) → ((more : List Line) (after : List ℕ) → o ≡ Some (more, after) → length more ≡ length ks) →
        option_map {U = List Line × List ℕ} (λ more. (line ∷ more.0, more.1)) o ≡ Some (lines, new) → length lines ≡ suc (length ks)
    more_by line None later e = absurd (cc e)
    more_by line (Some more) later e =
        ap length (sym (ap (λ (p : List Line × List ℕ). p.0) (same_Some (line ∷ more.0, more.1) (lines, new) e))) ∙ ap suc (later more.0 more.1 refl)

    by : (o : Parsed Line) →
        ((left : List ℕ) (more : List Line) (after : List ℕ) → table_in of sheet slots ks left ≡ Some (more, after) → length more ≡ length ks) →
        then_more o (table_in of sheet slots ks) ≡ Some (lines, new) → length lines ≡ suc (length ks)
    by None later e = absurd (cc e)
    by (Some got) later e = more_by got.0 (table_in of sheet slots ks got.1) (later got.1) e

-- a column of what was read
pub column_is : (shape : Shape) (pick : Numbers → ℚ) (numbers : List Numbers) (lines : List Line) (values : List ℚ) →
    numbers ≡ map (λ line. numbers_of shape line.values) lines → values ≡ map pick numbers →
    values ≡ map (λ line. pick (numbers_of shape line.values)) lines
column_is shape pick numbers lines values are is = is ∙ ap (map pick) are ∙ map-map pick (λ (line : Line). numbers_of shape line.values) lines

pub multipliers_counted : (sheet : Sheet) (lines : List Line) → length (multipliers sheet lines) ≡ size sheet.lp.matrix
multipliers_counted sheet lines = length-map (variables sheet.lp.matrix) _ ∙ length-numbers_from 1 (size sheet.lp.matrix)

pub lines_counted : (of : List ℕ → Option ℚ) (sheet : Sheet) (slots : ℕ → List Slot) (rest : List ℕ) (lines : List Line) (new : List ℕ) →
    table_in of sheet slots (variables sheet.lp.matrix) rest ≡ Some (lines, new) → length lines ≡ size sheet.lp.matrix
lines_counted of sheet slots rest lines new e =
    table_counted of sheet slots (variables sheet.lp.matrix) rest lines new e ∙ length-numbers_from 1 (size sheet.lp.matrix)

pub column_length : (place n : ℕ) (lines : List Line) → length lines ≡ n → length (column_of place lines) ≡ n
column_length place n lines e = length-map lines _ ∙ e
