-- What holds of numbers holds of their fractions, and what holds of a linear program holds of the family that changes it.
use Rattle.std.proofs.Common.{◌≡◌, ℕ, List, [], ◌∷◌, Some, length, sym, ap, ◌∙◌, refl}
use Rattle.exact_values.specs.Rational.{ℚ}
use Rattle.exact_values.specs.Tests.{eq_ℚ}
use Rattle.lp_definitions.specs.LinearProgram.{LinearProgram, value_at}
use Rattle.check_definitions.specs.Steps.{in_turn}
use Rattle.check_definitions.specs.Checks.{unbounded_check}
use Rattle.question_definitions.specs.Answers.{Sheet, Changing, Row, Set}
use Rattle.answer_definitions.specs.ParametricRuns.{family_of}
use Rattle.listing_definitions.specs.Numbers.{rational_text}
use Rattle.walk_definitions.specs.Checkers.{checker_of_128_bits}
use Rattle.walk_definitions.specs.Tests.{asked}
use Rattle.walk_definitions.specs.Words.{spelled, fraction_in}
use Rattle.walk_definitions.proofs.Numbers.{fraction_spells, text_of_fraction}
use Rattle.listing_words.proofs.Sameness.{text_again}
use Rattle.listing_claims.specs.declared.claims.Columns.{Columns}
use Rattle.listing_claims.specs.declared.claims.Pair.{Pair}
use Rattle.listing_claims.specs.Claims.{pair_test}
use Rattle.listing_claims.specs.Intervals.{AreCounted}
use Rattle.checks_of_128_bits.specs.declared.fractions.FractionColumns.{FractionColumns}
use Rattle.checks_of_128_bits.specs.declared.fractions.FractionPair.{FractionPair}
use Rattle.checks_of_128_bits.specs.Fractions.{pair_verdict, AreFractions, HasColumns}

-- the linear programs of a family have the same matrix
pub family_matrix : (sheet : Sheet) (changing : Changing) (theta : ℚ) → (family_of sheet changing theta).matrix ≡ sheet.lp.matrix
family_matrix sheet (Row name) theta = refl
family_matrix sheet (Set name) theta = refl

pub columns_carried : (p : LinearProgram) (columns : Columns) (made : FractionColumns) → AreFractions columns made → AreCounted p columns → HasColumns p made
columns_carried p columns made are counted = record {
  value = ap length are.value ∙ counted.value;
  value_rate = ap length are.value_rate ∙ counted.value_rate;
  price = ap length are.price ∙ counted.price;
  price_rate = ap length are.price_rate ∙ counted.price_rate;
}

-- ---- the number of a word that is read

pub word_again : (word : List ℕ) (x : ℚ) → Some x ≡ fraction_in checker_of_128_bits word → rational_text (spelled word) ≡ word
word_again word x is = let read = text_of_fraction word x (sym is) in text_again word x (sym read.0) (ap spelled read.0 ∙ fraction_spells x)

pub word_read : (word : List ℕ) (x n : ℚ) → Some x ≡ fraction_in checker_of_128_bits word → n ≡ spelled word → Some n ≡ fraction_in checker_of_128_bits word
word_read word x n is made = let read = text_of_fraction word x (sym is) in ap Some (made ∙ ap spelled read.0 ∙ fraction_spells x) ∙ is

-- ---- a point and a direction

pub pair_is : (p : LinearProgram) (value objective : ℚ) (made : FractionPair) (pair : Pair) → value ≡ objective → made.point.items ≡ pair.point.items →
    made.direction.items ≡ pair.direction.items →
    pair_verdict p value made ≡ pair_test checker_of_128_bits p objective pair
pair_is p value objective made pair same point direction =
    λ i. in_turn (unbounded_check p (value_at (point i)) (value_at (direction i)) ∷ asked (eq_ℚ (same i) (value_at (point i) p.objective)) ∷ [])
