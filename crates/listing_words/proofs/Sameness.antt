-- A fraction has one text.
use Rattle.std.proofs.Common.{◌≡◌, ◌≢◌, ℕ, Bool, true, false, List, [], ◌∷◌, Option, Some, None, pos, refl, sym, ap, ◌∙◌, subst}
use Rattle.std.specs.Prelude.{bytes_eq}
use Rattle.std.specs.Option.{SomeIff}
use Rattle.std.proofs.lemmas.Slice.Eq.{bytes_eq-Decides}
use Rattle.exact_values.specs.Rational.{ℚ, whole, zero_ℚ}
use Rattle.exact_values.specs.Tests.{eq_ℚ}
use Rattle.exact_values.proofs.TestsLaws.{test_from_same, eq_fails_from_apart}
use Rattle.frac128.specs.Operations.{TermsFit}
use Rattle.listing_definitions.specs.Numbers.{digits, rational_text}
use Rattle.walk_definitions.specs.Checkers.{checker_of_128_bits}
use Rattle.walk_definitions.specs.Words.{spelled, fraction_in}
use Rattle.walk_definitions.proofs.Numbers.{fraction_spells, fraction_of_text, text_of_fraction}

pub zero_text : rational_text zero_ℚ ≡ 48 ∷ []
unfolding whole digits
zero_text = refl

pub one_text : rational_text (whole (pos 1)) ≡ 49 ∷ []
unfolding whole digits
one_text = refl

pub zero_spelled : spelled (48 ∷ []) ≡ zero_ℚ
zero_spelled = sym (ap spelled zero_text) ∙ fraction_spells zero_ℚ

pub one_spelled : spelled (49 ∷ []) ≡ whole (pos 1)
one_spelled = sym (ap spelled one_text) ∙ fraction_spells (whole (pos 1))

-- the text of the number of a word that is a text
pub text_again : (word : List ℕ) (x : ℚ) → rational_text x ≡ word → spelled word ≡ x → rational_text (spelled word) ≡ word
text_again word x text spells = ap rational_text spells ∙ text

-- two numbers are equal where their words are
pub same_words : (v w : List ℕ) → rational_text (spelled v) ≡ v → rational_text (spelled w) ≡ w → bytes_eq v w ≡ eq_ℚ (spelled v) (spelled w)
same_words v w v_is w_is = by (bytes_eq v w) refl
  where
    by : (b : Bool) → bytes_eq v w ≡ b → b ≡ eq_ℚ (spelled v) (spelled w)
    by true e = sym (test_from_same (spelled v) (spelled w) (ap spelled ((bytes_eq-Decides v w).0 e)))
    by false e = sym (eq_fails_from_apart (spelled v) (spelled w) (λ same.
        let is : bytes_eq v w ≡ true = (bytes_eq-Decides v w).1 (sym v_is ∙ ap rational_text same ∙ w_is) in cc (is, e)))

-- the fraction of a word is read in 128 bits where it has as many
pub read_where_it_fits : (word : List ℕ) (x : ℚ) → rational_text x ≡ word → (o : Option ℚ) → o ≡ fraction_in checker_of_128_bits word → SomeIff o (TermsFit x) x
read_where_it_fits word x text None none =
    λ fit. let read : fraction_in checker_of_128_bits word ≡ Some x =
    ap (fraction_in checker_of_128_bits) (sym text) ∙ fraction_of_text x fit in cc (none, read)
read_where_it_fits word x text (Some y) some =
    let is = text_of_fraction word y (sym some) in
    let same : y ≡ x = sym (fraction_spells y) ∙ ap spelled (sym is.0 ∙ sym text) ∙ fraction_spells x in
    (subst TermsFit same is.1, same)
