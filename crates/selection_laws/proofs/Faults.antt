-- The first fault of a choice, by the tests that come before it.
use Rattle.std.proofs.Common.{◌≡◌, ℕ, Bool, true, false, [], ◌∷◌, Option, Some, None, refl, ap, sym, ◌∙◌}
use Rattle.std.specs.Option.{is_none}
use Rattle.card_definitions.specs.Words.{◌⟹◌, first_fault}
use Rattle.problem_definitions.specs.Problem.{Problem}
use Rattle.selection_definitions.specs.declared.SelectionFault.{SelectionFault}
use Rattle.selection_definitions.specs.declared.SelectionFault.TheVariants.{NoObjective, ObjectiveNotFree, NoRhsSet, NoRangeSet, NoBoundSet}
use Rattle.selection_definitions.specs.Choice.{Choice, objective_of, is_not_free, misses_set, selection_fault}

first_of : Bool → Bool → Bool → Bool → Bool → Option SelectionFault
first_of a b c d e = first_fault ((a ⟹ NoObjective) ∷ (b ⟹ ObjectiveNotFree) ∷ (c ⟹ NoRhsSet) ∷ (d ⟹ NoRangeSet) ∷ (e ⟹ NoBoundSet) ∷ [])

module _ (problem : Problem ℕ) (choice : Choice) where
  -- the tests of a choice
  tested : selection_fault problem choice ≡ first_of (is_none (objective_of problem.rows choice.objective)) (is_not_free problem.rows choice.objective)
      (misses_set problem.rhs choice.rhs)
      (misses_set problem.ranges choice.options.range) (misses_set problem.bounds choice.options.bound)
  unfolding selection_fault first_of
  tested = refl

fault_1 : (a b c d e : Bool) → a ≡ true → first_of a b c d e ≡ Some NoObjective
unfolding first_of
fault_1 a b c d e first = rw first refl

fault_2 : (a b c d e : Bool) → a ≡ false → b ≡ true → first_of a b c d e ≡ Some ObjectiveNotFree
unfolding first_of
fault_2 a b c d e first second = rw (first, second) refl

fault_3 : (a b c d e : Bool) → a ≡ false → b ≡ false → c ≡ true → first_of a b c d e ≡ Some NoRhsSet
unfolding first_of
fault_3 a b c d e first second third = rw (first, second, third) refl

fault_4 : (a b c d e : Bool) → a ≡ false → b ≡ false → c ≡ false → d ≡ true → first_of a b c d e ≡ Some NoRangeSet
unfolding first_of
fault_4 a b c d e first second third fourth = rw (first, second, third, fourth) refl

fault_5 : (a b c d e : Bool) → a ≡ false → b ≡ false → c ≡ false → d ≡ false → e ≡ true → first_of a b c d e ≡ Some NoBoundSet
unfolding first_of
fault_5 a b c d e first second third fourth fifth = rw (first, second, third, fourth, fifth) refl

no_fault : (a b c d e : Bool) → a ≡ false → b ≡ false → c ≡ false → d ≡ false → e ≡ false → first_of a b c d e ≡ None
unfolding first_of
no_fault a b c d e first second third fourth fifth = rw (first, second, third, fourth, fifth) refl

-- where there is no fault, the first two tests fail
both_pass : (a b c d e : Bool) → first_of a b c d e ≡ None → (a ≡ false) × (b ≡ false)
unfolding first_of
both_pass true b c d e h = absurd (cc h)
both_pass false true c d e h = absurd (cc h)
both_pass false false c d e h = (refl, refl)

module _ (problem : Problem ℕ) (choice : Choice) where
  pub missing-objective : objective_of problem.rows choice.objective ≡ None → selection_fault problem choice ≡ Some NoObjective
  missing-objective a = tested problem choice ∙ fault_1 _ _ _ _ _ (ap is_none a)

  module _ (number : ℕ) (there : objective_of problem.rows choice.objective ≡ Some number) where
    pub limited-objective : is_not_free problem.rows choice.objective ≡ true → selection_fault problem choice ≡ Some ObjectiveNotFree
    limited-objective b = tested problem choice ∙ fault_2 _ _ _ _ _ (ap is_none there) b

    module _ (free : is_not_free problem.rows choice.objective ≡ false) where
      pub missing-rhs : misses_set problem.rhs choice.rhs ≡ true → selection_fault problem choice ≡ Some NoRhsSet
      missing-rhs c = tested problem choice ∙ fault_3 _ _ _ _ _ (ap is_none there) free c

      pub missing-range : misses_set problem.rhs choice.rhs ≡ false → misses_set problem.ranges choice.options.range ≡ true →
          selection_fault problem choice ≡ Some NoRangeSet
      missing-range c d = tested problem choice ∙ fault_4 _ _ _ _ _ (ap is_none there) free c d

      pub missing-bound : misses_set problem.rhs choice.rhs ≡ false → misses_set problem.ranges choice.options.range ≡ false →
          misses_set problem.bounds choice.options.bound ≡ true → selection_fault problem choice ≡ Some NoBoundSet
      missing-bound c d e = tested problem choice ∙ fault_5 _ _ _ _ _ (ap is_none there) free c d e

      pub faultless : misses_set problem.rhs choice.rhs ≡ false → misses_set problem.ranges choice.options.range ≡ false →
          misses_set problem.bounds choice.options.bound ≡ false → selection_fault problem choice ≡ None
      faultless c d e = tested problem choice ∙ no_fault _ _ _ _ _ (ap is_none there) free c d e

  pub objective-passes : selection_fault problem choice ≡ None →
      (is_none (objective_of problem.rows choice.objective) ≡ false) × (is_not_free problem.rows choice.objective ≡ false)
  objective-passes none = both_pass _ _ _ _ _ (sym (tested problem choice) ∙ none)
