-- What a parametric run changes is a part of the problem, with the name that its cell has.
use Rattle.std.proofs.Common.{◌≡◌, ℕ, Bool, true, false, refl, subst}
use Rattle.std.specs.Prelude.{Option, Some, None, Ok, option_and_then, if◌then◌else◌}
use Rattle.std.proofs.lemmas.Option.{same_Some}
use Rattle.selection_laws.proofs.FreeRows.{row_is_free}
use Rattle.problem_definitions.specs.Names.{Name}
use Rattle.problem_definitions.specs.Problem.{Problem, has_free_row, has_group}
use Rattle.control_definitions.specs.Cells.{Cells}
use Rattle.problem_definitions.specs.Valid.{IsProblem}
use Rattle.selection_definitions.specs.Choice.{Choice}
use Rattle.selection_definitions.specs.Selection.{selected}
use Rattle.question_definitions.specs.Answers.{Sheet, Changing, Row as RowChange, Set, changing_name}
use Rattle.soundness_laws.specs.ParametricRuns.{ChangesFreely}
use Rattle.exact_values.specs.Rational.{ℚ}
use Rattle.exact_values.specs.Tests.{lt_ℚ}
use Rattle.run_definitions.specs.Verbs.{change_row, change_set, not_less}
use Rattle.soundness_laws.specs.Truth.{IsOfProblem, named_by}

-- ---- parametric runs

pub changes_freely : (sheet : Sheet) (choice : Choice) (changing : Changing) → IsProblem sheet.problem → selected sheet.problem choice ≡ Ok sheet.lp →
    IsOfProblem changing sheet.problem → ChangesFreely sheet changing
changes_freely sheet choice (RowChange name) is e free = row_is_free sheet.problem choice sheet.lp name is e free
changes_freely sheet choice (Set name) is e there = tt

-- what changes is a part of the problem
pub row_of_problem : (problem : Problem ℕ) (name : Name) (changing : Changing) → change_row problem name ≡ Some changing → IsOfProblem changing problem
row_of_problem problem name changing e = by (has_free_row problem.rows name) refl e
  where
    by : (free : Bool) → has_free_row problem.rows name ≡ free → (if free then Some (RowChange name) else None) ≡ Some changing → IsOfProblem changing problem
    by true is e = subst (λ x. IsOfProblem x problem) (same_Some (RowChange name) changing e) is
    by false is e = absurd (cc e)

pub set_of_problem : (problem : Problem ℕ) (name : Name) (changing : Changing) → change_set problem name ≡ Some changing → IsOfProblem changing problem
set_of_problem problem name changing e = by (has_group problem.rhs name) refl e
  where
    by : (there : Bool) → has_group problem.rhs name ≡ there → (if there then Some (Set name) else None) ≡ Some changing → IsOfProblem changing problem
    by true is e = subst (λ x. IsOfProblem x problem) (same_Some (Set name) changing e) is
    by false is e = absurd (cc e)

pub changes_part : (change : Problem ℕ → Name → Option Changing) →
    ((problem : Problem ℕ) (name : Name) (changing : Changing) → change problem name ≡ Some changing → IsOfProblem changing problem) →
    (problem : Problem ℕ) (moved : Option Name) (changing : Changing) → option_and_then (change problem) moved ≡ Some changing → IsOfProblem changing problem
changes_part change of_problem problem None changing e = absurd (cc e)
changes_part change of_problem problem (Some name) changing e = of_problem problem name changing e

-- and it has the name that was moved to its cell
module _ (cells : Cells) (problem : Problem ℕ) (changing : Changing) where
  abbrev HasItsName : Type 0
  HasItsName = named_by cells changing ≡ Some (changing_name changing)

  row_has : (moved : Option Name) → cells.xchrow ≡ moved → option_and_then (change_row problem) moved ≡ Some changing → HasItsName
  row_has None is e = absurd (cc e)
  row_has (Some name) is e = by (has_free_row problem.rows name) e
    where
      by : (free : Bool) → (if free then Some (RowChange name) else None) ≡ Some changing → HasItsName
      by true e = subst (λ x. named_by cells x ≡ Some (changing_name x)) (same_Some (RowChange name) changing e) is
      by false e = absurd (cc e)

  set_has : (moved : Option Name) → cells.xchcol ≡ moved → option_and_then (change_set problem) moved ≡ Some changing → HasItsName
  set_has None is e = absurd (cc e)
  set_has (Some name) is e = by (has_group problem.rhs name) e
    where
      by : (there : Bool) → (if there then Some (Set name) else None) ≡ Some changing → HasItsName
      by true e = subst (λ x. named_by cells x ≡ Some (changing_name x)) (same_Some (Set name) changing e) is
      by false e = absurd (cc e)

  pub row_named : option_and_then (change_row problem) cells.xchrow ≡ Some changing → IsOfProblem changing problem × HasItsName
  row_named e = (changes_part change_row row_of_problem problem cells.xchrow changing e, row_has cells.xchrow refl e)

  pub set_named : option_and_then (change_set problem) cells.xchcol ≡ Some changing → IsOfProblem changing problem × HasItsName
  set_named e = (changes_part change_set set_of_problem problem cells.xchcol changing e, set_has cells.xchcol refl e)

-- the last value isn't less than the first
pub last_no_less : (from last to : ℚ) → not_less from last ≡ Some to → lt_ℚ to from ≡ false
last_no_less from last to e = by (lt_ℚ last from) refl e
  where
    by : (less : Bool) → lt_ℚ last from ≡ less → (if less then None else Some last) ≡ Some to → lt_ℚ to from ≡ false
    by true is e = absurd (cc e)
    by false is e = subst (λ x. lt_ℚ x from ≡ false) (same_Some last to e) is

pub last_is : (from last to : ℚ) → not_less from last ≡ Some to → last ≡ to
last_is from last to e = by (lt_ℚ last from) e
  where
    by : (less : Bool) → (if less then None else Some last) ≡ Some to → last ≡ to
    by true e = absurd (cc e)
    by false e = same_Some last to e
