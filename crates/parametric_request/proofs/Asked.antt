-- What PARAOBJ and PARARHS ask for by the cells.
use Rattle.std.proofs.Common.{◌≡◌, ℕ, Bool, true, false, List, Option, None, Some, refl, sym, ap, subst, ◌∙◌, if◌then◌else◌}
use Rattle.std.specs.Prelude.{option_and_then}
use Rattle.std.proofs.lemmas.Option.{same_Some}
use Rattle.exact_values.specs.Rational.{ℚ, ◌≤ℚ◌}
use Rattle.exact_values.specs.Tests.{lt_ℚ}
use Rattle.exact_values.proofs.TestsLaws.{le_from_lt_fails}
use Rattle.problem_definitions.specs.Names.{Name}
use Rattle.problem_definitions.specs.Problem.{Problem, has_free_row, has_group}
use Rattle.control_definitions.specs.Cells.{Cells}
use Rattle.selection_definitions.specs.Changes.{free_row_number, values_in, set_values}
use Rattle.listing_definitions.specs.declared.VerbFault.TheVariants.{ParmaxBelow}
use Rattle.question_definitions.specs.Answers.{Changing, Row, Set}
use Rattle.answer_definitions.specs.ParametricRuns.{row_of, shifts_of}
use Rattle.run_definitions.specs.Verbs.{change_row, change_set, not_less}
use Rattle.parametric_request.specs.declared.request.ParametricVerb.{ParametricVerb}
use Rattle.parametric_request.specs.declared.request.ParametricVerb.TheVariants.{Paraobj, Pararhs}
use Rattle.parametric_request.specs.declared.request.RequestStop.{RequestStop}
use Rattle.parametric_request.specs.declared.request.RequestStop.TheVariants as stops
use Rattle.parametric_request.specs.Asking.{name_moved, change_of, Changes, IsLastValue, IsLastFault, below, IsAskFault, no_change, IsNoChange, IsNotAsked}

-- ---- the last value

module _ (cells : Cells) (last first : ℚ) (moved : cells.xparmax ≡ Some last) (begins : first ≡ cells.xparam) where
  less_is : (b : Bool) → b ≡ lt_ℚ last first → not_less cells.xparam last ≡ (if b then None else Some last)
  less_is b e = ap (λ (c : Bool). if c then None else Some last) (ap (lt_ℚ last) (sym begins) ∙ sym e)

  pub last_serves : (b : Bool) → b ≡ lt_ℚ last first → b ≡ false → IsLastValue cells last
  last_serves b e is = record { last = last; is_moved = moved; is_last = less_is b e ∙ ap (λ (c : Bool). if c then None else Some last) is }

  pub last_is_less : (b : Bool) → b ≡ lt_ℚ last first → b ≡ true → IsLastFault cells ParmaxBelow
  last_is_less b e is = below moved (less_is b e ∙ ap (λ (c : Bool). if c then None else Some last) is)

-- the last value isn't less than the first
not_before : (from last to : ℚ) → not_less from last ≡ Some to → from ≤ℚ to
not_before from last to e = by (lt_ℚ last from) refl e
  where
    by : (less : Bool) → lt_ℚ last from ≡ less → (if less then None else Some last) ≡ Some to → from ≤ℚ to
    by true is e = absurd (cc e)
    by false is e = subst (λ (x : ℚ). from ≤ℚ x) (same_Some last to e) (le_from_lt_fails last from is)

pub forward : (cells : Cells) (from to : ℚ) → from ≡ cells.xparam → IsLastValue cells to → from ≤ℚ to
forward cells from to begins is = subst (λ (x : ℚ). x ≤ℚ to) (sym begins) (not_before cells.xparam is.last to is.is_last)

-- ---- what changes

module _ (problem : Problem ℕ) (cells : Cells) where
  pub no_name : (verb : ParametricVerb) → name_moved verb cells ≡ None → option_and_then (change_of verb problem) (name_moved verb cells) ≡ None
  no_name verb e = ap (option_and_then (change_of verb problem)) e

  module _ (name : Name) where
    -- a row's number tells whether there is such a row
    by_number : (free : Bool) (found : Option ℕ) (number : ℕ) → found ≡ (if free then Some number else None) →
        (found ≡ None → (if free then Some (Row name) else None) ≡ None) ×
        ((n : ℕ) → found ≡ Some n → ((if free then Some (Row name) else None) ≡ Some (Row name)) × (number ≡ n))
    by_number true found number e = ((λ none. absurd (cc (e, none))), (λ n some. (refl, same_Some number n (sym e ∙ some))))
    by_number false found number e = ((λ none. refl), (λ n some. absurd (cc (e, some))))

    pub no_row : (found : Option ℕ) → cells.xchrow ≡ Some name → found ≡ free_row_number problem name → found ≡ None →
        option_and_then (change_row problem) cells.xchrow ≡ None
    no_row found moved e none =
        ap (option_and_then (change_row problem)) moved ∙ (by_number (has_free_row problem.rows name) found (row_of problem name) e).0 none

    pub row_changes : (found : Option ℕ) (row : ℕ) → cells.xchrow ≡ Some name → found ≡ free_row_number problem name → found ≡ Some row →
        Changes Paraobj problem cells (Row name) × (row_of problem name ≡ row)
    row_changes found row moved e some =
        let at = (by_number (has_free_row problem.rows name) found (row_of problem name) e).1 row some in
        (ap (option_and_then (change_row problem)) moved ∙ at.0, at.1)

    -- and so do a set's values
    by_values : (there : Bool) (found : Option (List ℚ)) (values : List ℚ) → found ≡ (if there then Some values else None) →
        (found ≡ None → (if there then Some (Set name) else None) ≡ None) ×
        ((v : List ℚ) → found ≡ Some v → ((if there then Some (Set name) else None) ≡ Some (Set name)) × (values ≡ v))
    by_values true found values e = ((λ none. absurd (cc (e, none))), (λ v some. (refl, same_Some values v (sym e ∙ some))))
    by_values false found values e = ((λ none. refl), (λ v some. absurd (cc (e, some))))

    pub no_set : (found : Option (List ℚ)) → cells.xchcol ≡ Some name → found ≡ set_values problem name → found ≡ None →
        option_and_then (change_set problem) cells.xchcol ≡ None
    no_set found moved e none =
        ap (option_and_then (change_set problem)) moved ∙ (by_values (has_group problem.rhs name) found (values_in problem name) e).0 none

    pub set_changes : (found : Option (List ℚ)) (values : List ℚ) → cells.xchcol ≡ Some name → found ≡ set_values problem name → found ≡ Some values →
        Changes Pararhs problem cells (Set name) × (shifts_of problem name ≡ values)
    set_changes found values moved e some =
        let at = (by_values (has_group problem.rhs name) found (values_in problem name) e).1 values some in
        (ap (option_and_then (change_set problem)) moved ∙ at.0, at.1)

pub not_asked : (verb : ParametricVerb) (problem : Problem ℕ) (cells : Cells) (stop : RequestStop) → IsNoChange verb problem cells stop →
    IsNotAsked verb problem cells stop
not_asked verb problem cells (stops.Fault fault) none = subst (IsAskFault verb problem cells) (sym none.1) (no_change none.0)
not_asked verb problem cells stops.NoMemory none = tt

-- what changes doesn't depend on XPARAM
pub changes_from : (verb : ParametricVerb) (problem : Problem ℕ) (cells : Cells) (from : ℚ) (changing : Changing) → Changes verb problem cells changing →
    Changes verb problem (record cells { xparam = from }) changing
changes_from Paraobj problem cells from changing changes = changes
changes_from Pararhs problem cells from changing changes = changes

pub no_change_from : (verb : ParametricVerb) (problem : Problem ℕ) (cells : Cells) (from : ℚ) (stop : RequestStop) → IsNoChange verb problem cells stop →
    IsNoChange verb problem (record cells { xparam = from }) stop
no_change_from Paraobj problem cells from (stops.Fault fault) none = none
no_change_from Pararhs problem cells from (stops.Fault fault) none = none
no_change_from verb problem cells from stops.NoMemory none = tt
