-- A free row of a lawful problem is a row without limits of each linear program that is selected of it.
use Rattle.std.proofs.Common.{◌≡◌, ℕ, ◌+◌, ◌<◌, Bool, true, false, cond, ◌∙◌, not, ◌&&◌, ◌||◌, List, [], ◌∷◌, map, refl, ap, ap₂, subst, sym, arith}
use Rattle.std.specs.Prelude.{Option, Some, None, Ok, IfSome, nat_lt, option_map, unwrap_or, is_none, if◌then◌else◌}
use Rattle.std.specs.List.{position_or_len}
use Rattle.std.proofs.lemmas.List.{length-map}
use Rattle.std.proofs.lemmas.Option.{same_Some}
use Rattle.card_definitions.specs.Words.{◌⟹◌, first_fault}
use Rattle.lp_definitions.specs.LinearProgram.{LinearProgram, IsRow, HasNoLimits, IsLinearProgram}
use Rattle.problem_definitions.specs.Kinds.{is_free_kind}
use Rattle.problem_definitions.specs.Names.{Name, same, has_name, number_in}
use Rattle.problem_definitions.specs.Problem.{Row, Problem, row_names, has_free_row}
use Rattle.problem_definitions.specs.Valid.{IsProblem}
use Rattle.problem_definitions.proofs.Places.{number_in-within}
use Rattle.selection_definitions.specs.declared.SelectionFault.{SelectionFault}
use Rattle.selection_definitions.specs.declared.SelectionFault.TheVariants.{NoObjective, ObjectiveNotFree, NoRhsSet, NoRangeSet, NoBoundSet}
use Rattle.selection_definitions.specs.Choice.{Choice, objective_of, is_not_free, misses_set, selection_fault}
use Rattle.selection_definitions.specs.Selection.{matrix_of, program_of_choice, selected}
use Rattle.selection_definitions.specs.Changes.{free_row_number, IsFreeIn}
use Rattle.selection_laws.proofs.Lawful.{program_is_lawful, number_there}
use Rattle.selection_laws.proofs.Selected.{is_chosen}

-- ---- the row of a name

-- a free row of this name is a row of this name
free_is_there : (name : Name) (rows : List (Row ℕ)) → has_free_row rows name ≡ true → has_name (map (λ (row : Row ℕ). row.name) rows) name ≡ true
free_is_there name [] free = absurd (cc free)
free_is_there name (row ∷ rows) free = by (same name row.name) (is_free_kind row.kind) free (free_is_there name rows)
  where
    by : (named kind : Bool) → (named && kind || has_free_row rows name) ≡ true →
        (has_free_row rows name ≡ true → has_name (map (λ (row : Row ℕ). row.name) rows) name ≡ true) →
        (named || has_name (map (λ (row : Row ℕ). row.name) rows) name) ≡ true
    by true kind free rest = refl
    by false kind free rest = rest free

first_named : (name : Name) (rows : List (Row ℕ)) →
    position_or_len (same name) (map (λ (row : Row ℕ). row.name) rows) ≡ position_or_len (λ (row : Row ℕ). same name row.name) rows
first_named name [] = refl
first_named name (row ∷ rows) = ap (λ n. cond (not (same name row.name)) (1 + n) 0) (first_named name rows)

-- its number is that of the objective row, where it is chosen as such
objective_number : (name : Name) (rows : List (Row ℕ)) → number_in (map (λ (row : Row ℕ). row.name) rows) name ≡ unwrap_or (objective_of rows (Some name)) 0
objective_number name rows =
    ap₂ (λ i n. unwrap_or (option_map (λ place. place + 1) (cond (nat_lt i n) (Some i) None)) 0) (first_named name rows)
    (length-map rows (λ (row : Row ℕ). row.name))

above_zero : (o : Option ℕ) → 0 < unwrap_or o 0 → is_none o ≡ false
above_zero None above = absurd (omega (arith, above))
above_zero (Some number) above = refl

is_there : (name : Name) (rows : List (Row ℕ)) → has_free_row rows name ≡ true → is_none (objective_of rows (Some name)) ≡ false
is_there name rows free =
    above_zero (objective_of rows (Some name))
    (subst (λ n. 0 < n) (objective_number name rows) (number_in-within (map (λ (row : Row ℕ). row.name) rows) name (free_is_there name rows free)).positive)

free_number : (problem : Problem ℕ) (name : Name) → has_free_row problem.rows name ≡ true → objective_of problem.rows (Some name) ≡ free_row_number problem name
free_number problem name free =
    number_there (objective_of problem.rows (Some name)) (is_there name problem.rows free)
    ∙ ap Some (sym (objective_number name problem.rows))
    ∙ ap (λ (b : Bool). if b then Some (number_in (row_names problem) name) else None) (sym free)

pub free_found : (problem : Problem ℕ) (name : Name) (rows : List (Row ℕ)) (found : Option ℕ) → rows ≡ problem.rows → found ≡ objective_of rows (Some name) →
    has_free_row rows name ≡ true → found ≡ free_row_number problem name
free_found problem name rows found same is free =
    is ∙ ap (λ (rs : List (Row ℕ)). objective_of rs (Some name)) same
    ∙ free_number problem name (subst (λ (rs : List (Row ℕ)). has_free_row rs name ≡ true) same free)

-- ---- another objective row

-- the same choice with this row as its objective
abbrev with_objective : Choice → Name → Choice
with_objective choice name = record choice { objective = Some name }

-- where the first two tests find no fault either, there is none
none_again : (a b c d : Bool) (rest : List (Option SelectionFault)) → first_fault ((a ⟹ NoObjective) ∷ (b ⟹ ObjectiveNotFree) ∷ rest) ≡ None → c ≡ false →
    d ≡ false →
    first_fault ((c ⟹ NoObjective) ∷ (d ⟹ ObjectiveNotFree) ∷ rest) ≡ None
none_again true b c d rest none there free = absurd (cc none)
none_again false true c d rest none there free = absurd (cc none)
none_again false false c d rest none there free = rw (there, free) none

faultless_too : (problem : Problem ℕ) (choice : Choice) (name : Name) → has_free_row problem.rows name ≡ true → selection_fault problem choice ≡ None →
    selection_fault problem (with_objective choice name) ≡ None
unfolding selection_fault
faultless_too problem choice name free none =
    let sets : List (Option SelectionFault) =
    (misses_set problem.rhs choice.rhs ⟹ NoRhsSet) ∷ (misses_set problem.ranges choice.options.range ⟹ NoRangeSet) ∷
    (misses_set problem.bounds choice.options.bound ⟹ NoBoundSet) ∷ [] in
    none_again (is_none (objective_of problem.rows choice.objective)) (is_not_free problem.rows choice.objective)
    (is_none (objective_of problem.rows (Some name))) (is_not_free problem.rows (Some name)) sets
    none (is_there name problem.rows free) (ap not free)

-- what is selected with it has the same matrix and limits, and its objective row is without limits
pub row_is_free : (problem : Problem ℕ) (choice : Choice) (lp : LinearProgram) (name : Name) → IsProblem problem → selected problem choice ≡ Ok lp →
    has_free_row problem.rows name ≡ true →
    IsRow lp.matrix (number_in (row_names problem) name) × HasNoLimits lp (number_in (row_names problem) name)
row_is_free problem choice lp name is e free =
    let chosen = is_chosen problem choice lp e in
    let lawful : IsLinearProgram (program_of_choice problem (with_objective choice name)) =
    program_is_lawful problem (with_objective choice name) is (faultless_too problem choice name free chosen.0) in
    let at : IsRow (matrix_of problem) (number_in (row_names problem) name) × HasNoLimits (program_of_choice problem choice)
    (number_in (row_names problem) name) =
    subst (λ k. IsRow (matrix_of problem) k × HasNoLimits (program_of_choice problem choice) k) (sym (objective_number name problem.rows))
    (lawful.objective_row, lawful.objective_free) in
    subst (λ (p : LinearProgram). IsRow p.matrix (number_in (row_names problem) name) × HasNoLimits p (number_in (row_names problem) name)) chosen.1 at

pub free_in : (problem : Problem ℕ) (name : Name) (rows : List (Row ℕ)) (found : Option ℕ) → IsProblem problem → rows ≡ problem.rows →
    found ≡ objective_of rows (Some name) → has_free_row rows name ≡ true → IfSome found (IsFreeIn problem)
free_in problem name rows found is same e free =
    let named : has_free_row problem.rows name ≡ true = subst (λ (rs : List (Row ℕ)). has_free_row rs name ≡ true) same free in
    subst (λ (o : Option ℕ). IfSome o (IsFreeIn problem))
    (sym (free_found problem name rows found same e free ∙ ap (λ (b : Bool). if b then Some (number_in (row_names problem) name) else None) named))
    (λ choice lp ok. row_is_free problem choice lp name is ok named)

-- the N row of a name, in each linear program that is selected
pub row_is_free_in : (problem : Problem ℕ) (name : Name) (row : ℕ) → IsProblem problem → free_row_number problem name ≡ Some row → IsFreeIn problem row
row_is_free_in problem name row is e = by (has_free_row problem.rows name) refl e
  where
    by : (free : Bool) → has_free_row problem.rows name ≡ free → (if free then Some (number_in (row_names problem) name) else None) ≡ Some row →
        IsFreeIn problem row
    by true free e =
        subst (IsFreeIn problem) (same_Some (number_in (row_names problem) name) row e) (λ choice lp ok. row_is_free problem choice lp name is ok free)
    by false free e = absurd (cc e)
