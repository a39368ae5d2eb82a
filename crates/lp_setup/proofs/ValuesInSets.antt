-- The rows' values in a right-hand side set.
use Rattle.std.proofs.Common.{◌≡◌, ℕ, Bool, true, false, List, Some, None, length, ap, sym, ◌∙◌, subst}
use Rattle.std.specs.Prelude.{if◌then◌else◌}
use Rattle.exact_values.specs.Rational.{ℚ}
use Rattle.problem_definitions.specs.Names.{Name}
use Rattle.problem_definitions.specs.Problem.{Entry, Problem, has_group}
use Rattle.problem_definitions.specs.Groups.{items_of}
use Rattle.problem_definitions.specs.Valid.{AreEntries, IsProblem}
use Rattle.selection_definitions.specs.Programs.{side_on}
use Rattle.lp_setup.specs.Parts.{by_number}
use Rattle.selection_definitions.specs.Changes.{values_in, set_values}
use Rattle.lp_setup.proofs.Lists.{map-enumerate}
use Rattle.lp_setup.proofs.Sets.{rhs-entries}

pub set_entries : (problem : Problem ℕ) (name : Name) (items : List (Entry ℕ)) → IsProblem problem → items ≡ items_of name problem.rhs →
    AreEntries (length problem.rows) items
set_entries problem name items is e = subst (AreEntries (length problem.rows)) (sym e) (rhs-entries problem is (Some name))

pub values_there : (problem : Problem ℕ) (name : Name) (items : List (Entry ℕ)) (rows : ℕ) (values : List ℚ) → has_group problem.rhs name ≡ true →
    items ≡ items_of name problem.rhs → rows ≡ length problem.rows →
    values ≡ by_number (side_on items) rows → Some values ≡ set_values problem name
values_there problem name items rows values there e counted is =
    ap Some (is ∙ ap (by_number (side_on items)) counted ∙ ap (λ (xs : List (Entry ℕ)). by_number (side_on xs) (length problem.rows)) e
    ∙ sym (map-enumerate (side_on (items_of name problem.rhs)) problem.rows))
    ∙ ap (λ (b : Bool). if b then Some (values_in problem name) else None) (sym there)

pub no_values : (problem : Problem ℕ) (name : Name) → has_group problem.rhs name ≡ false → None ≡ set_values problem name
no_values problem name there = ap (λ (b : Bool). if b then Some (values_in problem name) else None) (sym there)
