use Rattle.std.proofs.Common.{ℕ, List, map, sym, subst}
use Rattle.problem_definitions.specs.Names.{name_at}
use Rattle.problem_definitions.specs.Problem.{Row, Entry, Bound, Group, group_names}
use Rattle.problem_definitions.specs.Numbering.{entry_by, row_by, bound_by, group_by}
use Rattle.revise_deck.specs.Different.{AreDifferentEntries, AreDifferentBounds, AreDifferentRows, AreDifferentGroups}
use Rattle.revise_deck.proofs.Different.{different_rows, different_columns, different_rhs, different_ranges, different_bounds}
use Rattle.revise_deck.proofs.ByParts.{named_by_parts}
use Rattle.revise_deck.proofs.naming.named.Goals as goal

pub returns : goal.returns
returns c =
    named_by_parts c.args.problem.now c.rows-rows.result.now c.columns-columns.result.now c.rhs.result.now c.ranges-2.result.now c.bounds.result.now
    c.name.result
    c.name.ensures.name c.rows-rows.ensures.rows c.columns-columns.ensures.columns c.rhs.ensures.rhs c.ranges-2.ensures.ranges c.bounds.ensures.bounds
    _ _ _ _ _ c.in_ok-named_rows.ensures c.in_ok-named_groups.ensures c.in_ok-named_groups-2.ensures c.in_ok-named_groups-3.ensures
    c.in_ok-named_bound_sets.ensures

-- the entries of groups differ, by the names of these rows, and the bounds of sets, by the names of these columns
abbrev differ : List (Row ℕ) → List (Group (Entry ℕ)) → Type 0
differ rows groups = AreDifferentGroups AreDifferentEntries (map (group_by (entry_by (name_at (map (λ row. row.name) rows)))) groups)

abbrev bounds_differ : List (Group (Entry ℕ)) → List (Group (Bound ℕ)) → Type 0
bounds_differ columns sets = AreDifferentGroups AreDifferentBounds (map (group_by (bound_by (name_at (group_names columns)))) sets)

pub named_rows-requires : goal.named_rows-requires
named_rows-requires c =
    subst (λ (rows : List (Row ℕ)). AreDifferentRows (map (row_by (name_at (map (λ row. row.name) rows))) rows)) (sym c.rows-rows.ensures.rows)
    (different_rows c.args.problem.now c.rows-rows.ensures.is_problem)

pub named_groups-requires : goal.named_groups-requires
named_groups-requires c =
    subst (λ rows. differ rows c.columns-columns.result.now) (sym c.rows-rows.ensures.rows)
    (subst (differ c.args.problem.now.rows) (sym c.columns-columns.ensures.columns) (different_columns c.args.problem.now c.rows-rows.ensures.is_problem))

pub named_groups-requires-2 : goal.named_groups-requires-2
named_groups-requires-2 c =
    subst (λ rows. differ rows c.rhs.result.now) (sym c.rows-rows.ensures.rows)
    (subst (differ c.args.problem.now.rows) (sym c.rhs.ensures.rhs) (different_rhs c.args.problem.now c.rows-rows.ensures.is_problem))

pub named_groups-requires-3 : goal.named_groups-requires-3
named_groups-requires-3 c =
    subst (λ rows. differ rows c.ranges-2.result.now) (sym c.rows-rows.ensures.rows)
    (subst (differ c.args.problem.now.rows) (sym c.ranges-2.ensures.ranges) (different_ranges c.args.problem.now c.rows-rows.ensures.is_problem))

pub named_bound_sets-requires : goal.named_bound_sets-requires
named_bound_sets-requires c =
    subst (λ columns. bounds_differ columns c.bounds.result.now) (sym c.columns-columns.ensures.columns)
    (subst (bounds_differ c.args.problem.now.columns) (sym c.bounds.ensures.bounds) (different_bounds c.args.problem.now c.rows-rows.ensures.is_problem))
