use Rattle.std.proofs.Common.{◌≡◌, ℕ, List, map, ap, sym, subst, ◌∙◌}
use Rattle.problem_definitions.specs.Names.{Name, number_in}
use Rattle.problem_definitions.specs.Problem.{Row, Entry, Bound, Group, Problem, group_names}
use Rattle.problem_definitions.specs.Numbering.{entry_by, row_by, bound_by, group_by, numbered}
use Rattle.problem_definitions.specs.Valid.{IsProblem}
use Rattle.revise_deck.proofs.numbering.renumbered.Goals as goal

module _ (name own : Name) (rows : List (Row Name)) (columns rhs ranges : List (Group (Entry Name))) (bounds : List (Group (Bound Name))) where
  by_row : Name → ℕ
  by_row = number_in (map (λ row. row.name) rows)

  -- the parts by numbers make a problem, where the whole by numbers is one
  by_parts : (problem : Problem Name) (own_rows : List (Row ℕ)) (own_columns own_rhs own_ranges : List (Group (Entry ℕ))) (own_bounds : List (Group (Bound ℕ)))
      → record { name = own; rows = rows; columns = columns; rhs = rhs; ranges = ranges; bounds = bounds } ≡ problem
      → IsProblem (numbered (record problem { name = name }))
      → own_rows ≡ map (row_by by_row) rows → own_columns ≡ map (group_by (entry_by by_row)) columns → own_rhs ≡ map (group_by (entry_by by_row)) rhs
      → own_ranges ≡ map (group_by (entry_by by_row)) ranges → own_bounds ≡ map (group_by (bound_by (number_in (group_names columns)))) bounds
      → IsProblem (record { name = name; rows = own_rows; columns = own_columns; rhs = own_rhs; ranges = own_ranges; bounds = own_bounds })
  unfolding numbered by_row
  by_parts problem own_rows own_columns own_rhs own_ranges own_bounds view is r c h g b =
      subst IsProblem (λ i. record { name = name; rows = sym r i; columns = sym c i; rhs = sym h i; ranges = sym g i; bounds = sym b i })
      (subst (λ (p : Problem Name). IsProblem (numbered (record p { name = name }))) (sym view) is)

  -- the parts by numbers are the whole by numbers
  same_parts : (problem : Problem Name) (own_rows : List (Row ℕ)) (own_columns own_rhs own_ranges : List (Group (Entry ℕ)))
      (own_bounds : List (Group (Bound ℕ)))
      → record { name = own; rows = rows; columns = columns; rhs = rhs; ranges = ranges; bounds = bounds } ≡ problem
      → own_rows ≡ map (row_by by_row) rows → own_columns ≡ map (group_by (entry_by by_row)) columns → own_rhs ≡ map (group_by (entry_by by_row)) rhs
      → own_ranges ≡ map (group_by (entry_by by_row)) ranges → own_bounds ≡ map (group_by (bound_by (number_in (group_names columns)))) bounds
      → record { name = name; rows = own_rows; columns = own_columns; rhs = own_rhs; ranges = own_ranges; bounds = own_bounds } ≡ numbered
      (record problem { name = name })
  unfolding numbered by_row
  same_parts problem own_rows own_columns own_rhs own_ranges own_bounds view r c h g b =
      let made : record { name = name; rows = own_rows; columns = own_columns; rhs = own_rhs; ranges = own_ranges; bounds = own_bounds }
      ≡ numbered (record { name = name; rows = rows; columns = columns; rhs = rhs; ranges = ranges; bounds = bounds }) =
      λ i. record { name = name; rows = r i; columns = c i; rhs = h i; ranges = g i; bounds = b i } in
      made ∙ ap (λ (p : Problem Name). numbered (record p { name = name })) view

pub returns : goal.returns
unfolding by_row
returns c =
    c.new.ensures
    ∙ same_parts c.args.name c.problem.inside.name c.problem.inside.rows c.problem.inside.columns c.problem.inside.rhs c.problem.inside.ranges
    c.problem.inside.bounds c.args.problem.now _ _ _ _ _ c.problem.view_is
    c.in_ok-rows.ensures c.in_ok-columns.ensures c.in_ok-rhs.ensures c.in_ok-ranges.ensures c.in_ok-bounds.ensures

pub new-requires : goal.new-requires
unfolding by_row
new-requires c =
    by_parts c.args.name c.problem.inside.name c.problem.inside.rows c.problem.inside.columns c.problem.inside.rhs c.problem.inside.ranges
    c.problem.inside.bounds c.args.problem.now _ _ _ _ _ c.problem.view_is c.requires
    c.in_ok-rows.ensures c.in_ok-columns.ensures c.in_ok-rhs.ensures c.in_ok-ranges.ensures c.in_ok-bounds.ensures
