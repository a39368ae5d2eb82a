-- What one more data card adds to a problem.
--     with_group group groups            the columns or sets with what it adds to the one of its name
--     with_card section card problem     the problem with what a card holds that stands in this section
use Rattle.std.specs.Prelude.{List, ◌++◌, Option, Some, None}
use Rattle.card_definitions.specs.Fields.{Reading}
use Rattle.problem_definitions.specs.Names.{Name}
use Rattle.problem_definitions.specs.Problem.{Problem, Group}
use Rattle.problem_definitions.specs.Groups.{in_set}
use Rattle.deck_definitions.specs.declared.Section.{Section}
use Rattle.deck_definitions.specs.declared.Section.TheVariants.{Header, Rows, Columns, Rhs, Ranges, Bounds, Endata}
use Rattle.deck_definitions.specs.DataCards.{with_row, entry_group, bound_group}

-- the columns or sets with what one more card adds to the one of its name
abbrev pub with_group : {X : Type 0} → Option (Group X) → List (Group X) → List (Group X)
with_group None groups = groups
with_group (Some group) groups = in_set group.name (λ items. items ++ group.items) groups

-- the problem with one more data card in a section
abbrev pub with_card : Section → Reading → Problem Name → Problem Name
with_card Rows card problem = record problem { rows = with_row problem.rows card }
with_card Columns card problem = record problem { columns = with_group (entry_group card) problem.columns }
with_card Rhs card problem = record problem { rhs = with_group (entry_group card) problem.rhs }
with_card Ranges card problem = record problem { ranges = with_group (entry_group card) problem.ranges }
with_card Bounds card problem = record problem { bounds = with_group (bound_group card) problem.bounds }
with_card Header card problem = problem
with_card Endata card problem = problem
