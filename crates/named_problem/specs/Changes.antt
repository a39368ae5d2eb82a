-- What a card does to the items of a column or of a set.
use Rattle.std.specs.Prelude.{List, ◌++◌}
use Rattle.card_definitions.specs.Fields.{Reading}
use Rattle.problem_definitions.specs.Names.{Name}
use Rattle.problem_definitions.specs.Problem.{Entry, Bound}
use Rattle.deck_definitions.specs.DataCards.{entries_of, bound_of}
use Rattle.revise_definitions.specs.Edits.{put_entries, put_bound, without_row, without_column}
use Rattle.named_problem.specs.declared.changes.EntryChange.{EntryChange}
use Rattle.named_problem.specs.declared.changes.EntryChange.TheVariants.{Put, Append, Without}
use Rattle.named_problem.specs.declared.changes.BoundChange.{BoundChange}
use Rattle.named_problem.specs.declared.changes.BoundChange.TheVariants as bound

-- its entries are put in, or added at the end, or the one on the row in field 3 goes
abbrev pub entries_changed : EntryChange → Reading → List (Entry Name) → List (Entry Name)
entries_changed Put card items = put_entries (entries_of card) items
entries_changed Append card items = items ++ entries_of card
entries_changed Without card items = without_row card.name2 items

-- its bound is put in, or those on the column in field 3 go
abbrev pub bounds_changed : BoundChange → Reading → List (Bound Name) → List (Bound Name)
bounds_changed (bound.Put kind) card items = put_bound (bound_of card kind) items
bounds_changed bound.Without card items = without_column card.name2 items
