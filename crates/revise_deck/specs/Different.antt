-- Rows, columns, sets and bounds by names in which nothing is said twice.
use Rattle.std.specs.Prelude.{Bool, ◌&&◌, List, map}
use Rattle.std.specs.List.{AllByRecursion, IsDistinct}
use Rattle.std.specs.Option.{IfSome}
use Rattle.problem_definitions.specs.Kinds.{meet}
use Rattle.problem_definitions.specs.Names.{Name, same}
use Rattle.problem_definitions.specs.Problem.{Row, Entry, Bound, Group, group_names}

-- no two entries stand on one row
abbrev pub AreDifferentEntries : List (Entry Name) → Type 0
AreDifferentEntries entries = IsDistinct same (map (λ entry. entry.row) entries)

-- whether two bounds touch the same end of one column
abbrev pub do_meet : Bound Name → Bound Name → Bool
do_meet a b = same a.column b.column && meet a.kind b.kind

-- no two bounds touch the same end of one column
abbrev pub AreDifferentBounds : List (Bound Name) → Type 0
AreDifferentBounds bounds = IsDistinct do_meet bounds

-- no two rows have one name, and no two parts of one row stand on one row
pub record AreDifferentRows (rows : List (Row Name)) : Type 0 where
  pub names : IsDistinct same (map (λ row. row.name) rows)
  pub parts : AllByRecursion (λ row. IfSome row.parts AreDifferentEntries) rows

-- no two groups have one name, and the items of each are different
pub record AreDifferentGroups {X : Type 0} (AreDifferent : List X → Type 0) (groups : List (Group X)) : Type 0 where
  pub names : IsDistinct same (group_names groups)
  pub items : AllByRecursion (λ group. AreDifferent group.items) groups
