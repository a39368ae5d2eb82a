-- Numbers of names.
use Rattle.std.specs.Prelude.{◌≡◌, ℕ, ◌+◌, List, Option, Some, None, Result, Ok, Err, option_map, position}
use Rattle.problem_definitions.specs.Names.{Name, same}
use Rattle.name_table.specs.declared.table.AddStop.{AddStop}
use Rattle.name_table.specs.declared.table.AddStop.TheVariants.{Taken, NoMemory}

-- the number of a name in a list of names, from 1
abbrev pub number_of : Name → List Name → Option ℕ
number_of name names = option_map (λ place. place + 1) (position (same name) names)

-- A name is refused as taken exactly where it has a number, and with that number. Memory may run out at any time.
abbrev pub IsTaken : {X : Type 0} → Result X AddStop → Option ℕ → Type 0
IsTaken (Ok added) number = number ≡ None
IsTaken (Err (Taken k)) number = number ≡ Some k
IsTaken (Err NoMemory) number = Unit {0}
