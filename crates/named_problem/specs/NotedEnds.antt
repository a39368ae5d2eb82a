-- Bounds in slots, of which some are empty, and the places that are noted under their columns for each end.
use Rattle.std.specs.Prelude.{◌≡◌, ℕ, Bool, true, false, ◌&&◌, Option, Some, None, List, [], ◌∷◌, slice_get, if◌then◌else◌}
use Rattle.std.specs.Map.{lookup}
use Rattle.indexmap.specs.IndexMap.{insert_entry}
use Rattle.problem_definitions.specs.declared.BoundKind.{BoundKind}
use Rattle.problem_definitions.specs.Kinds.{touches_upper, touches_lower}
use Rattle.problem_definitions.specs.Names.{Name, same}
use Rattle.problem_definitions.specs.Problem.{Bound}
use Rattle.named_problem.specs.declared.ends.ColumnEnd.{ColumnEnd}
use Rattle.named_problem.specs.declared.ends.ColumnEnd.TheVariants.{Upper, Lower}

-- the things that stand in slots, of which some are empty
abbrev pub held : {X : Type 0} → List (Option X) → List X
held [] = []
held (None ∷ slots) = held slots
held (Some x ∷ slots) = x ∷ held slots

-- whether a bound of this type touches an end of its column
abbrev pub touches_end : ColumnEnd → BoundKind → Bool
touches_end Upper kind = touches_upper kind
touches_end Lower kind = touches_lower kind

-- whether a bound touches an end of this column
abbrev pub is_at_end : ColumnEnd → Name → Bound Name → Bool
is_at_end end column bound = same column bound.column && touches_end end bound.kind

-- the same of what stands at a place, where there may be no slot or an empty one
abbrev pub is_at_end_there : ColumnEnd → Name → Option (Option (Bound Name)) → Bool
is_at_end_there end column None = false
is_at_end_there end column (Some None) = false
is_at_end_there end column (Some (Some bound)) = is_at_end end column bound

-- a bound that touches an end is noted under its column with its place
abbrev pub AreNoted : ColumnEnd → List (Name × ℕ) → List (Option (Bound Name)) → Type 0
AreNoted end places slots =
    (place : ℕ) (bound : Bound Name) → slice_get slots place ≡ Some (Some bound) → touches_end end bound.kind ≡ true →
    lookup (same bound.column) places ≡ Some place

-- a slot that isn't empty is as it was
abbrev pub AreEmptied : List (Option (Bound Name)) → List (Option (Bound Name)) → Type 0
AreEmptied old new = (place : ℕ) (bound : Bound Name) → slice_get new place ≡ Some (Some bound) → slice_get old place ≡ Some (Some bound)

-- the places with one more noted under a column, where the bound at it touches their end
abbrev pub noted : Bool → Name → ℕ → List (Name × ℕ) → List (Name × ℕ)
noted touches column place places = if touches then insert_entry same places column place else places
