-- What is new to the items of a name that isn't there is new to none.
use Rattle.std.proofs.Common.{◌≡◌, Bool, true, false, cond, ◌||◌, List, [], ◌∷◌, ◌++◌, unwrap_or, refl, sym, subst, ◌∙◌}
use Rattle.problem_definitions.specs.Names.{Name, same}
use Rattle.problem_definitions.specs.Problem.{Row, Entry, Group, has_row, has_group}
use Rattle.problem_definitions.specs.Parts.{parts_of}
use Rattle.problem_definitions.specs.Groups.{items_of}
use Rattle.problem_definitions.proofs.Groups.{items_of-absent, has_group-names}
use Rattle.deck_definitions.specs.DataCards.{Pair}
use Rattle.named_problem.specs.Additions.{AreNew}

absent_parts : (name : Name) (rows : List (Row Name)) → has_row rows name ≡ false → parts_of name rows ≡ []
absent_parts name [] absent = refl
absent_parts name (row ∷ rows) absent = by (same name row.name) absent (absent_parts name rows)
  where
    by : (b : Bool) → (b || has_row rows name) ≡ false → (has_row rows name ≡ false → parts_of name rows ≡ []) →
        cond b (unwrap_or row.parts []) [] ++ parts_of name rows ≡ []
    by true h rest = absurd (cc h)
    by false h rest = rest h

pub first_parts : (name : Name) (rows : List (Row Name)) (pairs : List Pair) → has_row rows name ≡ false → AreNew (parts_of name rows) pairs → AreNew [] pairs
first_parts name rows pairs absent new = subst (λ items. AreNew items pairs) (absent_parts name rows absent) new

no_items : {X : Type 0} (name : Name) (groups : List (Group X)) → has_group groups name ≡ false → items_of name groups ≡ []
no_items name groups absent = items_of-absent name groups (sym (has_group-names groups name) ∙ absent)

pub first_items : (name : Name) (groups : List (Group (Entry Name))) (pairs : List Pair) → has_group groups name ≡ false → AreNew (items_of name groups) pairs →
    AreNew [] pairs
first_items name groups pairs absent new = subst (λ items. AreNew items pairs) (no_items name groups absent) new
