-- The items of the sets that apply.
use Rattle.std.proofs.Common.{◌≡◌, ℕ, Bool, true, false, cond, ◌||◌, List, [], ◌∷◌, ◌++◌, Option, Some, None, length, refl, ap, sym, ◌∙◌, subst}
use Rattle.std.specs.List.{All, AllByRecursion, IsDistinct, find, list_any}
use Rattle.std.specs.Option.{is_some}
use Rattle.std.proofs.lemmas.List.{append-nil}
use Rattle.std.proofs.lemmas.Option.{same_Some}
use Rattle.problem_definitions.specs.Names.{Name, same, has_name}
use Rattle.problem_definitions.specs.Problem.{Entry, Group, Problem, group_names, has_group}
use Rattle.problem_definitions.specs.Groups.{items_of}
use Rattle.problem_definitions.specs.Valid.{AreEntries, AreBounds, IsProblem}
use Rattle.problem_definitions.proofs.Names.{same_eq}
use Rattle.problem_definitions.proofs.Groups.{items_of-absent}
use Rattle.problem_definitions.proofs.Each.{apart-absent, each-all, all-each}
use Rattle.problem_definitions.proofs.Added.{items_of-each}
use Rattle.selection_definitions.specs.Choice.{rhs_items, set_items}

-- ---- sets by their names

any_found : {X : Type 0} (p : X → Bool) (xs : List X) → list_any p xs ≡ is_some (find p xs)
any_found p [] = refl
any_found p (x ∷ xs) = by (p x) (any_found p xs)
  where
    by : (b : Bool) → list_any p xs ≡ is_some (find p xs) → (b || list_any p xs) ≡ is_some (cond b (Some x) (find p xs))
    by true rest = refl
    by false rest = rest

module _ {X : Type 0} (name : Name) where
  pub found-there : (sets : List (Group X)) (set : Group X) → find (λ (group : Group X). same name group.name) sets ≡ Some set → has_group sets name ≡ true
  found-there sets set e = any_found (λ (group : Group X). same name group.name) sets ∙ ap is_some e

  pub none-there : (sets : List (Group X)) → find (λ (group : Group X). same name group.name) sets ≡ None → has_group sets name ≡ false
  none-there sets e = any_found (λ (group : Group X). same name group.name) sets ∙ ap is_some e

  -- of sets with distinct names, the first of a name is the only one
  pub found-items : (sets : List (Group X)) (set : Group X) → IsDistinct same (group_names sets) →
      find (λ (group : Group X). same name group.name) sets ≡ Some set → items_of name sets ≡ set.items
  unfolding IsDistinct
  found-items [] set distinct e = absurd (cc e)
  found-items (g ∷ sets) set distinct e = by (same name g.name) refl e (found-items sets set distinct.1)
    where
      by : (b : Bool) → same name g.name ≡ b → cond b (Some g) (find (λ (group : Group X). same name group.name) sets) ≡ Some set
          → (find (λ (group : Group X). same name group.name) sets ≡ Some set → items_of name sets ≡ set.items)
          → cond b g.items [] ++ items_of name sets ≡ set.items
      by true t h rest =
          let absent : has_name (group_names sets) name ≡ false =
          apart-absent (group_names sets) name
          (subst (λ n. AllByRecursion (λ other. same n other ≡ false) (group_names sets)) (sym (same_eq name g.name t)) distinct.0) in
          ap (λ items. g.items ++ items) (items_of-absent name sets absent) ∙ append-nil g.items ∙ ap (λ (group : Group X). group.items) (same_Some g set h)
      by false t h rest = rest h

-- ---- what holds of their items

module _ {X : Type 0} (P : List X → Type 0) (none : P []) where
  pub items-each : (sets : List (Group X)) → IsDistinct same (group_names sets) → All (λ (set : Group X). P set.items) sets → (chosen : Option Name) →
      P (set_items sets chosen)
  items-each sets distinct all None = none
  items-each sets distinct all (Some name) = items_of-each name P none sets distinct (all-each (λ (set : Group X). P set.items) sets all)

no_entries : (rows : ℕ) → AreEntries rows []
unfolding IsDistinct
no_entries rows = record { on_rows = each-all _ [] tt; distinct = tt; values = each-all _ [] tt }

no_bounds : (columns : ℕ) → AreBounds columns []
unfolding IsDistinct
no_bounds columns = record { on_columns = each-all _ [] tt; apart = tt; valued = each-all _ [] tt; values = each-all _ [] tt }

module _ (problem : Problem ℕ) (is : IsProblem problem) where
  pub range-entries : (chosen : Option Name) → AreEntries (length problem.rows) (set_items problem.ranges chosen)
  range-entries chosen =
      items-each (AreEntries (length problem.rows)) (no_entries (length problem.rows)) problem.ranges is.ranges.distinct is.range_items chosen

  pub bound-items : (chosen : Option Name) → AreBounds (length problem.columns) (set_items problem.bounds chosen)
  bound-items chosen =
      items-each (AreBounds (length problem.columns)) (no_bounds (length problem.columns)) problem.bounds is.bounds.distinct is.bound_items chosen

  pub rhs-entries : (chosen : Option Name) → AreEntries (length problem.rows) (rhs_items problem.rhs chosen)
  rhs-entries (Some name) =
      items-each (AreEntries (length problem.rows)) (no_entries (length problem.rows)) problem.rhs is.rhs.distinct is.rhs_items (Some name)
  rhs-entries None = first problem.rhs (all-each _ problem.rhs is.rhs_items)
    where
      first : (sets : List (Group (Entry ℕ))) → AllByRecursion (λ (set : Group (Entry ℕ)). AreEntries (length problem.rows) set.items) sets →
          AreEntries (length problem.rows) (rhs_items sets None)
      first [] each = no_entries (length problem.rows)
      first (set ∷ sets) each = each.0
