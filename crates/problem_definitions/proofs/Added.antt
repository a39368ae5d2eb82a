-- Groups with items added to one of them, or with a new one at the end, keep what holds of them.
use Rattle.std.proofs.Common.{◌≡◌, suc, ◌+◌, Bool, true, false, cond, ◌||◌, List, [], ◌∷◌, ◌++◌, length, refl, ap, sym, ◌∙◌, subst, arith}
use Rattle.std.specs.List.{AllByRecursion, IsDistinct, sum_by}
use Rattle.std.proofs.lemmas.List.{append-nil, map-append, length-append}
use Rattle.std.proofs.lemmas.List.Sums.{sum_by-append}
use Rattle.std.proofs.lemmas.List.Folds.{list_any-append}
use Rattle.problem_definitions.specs.Names.{Name, same, has_name}
use Rattle.problem_definitions.specs.Problem.{Group, group_names, has_group}
use Rattle.problem_definitions.specs.Groups.{items_of, in_group, in_set}
use Rattle.problem_definitions.proofs.Names.{same_eq}
use Rattle.problem_definitions.proofs.Groups.{items_of-absent, has_group-names}
use Rattle.problem_definitions.proofs.Each.{each-push, distinct-push, absent-apart, apart-absent}
use Rattle.problem_definitions.proofs.Lawful.{AreGroups}

module _ {X : Type 0} (name : Name) where
  names-in_group : (f : List X → List X) (groups : List (Group X)) → group_names (in_group name f groups) ≡ group_names groups
  names-in_group f [] = refl
  names-in_group f (group ∷ groups) = by (same name group.name) (names-in_group f groups)
    where
      by : (b : Bool) → group_names (in_group name f groups) ≡ group_names groups →
          group_names (cond b (record { name = group.name; items = f group.items }) group ∷ in_group name f groups) ≡ group.name ∷ group_names groups
      by true rest = ap (λ names. group.name ∷ names) rest
      by false rest = ap (λ names. group.name ∷ names) rest

  in_group-absent : (f : List X → List X) (groups : List (Group X)) → has_group groups name ≡ false → in_group name f groups ≡ groups
  in_group-absent f [] absent = refl
  in_group-absent f (group ∷ groups) absent = by (same name group.name) absent (in_group-absent f groups)
    where
      by : (b : Bool) → (b || has_group groups name) ≡ false → (has_group groups name ≡ false → in_group name f groups ≡ groups) →
          cond b (record { name = group.name; items = f group.items }) group ∷ in_group name f groups ≡ group ∷ groups
      by true h rest = absurd (cc h)
      by false h rest = ap (λ list. group ∷ list) (rest h)

  -- after a group of this name there is no other
  only_one : (group : Group X) (groups : List (Group X)) → IsDistinct same (group_names (group ∷ groups)) → same name group.name ≡ true →
      has_group groups name ≡ false
  unfolding IsDistinct
  only_one group groups distinct e =
      has_group-names groups name
      ∙ apart-absent (group_names groups) name
      (subst (λ n. AllByRecursion (λ other. same n other ≡ false) (group_names groups)) (sym (same_eq name group.name e)) distinct.0)

  distinct-rest : (group : Group X) (groups : List (Group X)) → IsDistinct same (group_names (group ∷ groups)) → IsDistinct same (group_names groups)
  unfolding IsDistinct
  distinct-rest group groups distinct = distinct.1

  no_items : (groups : List (Group X)) → has_group groups name ≡ false → items_of name groups ≡ []
  no_items groups absent = items_of-absent name groups (sym (has_group-names groups name) ∙ absent)

  items-in_group : (I : List X → Type 0) (more : List X) (groups : List (Group X)) → IsDistinct same (group_names groups)
      → AllByRecursion (λ group. I group.items) groups
      → I (items_of name groups ++ more) → has_group groups name ≡ true
      → AllByRecursion (λ group. I group.items) (in_group name (λ items. items ++ more) groups)
  items-in_group I more [] distinct each new there = tt
  items-in_group I more (group ∷ groups) distinct each new there =
      by (same name group.name) refl new there (items-in_group I more groups (distinct-rest group groups distinct) each.1)
    where
      by : (b : Bool) → same name group.name ≡ b → I ((cond b group.items [] ++ items_of name groups) ++ more) → (b || has_group groups name) ≡ true
          → (I (items_of name groups ++ more) → has_group groups name ≡ true
          → AllByRecursion (λ group. I group.items) (in_group name (λ items. items ++ more) groups))
          → AllByRecursion (λ group. I group.items)
          (cond b (record { name = group.name; items = group.items ++ more }) group ∷ in_group name (λ items. items ++ more) groups)
      by true e changed h rest =
          let alone = only_one group groups distinct e in
          let whole : group.items ++ items_of name groups ≡ group.items = ap (λ list. group.items ++ list) (no_items groups alone) ∙ append-nil group.items in (
            subst I (ap (λ list. list ++ more) whole) changed,
            subst (AllByRecursion (λ group. I group.items))
                (sym (in_group-absent (λ items. items ++ more) groups alone)) each.1,
          )
      by false e changed h rest = (each.0, rest changed h)

  -- what holds of no items and of each group's items, holds of the items of a name
  pub items_of-each : (J : List X → Type 0) → J [] → (groups : List (Group X)) → IsDistinct same (group_names groups) →
      AllByRecursion (λ group. J group.items) groups → J (items_of name groups)
  items_of-each J none [] distinct each = none
  items_of-each J none (group ∷ groups) distinct each =
      by (same name group.name) refl (items_of-each J none groups (distinct-rest group groups distinct) each.1)
    where
      by : (b : Bool) → same name group.name ≡ b → J (items_of name groups) → J (cond b group.items [] ++ items_of name groups)
      by true e rest = subst J (sym (ap (λ list. group.items ++ list) (no_items groups (only_one group groups distinct e)) ∙ append-nil group.items)) each.0
      by false e rest = rest

  -- items added to the group of this name, or to a new one
  pub groups-added : (N : Name → Type 0) (I : List X → Type 0) (more : List X) (groups : List (Group X)) → AreGroups N I groups → N name
      → I (items_of name groups ++ more)
      → AreGroups N I (in_set name (λ items. items ++ more) groups)
  groups-added N I more groups lawful label new = by (has_group groups name) refl
    where
      by : (b : Bool) → has_group groups name ≡ b →
          AreGroups N I (cond b (in_group name (λ items. items ++ more) groups) (groups ++ record { name = name; items = more } ∷ []))
      by true there = record {
        names = subst (AllByRecursion N) (sym (names-in_group (λ items. items ++ more) groups)) lawful.names;
        distinct = subst (IsDistinct same) (sym (names-in_group (λ items. items ++ more) groups)) lawful.distinct;
        items = items-in_group I more groups lawful.distinct lawful.items new there;
      }
      by false absent =
          let added : group_names groups ++ name ∷ [] ≡ group_names (groups ++ record { name = name; items = more } ∷ []) =
          sym (map-append (λ group. group.name) groups (record { name = name; items = more } ∷ [])) in
          record {
            names = subst (AllByRecursion N) added (each-push N (group_names groups) name lawful.names label);
            distinct =
                subst (IsDistinct same) added
                (distinct-push same (group_names groups) name lawful.distinct
                (absent-apart (group_names groups) name (sym (has_group-names groups name) ∙ absent)));
            items =
                each-push (λ group. I group.items) groups (record { name = name; items = more }) lawful.items
                (subst I (ap (λ list. list ++ more) (no_items groups absent)) new);
          }

  -- how many groups there are then
  pub count-added : (f : List X → List X) (groups : List (Group X)) →
      length (in_set name f groups) ≡ cond (has_group groups name) (length groups) (length groups + 1)
  count-added f groups = by (has_group groups name)
    where
      kept : (groups : List (Group X)) → length (in_group name f groups) ≡ length groups
      kept [] = refl
      kept (group ∷ groups) = ap (λ n. suc n) (kept groups)

      by : (b : Bool) →
          length (cond b (in_group name f groups) (groups ++ record { name = name; items = f [] } ∷ [])) ≡ cond b (length groups) (length groups + 1)
      by true = kept groups
      by false = length-append groups (record { name = name; items = f [] } ∷ [])

  -- how many items they have then
  pub items-added : (more : List X) (groups : List (Group X)) → IsDistinct same (group_names groups)
      → sum_by (λ group. length group.items) (in_set name (λ items. items ++ more) groups) ≡ sum_by (λ group. length group.items) groups + length more
  items-added more groups distinct = by (has_group groups name) refl
    where
      first : (group : Group X) (rest : List (Group X)) →
          sum_by (λ group. length group.items) (group ∷ rest) ≡ length group.items + sum_by (λ group. length group.items) rest
      first group rest = omega (arith, sum_by-append (λ group. length group.items) (group ∷ []) rest)

      inner : (groups : List (Group X)) → IsDistinct same (group_names groups) → has_group groups name ≡ true
          → sum_by (λ group. length group.items) (in_group name (λ items. items ++ more) groups) ≡ sum_by (λ group. length group.items) groups + length more
      inner [] distinct there = absurd (cc there)
      inner (group ∷ groups) distinct there = at (same name group.name) refl there (inner groups (distinct-rest group groups distinct))
        where
          at : (b : Bool) → same name group.name ≡ b → (b || has_group groups name) ≡ true
              → (has_group groups name ≡ true
              → sum_by (λ group. length group.items) (in_group name (λ items. items ++ more) groups) ≡ sum_by
              (λ group. length group.items) groups + length more)
              → sum_by (λ group. length group.items)
              (cond b (record { name = group.name; items = group.items ++ more }) group ∷ in_group name (λ items. items ++ more) groups) ≡ sum_by
              (λ group. length group.items) (group ∷ groups) + length more
          at true e h rest =
              let alone = only_one group groups distinct e in
              let new : Group X = record { name = group.name; items = group.items ++ more } in
              ap (λ list. sum_by (λ group. length group.items) (new ∷ list)) (in_group-absent (λ items. items ++ more) groups alone)
              ∙ omega (arith, first new groups, first group groups, length-append group.items more)
          at false e h rest = omega (arith, first group (in_group name (λ items. items ++ more) groups), first group groups, rest h)

      by : (b : Bool) → has_group groups name ≡ b
          → sum_by (λ group. length group.items)
          (cond b (in_group name (λ items. items ++ more) groups) (groups ++ record { name = name; items = more } ∷ [])) ≡ sum_by
          (λ group. length group.items) groups + length more
      by true there = inner groups distinct there
      by false absent =
          omega (
            arith,
            sum_by-append (λ group. length group.items) groups (record { name = name; items = more } ∷ []),
            first
                (record { name = name; items = more }) [],
          )

  -- a group that was there is there
  pub has_group-added : (f : List X → List X) (groups : List (Group X)) (other : Name) → has_group groups other ≡ true →
      has_group (in_set name f groups) other ≡ true
  has_group-added f groups other there = by (has_group groups name)
    where
      by : (b : Bool) → has_group (cond b (in_group name f groups) (groups ++ record { name = name; items = f [] } ∷ [])) other ≡ true
      by true =
          has_group-names (in_group name f groups) other ∙ ap (λ names. has_name names other) (names-in_group f groups) ∙ sym (has_group-names groups other)
          ∙ there
      by false = list_any-append (λ group. same other group.name) groups (record { name = name; items = f [] } ∷ []) ∙ rw there refl
