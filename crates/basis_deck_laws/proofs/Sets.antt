-- The cards of the groups of a section are accepted, and add those groups, where each card does.
use Rattle.std.proofs.Common.{◌≡◌, ℕ, Bool, true, false, cond, ◌||◌, List, [], ◌∷◌, ◌++◌, Some, map, refl, ap, ap₂, sym, ◌∙◌, subst}
use Rattle.std.specs.List.{AllByRecursion, IsDistinct, flat_map}
use Rattle.std.proofs.lemmas.List.{append_assoc, append-nil, map-append}
use Rattle.card_definitions.specs.Words.{is_empty}
use Rattle.problem_definitions.specs.Names.{Name, same}
use Rattle.problem_definitions.specs.Problem.{Group, Problem, group_names, has_group}
use Rattle.problem_definitions.specs.Groups.{items_of, in_group, in_set}
use Rattle.problem_definitions.proofs.Names.{same_refl}
use Rattle.problem_definitions.proofs.Groups.{has_group-names, items_of-absent, items_of-push}
use Rattle.deck_definitions.specs.declared.Section.{Section}
use Rattle.basis_deck_laws.proofs.Accepts.{Accepts, accepts-none, accepts-then}
use Rattle.basis_deck_laws.proofs.Facts.{apart-before, absent-before}

module _ {X : Type 0} where
  -- some groups, and after them the items taken so far of one more, which is there once it has an item
  abbrev pub groups_at : List (Group X) → Name → List X → List (Group X)
  groups_at done name [] = done
  groups_at done name (item ∷ items) = done ++ record { name = name; items = item ∷ items } ∷ []

  pub has-last : (done : List (Group X)) (group : Group X) → has_group (done ++ group ∷ []) group.name ≡ true
  has-last [] group = ap (λ b. b || false) (same_refl group.name)
  has-last (other ∷ done) group = ap (λ b. same group.name other.name || b) (has-last done group) ∙ by (same group.name other.name)
    where
      by : (b : Bool) → (b || true) ≡ true
      by true = refl
      by false = refl

  change-last : (f : List X → List X) (done : List (Group X)) (group : Group X) → has_group done group.name ≡ false →
      in_group group.name f (done ++ group ∷ []) ≡ done ++ record { name = group.name; items = f group.items } ∷ []
  change-last f [] group absent = ap (λ b. cond b (record { name = group.name; items = f group.items }) group ∷ []) (same_refl group.name)
  change-last f (other ∷ done) group absent = by (same group.name other.name) absent (change-last f done group)
    where
      by : (b : Bool) → (b || has_group done group.name) ≡ false
          → (has_group done group.name ≡ false → in_group group.name f (done ++ group ∷ []) ≡ done ++ record { name = group.name; items = f group.items } ∷ [])
          → cond b (record { name = other.name; items = f other.items }) other ∷ in_group group.name f (done ++ group ∷ []) ≡ other ∷
          (done ++ record { name = group.name; items = f group.items } ∷ [])
      by true h rest = absurd (cc h)
      by false h rest = ap (λ list. other ∷ list) (rest h)

  -- one more item of the last group
  pub item-added : (done : List (Group X)) (name : Name) (taken : List X) (item : X) → has_group done name ≡ false
      → in_set name (λ items. items ++ item ∷ []) (groups_at done name taken) ≡ groups_at done name (taken ++ item ∷ [])
  item-added done name [] item absent =
      ap (λ b. cond b (in_group name (λ items. items ++ item ∷ []) done) (done ++ record { name = name; items = item ∷ [] } ∷ [])) absent
  item-added done name (first ∷ taken) item absent =
      let group : Group X = record { name = name; items = first ∷ taken } in
      ap (λ b. cond b (in_group name (λ items. items ++ item ∷ []) (done ++ group ∷ []))
      ((done ++ group ∷ []) ++ record { name = name; items = item ∷ [] } ∷ [])) (has-last done group)
      ∙ change-last (λ items. items ++ item ∷ []) done group absent

  -- the items that the last group has so far
  pub items-taken : (done : List (Group X)) (name : Name) (taken : List X) → has_group done name ≡ false → items_of name (groups_at done name taken) ≡ taken
  items-taken done name [] absent = items_of-absent name done (sym (has_group-names done name) ∙ absent)
  items-taken done name (first ∷ taken) absent =
      items_of-push name done (record { name = name; items = first ∷ taken })
      ∙ ap₂ (λ items b. items ++ cond b (first ∷ taken) []) (items_of-absent name done (sym (has_group-names done name) ∙ absent)) (same_refl name)

  -- a group of distinct ones isn't among those before it
  pub new-group : (done : List (Group X)) (group : Group X) (after : List (Group X)) → IsDistinct same (group_names (done ++ group ∷ after)) →
      has_group done group.name ≡ false
  new-group done group after distinct =
      has_group-names done group.name
      ∙ absent-before (group_names done) group.name
      (apart-before same (group_names done) group.name (group_names after)
      (subst (IsDistinct same) (map-append (λ (g : Group X). g.name) done (group ∷ after)) distinct))

  module _ (place : Section) (put : List (Group X) → Problem Name) (card : Name → X → List ℕ) (whole : List (Group X)) where
    -- each card of the groups adds its item, after the cards before it
    abbrev pub EachAdds : Type 0
    EachAdds =
        (done : List (Group X)) (group : Group X) (after : List (Group X)) → done ++ group ∷ after ≡ whole → (taken : List X) (item : X) (items : List X)
        → taken ++ item ∷ items ≡ group.items
        → Accepts (Some place) (put (groups_at done group.name taken)) (card group.name item ∷ []) (Some place)
        (put (in_set group.name (λ items. items ++ item ∷ []) (groups_at done group.name taken)))

    items-accepted : EachAdds → (done : List (Group X)) (group : Group X) (after : List (Group X)) → done ++ group ∷ after ≡ whole
        → has_group done group.name ≡ false → (taken items : List X) → taken ++ items ≡ group.items
        → Accepts (Some place) (put (groups_at done group.name taken)) (map (card group.name) items) (Some place)
        (put (groups_at done group.name (taken ++ items)))
    items-accepted each done group after e absent taken [] h =
        subst (λ all. Accepts (Some place) (put (groups_at done group.name taken)) [] (Some place) (put (groups_at done group.name all)))
        (sym (append-nil taken)) (accepts-none (Some place) (put (groups_at done group.name taken)))
    items-accepted each done group after e absent taken (item ∷ items) h =
        subst (λ all. Accepts (Some place) (put (groups_at done group.name taken)) (map (card group.name) (item ∷ items)) (Some place)
        (put (groups_at done group.name all))) (append_assoc taken (item ∷ []) items)
        (accepts-then (card group.name item ∷ []) (map (card group.name) items)
        (subst (λ groups. Accepts (Some place) (put (groups_at done group.name taken)) (card group.name item ∷ []) (Some place) (put groups))
        (item-added done group.name taken item absent) (each done group after e taken item items h))
        (items-accepted each done group after e absent (taken ++ item ∷ []) items (append_assoc taken (item ∷ []) items ∙ h)))

    whole-group : (done : List (Group X)) (group : Group X) → is_empty group.items ≡ false → groups_at done group.name group.items ≡ done ++ group ∷ []
    whole-group done group some = by group.items refl some
      where
        by : (items : List X) → group.items ≡ items → is_empty items ≡ false → groups_at done group.name items ≡ done ++ group ∷ []
        by [] e h = absurd (cc h)
        by (item ∷ items) e h = ap (λ items. done ++ record { name = group.name; items = items } ∷ []) (sym e)

    -- The cards of groups add them to those that are there.
    pub groups-accepted : EachAdds → IsDistinct same (group_names whole) → (done groups : List (Group X)) → done ++ groups ≡ whole
        → AllByRecursion (λ (group : Group X). is_empty group.items ≡ false) groups
        → Accepts (Some place) (put done) (flat_map (λ group. map (card group.name) group.items) groups) (Some place) (put whole)
    groups-accepted each distinct done [] e some =
        subst (λ all. Accepts (Some place) (put done) [] (Some place) (put all)) (sym (append-nil done) ∙ e) (accepts-none (Some place) (put done))
    groups-accepted each distinct done (group ∷ groups) e some =
        accepts-then (map (card group.name) group.items) (flat_map (λ group. map (card group.name) group.items) groups)
        (subst (λ all. Accepts (Some place) (put done) (map (card group.name) group.items) (Some place) (put all)) (whole-group done group some.0)
        (items-accepted each done group groups e
        (new-group done group groups (subst (λ all. IsDistinct same (group_names all)) (sym e) distinct)) [] group.items refl))
        (groups-accepted each distinct (done ++ group ∷ []) groups (append_assoc done (group ∷ []) groups ∙ e) some.1)
