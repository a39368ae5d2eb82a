-- The groups of a list with one more element: the step of a reader that goes card by card.
use Rattle.std.proofs.Common.{◌≡◌, Bool, true, false, cond, ◌||◌, List, [], ◌∷◌, ◌++◌, map, refl, ap, sym, ◌∙◌}
use Rattle.std.specs.List.{list_any}
use Rattle.std.proofs.lemmas.List.{map-append, append-nil}
use Rattle.std.proofs.lemmas.Grind.{flat_map-append}
use Rattle.problem_definitions.specs.Names.{Name, same, has_name, different}
use Rattle.problem_definitions.specs.Problem.{Group, group_names, has_group}
use Rattle.problem_definitions.specs.Groups.{items_of, grouped, in_set}
use Rattle.problem_definitions.proofs.Names.{same_sym, same_refl, has_name-different, different-push}

-- two functions that agree where a test fails map a list alike in which it fails throughout
pub map_agree : {A B : Type 0} (p : A → Bool) (f h : A → B) → ((x : A) → p x ≡ false → f x ≡ h x) → (xs : List A) → list_any p xs ≡ false → map f xs ≡ map h xs
map_agree p f h same_at [] none = refl
map_agree p f h same_at (x ∷ xs) none = by (p x) refl none (map_agree p f h same_at xs)
  where
    by : (b : Bool) → p x ≡ b → (b || list_any p xs) ≡ false → (list_any p xs ≡ false → map f xs ≡ map h xs) → (f x ∷ map f xs) ≡ (h x ∷ map h xs)
    by true e n rest = cc n
    by false e n rest = rw (same_at x e, rest n) refl

-- two functions that agree everywhere map a list alike
pub map_same : {A B : Type 0} (f h : A → B) → ((x : A) → f x ≡ h x) → (xs : List A) → map f xs ≡ map h xs
map_same f h same_at [] = refl
map_same f h same_at (x ∷ xs) = rw (same_at x, map_same f h same_at xs) refl

pub map-map : {A B C : Type 0} (g : B → C) (f : A → B) (xs : List A) → map g (map f xs) ≡ map (λ x. g (f x)) xs
map-map g f [] = refl
map-map g f (x ∷ xs) = ap (λ list. g (f x) ∷ list) (map-map g f xs)

pub map-id : {A : Type 0} (f : A → A) → ((x : A) → f x ≡ x) → (xs : List A) → map f xs ≡ xs
map-id f same_at [] = refl
map-id f same_at (x ∷ xs) = rw (same_at x, map-id f same_at xs) refl

module _ {X : Type 0} where
  -- the group of this name with all its items in a list
  abbrev pub group_in : List (Group X) → Name → Group X
  group_in cards name = record { name = name; items = items_of name cards }

  pub items_of-push : (name : Name) (cards : List (Group X)) (card : Group X) →
      items_of name (cards ++ card ∷ []) ≡ items_of name cards ++ cond (same name card.name) card.items []
  items_of-push name cards card =
      flat_map-append (λ group. cond (same name group.name) group.items []) cards (card ∷ [])
      ∙ ap (λ list. items_of name cards ++ list) (append-nil (cond (same name card.name) card.items []))

  -- no items of a name that no element has
  pub items_of-absent : (name : Name) (cards : List (Group X)) → has_name (group_names cards) name ≡ false → items_of name cards ≡ []
  items_of-absent name [] absent = refl
  items_of-absent name (card ∷ cards) absent = by (same name card.name) absent (items_of-absent name cards)
    where
      by : (b : Bool) → (b || has_name (group_names cards) name) ≡ false
          → (has_name (group_names cards) name ≡ false → items_of name cards ≡ []) → (cond b card.items [] ++ items_of name cards) ≡ []
      by true h rest = cc h
      by false h rest = rest h

  -- the names of the groups of a list
  pub names-grouped : (cards : List (Group X)) → group_names (grouped cards) ≡ different (group_names cards)
  names-grouped cards =
      map-map (λ group. group.name) (group_in cards) (different (group_names cards)) ∙ map-id (λ name. name) (λ name. refl) (different (group_names cards))

  -- the group with a card's items at its end where it has the card's name
  abbrev pub with_card : Group X → Group X → Group X
  with_card card group = cond (same card.name group.name) (record { name = group.name; items = group.items ++ card.items }) group

  -- a group of the longer list is the group of the list, with the card
  pub group_in-push : (cards : List (Group X)) (card : Group X) (name : Name) → group_in (cards ++ card ∷ []) name ≡ with_card card (group_in cards name)
  group_in-push cards card name =
      ap (λ items. record { name = name; items = items }) (items_of-push name cards card ∙ rw (same_sym name card.name) refl) ∙ by (same card.name name)
    where
      by : (b : Bool) → record { name = name; items = items_of name cards ++ cond b card.items [] }
          ≡ cond b (record { name = name; items = items_of name cards ++ card.items }) (group_in cards name)
      by true = refl
      by false = rw (append-nil (items_of name cards)) refl

  -- the group of a name that no element had is the card
  pub group_in-new : (cards : List (Group X)) (card : Group X) → has_name (group_names cards) card.name ≡ false → group_in (cards ++ card ∷ []) card.name ≡ card
  group_in-new cards card absent = ap (λ items. record { name = card.name; items = items })
      (items_of-push card.name cards card ∙ rw (items_of-absent card.name cards absent, same_refl card.name) refl)

  -- whether a group is there, by the groups and by their names
  pub has_group-names : (groups : List (Group X)) (name : Name) → has_group groups name ≡ has_name (group_names groups) name
  has_group-names [] name = refl
  has_group-names (group ∷ groups) name = ap (λ b. same name group.name || b) (has_group-names groups name)

  -- whether a group of this name is there, is whether an element has it
  pub has_group-grouped : (cards : List (Group X)) (name : Name) → has_group (grouped cards) name ≡ has_name (group_names cards) name
  has_group-grouped cards name =
      has_group-names (grouped cards) name ∙ ap (λ names. has_name names name) (names-grouped cards) ∙ has_name-different name (group_names cards)

  -- One more element is added to the group of its name, or is a new group at the end.
  pub grouped-push : (cards : List (Group X)) (card : Group X) → grouped (cards ++ card ∷ []) ≡ in_set card.name (λ items. items ++ card.items) (grouped cards)
  grouped-push cards card = regrouped ∙ by (has_name (group_names cards) card.name) refl
    where
      names : List Name
      names = different (group_names cards)

      regrouped : grouped (cards ++ card ∷ []) ≡ map (group_in (cards ++ card ∷ []))
          (cond (has_name (group_names cards) card.name) names (names ++ card.name ∷ []))
      regrouped = ap (λ list. map (group_in (cards ++ card ∷ [])) (different list)) (map-append (λ group. group.name) cards (card ∷ []))
          ∙ ap (map (group_in (cards ++ card ∷ []))) (different-push (group_names cards) card.name)

      changed : map (group_in (cards ++ card ∷ [])) names ≡ map (with_card card) (grouped cards)
      changed = map_same (group_in (cards ++ card ∷ [])) (λ name. with_card card (group_in cards name)) (group_in-push cards card) names
          ∙ sym (map-map (with_card card) (group_in cards) names)

      unlike : (name : Name) → same card.name name ≡ false → group_in (cards ++ card ∷ []) name ≡ group_in cards name
      unlike name e = group_in-push cards card name ∙ rw e refl

      by : (b : Bool) → has_name (group_names cards) card.name ≡ b → map (group_in (cards ++ card ∷ [])) (cond b names (names ++ card.name ∷ []))
          ≡ in_set card.name (λ items. items ++ card.items) (grouped cards)
      by true e = changed ∙ rw (has_group-grouped cards card.name ∙ e) refl
      by false e = map-append (group_in (cards ++ card ∷ [])) names (card.name ∷ [])
          ∙ rw (
            has_group-grouped cards card.name
                ∙ e,
            group_in-new cards card e,
            map_agree (same card.name) (group_in (cards ++ card ∷ [])) (group_in cards) unlike names
                (has_name-different card.name (group_names cards) ∙ e),
          ) refl
