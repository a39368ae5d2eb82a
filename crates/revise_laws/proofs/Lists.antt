-- Facts of the elements of lists, and of groups, that edits keep.
use Rattle.std.proofs.Common.{◌≡◌, ℕ, zero, suc, ◌+◌, ◌≤◌, Bool, true, false, cond, not, ◌||◌, List, [], ◌∷◌, ◌++◌, length, map, refl, ap, sym, ◌∙◌, subst}
use Rattle.std.proofs.Common.{arith}
use Rattle.std.specs.List.{AllByRecursion, IsDistinct, filter, insert, list_any, sum_by}
use Rattle.std.proofs.lemmas.List.{append-nil, map-append}
use Rattle.std.proofs.lemmas.List.Sums.{sum_by-cons}
use Rattle.card_definitions.specs.Words.{is_empty}
use Rattle.problem_definitions.specs.Names.{Name, same, has_name}
use Rattle.problem_definitions.specs.Problem.{Group, group_names, has_group}
use Rattle.problem_definitions.specs.Groups.{items_of, in_group, in_set, in_all, without_group, filled}
use Rattle.problem_definitions.proofs.Names.{same_eq}
use Rattle.problem_definitions.proofs.Groups.{items_of-absent, has_group-names, map-map}
use Rattle.problem_definitions.proofs.Each.{each-push, each-change, each-mapped, distinct-push, absent-apart, apart-absent}
use Rattle.problem_definitions.proofs.Lawful.{AreGroups}

-- ---- elements

module _ {X : Type 0} where
  pub each-filter : (P : X → Type 0) (p : X → Bool) (xs : List X) → AllByRecursion P xs → AllByRecursion P (filter p xs)
  each-filter P p [] each = tt
  each-filter P p (x ∷ xs) each = by (p x) (each-filter P p xs each.1)
    where
      by : (b : Bool) → AllByRecursion P (filter p xs) → AllByRecursion P (cond b (x ∷ filter p xs) (filter p xs))
      by true rest = (each.0, rest)
      by false rest = rest

  -- what the test says holds of each element that is left
  pub each-passes : (P Q : X → Type 0) (p : X → Bool) → ((x : X) → P x → p x ≡ true → Q x) → (xs : List X) → AllByRecursion P xs →
      AllByRecursion Q (filter p xs)
  each-passes P Q p change [] each = tt
  each-passes P Q p change (x ∷ xs) each = by (p x) refl (each-passes P Q p change xs each.1)
    where
      by : (b : Bool) → p x ≡ b → AllByRecursion Q (filter p xs) → AllByRecursion Q (cond b (x ∷ filter p xs) (filter p xs))
      by true e rest = (change x each.0 e, rest)
      by false e rest = rest

  pub distinct-filter : (e : X → X → Bool) (p : X → Bool) (xs : List X) → IsDistinct e xs → IsDistinct e (filter p xs)
  unfolding IsDistinct
  distinct-filter e p [] distinct = tt
  distinct-filter e p (x ∷ xs) distinct = by (p x) (distinct-filter e p xs distinct.1)
    where
      by : (b : Bool) → IsDistinct e (filter p xs) → IsDistinct e (cond b (x ∷ filter p xs) (filter p xs))
      by true rest = (each-filter (λ y. e x y ≡ false) p xs distinct.0, rest)
      by false rest = rest

  pub each-insert : (P : X → Type 0) (xs : List X) (place : ℕ) (x : X) → AllByRecursion P xs → P x → AllByRecursion P (insert xs place x)
  each-insert P xs zero x each new = (new, each)
  each-insert P [] (suc place) x each new = (new, tt)
  each-insert P (y ∷ xs) (suc place) x each new = (each.0, each-insert P xs place x each.1 new)

  -- one more element that is like none of the others
  pub distinct-insert : (e : X → X → Bool) → ((x y : X) → e x y ≡ e y x) → (xs : List X) (place : ℕ) (x : X) → IsDistinct e xs →
      AllByRecursion (λ y. e y x ≡ false) xs → IsDistinct e (insert xs place x)
  unfolding IsDistinct
  distinct-insert e turns xs zero x distinct apart = (each-change (λ y. e y x ≡ false) (λ y. e x y ≡ false) (λ y h. turns x y ∙ h) xs apart, distinct)
  distinct-insert e turns [] (suc place) x distinct apart = (tt, tt)
  distinct-insert e turns (y ∷ xs) (suc place) x distinct apart =
      (each-insert (λ z. e y z ≡ false) xs place x distinct.0 apart.0, distinct-insert e turns xs place x distinct.1 apart.1)

  pub length-inserted : (xs : List X) (place : ℕ) (x : X) → length (insert xs place x) ≡ length xs + 1
  length-inserted xs zero x = omega arith
  length-inserted [] (suc place) x = refl
  length-inserted (y ∷ xs) (suc place) x = omega (arith, length-inserted xs place x)

  pub sum-inserted : (f : X → ℕ) (xs : List X) (place : ℕ) (x : X) → sum_by f (insert xs place x) ≡ sum_by f xs + f x
  sum-inserted f xs zero x = omega (arith, sum_by-cons f x xs)
  sum-inserted f [] (suc place) x = omega (arith, sum_by-cons f x [])
  sum-inserted f (y ∷ xs) (suc place) x = omega (arith, sum-inserted f xs place x, sum_by-cons f y xs, sum_by-cons f y (insert xs place x))

  pub any-inserted : (p : X → Bool) (xs : List X) (place : ℕ) (x : X) → list_any p xs ≡ true → list_any p (insert xs place x) ≡ true
  any-inserted p xs zero x h = by (p x) h
    where
      by : (b : Bool) → list_any p xs ≡ true → (b || list_any p xs) ≡ true
      by true h = refl
      by false h = h
  any-inserted p [] (suc place) x h = absurd (cc h)
  any-inserted p (y ∷ xs) (suc place) x h = by (p y) h (any-inserted p xs place x)
    where
      by : (b : Bool) → (b || list_any p xs) ≡ true → (list_any p xs ≡ true → list_any p (insert xs place x) ≡ true) →
          (b || list_any p (insert xs place x)) ≡ true
      by true h rest = refl
      by false h rest = rest h

  -- one more element that doesn't pass decides nothing
  pub none-inserted : (p : X → Bool) (xs : List X) (place : ℕ) (x : X) → list_any p xs ≡ false → p x ≡ false → list_any p (insert xs place x) ≡ false
  none-inserted p xs zero x h new = rw (new, h) refl
  none-inserted p [] (suc place) x h new = rw new refl
  none-inserted p (y ∷ xs) (suc place) x h new = by (p y) h (none-inserted p xs place x)
    where
      by : (b : Bool) → (b || list_any p xs) ≡ false → (list_any p xs ≡ false → p x ≡ false → list_any p (insert xs place x) ≡ false) →
          (b || list_any p (insert xs place x)) ≡ false
      by true h rest = absurd (cc h)
      by false h rest = rest h new

  -- a test that no longer list meets
  pub none-filter : (p q : X → Bool) (xs : List X) → list_any p xs ≡ false → list_any p (filter q xs) ≡ false
  none-filter p q [] h = refl
  none-filter p q (x ∷ xs) h = by (q x) (p x) refl h (none-filter p q xs)
    where
      by : (a b : Bool) → p x ≡ b → (b || list_any p xs) ≡ false → (list_any p xs ≡ false → list_any p (filter q xs) ≡ false) →
          list_any p (cond a (x ∷ filter q xs) (filter q xs)) ≡ false
      by a true e h rest = absurd (cc h)
      by true false e h rest = rw e (rest h)
      by false false e h rest = rest h

  -- an element that passes stays, where the filter takes out none that passes
  pub any-filter : (p q : X → Bool) → ((x : X) → p x ≡ true → q x ≡ true) → (xs : List X) → list_any p xs ≡ true → list_any p (filter q xs) ≡ true
  any-filter p q stays [] h = absurd (cc h)
  any-filter p q stays (x ∷ xs) h = by (p x) (q x) refl refl h (any-filter p q stays xs)
    where
      by : (a b : Bool) → p x ≡ a → q x ≡ b → (a || list_any p xs) ≡ true → (list_any p xs ≡ true → list_any p (filter q xs) ≡ true) →
          list_any p (cond b (x ∷ filter q xs) (filter q xs)) ≡ true
      by true true e k h rest = rw e refl
      by true false e k h rest = absurd (cc (stays x e, k))
      by false true e k h rest = rw e (rest h)
      by false false e k h rest = rest h

  pub length-filter : (p : X → Bool) (xs : List X) → length (filter p xs) ≤ length xs
  length-filter p [] = omega arith
  length-filter p (x ∷ xs) = by (p x) (length-filter p xs)
    where
      by : (b : Bool) → length (filter p xs) ≤ length xs → length (cond b (x ∷ filter p xs) (filter p xs)) ≤ suc (length xs)
      by true h = omega (arith, h)
      by false h = omega (arith, h)

  pub sum-filter : (f : X → ℕ) (p : X → Bool) (xs : List X) → sum_by f (filter p xs) ≤ sum_by f xs
  sum-filter f p [] = omega arith
  sum-filter f p (x ∷ xs) = by (p x) (sum-filter f p xs)
    where
      by : (b : Bool) → sum_by f (filter p xs) ≤ sum_by f xs → sum_by f (cond b (x ∷ filter p xs) (filter p xs)) ≤ sum_by f (x ∷ xs)
      by true h = omega (arith, h, sum_by-cons f x xs, sum_by-cons f x (filter p xs))
      by false h = omega (arith, h, sum_by-cons f x xs)

pub map-filter : {X Y : Type 0} (f : X → Y) (p : Y → Bool) (xs : List X) → map f (filter (λ x. p (f x)) xs) ≡ filter p (map f xs)
map-filter f p [] = refl
map-filter f p (x ∷ xs) = by (p (f x)) (map-filter f p xs)
  where
    by : (b : Bool) → map f (filter (λ x. p (f x)) xs) ≡ filter p (map f xs) →
        map f (cond b (x ∷ filter (λ x. p (f x)) xs) (filter (λ x. p (f x)) xs)) ≡ cond b (f x ∷ filter p (map f xs)) (filter p (map f xs))
    by true rest = ap (λ ys. f x ∷ ys) rest
    by false rest = rest

pub each-mapped_filter : {X Y : Type 0} (P : Y → Type 0) (f : X → Y) (p : X → Bool) (xs : List X) → AllByRecursion P (map f xs) →
    AllByRecursion P (map f (filter p xs))
each-mapped_filter P f p [] each = tt
each-mapped_filter P f p (x ∷ xs) each = by (p x) (each-mapped_filter P f p xs each.1)
  where
    by : (b : Bool) → AllByRecursion P (map f (filter p xs)) → AllByRecursion P (map f (cond b (x ∷ filter p xs) (filter p xs)))
    by true rest = (each.0, rest)
    by false rest = rest

pub distinct-mapped_filter : {X Y : Type 0} (e : Y → Y → Bool) (f : X → Y) (p : X → Bool) (xs : List X) → IsDistinct e (map f xs) →
    IsDistinct e (map f (filter p xs))
unfolding IsDistinct
distinct-mapped_filter e f p [] distinct = tt
distinct-mapped_filter e f p (x ∷ xs) distinct = by (p x) (distinct-mapped_filter e f p xs distinct.1)
  where
    by : (b : Bool) → IsDistinct e (map f (filter p xs)) → IsDistinct e (map f (cond b (x ∷ filter p xs) (filter p xs)))
    by true rest = (each-mapped_filter (λ y. e (f x) y ≡ false) f p xs distinct.0, rest)
    by false rest = rest

pub map-insert : {X Y : Type 0} (f : X → Y) (xs : List X) (place : ℕ) (x : X) → map f (insert xs place x) ≡ insert (map f xs) place (f x)
map-insert f xs zero x = refl
map-insert f [] (suc place) x = refl
map-insert f (y ∷ xs) (suc place) x = ap (λ ys. f y ∷ ys) (map-insert f xs place x)

-- ---- groups

module _ {X : Type 0} (name : Name) where
  pub names-changed : (f : List X → List X) (groups : List (Group X)) → group_names (in_group name f groups) ≡ group_names groups
  names-changed f [] = refl
  names-changed f (group ∷ groups) = by (same name group.name) (names-changed f groups)
    where
      by : (b : Bool) → group_names (in_group name f groups) ≡ group_names groups →
          group_names (cond b (record { name = group.name; items = f group.items }) group ∷ in_group name f groups) ≡ group.name ∷ group_names groups
      by true rest = ap (λ names. group.name ∷ names) rest
      by false rest = ap (λ names. group.name ∷ names) rest

  changed-absent : (f : List X → List X) (groups : List (Group X)) → has_group groups name ≡ false → in_group name f groups ≡ groups
  changed-absent f [] absent = refl
  changed-absent f (group ∷ groups) absent = by (same name group.name) absent (changed-absent f groups)
    where
      by : (b : Bool) → (b || has_group groups name) ≡ false → (has_group groups name ≡ false → in_group name f groups ≡ groups) →
          cond b (record { name = group.name; items = f group.items }) group ∷ in_group name f groups ≡ group ∷ groups
      by true h rest = absurd (cc h)
      by false h rest = ap (λ list. group ∷ list) (rest h)

  -- after a group of this name there is no other
  alone : (group : Group X) (groups : List (Group X)) → IsDistinct same (group_names (group ∷ groups)) → same name group.name ≡ true →
      has_group groups name ≡ false
  unfolding IsDistinct
  alone group groups distinct e =
      has_group-names groups name
      ∙ apart-absent (group_names groups) name
      (subst (λ n. AllByRecursion (λ other. same n other ≡ false) (group_names groups)) (sym (same_eq name group.name e)) distinct.0)

  others_distinct : (group : Group X) (groups : List (Group X)) → IsDistinct same (group_names (group ∷ groups)) → IsDistinct same (group_names groups)
  unfolding IsDistinct
  others_distinct group groups distinct = distinct.1

  pub no_items : (groups : List (Group X)) → has_group groups name ≡ false → items_of name groups ≡ []
  no_items groups absent = items_of-absent name groups (sym (has_group-names groups name) ∙ absent)

  -- the change of a group is that of the items of its name
  pub changed-same : (f : List X → List X) (groups : List (Group X)) → IsDistinct same (group_names groups) →
      in_group name f groups ≡ in_group name (λ items. f (items_of name groups)) groups
  changed-same f [] distinct = refl
  changed-same f (group ∷ groups) distinct = by (same name group.name) refl (changed-same f groups (others_distinct group groups distinct))
    where
      by : (b : Bool) → same name group.name ≡ b → in_group name f groups ≡ in_group name (λ items. f (items_of name groups)) groups
          → cond b (record { name = group.name; items = f group.items }) group ∷ in_group name f groups
          ≡ cond b (record { name = group.name; items = f (cond b group.items [] ++ items_of name groups) }) group ∷ in_group name
          (λ items. f (cond b group.items [] ++ items_of name groups)) groups
      by true e rest =
          let only = alone group groups distinct e in
          rw (
            changed-absent f groups only,
            changed-absent
                (λ items. f (group.items ++ items_of name groups)) groups only,
            no_items groups only,
            append-nil group.items,
          ) refl
      by false e rest = ap (λ list. group ∷ list) rest

  items-replaced : (I J : List X → Type 0) → ((items : List X) → I items → J items) → (new : List X) → J new → (groups : List (Group X))
      → AllByRecursion (λ group. I group.items) groups
      → AllByRecursion (λ group. J group.items) (in_group name (λ items. new) groups)
  items-replaced I J change new is [] each = tt
  items-replaced I J change new is (group ∷ groups) each = by (same name group.name) (items-replaced I J change new is groups each.1)
    where
      by : (b : Bool) → AllByRecursion (λ group. J group.items) (in_group name (λ items. new) groups)
          → AllByRecursion (λ group. J group.items) (cond b (record { name = group.name; items = new }) group ∷ in_group name (λ items. new) groups)
      by true rest = (is, rest)
      by false rest = (change group.items each.0, rest)

  -- a group with changed items
  pub groups-changed : {N : Name → Type 0} (I J : List X → Type 0) (f : List X → List X) (groups : List (Group X)) → AreGroups N I groups
      → ((items : List X) → I items → J items) → J (f (items_of name groups))
      → AreGroups N J (in_group name f groups)
  groups-changed {N} I J f groups lawful change new = record {
    names = subst (AllByRecursion N) (sym (names-changed f groups)) lawful.names;
    distinct = subst (IsDistinct same) (sym (names-changed f groups)) lawful.distinct;
    items =
        subst (AllByRecursion (λ group. J group.items)) (sym (changed-same f groups lawful.distinct))
        (items-replaced I J change (f (items_of name groups)) new groups lawful.items);
  }

  -- a group with changed items, or a new one at the end
  pub groups-set : {N : Name → Type 0} (I : List X → Type 0) (f : List X → List X) (groups : List (Group X)) → AreGroups N I groups → N name →
      I (f (items_of name groups)) → AreGroups N I (in_set name f groups)
  groups-set {N} I f groups lawful label new = by (has_group groups name) refl
    where
      by : (b : Bool) → has_group groups name ≡ b → AreGroups N I (cond b (in_group name f groups) (groups ++ record { name = name; items = f [] } ∷ []))
      by true there = groups-changed I I f groups lawful (λ items i. i) new
      by false absent =
          let added : group_names groups ++ name ∷ [] ≡ group_names (groups ++ record { name = name; items = f [] } ∷ []) =
          sym (map-append (λ group. group.name) groups (record { name = name; items = f [] } ∷ [])) in
          record {
            names = subst (AllByRecursion N) added (each-push N (group_names groups) name lawful.names label);
            distinct =
                subst (IsDistinct same) added
                (distinct-push same (group_names groups) name lawful.distinct
                (absent-apart (group_names groups) name (sym (has_group-names groups name) ∙ absent)));
            items =
                each-push (λ group. I group.items) groups (record { name = name; items = f [] }) lawful.items
                (subst (λ items. I (f items)) (no_items groups absent) new);
          }

  pub has_group-changed : (f : List X → List X) (groups : List (Group X)) (other : Name) → has_group groups other ≡ true →
      has_group (in_group name f groups) other ≡ true
  has_group-changed f groups other there =
      has_group-names (in_group name f groups) other ∙ ap (λ names. has_name names other) (names-changed f groups) ∙ sym (has_group-names groups other) ∙ there

  pub length-changed : (f : List X → List X) (groups : List (Group X)) → length (in_group name f groups) ≡ length groups
  length-changed f [] = refl
  length-changed f (group ∷ groups) = ap (λ n. suc n) (length-changed f groups)

  -- how many items the groups have, once one is changed
  pub sum-changed : (f : List X → List X) (groups : List (Group X)) → IsDistinct same (group_names groups)
      → sum_by (λ group. length group.items) (in_group name f groups) + length (items_of name groups) ≤ sum_by (λ group. length group.items) groups + length
      (f (items_of name groups))
  sum-changed f [] distinct = omega arith
  sum-changed f (group ∷ groups) distinct = by (same name group.name) refl (sum-changed f groups (others_distinct group groups distinct))
    where
      count : List (Group X) → ℕ
      count list = sum_by (λ group. length group.items) list

      by : (b : Bool) → same name group.name ≡ b
          → sum_by (λ group. length group.items) (in_group name f groups) + length (items_of name groups) ≤ sum_by (λ group. length group.items) groups + length
          (f (items_of name groups))
          → sum_by (λ group. length group.items) (cond b (record { name = group.name; items = f group.items }) group ∷ in_group name f groups) + length
          (cond b group.items [] ++ items_of name groups)
          ≤ sum_by (λ group. length group.items) (group ∷ groups) + length (f (cond b group.items [] ++ items_of name groups))
      by true e rest =
          let only = alone group groups distinct e in
          rw (changed-absent f groups only, no_items groups only, append-nil group.items)
          (omega (
            arith,
            sum_by-cons (λ group. length group.items) group groups,
            sum_by-cons (λ group. length group.items)
                (record { name = group.name; items = f group.items }) groups,
          ))
      by false e rest =
          omega (arith, rest, sum_by-cons (λ group. length group.items) group groups, sum_by-cons (λ group. length group.items) group (in_group name f groups))

  -- the groups without that of this name
  pub groups-without : {N : Name → Type 0} (I J : List X → Type 0) → ((items : List X) → I items → J items) → (groups : List (Group X)) → AreGroups N I groups →
      AreGroups N J (without_group name groups)
  groups-without {N} I J change groups lawful = record {
    names = each-mapped_filter N (λ group. group.name) (λ group. not (same name group.name)) groups lawful.names;
    distinct = distinct-mapped_filter same (λ group. group.name) (λ group. not (same name group.name)) groups lawful.distinct;
    items =
        each-filter (λ group. J group.items) (λ group. not (same name group.name)) groups
        (each-change (λ (group : Group X). I group.items) (λ group. J group.items) (λ group i. change group.items i) groups lawful.items);
  }

module _ {X : Type 0} where
  -- the groups with other items in each
  pub groups-all : {N : Name → Type 0} (I J : List X → Type 0) (f : List X → List X) → ((items : List X) → I items → J (f items)) → (groups : List (Group X)) →
      AreGroups N I groups → AreGroups N J (in_all f groups)
  groups-all {N} I J f change groups lawful = record {
    names = subst (AllByRecursion N) (sym named) lawful.names;
    distinct = subst (IsDistinct same) (sym named) lawful.distinct;
    items = each-mapped (λ group. J group.items) (λ group. record { name = group.name; items = f group.items }) groups
        (each-change (λ (group : Group X). I group.items) (λ group. J (f group.items)) (λ group i. change group.items i) groups lawful.items);
  }
    where
      named : group_names (in_all f groups) ≡ group_names groups
      named = map-map (λ group. group.name) (λ group. record { name = group.name; items = f group.items }) groups

  -- the groups that have an item
  pub groups-filled : {N : Name → Type 0} (I J : List X → Type 0) → ((items : List X) → I items → is_empty items ≡ false → J items) →
      (groups : List (Group X)) → AreGroups N I groups → AreGroups N J (filled groups)
  groups-filled {N} I J change groups lawful = record {
    names = each-mapped_filter N (λ group. group.name) (λ group. not (is_empty group.items)) groups lawful.names;
    distinct = distinct-mapped_filter same (λ group. group.name) (λ group. not (is_empty group.items)) groups lawful.distinct;
    items =
        each-passes (λ group. I group.items) (λ group. J group.items) (λ group. not (is_empty group.items))
        (λ group i e. change group.items i (is_false (is_empty group.items) e)) groups lawful.items;
  }
    where
      is_false : (b : Bool) → not b ≡ true → b ≡ false
      is_false true e = absurd (cc e)
      is_false false e = refl

  -- fewer items in each
  pub sum-all : (f : List X → List X) → ((items : List X) → length (f items) ≤ length items) → (groups : List (Group X)) →
      sum_by (λ group. length group.items) (in_all f groups) ≤ sum_by (λ group. length group.items) groups
  sum-all f fewer [] = omega arith
  sum-all f fewer (group ∷ groups) =
      omega (
        arith,
        sum-all f fewer groups,
        fewer group.items,
        sum_by-cons (λ group. length group.items) group groups,
        sum_by-cons (λ group. length group.items)
            (record { name = group.name; items = f group.items }) (in_all f groups),
      )

  pub has_group-all : (f : List X → List X) (groups : List (Group X)) (name : Name) → has_group groups name ≡ true → has_group (in_all f groups) name ≡ true
  has_group-all f groups name there = has_group-names (in_all f groups) name
      ∙ ap (λ names. has_name names name) (map-map (λ group. group.name) (λ group. record { name = group.name; items = f group.items }) groups)
      ∙ sym (has_group-names groups name) ∙ there
