-- Lists of names with values, in which one is put, changed or taken out, and what they stand for.
use Rattle.std.proofs.Common.{◌≡◌, ℕ, zero, suc, Bool, true, false, cond, not, List, [], ◌∷◌, ◌++◌, Some, length, map, filter, insert, remove, is_some}
use Rattle.std.proofs.Common.{slice_get, min, refl, ap, sym, ◌∙◌, subst, arith}
use Rattle.std.specs.List.{IsDistinct, AllByRecursion}
use Rattle.std.specs.Map.{lookup, keys_of, set_value}
use Rattle.std.specs.Option.{option_map_or}
use Rattle.std.proofs.lemmas.List.{map-append}
use Rattle.indexmap.specs.IndexMap.{insert_entry, shift_remove_entry, move_index}
use Rattle.problem_definitions.specs.Names.{Name, same}
use Rattle.problem_definitions.specs.Problem.{Group, has_entry, has_group}
use Rattle.problem_definitions.specs.Groups.{in_group}
use Rattle.problem_definitions.proofs.Names.{same_eq, same_refl}
use Rattle.problem_definitions.proofs.Groups.{map_agree, map-id}
use Rattle.named_problem.proofs.Keyed.{entry_is_there}
use Rattle.revise_definitions.specs.Edits.{put_entry}
use Rattle.named_problem.specs.declared.on_row.OnRow.{OnRow}
use Rattle.named_problem.specs.Views.{entry_at}

-- ---- a new value

module _ {X : Type 0} (x : X) where
  last_there : (xs : List X) → slice_get (xs ++ x ∷ []) (length xs) ≡ Some x
  last_there [] = refl
  last_there (y ∷ xs) = last_there xs

  last_removed : (xs : List X) → remove (xs ++ x ∷ []) (length xs) ≡ xs
  last_removed [] = refl
  last_removed (y ∷ xs) = ap (λ ys. y ∷ ys) (last_removed xs)

  pub at_end : (xs : List X) → insert xs (length xs) x ≡ xs ++ x ∷ []
  at_end [] = refl
  at_end (y ∷ xs) = ap (λ ys. y ∷ ys) (at_end xs)

  -- the place of a new element is its list's end where the list is shorter
  clamped : (xs : List X) (place slot : ℕ) → slot ≡ min place (length xs) → insert xs slot x ≡ insert xs place x
  clamped [] zero zero e = refl
  clamped [] (suc place) zero e = refl
  clamped [] place (suc slot) e = absurd (omega (arith, e))
  clamped (y ∷ xs) zero zero e = refl
  clamped (y ∷ xs) zero (suc slot) e = absurd (omega (arith, e))
  clamped (y ∷ xs) (suc place) zero e = absurd (omega (arith, e))
  clamped (y ∷ xs) (suc place) (suc slot) e = let inner : slot ≡ min place (length xs) = omega (arith, e) in ap (λ ys. y ∷ ys) (clamped xs place slot inner)

module _ {V : Type 0} (name : Name) (v : V) where
  pub appended : (es : List (Name × V)) → is_some (lookup (same name) es) ≡ false → insert_entry same es name v ≡ es ++ (name, v) ∷ []
  appended [] absent = refl
  appended (e ∷ es) absent = by (same name e.0) (appended es) absent
    where
      by : (b : Bool) → (is_some (lookup (same name) es) ≡ false → insert_entry same es name v ≡ es ++ (name, v) ∷ []) →
          is_some (cond b (Some e.1) (lookup (same name) es)) ≡ false → cond b ((e.0, v) ∷ es) (e ∷ insert_entry same es name v) ≡ e ∷ (es ++ (name, v) ∷ [])
      by true more h = absurd (cc h)
      by false more h = ap (λ rest. e ∷ rest) (more h)

  moved : (es more : List (Name × V)) (last slot : ℕ) → more ≡ es ++ (name, v) ∷ [] → last ≡ length es → move_index more last slot ≡ insert es slot (name, v)
  moved es more last slot is at =
      let whole = es ++ (name, v) ∷ [] in
      ap (λ list. move_index list last slot) is ∙ ap (λ from. move_index whole from slot) at
      ∙ ap (λ found. option_map_or (λ x. insert (remove whole (length es)) slot x) found whole) (last_there (name, v) es)
      ∙ ap (λ rest. insert rest slot (name, v)) (last_removed (name, v) es)

  -- a value that is put at the end under a new name and then moved
  pub placed : (es more after : List (Name × V)) (place last slot : ℕ) → is_some (lookup (same name) es) ≡ false → more ≡ insert_entry same es name v
      → last ≡ length es → slot ≡ min place last → after ≡ move_index more last slot
      → after ≡ insert es place (name, v)
  placed es more after place last slot absent is at slot_is moves =
      moves ∙ moved es more last slot (is ∙ appended es absent) at ∙ clamped (name, v) es place slot (slot_is ∙ ap (min place) at)

  pub lookup-own : (es : List (Name × V)) → lookup (same name) (insert_entry same es name v) ≡ Some v
  lookup-own [] = rw (same_refl name) refl
  lookup-own (e ∷ es) = by (same name e.0) refl (lookup-own es)
    where
      by : (b : Bool) → same name e.0 ≡ b → lookup (same name) (insert_entry same es name v) ≡ Some v →
          lookup (same name) (cond b ((e.0, v) ∷ es) (e ∷ insert_entry same es name v)) ≡ Some v
      by true is more = rw is refl
      by false is more = rw is more

  pub lookup-other : (other : Name) (es : List (Name × V)) → same other name ≡ false →
      lookup (same other) (insert_entry same es name v) ≡ lookup (same other) es
  lookup-other other [] unlike = rw unlike refl
  lookup-other other (e ∷ es) unlike = by (same name e.0) refl (lookup-other other es unlike)
    where
      by : (b : Bool) → same name e.0 ≡ b → lookup (same other) (insert_entry same es name v) ≡ lookup (same other) es →
          lookup (same other) (cond b ((e.0, v) ∷ es) (e ∷ insert_entry same es name v)) ≡ cond (same other e.0) (Some e.1) (lookup (same other) es)
      by true is more = let unlike_there : same other e.0 ≡ false = subst (λ n. same other n ≡ false) (same_eq name e.0 is) unlike in rw unlike_there refl
      by false is more = ap (λ rest. cond (same other e.0) (Some e.1) rest) more

-- ---- what names with values stand for

module _ {V X : Type 0} (f : Name × V → X) (name_of : X → Name) (own : (e : Name × V) → name_of (f e) ≡ e.0) where
  kept : (name : Name) (es : List (Name × V)) → AllByRecursion (λ other. same name other ≡ false) (keys_of es) →
      filter (λ x. not (same name (name_of x))) (map f es) ≡ map f es
  kept name [] apart = refl
  kept name (e ∷ es) apart =
      ap (λ b. cond (not b) (f e ∷ filter (λ x. not (same name (name_of x))) (map f es)) (filter (λ x. not (same name (name_of x))) (map f es)))
      (ap (same name) (own e) ∙ apart.0)
      ∙ ap (λ rest. f e ∷ rest) (kept name es apart.1)

  pub apart_from : (name : Name) (e : Name × V) (es : List (Name × V)) → same name e.0 ≡ true → AllByRecursion (λ other. same e.0 other ≡ false) (keys_of es) →
      AllByRecursion (λ other. same name other ≡ false) (keys_of es)
  apart_from name e es is h = subst (λ n. AllByRecursion (λ other. same n other ≡ false) (keys_of es)) (sym (same_eq name e.0 is)) h

  -- the one of a name is taken out
  pub removed : (name : Name) (es : List (Name × V)) → IsDistinct same (keys_of es) →
      map f (shift_remove_entry (same name) es) ≡ filter (λ x. not (same name (name_of x))) (map f es)
  unfolding IsDistinct
  removed name [] distinct = refl
  removed name (e ∷ es) distinct =
      by (same name e.0) refl (removed name es distinct.1)
      ∙ ap (λ n. cond (not (same name n)) (f e ∷ filter (λ x. not (same name (name_of x))) (map f es)) (filter (λ x. not (same name (name_of x))) (map f es)))
      (sym (own e))
    where
      by : (b : Bool) → same name e.0 ≡ b → map f (shift_remove_entry (same name) es) ≡ filter (λ x. not (same name (name_of x))) (map f es) →
          map f (cond b es (e ∷ shift_remove_entry (same name) es))
          ≡ cond (not b) (f e ∷ filter (λ x. not (same name (name_of x))) (map f es)) (filter (λ x. not (same name (name_of x))) (map f es))
      by true is more = sym (kept name es (apart_from name e es is distinct.0))
      by false is more = ap (λ rest. f e ∷ rest) more

  module _ (name : Name) (g : X → X) where
    abbrev changed : X → X
    changed x = cond (same name (name_of x)) (g x) x

    unchanged : (es : List (Name × V)) → AllByRecursion (λ other. same name other ≡ false) (keys_of es) → map changed (map f es) ≡ map f es
    unchanged [] apart = refl
    unchanged (e ∷ es) apart =
        ap (λ b. cond b (g (f e)) (f e) ∷ map changed (map f es)) (ap (same name) (own e) ∙ apart.0) ∙ ap (λ rest. f e ∷ rest) (unchanged es apart.1)

    -- the one of a name is replaced
    pub replaced : (v : V) → ((e : Name × V) → same name e.0 ≡ true → f (e.0, v) ≡ g (f e)) → (es : List (Name × V)) → IsDistinct same (keys_of es)
        → is_some (lookup (same name) es) ≡ true
        → map f (insert_entry same es name v) ≡ map changed (map f es)
    unfolding IsDistinct
    replaced v gives [] distinct found = absurd (cc found)
    replaced v gives (e ∷ es) distinct found =
        by (same name e.0) refl (replaced v gives es distinct.1) found ∙ ap (λ n. cond (same name n) (g (f e)) (f e) ∷ map changed (map f es)) (sym (own e))
      where
        by : (b : Bool) → same name e.0 ≡ b → (is_some (lookup (same name) es) ≡ true → map f (insert_entry same es name v) ≡ map changed (map f es)) →
            is_some (cond b (Some e.1) (lookup (same name) es)) ≡ true →
            map f (cond b ((e.0, v) ∷ es) (e ∷ insert_entry same es name v)) ≡ cond b (g (f e)) (f e) ∷ map changed (map f es)
        by true is more h = ap (λ x. x ∷ map f es) (gives e is) ∙ ap (λ rest. g (f e) ∷ rest) (sym (unchanged es (apart_from name e es is distinct.0)))
        by false is more h = ap (λ rest. f e ∷ rest) (more h)

    -- the one of a name is written
    pub written : (change : V → V) → ((e : Name × V) → f (e.0, change e.1) ≡ g (f e)) → (es : List (Name × V)) (v : V) → IsDistinct same (keys_of es)
        → lookup (same name) es ≡ Some v
        → map f (set_value (same name) es (change v)) ≡ map changed (map f es)
    unfolding IsDistinct
    written change gives [] v distinct found = absurd (cc found)
    written change gives (e ∷ es) v distinct found =
        by (same name e.0) refl found (written change gives es v distinct.1)
        ∙ ap (λ n. cond (same name n) (g (f e)) (f e) ∷ map changed (map f es)) (sym (own e))
      where
        by : (b : Bool) → same name e.0 ≡ b → cond b (Some e.1) (lookup (same name) es) ≡ Some v
            → (lookup (same name) es ≡ Some v → map f (set_value (same name) es (change v)) ≡ map changed (map f es))
            → map f (cond b ((e.0, change v) ∷ es) (e ∷ set_value (same name) es (change v))) ≡ cond b (g (f e)) (f e) ∷ map changed (map f es)
        by true is h more =
            let own_value : v ≡ e.1 = cc h in
            ap (λ w. f (e.0, change w) ∷ map f es) own_value ∙ ap (λ x. x ∷ map f es) (gives e)
            ∙ ap (λ rest. g (f e) ∷ rest) (sym (unchanged es (apart_from name e es is distinct.0)))
        by false is h more = ap (λ rest. f e ∷ rest) (more h)

    -- none is, where there is none of the name
    pub untouched : (es : List (Name × V)) → is_some (lookup (same name) es) ≡ false → map changed (map f es) ≡ map f es
    untouched [] absent = refl
    untouched (e ∷ es) absent = ap (λ n. cond (same name n) (g (f e)) (f e) ∷ map changed (map f es)) (own e) ∙ by (same name e.0) absent (untouched es)
      where
        by : (b : Bool) → is_some (cond b (Some e.1) (lookup (same name) es)) ≡ false →
            (is_some (lookup (same name) es) ≡ false → map changed (map f es) ≡ map f es) → cond b (g (f e)) (f e) ∷ map changed (map f es) ≡ f e ∷ map f es
        by true h more = absurd (cc h)
        by false h more = ap (λ rest. f e ∷ rest) (more h)

-- ---- entries

pub entry_put : (row : Name) (number : OnRow) (es : List (Name × OnRow)) → IsDistinct same (keys_of es) →
    map entry_at (insert_entry same es row number) ≡ put_entry (map entry_at es) (record { row = row; value = number.value })
entry_put row number es distinct = by (has_entry (map entry_at es) row) (entry_is_there row es)
  where
    by : (b : Bool) → is_some (lookup (same row) es) ≡ b → map entry_at (insert_entry same es row number)
        ≡ cond b (map (λ other. cond (same row other.row) (record { row = row; value = number.value }) other) (map entry_at es))
        (map entry_at es ++ record { row = row; value = number.value } ∷ [])
    by true found =
        replaced entry_at (λ entry. entry.row) (λ e. refl) row (λ other. record { row = row; value = number.value }) number
        (λ e is. ap (λ n. record { row = n; value = number.value }) (sym (same_eq row e.0 is))) es distinct found
    by false absent = ap (map entry_at) (appended row number es absent) ∙ map-append entry_at es ((row, number) ∷ [])

-- ---- groups

-- no group is changed where none has the name
pub unchanged_group : {X : Type 0} (name : Name) (f : List X → List X) (groups : List (Group X)) → has_group groups name ≡ false →
    in_group name f groups ≡ groups
unchanged_group {X} name f groups absent =
    map_agree (λ (group : Group X). same name group.name) (λ group. cond (same name group.name) (record { name = group.name; items = f group.items }) group)
    (λ group. group) (λ group unlike. rw unlike refl) groups absent
    ∙ map-id (λ group. group) (λ group. refl) groups
