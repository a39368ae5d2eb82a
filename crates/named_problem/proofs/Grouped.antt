-- Lists of names with items, seen as columns or sets.
use Rattle.std.proofs.Common.{◌≡◌, Bool, true, false, cond, ◌||◌, List, [], ◌∷◌, ◌++◌, Some, map, is_some, unwrap_or, refl, ap, sym, subst, ◌∙◌}
use Rattle.std.specs.List.{IsDistinct, AllByRecursion}
use Rattle.std.specs.Map.{lookup, keys_of}
use Rattle.std.proofs.lemmas.List.{append-nil}
use Rattle.indexmap.specs.IndexMap.{insert_entry}
use Rattle.problem_definitions.specs.Names.{Name, same}
use Rattle.problem_definitions.specs.Problem.{has_group}
use Rattle.problem_definitions.specs.Groups.{items_of, in_group, in_set}
use Rattle.problem_definitions.proofs.Names.{same_eq}
use Rattle.named_problem.specs.Views.{group_at}

module _ {X : Type 0} where
  -- a name is looked up where its group is there
  pub group_is_there : (name : Name) (es : List (Name × List X)) → is_some (lookup (same name) es) ≡ has_group (map group_at es) name
  group_is_there name [] = refl
  group_is_there name (e ∷ es) = by (same name e.0) (group_is_there name es)
    where
      by : (b : Bool) → is_some (lookup (same name) es) ≡ has_group (map group_at es) name →
          is_some (cond b (Some e.1) (lookup (same name) es)) ≡ (b || has_group (map group_at es) name)
      by true rest = refl
      by false rest = rest

  apart : (name : Name) (e : Name × List X) (es : List (Name × List X)) → same name e.0 ≡ true → AllByRecursion (λ other. same e.0 other ≡ false) (keys_of es) →
      AllByRecursion (λ other. same name other ≡ false) (keys_of es)
  apart name e es is h = subst (λ n. AllByRecursion (λ other. same n other ≡ false) (keys_of es)) (sym (same_eq name e.0 is)) h

  -- groups of other names
  untouched : (name : Name) (f : List X → List X) (es : List (Name × List X)) → AllByRecursion (λ other. same name other ≡ false) (keys_of es) →
      in_group name f (map group_at es) ≡ map group_at es
  untouched name f [] h = refl
  untouched name f (e ∷ es) h = rw (h.0) (ap (λ groups. group_at e ∷ groups) (untouched name f es h.1))

  none_of : (name : Name) (es : List (Name × List X)) → AllByRecursion (λ other. same name other ≡ false) (keys_of es) → items_of name (map group_at es) ≡ []
  none_of name [] h = refl
  none_of name (e ∷ es) h = rw (h.0) (none_of name es h.1)

  -- the items of a name are what is looked up under it, or none
  pub items_found : (name : Name) (es : List (Name × List X)) → IsDistinct same (keys_of es) →
      unwrap_or (lookup (same name) es) [] ≡ items_of name (map group_at es)
  unfolding IsDistinct
  items_found name [] distinct = refl
  items_found name (e ∷ es) distinct = by (same name e.0) refl (items_found name es distinct.1)
    where
      by : (b : Bool) → same name e.0 ≡ b → unwrap_or (lookup (same name) es) [] ≡ items_of name (map group_at es)
          → unwrap_or (cond b (Some e.1) (lookup (same name) es)) [] ≡ cond b e.1 [] ++ items_of name (map group_at es)
      by true is rest = sym (ap (λ more. e.1 ++ more) (none_of name es (apart name e es is distinct.0)) ∙ append-nil e.1)
      by false is rest = rest

  -- a value that is put under a name changes the group of the name, or adds one
  pub put_in_set : (name : Name) (f : List X → List X) (es : List (Name × List X)) → IsDistinct same (keys_of es)
      → map group_at (insert_entry same es name (f (unwrap_or (lookup (same name) es) []))) ≡ in_set name f (map group_at es)
  unfolding IsDistinct
  put_in_set name f [] distinct = refl
  put_in_set name f (e ∷ es) distinct = by (same name e.0) refl (put_in_set name f es distinct.1)
    where
      after : (b : Bool) → (group_at e ∷ cond b (in_group name f (map group_at es)) (map group_at es ++ record { name = name; items = f [] } ∷ []))
          ≡ cond b (group_at e ∷ in_group name f (map group_at es)) ((group_at e ∷ map group_at es) ++ record { name = name; items = f [] } ∷ [])
      after true = refl
      after false = refl

      by : (b : Bool) → same name e.0 ≡ b
          → map group_at (insert_entry same es name (f (unwrap_or (lookup (same name) es) []))) ≡ in_set name f (map group_at es)
          → map group_at
          (cond b ((e.0, f (unwrap_or (cond b (Some e.1) (lookup (same name) es)) [])) ∷ es)
          (e ∷ insert_entry same es name (f (unwrap_or (cond b (Some e.1) (lookup (same name) es)) []))))
          ≡ cond (b || has_group (map group_at es) name) (cond b (record { name = e.0; items = f e.1 }) (group_at e) ∷ in_group name f (map group_at es))
          ((group_at e ∷ map group_at es) ++ record { name = name; items = f [] } ∷ [])
      by true is rest = ap (λ groups. record { name = e.0; items = f e.1 } ∷ groups) (sym (untouched name f es (apart name e es is distinct.0)))
      by false is rest = ap (λ groups. group_at e ∷ groups) rest ∙ after (has_group (map group_at es) name)
