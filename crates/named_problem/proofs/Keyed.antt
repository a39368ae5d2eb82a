-- Lists of names with values, seen as rows or as entries.
use Rattle.std.proofs.Common.{◌≡◌, Bool, true, false, cond, not, ◌||◌, ◌&&◌, List, [], ◌∷◌, Some, map, is_some, refl, ap, sym, subst, ◌∙◌}
use Rattle.std.specs.List.{list_any, IsDistinct, AllByRecursion}
use Rattle.std.specs.Map.{lookup, keys_of}
use Rattle.std.specs.Option.{option_map_or}
use Rattle.problem_definitions.specs.Kinds.{is_free_kind}
use Rattle.problem_definitions.specs.Names.{Name, same}
use Rattle.problem_definitions.specs.Problem.{Row, has_row, has_free_row, has_combination, has_entry}
use Rattle.problem_definitions.proofs.Names.{same_eq}
use Rattle.named_problem.specs.declared.on_row.OnRow.{OnRow}
use Rattle.named_problem.specs.declared.rows.RowBody.{RowBody}
use Rattle.named_problem.specs.Views.{entry_at}
use Rattle.named_problem.specs.Bodies.{row_at}

module _ {V X : Type 0} (f : Name × V → X) (name_of : X → Name) (own : (e : Name × V) → name_of (f e) ≡ e.0) where
  -- a name is looked up where something of this name is there
  pub there : (name : Name) (es : List (Name × V)) → is_some (lookup (same name) es) ≡ list_any (λ x. same name (name_of x)) (map f es)
  there name [] = refl
  there name (e ∷ es) = by (same name e.0) (there name es) ∙ ap (λ n. same name n || list_any (λ x. same name (name_of x)) (map f es)) (sym (own e))
    where
      by : (b : Bool) → is_some (lookup (same name) es) ≡ list_any (λ x. same name (name_of x)) (map f es) →
          is_some (cond b (Some e.1) (lookup (same name) es)) ≡ (b || list_any (λ x. same name (name_of x)) (map f es))
      by true rest = refl
      by false rest = rest

pub entry_is_there : (name : Name) (es : List (Name × OnRow)) → is_some (lookup (same name) es) ≡ has_entry (map entry_at es) name
entry_is_there name es = there entry_at (λ entry. entry.row) (λ e. refl) name es

-- the names of the rows
pub names-rows : (es : List (Name × RowBody)) → map (λ row. row.name) (map row_at es) ≡ keys_of es
names-rows [] = refl
names-rows (e ∷ es) = ap (λ names. e.0 ∷ names) (names-rows es)

pub row_is_there : (name : Name) (es : List (Name × RowBody)) → is_some (lookup (same name) es) ≡ has_row (map row_at es) name
row_is_there name es = there row_at (λ row. row.name) (λ e. refl) name es

or_false : (a b : Bool) → b ≡ false → (a || b) ≡ a
or_false true b e = refl
or_false false b e = e

-- a test of rows that looks at what they are made of
module _ (test : Row Name → Bool) (body_test : RowBody → Bool) (tells : (e : Name × RowBody) → test (row_at e) ≡ body_test e.1) where
  -- where no row has a name, no row that passes the test has it
  none_passes : (name : Name) (es : List (Name × RowBody)) → AllByRecursion (λ other. same name other ≡ false) (keys_of es) →
      list_any (λ row. same name row.name && test row) (map row_at es) ≡ false
  none_passes name [] h = refl
  none_passes name (e ∷ es) h = rw (h.0) (none_passes name es h.1)

  -- what the row of a name is made of tells whether it passes the test
  pub passes_by_name : (name : Name) (es : List (Name × RowBody)) → IsDistinct same (keys_of es) →
      list_any (λ row. same name row.name && test row) (map row_at es) ≡ option_map_or body_test (lookup (same name) es) false
  unfolding IsDistinct
  passes_by_name name [] distinct = refl
  passes_by_name name (e ∷ es) distinct =
      ap (λ b. same name e.0 && b || list_any (λ row. same name row.name && test row) (map row_at es)) (tells e)
      ∙ by (same name e.0) refl (passes_by_name name es distinct.1)
    where
      by : (b : Bool) → same name e.0 ≡ b
          → list_any (λ row. same name row.name && test row) (map row_at es) ≡ option_map_or body_test (lookup (same name) es) false
          → (b && body_test e.1 || list_any (λ row. same name row.name && test row) (map row_at es)) ≡ option_map_or body_test
          (cond b (Some e.1) (lookup (same name) es)) false
      by true is rest = or_false (body_test e.1) (list_any (λ row. same name row.name && test row) (map row_at es))
          (none_passes name es (subst (λ n. AllByRecursion (λ other. same n other ≡ false) (keys_of es)) (sym (same_eq name e.0 is)) distinct.0))
      by false is rest = rest

-- the type of the row of a name tells whether it is free, and its parts whether it is a combination
pub free_by_name : (name : Name) (es : List (Name × RowBody)) → IsDistinct same (keys_of es) →
    has_free_row (map row_at es) name ≡ option_map_or (λ body. is_free_kind body.kind) (lookup (same name) es) false
free_by_name name es distinct = passes_by_name (λ row. is_free_kind row.kind) (λ body. is_free_kind body.kind) (λ e. refl) name es distinct

pub combination_by_name : (name : Name) (es : List (Name × RowBody)) → IsDistinct same (keys_of es) →
    has_combination (map row_at es) name ≡ option_map_or (λ body. is_some body.parts) (lookup (same name) es) false
combination_by_name name es distinct = passes_by_name (λ row. is_some row.parts) (λ body. is_some body.parts) (λ e. refl) name es distinct

-- whether a name was there, by whether it is new
pub was_there : (is_new there : Bool) → is_new ≡ not there → is_new ≡ false → there ≡ true
was_there is_new true e h = refl
was_there is_new false e h = absurd (cc (e, h))

pub was_new : (is_new there : Bool) → is_new ≡ not there → is_new ≡ true → there ≡ false
was_new is_new true e h = absurd (cc (e, h))
was_new is_new false e h = refl
