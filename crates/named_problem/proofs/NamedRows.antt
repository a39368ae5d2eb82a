-- Names with the bodies of rows, and the rows that they stand for.
use Rattle.std.proofs.Common.{◌≡◌, ℕ, zero, suc, ◌+◌, ◌≤◌, Bool, true, false, cond, not, ◌||◌, ◌&&◌, List, [], ◌∷◌, ◌++◌, Some, None, map, length, take}
use Rattle.std.proofs.Common.{is_some, unwrap_or, nat_lt, refl, ap, ap₂, sym, ◌∙◌, arith}
use Rattle.std.specs.List.{list_any, position, position_or_len, IsDistinct, AllByRecursion}
use Rattle.std.specs.Map.{lookup, keys_of, set_value}
use Rattle.std.specs.Option.{option_and_then}
use Rattle.std.proofs.lemmas.List.{append-nil, length-map}
use Rattle.std.proofs.lemmas.List.Sums.{prefix_len-le-length}
use Rattle.std.proofs.lemmas.Bool.Decides.{nat_tests}
use Rattle.card_definitions.specs.Fields.{Reading}
use Rattle.problem_definitions.specs.Names.{Name, same}
use Rattle.problem_definitions.specs.Problem.{Row, Entry}
use Rattle.problem_definitions.specs.Parts.{parts_of, in_row}
use Rattle.revise_definitions.specs.Edits.{modify_row, retyped}
use Rattle.named_problem.specs.declared.rows.RowBody.{RowBody}
use Rattle.named_problem.specs.Bodies.{row_at, body_with, body_retyped}
use Rattle.named_problem.proofs.NamedValues.{apart_from, written, untouched}

no_parts : (name : Name) (es : List (Name × RowBody)) → AllByRecursion (λ other. same name other ≡ false) (keys_of es) → parts_of name (map row_at es) ≡ []
no_parts name [] apart = refl
no_parts name (e ∷ es) apart = rw (apart.0) (no_parts name es apart.1)

-- the parts of the row of a name
pub parts_found : (name : Name) (es : List (Name × RowBody)) → IsDistinct same (keys_of es) →
    unwrap_or (option_and_then (λ (body : RowBody). body.parts) (lookup (same name) es)) [] ≡ parts_of name (map row_at es)
unfolding IsDistinct
parts_found name [] distinct = refl
parts_found name (e ∷ es) distinct = by (same name e.0) refl (parts_found name es distinct.1)
  where
    by : (b : Bool) → same name e.0 ≡ b
        → unwrap_or (option_and_then (λ (body : RowBody). body.parts) (lookup (same name) es)) [] ≡ parts_of name (map row_at es)
        → unwrap_or (option_and_then (λ (body : RowBody). body.parts) (cond b (Some e.1) (lookup (same name) es))) [] ≡ cond b
        (unwrap_or e.1.parts []) [] ++ parts_of name (map row_at es)
    by true is rest =
        sym (ap (λ more. unwrap_or e.1.parts [] ++ more) (no_parts name es (apart_from row_at (λ row. row.name) (λ e. refl) name e es is distinct.0))
        ∙ append-nil (unwrap_or e.1.parts []))
    by false is rest = rest

-- ---- places

pub place-rows : (name : Name) (es : List (Name × RowBody)) →
    position_or_len (λ (row : Row Name). same name row.name) (map row_at es) ≡ position_or_len (same name) (keys_of es)
place-rows name [] = refl
place-rows name (e ∷ es) = ap (λ n. cond (not (same name e.0)) (1 + n) 0) (place-rows name es)

pub place_found : (name : Name) (es : List (Name × RowBody)) (place : ℕ) → Some place ≡ position (same name) (keys_of es) →
    place ≡ position_or_len (λ (row : Row Name). same name row.name) (map row_at es)
place_found name es place is = by (nat_lt (position_or_len (same name) (keys_of es)) (length (keys_of es))) is ∙ sym (place-rows name es)
  where
    by : (b : Bool) → Some place ≡ cond b (Some (position_or_len (same name) (keys_of es))) None → place ≡ position_or_len (same name) (keys_of es)
    by true e = cc e
    by false e = absurd (cc e)

pub place_missed : (name : Name) (es : List (Name × RowBody)) (count : ℕ) → None ≡ position (same name) (keys_of es) → count ≡ length es →
    count ≡ position_or_len (λ (row : Row Name). same name row.name) (map row_at es)
place_missed name es count is counts = counts ∙ sym (place-rows name es ∙ by (nat_lt (position_or_len (same name) (keys_of es)) (length (keys_of es))) refl is)
  where
    names : length (keys_of es) ≡ length es
    names = length-map es (λ e. e.0)

    within : position_or_len (same name) (keys_of es) ≤ length (keys_of es)
    within = prefix_len-le-length (λ n. not (same name n)) (keys_of es)

    by : (b : Bool) → nat_lt (position_or_len (same name) (keys_of es)) (length (keys_of es)) ≡ b →
        None ≡ cond b (Some (position_or_len (same name) (keys_of es))) None → position_or_len (same name) (keys_of es) ≡ length es
    by true e h = absurd (cc h)
    by false e h = grind (arith, nat_tests, e, within, names)

-- whether one of the first elements passes a test, by the first place at which one does
pub before_limit : {X : Type 0} (p : X → Bool) (limit : ℕ) (xs : List X) →
    list_any p (take limit xs) ≡ (nat_lt (position_or_len p xs) (length xs) && nat_lt (position_or_len p xs) limit)
before_limit p zero xs = by (nat_lt (position_or_len p xs) (length xs)) (nat_lt (position_or_len p xs) 0) (grind (arith, nat_tests))
  where
    by : (a b : Bool) → b ≡ false → false ≡ (a && b)
    by true b e = sym e
    by false b e = refl
before_limit p (suc limit) [] = refl
before_limit p (suc limit) (x ∷ xs) = by (p x) (before_limit p limit xs)
  where
    below : (n : ℕ) → true ≡ nat_lt 0 (suc n)
    below n = grind (arith, nat_tests)

    more : (m n : ℕ) → nat_lt m n ≡ nat_lt (1 + m) (suc n)
    more m n = tell (nat_lt m n) (nat_lt (1 + m) (suc n)) refl refl
      where
        tell : (a b : Bool) → nat_lt m n ≡ a → nat_lt (1 + m) (suc n) ≡ b → a ≡ b
        tell true true e f = refl
        tell false false e f = refl
        tell true false e f = grind (arith, nat_tests, e, f)
        tell false true e f = grind (arith, nat_tests, e, f)

    by : (b : Bool) → list_any p (take limit xs) ≡ (nat_lt (position_or_len p xs) (length xs) && nat_lt (position_or_len p xs) limit)
        → (b || list_any p (take limit xs)) ≡
        (nat_lt (cond (not b) (1 + position_or_len p xs) 0) (suc (length xs)) && nat_lt (cond (not b) (1 + position_or_len p xs) 0) (suc limit))
    by true rest = ap₂ (λ a b. a && b) (below (length xs)) (below limit)
    by false rest = rest ∙ ap₂ (λ a b. a && b) (more (position_or_len p xs) (length xs)) (more (position_or_len p xs) limit)

-- ---- changes

pub parts_written : (name : Name) (change : List (Entry Name) → List (Entry Name)) (es : List (Name × RowBody)) (body : RowBody) → IsDistinct same (keys_of es)
    → lookup (same name) es ≡ Some body
    → map row_at (set_value (same name) es (body_with change body)) ≡ in_row name change (map row_at es)
parts_written name change es body distinct found = written row_at (λ row. row.name) (λ e. refl) name _ (body_with change) (λ e. refl) es body distinct found

pub no_parts_written : (name : Name) (change : List (Entry Name) → List (Entry Name)) (es : List (Name × RowBody)) → is_some (lookup (same name) es) ≡ false →
    in_row name change (map row_at es) ≡ map row_at es
no_parts_written name change es absent = untouched row_at (λ row. row.name) (λ e. refl) name _ es absent

pub row_modified : (card : Reading) (es : List (Name × RowBody)) (body : RowBody) → IsDistinct same (keys_of es) → lookup (same card.name1) es ≡ Some body
    → map row_at (set_value (same card.name1) es (body_retyped card body)) ≡ modify_row card (map row_at es)
row_modified card es body distinct found =
    written row_at (λ row. row.name) (λ e. refl) card.name1 (retyped card) (body_retyped card) (λ e. refl) es body distinct found

pub no_row_modified : (card : Reading) (es : List (Name × RowBody)) → is_some (lookup (same card.name1) es) ≡ false →
    modify_row card (map row_at es) ≡ map row_at es
no_row_modified card es absent = untouched row_at (λ row. row.name) (λ e. refl) card.name1 (retyped card) es absent
