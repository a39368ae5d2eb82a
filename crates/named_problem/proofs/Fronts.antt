-- Whether a name stands before a place, by the first place at which it stands.
use Rattle.std.proofs.Common.{◌≡◌, ℕ, zero, suc, ◌+◌, ◌-◌, ◌≤◌, Bool, true, false, cond, not, ◌||◌, ◌&&◌, List, [], ◌∷◌, Option, Some, None, map, take, length}
use Rattle.std.proofs.Common.{nat_lt, nat_le, nat_eq, refl, ap, ap₂, sym, subst, ◌∙◌, arith}
use Rattle.std.specs.List.{position_or_len, IsDistinct}
use Rattle.std.specs.Map.{keys_of}
use Rattle.std.proofs.lemmas.Bool.Decides.{nat_tests}
use Rattle.std.proofs.Math.Seq.{take-length}
use Rattle.card_definitions.specs.Words.{◌⟹◌, first_fault}
use Rattle.problem_definitions.specs.declared.TheConstants.{MAX_COLUMNS}
use Rattle.problem_definitions.specs.Names.{Name, same}
use Rattle.problem_definitions.specs.Problem.{Entry, Group, has_group, group_names}
use Rattle.deck_definitions.specs.declared.DeckFaultKind.{DeckFaultKind}
use Rattle.deck_definitions.specs.declared.DeckFaultKind.TheVariants.{ColumnSplit, TooManyColumns}
use Rattle.deck_definitions.specs.Tests.{all_but_last}
use Rattle.named_problem.specs.Views.{group_at, column_fault}

none_below_zero : (m : ℕ) → nat_lt m 0 ≡ false
none_below_zero m = grind (arith, nat_tests)

zero_below : (n : ℕ) → nat_lt 0 (suc n) ≡ true
zero_below n = grind (arith, nat_tests)

one_more_each : (m n : ℕ) → nat_lt m n ≡ nat_lt (1 + m) (suc n)
one_more_each m n = by (nat_lt m n) (nat_lt (1 + m) (suc n)) refl refl
  where
    by : (a b : Bool) → nat_lt m n ≡ a → nat_lt (1 + m) (suc n) ≡ b → a ≡ b
    by true true e f = refl
    by false false e f = refl
    by true false e f = grind (arith, nat_tests, e, f)
    by false true e f = grind (arith, nat_tests, e, f)

same_below : (m n : ℕ) → nat_lt (m + 1) n ≡ nat_lt m (n - 1)
same_below m n = by (nat_lt (m + 1) n) (nat_lt m (n - 1)) refl refl
  where
    by : (a b : Bool) → nat_lt (m + 1) n ≡ a → nat_lt m (n - 1) ≡ b → a ≡ b
    by true true e f = refl
    by false false e f = refl
    by true false e f = grind (arith, nat_tests, e, f)
    by false true e f = grind (arith, nat_tests, e, f)

at_end : (m n : ℕ) → m ≤ n → nat_eq m n ≡ not (nat_lt m n)
at_end m n below = by (nat_eq m n) (nat_lt m n) refl refl
  where
    by : (a b : Bool) → nat_eq m n ≡ a → nat_lt m n ≡ b → a ≡ not b
    by true false e f = refl
    by false true e f = refl
    by true true e f = grind (arith, nat_tests, e, f)
    by false false e f = grind (arith, nat_tests, e, f, below)

module _ {X : Type 0} (name : Name) where
  pub front : (count : ℕ) (es : List (Name × List X)) → count ≤ length es →
      has_group (take count (map group_at es)) name ≡ nat_lt (position_or_len (same name) (keys_of es)) count
  front zero es below = sym (none_below_zero (position_or_len (same name) (keys_of es)))
  front (suc count) [] below = absurd (omega arith)
  front (suc count) (e ∷ es) below = let inner : count ≤ length es = omega arith in by (same name e.0) (front count es inner)
    where
      by : (b : Bool) → has_group (take count (map group_at es)) name ≡ nat_lt (position_or_len (same name) (keys_of es)) count
          → (b || has_group (take count (map group_at es)) name) ≡ nat_lt (cond (not b) (1 + position_or_len (same name) (keys_of es)) 0) (suc count)
      by true rest = sym (zero_below count)
      by false rest = rest ∙ one_more_each (position_or_len (same name) (keys_of es)) count

  count-keys : (es : List (Name × List X)) → length (keys_of es) ≡ length es
  count-keys [] = refl
  count-keys (e ∷ es) = ap (λ n. suc n) (count-keys es)

  pub length-groups : (es : List (Name × List X)) → length (map group_at es) ≡ length es
  length-groups [] = refl
  length-groups (e ∷ es) = ap (λ n. suc n) (length-groups es)

  pub place_within : (es : List (Name × List X)) → position_or_len (same name) (keys_of es) ≤ length es
  place_within [] = omega arith
  place_within (e ∷ es) = let rest = place_within es in by (same name e.0) rest
    where
      by : (b : Bool) → position_or_len (same name) (keys_of es) ≤ length es → cond (not b) (1 + position_or_len (same name) (keys_of es)) 0 ≤ suc (length es)
      by true rest = omega arith
      by false rest = omega (arith, rest)

module _ {X : Type 0} where
  pub names-groups : (es : List (Name × List X)) → group_names (map group_at es) ≡ keys_of es
  names-groups [] = refl
  names-groups (e ∷ es) = ap (λ names. e.0 ∷ names) (names-groups es)

  -- groups under distinct names have distinct names
  pub distinct_groups : (es : List (Name × List X)) → IsDistinct same (keys_of es) → IsDistinct same (group_names (map group_at es))
  distinct_groups es distinct = subst (IsDistinct same) (sym (names-groups es)) distinct

-- the fault of a card's column, by the place of its name among the columns
pub place_tells : (name : Name) (es : List (Name × List (Entry Name)))
    → first_fault
    ((nat_lt (position_or_len (same name) (keys_of es) + 1) (length es) ⟹ ColumnSplit) ∷
    (nat_eq (position_or_len (same name) (keys_of es)) (length es) && nat_le MAX_COLUMNS (length es) ⟹ TooManyColumns) ∷ [])
    ≡ column_fault (map group_at es) name None
place_tells name es =
    let split : nat_lt (position_or_len (same name) (keys_of es) + 1) (length es) ≡ has_group (all_but_last (map group_at es)) name =
    same_below (position_or_len (same name) (keys_of es)) (length es) ∙ sym (front name (length es - 1) es (omega arith))
    ∙ ap (λ n. has_group (take (n - 1) (map group_at es)) name) (sym (length-groups name es)) in
    let there : has_group (map group_at es) name ≡ nat_lt (position_or_len (same name) (keys_of es)) (length es) =
    ap (λ groups. has_group groups name) (sym (take-length (map group_at es)) ∙ ap (λ n. take n (map group_at es)) (length-groups name es))
    ∙ front name (length es) es (omega arith) in
    let last : nat_eq (position_or_len (same name) (keys_of es)) (length es) ≡ not (has_group (map group_at es) name) =
    at_end (position_or_len (same name) (keys_of es)) (length es) (place_within name es) ∙ ap not (sym there) in
    ap₂ (λ a b. first_fault ((a ⟹ ColumnSplit) ∷ (b ⟹ TooManyColumns) ∷ [])) split (ap₂ (λ a n. a && nat_le MAX_COLUMNS n) last (sym (length-groups name es)))

-- the tests of a card's column, where none of them finds a fault, and where one does
pub column_fine : (columns : List (Group (Entry Name))) (name : Name) (rest : Option DeckFaultKind) → column_fault columns name None ≡ None →
    column_fault columns name rest ≡ rest
column_fine columns name rest =
    by (has_group (all_but_last columns) name ⟹ ColumnSplit) (not (has_group columns name) && nat_le MAX_COLUMNS (length columns) ⟹ TooManyColumns) rest
  where
    by : (a b rest : Option DeckFaultKind) → first_fault (a ∷ b ∷ None ∷ []) ≡ None → first_fault (a ∷ b ∷ rest ∷ []) ≡ rest
    by None None None e = refl
    by None None (Some kind) e = refl
    by None (Some kind) rest e = absurd (cc e)
    by (Some kind) b rest e = absurd (cc e)

pub column_refused : (columns : List (Group (Entry Name))) (name : Name) (rest : Option DeckFaultKind) (kind : DeckFaultKind) →
    column_fault columns name None ≡ Some kind → column_fault columns name rest ≡ Some kind
column_refused columns name rest kind =
    by (has_group (all_but_last columns) name ⟹ ColumnSplit) (not (has_group columns name) && nat_le MAX_COLUMNS (length columns) ⟹ TooManyColumns) rest
  where
    by : (a b rest : Option DeckFaultKind) → first_fault (a ∷ b ∷ None ∷ []) ≡ Some kind → first_fault (a ∷ b ∷ rest ∷ []) ≡ Some kind
    by None None rest e = absurd (cc e)
    by None (Some other) rest e = e
    by (Some other) b rest e = e
