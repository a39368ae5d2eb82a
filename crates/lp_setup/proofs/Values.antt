-- The value of a set on a row, and the limits of a column, as one more item comes.
use Rattle.std.proofs.Common.{◌≡◌, ◌≢◌, ℕ, ◌+◌, ◌-◌, ◌<◌, ◌⊎◌, inl, inr, set, Bool, true, false, List, [], ◌∷◌, ◌++◌, Option, Some, None, map, take, drop}
use Rattle.std.proofs.Common.{length, get_or, refl, ap, sym, ◌∙◌, subst, arith, nat_eq, filter, fold}
use Rattle.std.specs.List.{AllByRecursion, IsDistinct, find}
use Rattle.std.specs.Option.{option_map, option_or}
use Rattle.std.proofs.lemmas.Bool.Decides.{eqb_tells}
use Rattle.std.proofs.lemmas.List.{take_more, take-append-drop, drop_more, append-nil, get_or_default}
use Rattle.std.proofs.lemmas.List.Elements.{filter-append}
use Rattle.std.proofs.lemmas.List.Folds.{find-append}
use Rattle.std.proofs.lemmas.List.Sums.{fold-append}
use Rattle.exact_values.specs.Rational.{ℚ}
use Rattle.problem_definitions.specs.Problem.{Entry, Bound}
use Rattle.problem_definitions.specs.Valid.{IsNumberOf, AreEntries, AreBounds}
use Rattle.lp_setup.proofs.Lists.{Holds, holds-set}
use Rattle.selection_definitions.specs.Limits.{Limits, value_on, column_limits, bounded, unbounded}
use Rattle.card_definitions.proofs.FirstFaults.{or_none}

-- ---- values on rows

-- an item on another row changes nothing
value_on-other : (xs : List (Entry ℕ)) (x : Entry ℕ) (row : ℕ) → nat_eq x.row row ≡ false → value_on (xs ++ x ∷ []) row ≡ value_on xs row
value_on-other xs x row apart =
    let p : Entry ℕ → Bool = λ item. nat_eq item.row row in
    let v : Entry ℕ → ℚ = λ item. item.value.value in
    let alone : find p (x ∷ []) ≡ None = rw apart refl in
    ap (option_map v) (find-append p xs (x ∷ []) ∙ ap (option_or (find p xs)) alone ∙ or_none (find p xs))

-- the element in the middle of a list
middle : {X : Type 0} (P : X → Type 0) (f : Entry ℕ → X) (xs : List (Entry ℕ)) (x : Entry ℕ) (ys : List (Entry ℕ)) → AllByRecursion P (map f (xs ++ x ∷ ys)) →
    P (f x)
middle P f [] x ys each = each.0
middle P f (z ∷ xs) x ys each = middle P f xs x ys each.1

-- of items on distinct rows, none before is on the row of the next
none_before : (xs : List (Entry ℕ)) (x : Entry ℕ) (ys : List (Entry ℕ)) → IsDistinct nat_eq (map (λ (item : Entry ℕ). item.row) (xs ++ x ∷ ys)) →
    find (λ (item : Entry ℕ). nat_eq item.row x.row) xs ≡ None
unfolding IsDistinct
none_before [] x ys distinct = refl
none_before (z ∷ xs) x ys distinct =
    let apart : nat_eq z.row x.row ≡ false = middle (λ row. nat_eq z.row row ≡ false) (λ item. item.row) xs x ys distinct.0 in
    rw apart (none_before xs x ys distinct.1)

nat_eq-same : (n : ℕ) → nat_eq n n ≡ true
nat_eq-same n = grind arith

value_on-same : (xs : List (Entry ℕ)) (x : Entry ℕ) (ys : List (Entry ℕ)) → IsDistinct nat_eq (map (λ (item : Entry ℕ). item.row) (xs ++ x ∷ ys)) →
    value_on (xs ++ x ∷ []) x.row ≡ Some x.value.value
value_on-same xs x ys distinct =
    let p : Entry ℕ → Bool = λ item. nat_eq item.row x.row in
    let v : Entry ℕ → ℚ = λ item. item.value.value in
    let alone : find p (x ∷ []) ≡ Some x = rw (nat_eq-same x.row) refl in
    ap (option_map v) (find-append p xs (x ∷ []) ∙ ap (λ o. option_or o (find p (x ∷ []))) (none_before xs x ys distinct) ∙ alone)

-- a list at one of its elements
split_at : {X : Type 0} (xs : List X) (i : ℕ) (x : X) → i < length xs → x ≡ get_or xs i x → xs ≡ take i xs ++ x ∷ drop (i + 1) xs
split_at xs i x below is =
    sym (take-append-drop i xs) ∙ ap (λ ys. take i xs ++ ys) (drop_more xs i x below) ∙ ap (λ y. take i xs ++ y ∷ drop (i + 1) xs) (sym is)

next_taken : {X : Type 0} (xs : List X) (i : ℕ) (x : X) → i < length xs → x ≡ get_or xs i x → take (i + 1) xs ≡ take i xs ++ x ∷ []
next_taken xs i x below is = take_more xs i x below ∙ ap (λ y. take i xs ++ y ∷ []) (sym is)

module _ (items : List (Entry ℕ)) (i : ℕ) (x : Entry ℕ) (below : i < length items) (is : x ≡ get_or items i x) where
  pub value_here : IsDistinct nat_eq (map (λ (item : Entry ℕ). item.row) items) → value_on (take (i + 1) items) x.row ≡ Some x.value.value
  value_here distinct =
      ap (λ xs. value_on xs x.row) (next_taken items i x below is)
      ∙ value_on-same (take i items) x (drop (i + 1) items)
      (subst (λ xs. IsDistinct nat_eq (map (λ (item : Entry ℕ). item.row) xs)) (split_at items i x below is) distinct)

  pub value_elsewhere : (row : ℕ) → nat_eq x.row row ≡ false → value_on (take (i + 1) items) row ≡ value_on (take i items) row
  value_elsewhere row apart = ap (λ xs. value_on xs row) (next_taken items i x below is) ∙ value_on-other (take i items) x row apart

-- ---- limits of columns

-- what a bound makes of limits
pub applied : Limits → Bound ℕ → Limits
applied limits bound = bounded bound.kind (option_map (λ value. value.value) bound.value) limits

module _ (bounds : List (Bound ℕ)) (i : ℕ) (b : Bound ℕ) (below : i < length bounds) (is : b ≡ get_or bounds i b) where
  pub limits_here : column_limits (take (i + 1) bounds) b.column ≡ bounded b.kind (option_map (λ value. value.value) b.value)
      (column_limits (take i bounds) b.column)
  unfolding applied
  limits_here =
      let p : Bound ℕ → Bool = λ bound. nat_eq bound.column b.column in
      let alone : filter p (b ∷ []) ≡ b ∷ [] = rw (nat_eq-same b.column) refl in
      let kept : filter p (take (i + 1) bounds) ≡ filter p (take i bounds) ++ b ∷ [] =
      ap (filter p) (next_taken bounds i b below is) ∙ filter-append p (take i bounds) (b ∷ []) ∙ ap (λ bs. filter p (take i bounds) ++ bs) alone in
      ap (fold applied unbounded) kept ∙ fold-append applied unbounded (filter p (take i bounds)) (b ∷ [])

  pub limits_elsewhere : (column : ℕ) → nat_eq b.column column ≡ false → column_limits (take (i + 1) bounds) column ≡ column_limits (take i bounds) column
  unfolding applied
  limits_elsewhere column apart =
      let p : Bound ℕ → Bool = λ bound. nat_eq bound.column column in
      let alone : filter p (b ∷ []) ≡ [] = rw apart refl in
      let kept : filter p (take (i + 1) bounds) ≡ filter p (take i bounds) ++ [] =
      ap (filter p) (next_taken bounds i b below is) ∙ filter-append p (take i bounds) (b ∷ []) ∙ ap (λ bs. filter p (take i bounds) ++ bs) alone in
      ap (fold applied unbounded) (kept ∙ append-nil (filter p (take i bounds)))

-- ---- one more step of a loop

unlike : (a b : ℕ) → a ≢ b → nat_eq a b ≡ false
unlike a b apart = by (eqb_tells a b)
  where
    by : ((nat_eq a b ≡ true) × (a ≡ b)) ⊎ ((nat_eq a b ≡ false) × (a ≢ b)) → nat_eq a b ≡ false
    by (inl same) = absurd (apart same.1)
    by (inr differ) = differ.0

-- the value of the next item is written at its row
pub value_step : (items : List (Entry ℕ)) (rows i place : ℕ) (x : Entry ℕ) (v : ℚ) (values : List (Option ℚ)) → AreEntries rows items → i < length items
    → x ≡ get_or items i x → place ≡ x.row - 1 → v ≡ x.value.value
    → Holds (value_on (take i items)) rows None values → Holds (value_on (take (i + 1) items)) rows None (set values place (Some v))
value_step items rows i place x v values are below is is_place is_value h =
    let at : IsNumberOf rows x.row = subst (λ (entry : Entry ℕ). IsNumberOf rows entry.row) (sym is) (are.on_rows i x below) in
    let number : place + 1 ≡ x.row = omega (arith, at.positive) in
    let within : place < rows = omega (arith, at.positive, at.at_most) in
    let here : value_on (take (i + 1) items) (place + 1) ≡ Some v =
    ap (value_on (take (i + 1) items)) number ∙ value_here items i x below is are.distinct ∙ ap Some (sym is_value) in
    holds-set (value_on (take i items)) (value_on (take (i + 1) items)) rows place None (Some v) values h within here
    (λ k apart. let differ : x.row ≢ k + 1 = omega (arith, apart) in value_elsewhere items i x below is (k + 1) (unlike x.row (k + 1) differ))

-- the next bound is applied to the limits of its column
pub bound_step : (bounds : List (Bound ℕ)) (columns i place : ℕ) (b : Bound ℕ) (before after : Limits) (limits : List Limits) → AreBounds columns bounds
    → i < length bounds → b ≡ get_or bounds i b → place ≡ b.column - 1
    → before ≡ get_or limits place before → after ≡ bounded b.kind (option_map (λ value. value.value) b.value) before
    → Holds (column_limits (take i bounds)) columns unbounded limits → Holds (column_limits (take (i + 1) bounds)) columns unbounded (set limits place after)
bound_step bounds columns i place b before after limits are below is is_place is_before is_after h =
    let at : IsNumberOf columns b.column = subst (λ (bound : Bound ℕ). IsNumberOf columns bound.column) (sym is) (are.on_columns i b below) in
    let number : place + 1 ≡ b.column = omega (arith, at.positive) in
    let within : place < columns = omega (arith, at.positive, at.at_most) in
    let inside : place < length limits = omega (arith, h.counted) in
    let stood : before ≡ column_limits (take i bounds) b.column =
    is_before ∙ get_or_default limits place before unbounded inside ∙ h.each place within ∙ ap (column_limits (take i bounds)) number in
    let here : column_limits (take (i + 1) bounds) (place + 1) ≡ after =
    ap (column_limits (take (i + 1) bounds)) number ∙ limits_here bounds i b below is
    ∙ ap (bounded b.kind (option_map (λ value. value.value) b.value)) (sym stood) ∙ sym is_after in
    holds-set (column_limits (take i bounds)) (column_limits (take (i + 1) bounds)) columns place unbounded after limits h within here
    (λ k apart. let differ : b.column ≢ k + 1 = omega (arith, apart) in limits_elsewhere bounds i b below is (k + 1) (unlike b.column (k + 1) differ))
