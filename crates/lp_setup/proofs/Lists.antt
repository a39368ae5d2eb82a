-- Lists that hold something for each number, and lists that a loop makes element by element.
use Rattle.std.proofs.Common.{◌≡◌, ◌≢◌, ℕ, zero, suc, ◌+◌, ◌<◌, ◌⊎◌, List, [], ◌∷◌, ◌++◌, Option, Some, map, take, length, get_or, set, refl, ap, sym, ◌∙◌}
use Rattle.std.proofs.Common.{arith, inl, inr, zero-add, nat_eq, true, false, unwrap_or}
use Rattle.std.specs.List.{enumerate_from, range_with_len, slice_get}
use Rattle.std.proofs.lemmas.Bool.Decides.{eqb_tells}
use Rattle.std.proofs.lemmas.List.{length-set, get_or-set_same, get_or-set_other, take_more}
use Rattle.std.proofs.lemmas.List.FromFn.{fill_by_all, get_or-map-range_with_len, length-map-range_with_len}
use Rattle.std.proofs.lemmas.Option.{get_or_from_slice_get, slice_get_within, slice_get-get_or, same_Some}
use Rattle.exact_values.specs.Rational.{ℚ, zero_ℚ}
use Rattle.problem_definitions.specs.Problem.{Row, Entry}
use Rattle.problem_definitions.proofs.Groups.{map-map}
use Rattle.selection_definitions.specs.Limits.{row_limits, value_on}
use Rattle.selection_definitions.specs.Programs.{side_on}
use Rattle.lp_setup.specs.Parts.{by_number, limits_of_rows}

-- ---- numbered lists

enumerated : {X Y : Type 0} (f : ℕ → Y) (first : ℕ) (xs : List X) →
    map (λ (entry : ℕ × X). f entry.0) (enumerate_from (first + 1) xs) ≡ map (λ place. f (place + 1)) (range_with_len first (length xs))
enumerated f first [] = refl
enumerated f first (x ∷ xs) = ap (λ ys. f (first + 1) ∷ ys) (enumerated f (first + 1) xs)

pub map-enumerate : {X Y : Type 0} (f : ℕ → Y) (xs : List X) → map (λ (entry : ℕ × X). f entry.0) (enumerate_from 1 xs) ≡ by_number f (length xs)
map-enumerate f xs = enumerated f 0 xs

pub map-by_number : {X Y : Type 0} (g : X → Y) (f : ℕ → X) (count : ℕ) → map g (by_number f count) ≡ by_number (λ number. g (f number)) count
map-by_number g f count = map-map g (λ place. f (place + 1)) (range_with_len 0 count)

-- the right-hand sides, from the values of a set
pub sides_by_number : (items : List (Entry ℕ)) (rows : ℕ) →
    map (λ (value : Option ℚ). unwrap_or value zero_ℚ) (by_number (value_on items) rows) ≡ by_number (side_on items) rows
sides_by_number items rows = map-by_number (λ (value : Option ℚ). unwrap_or value zero_ℚ) (value_on items) rows

pub length-by_number : {X : Type 0} (f : ℕ → X) (count : ℕ) → length (by_number f count) ≡ count
length-by_number f count = length-map-range_with_len (λ place. f (place + 1)) 0 count

-- what stands at a place
pub at-by_number : {X : Type 0} (f : ℕ → X) (count place : ℕ) (x : X) → slice_get (by_number f count) place ≡ Some x → x ≡ f (place + 1)
at-by_number f count place x e =
    let within : place < length (by_number f count) = slice_get_within (by_number f count) place x e in
    let below : place < count = omega (arith, length-by_number f count) in
    sym (get_or_from_slice_get (by_number f count) place x x e) ∙ get_or-map-range_with_len (λ k. f (k + 1)) 0 count place place x below (zero-add place)

-- ---- lists that are filled in at the places of numbers

-- a list of so many has at each place what f gives of its number
pub record Holds {X : Type 0} (f : ℕ → X) (count : ℕ) (d : X) (xs : List X) : Type 0 where
  pub counted : length xs ≡ count
  pub each : (k : ℕ) → k < count → get_or xs k d ≡ f (k + 1)

-- one place is written, and g differs from f there alone
pub holds-set : {X : Type 0} (f g : ℕ → X) (count place : ℕ) (d y : X) (xs : List X) → Holds f count d xs → place < count → g (place + 1) ≡ y
    → ((k : ℕ) → k ≢ place → g (k + 1) ≡ f (k + 1))
    → Holds g count d (set xs place y)
holds-set f g count place d y xs h below here others = record {
  counted = length-set xs place y ∙ h.counted;
  each = λ k within. by k within (eqb_tells k place);
}
  where
    by : (k : ℕ) → k < count → ((nat_eq k place ≡ true) × (k ≡ place)) ⊎ ((nat_eq k place ≡ false) × (k ≢ place)) → get_or (set xs place y) k d ≡ g (k + 1)
    by k within (inl same) =
        let inside : place < length xs = omega (arith, h.counted) in
        ap (λ n. get_or (set xs place y) n d) same.1 ∙ get_or-set_same xs place y d inside ∙ sym here ∙ ap (λ n. g (n + 1)) (sym same.1)
    by k within (inr apart) = get_or-set_other xs place k y d apart.1 ∙ h.each k within ∙ sym (others k apart.1)

pub holds-all : {X : Type 0} (f : ℕ → X) (count : ℕ) (d : X) (xs : List X) → Holds f count d xs → xs ≡ by_number f count
holds-all f count d xs h = fill_by_all (λ place. f (place + 1)) xs count d h.counted h.each

-- ---- lists that grow

-- one more element
pub grown : {X : Type 0} (all items : List X) (i : ℕ) (x : X) → items ≡ take i all → slice_get all i ≡ Some x → items ++ x ∷ [] ≡ take (i + 1) all
grown all items i x so_far next =
    ap (λ xs. xs ++ x ∷ []) so_far ∙ ap (λ y. take i all ++ y ∷ []) (sym (get_or_from_slice_get all i x x next))
    ∙ sym (take_more all i x (slice_get_within all i x next))

-- ---- the limits of rows

module _ (f : ℕ → ℚ) (g : ℕ → Option ℚ) where
  rows_from : (first : ℕ) (rows : List (Row ℕ))
      → limits_of_rows rows (map (λ place. f (place + 1)) (range_with_len first (length rows)))
      (map (λ place. g (place + 1)) (range_with_len first (length rows)))
      ≡ map (λ (entry : ℕ × Row ℕ). row_limits entry.1.kind (f entry.0) (g entry.0)) (enumerate_from (first + 1) rows)
  rows_from first [] = refl
  rows_from first (row ∷ rows) = ap (λ ls. row_limits row.kind (f (first + 1)) (g (first + 1)) ∷ ls) (rows_from (first + 1) rows)

  pub limits-numbered : (rows : List (Row ℕ)) →
      limits_of_rows rows (by_number f (length rows)) (by_number g (length rows)) ≡ map (λ (entry : ℕ × Row ℕ). row_limits entry.1.kind (f entry.0) (g entry.0))
      (enumerate_from 1 rows)
  limits-numbered rows = rows_from 0 rows

pub limits_at : (rows : List (Row ℕ)) (sides : List ℚ) (ranges : List (Option ℚ)) (i : ℕ) (row : Row ℕ) (side : ℚ) (range : Option ℚ)
    → slice_get rows i ≡ Some row → slice_get sides i ≡ Some side → slice_get ranges i ≡ Some range
    → slice_get (limits_of_rows rows sides ranges) i ≡ Some (row_limits row.kind side range)
limits_at [] sides ranges i row side range a b c = absurd (cc a)
limits_at (x ∷ rows) [] ranges i row side range a b c = absurd (cc b)
limits_at (x ∷ rows) (y ∷ sides) [] i row side range a b c = absurd (cc c)
limits_at (x ∷ rows) (y ∷ sides) (z ∷ ranges) zero row side range a b c =
    let is_row : x ≡ row = same_Some x row a in
    let is_side : y ≡ side = same_Some y side b in
    let is_range : z ≡ range = same_Some z range c in
    λ i. Some (row_limits (is_row i).kind (is_side i) (is_range i))
limits_at (x ∷ rows) (y ∷ sides) (z ∷ ranges) (suc i) row side range a b c = limits_at rows sides ranges i row side range a b c

pub length-limits : (rows : List (Row ℕ)) (sides : List ℚ) (ranges : List (Option ℚ)) → length sides ≡ length rows → length ranges ≡ length rows →
    length (limits_of_rows rows sides ranges) ≡ length rows
length-limits [] sides ranges b c = refl
length-limits (x ∷ rows) [] ranges b c = absurd (omega (arith, b))
length-limits (x ∷ rows) (y ∷ sides) [] b c = absurd (omega (arith, c))
length-limits (x ∷ rows) (y ∷ sides) (z ∷ ranges) b c =
    let left : length sides ≡ length rows = omega (arith, b) in
    let right : length ranges ≡ length rows = omega (arith, c) in
    ap suc (length-limits rows sides ranges left right)

-- what is read at a place stands there
pub standing : {X : Type 0} (xs : List X) (i : ℕ) (x : X) → i < length xs → x ≡ get_or xs i x → slice_get xs i ≡ Some x
standing xs i x below is = slice_get-get_or xs i x below ∙ ap Some (sym is)
