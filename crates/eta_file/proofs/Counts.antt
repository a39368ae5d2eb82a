-- How many entries and how many etas there are.
use Rattle.std.proofs.Common.{◌≡◌, ℕ, zero, suc, ◌+◌, ◌-◌, ◌<◌, ◌≤◌, List, [], ◌∷◌, length, drop, set, get_or, map, filter, refl, sym, ◌∙◌, ap, true, false}
use Rattle.std.proofs.Common.{cond, subst, arith, Bool, ltb}
use Rattle.std.specs.Prelude.{not, ◌&&◌}
use Rattle.exact_values.specs.Tests.{eq_ℚ}
use Rattle.exact_values.specs.Rational.{zero_ℚ}
use Rattle.lp_definitions.specs.LinearProgram.{Matrix, Vector, size, numbers_from}
use Rattle.lp_definitions.specs.Basis.{Basics, is_in, IsNonsingular, exchanged, row_basics}
use Rattle.lp_laws.proofs.Exchange.{marked, marked_is}
use Rattle.lp_laws.proofs.Opening.{length-row_basics}
use Rattle.eta_file.specs.declared.eta.StoredEta.{StoredEta}
use Rattle.eta_file.specs.Prefixes.{is_entry, entry_of, rate_entries, after, basic_columns}
use Rattle.eta_file.proofs.RateEntries.{entries_from}
use Rattle.eta_file.proofs.Marks.{row_mark}

-- the marks from one on
from_mark : (w : Basics) (f : ℕ) → marked (drop f w) ≡ cond (get_or w f false) (1 + marked (drop (suc f) w)) (marked (drop (suc f) w))
from_mark [] zero = refl
from_mark [] (suc f) = refl
from_mark (m ∷ ms) zero = refl
from_mark (m ∷ ms) (suc f) = from_mark ms f

entries_at_most : (w : Basics) (d : Vector) (f n : ℕ) → length (entries_from w d (suc f) n) ≤ marked (drop f w)
entries_at_most w d f zero = omega arith
entries_at_most w d f (suc n) =
    at (get_or w f false) (eq_ℚ (d (suc f)) zero_ℚ) (ap (λ k. get_or w k false) same) (entries_at_most w d (suc f) n) (from_mark w f)
  where
    same : suc f - 1 ≡ f
    same = omega arith

    at : (mark none : Bool) → is_in w (suc f) ≡ mark → length (entries_from w d (suc (suc f)) n) ≤ marked (drop (suc f) w)
        → marked (drop f w) ≡ cond mark (1 + marked (drop (suc f) w)) (marked (drop (suc f) w))
        → length (entries_from w d (suc f) (suc n)) ≤ marked (drop f w)
    at mark none is rest count = by_test (is_entry w d (suc f)) refl
      where
        kept : (m none : Bool) → m && not none ≡ true → m ≡ true
        kept true none h = refl
        kept false none h = h

        by_test : (keeps : Bool) → is_entry w d (suc f) ≡ keeps
            → length (map (entry_of d)
            (cond keeps (suc f ∷ filter (is_entry w d) (numbers_from (suc (suc f)) n)) (filter (is_entry w d) (numbers_from (suc (suc f)) n)))) ≤ marked
            (drop f w)
        by_test true keeps =
            let basic : mark ≡ true = sym is ∙ kept (is_in w (suc f)) (eq_ℚ (d (suc f)) zero_ℚ) keeps in
            let more : marked (drop f w) ≡ 1 + marked (drop (suc f) w) =
            count ∙ ap (λ t. cond t (1 + marked (drop (suc f) w)) (marked (drop (suc f) w))) basic in
            omega (arith, more, rest)
        by_test false keeps = none_more mark count
          where
            none_more : (m : Bool) → marked (drop f w) ≡ cond m (1 + marked (drop (suc f) w)) (marked (drop (suc f) w)) →
                length (entries_from w d (suc (suc f)) n) ≤ marked (drop f w)
            none_more true more = omega (arith, more, rest)
            none_more false more = omega (arith, more, rest)

-- at most one entry for each row
pub rate_entries_few : (a : Matrix) (w : Basics) (d : Vector) → IsNonsingular a w → length (rate_entries a w d) ≤ a.rows
rate_entries_few a w d one =
    let few = entries_at_most w d 0 (size a) in
    let whole : marked (drop 0 w) ≡ marked w = ap marked (nothing w) in
    let counted : marked w ≡ a.rows = marked_is w ∙ one.m_basics in
    omega (arith, few, whole, counted)
  where
    nothing : (xs : Basics) → drop 0 xs ≡ xs
    nothing [] = refl
    nothing (x ∷ xs) = refl

-- ---- basic columns

entered_at_most : (b : Basics) (i : ℕ) → marked (set b i true) ≤ suc (marked b)
entered_at_most [] i = omega arith
entered_at_most (true ∷ ms) zero = omega arith
entered_at_most (false ∷ ms) zero = omega arith
entered_at_most (true ∷ ms) (suc i) = let rest = entered_at_most ms i in omega (arith, rest)
entered_at_most (false ∷ ms) (suc i) = entered_at_most ms i

left_at_most : (b : Basics) (i : ℕ) → marked (set b i false) ≤ marked b
left_at_most [] i = omega arith
left_at_most (true ∷ ms) zero = omega arith
left_at_most (false ∷ ms) zero = omega arith
left_at_most (true ∷ ms) (suc i) = let rest = left_at_most ms i in omega (arith, rest)
left_at_most (false ∷ ms) (suc i) = left_at_most ms i

entered_past : (b : Basics) (m i : ℕ) → marked (drop m (set b i true)) ≤ suc (marked (drop m b))
entered_past [] zero i = omega arith
entered_past [] (suc m) i = omega arith
entered_past (x ∷ ms) zero zero = entered_at_most (x ∷ ms) zero
entered_past (x ∷ ms) zero (suc i) = entered_at_most (x ∷ ms) (suc i)
entered_past (x ∷ ms) (suc m) zero = omega arith
entered_past (x ∷ ms) (suc m) (suc i) = entered_past ms m i

left_past : (b : Basics) (m i : ℕ) → marked (drop m (set b i false)) ≤ marked (drop m b)
left_past [] zero i = omega arith
left_past [] (suc m) i = omega arith
left_past (x ∷ ms) zero zero = left_at_most (x ∷ ms) zero
left_past (x ∷ ms) zero (suc i) = left_at_most (x ∷ ms) (suc i)
left_past (x ∷ ms) (suc m) zero = omega arith
left_past (x ∷ ms) (suc m) (suc i) = left_past ms m i

columns_after : (m : ℕ) (b : Basics) (es : List StoredEta) → marked (drop m (after b es)) ≤ marked (drop m b) + length es
columns_after m b [] = omega arith
columns_after m b (e ∷ es) =
    let rest = columns_after m (exchanged b e.p e.q) es in
    let left = left_past (set b (e.q - 1) true) m (e.p - 1) in
    let entered = entered_past b m (e.q - 1) in
    omega (arith, rest, left, entered)

none_marked : (xs : Basics) → ((k : ℕ) → k < length xs → get_or xs k false ≡ false) → marked xs ≡ 0
none_marked [] none = refl
none_marked (x ∷ xs) none =
    let out : x ≡ false = none 0 (omega arith) in
    ap (λ t. cond t (1 + marked xs) (marked xs)) out ∙ none_marked xs (λ k below. none (suc k) (omega arith))

past_read : (xs : Basics) (m k : ℕ) → get_or (drop m xs) k false ≡ get_or xs (m + k) false
past_read [] zero k = refl
past_read [] (suc m) k = refl
past_read (x ∷ xs) zero k = let same : k ≡ zero + k = omega arith in ap (λ n. get_or (x ∷ xs) n false) same
past_read (x ∷ xs) (suc m) k = let more : suc (m + k) ≡ suc m + k = omega arith in past_read xs m k ∙ ap (λ n. get_or (x ∷ xs) n false) more

past_length : (xs : Basics) (m k : ℕ) → k < length (drop m xs) → m + k < length xs
past_length [] zero k h = absurd (omega arith)
past_length [] (suc m) k h = absurd (omega arith)
past_length (x ∷ xs) zero k h = omega arith
past_length (x ∷ xs) (suc m) k h = let rest = past_length xs m k h in omega (arith, rest)

-- at least one eta for each basic column
pub columns_at_most : (a : Matrix) (es : List StoredEta) (b : Basics) → b ≡ after (row_basics a) es → basic_columns a b ≤ length es
columns_at_most a es b is =
    let some = columns_after a.rows (row_basics a) es in
    let none : marked (drop a.rows (row_basics a)) ≡ 0 =
    none_marked (drop a.rows (row_basics a))
    (λ k below.
    let within : a.rows + k < size a = subst (λ n. a.rows + k < n) (length-row_basics a) (past_length (row_basics a) a.rows k below) in
    let not_row : ltb (a.rows + k) a.rows ≡ false = grind arith in
    past_read (row_basics a) a.rows k ∙ row_mark a (a.rows + k) within ∙ not_row) in
    let same : basic_columns a b ≡ marked (drop a.rows (after (row_basics a) es)) = sym (marked_is (drop a.rows b)) ∙ ap (λ m. marked (drop a.rows m)) is in
    omega (arith, some, none, same)
