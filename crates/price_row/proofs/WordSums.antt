-- Sums over columns in machine words.
use Rattle.std.proofs.Common.{◌≡◌, ℕ, zero, suc, ◌+◌, ◌<◌, ◌-◌, List, [], ◌∷◌, length, map, take, get_or, refl, sym, ◌∙◌, ap, ap₂, subst, arith, add-one, All}
use Rattle.std.proofs.lemmas.List.{get_or-map, length-map}
use Rattle.exact_values.specs.Rational.{ℚ, zero_ℚ, whole, ◌+ℚ◌, ◌*ℚ◌}
use Rattle.lp_definitions.specs.LinearProgram.{Matrix, size, column, value_at, IsMatrix, IsColumn}
use Rattle.lp_definitions.specs.RatesEvidence.{sum_from}
use Rattle.lp_definitions.specs.declared.Entry.{Entry}
use Rattle.eta_file.specs.declared.words.WordEntry.{WordEntry}
use Rattle.eta_file.specs.WordColumns.{fraction_entry, AreWordsOf}
use Rattle.price_row.specs.Sums.{products}
use Rattle.price_row.specs.Places.{IsRowPlace, IsWordPlace}

words-take : (xs : List ℚ) (ws : List WordEntry) (n : ℕ) (d : WordEntry) (start : ℚ) → n < length ws
    → sum_from start (products xs (map fraction_entry (take (suc n) ws))) ≡ sum_from start (products xs (map fraction_entry (take n ws))) +ℚ value_at xs
    (get_or ws n d).row *ℚ whole (get_or ws n d).value
words-take xs [] n d start below = absurd (omega arith)
words-take xs (w ∷ ws) zero d start below = refl
words-take xs (w ∷ ws) (suc n) d start below = words-take xs ws n d (start +ℚ value_at xs w.row *ℚ whole w.value) (omega arith)

-- one number more
pub words_more : (xs : List ℚ) (ws : List WordEntry) (n : ℕ) (d : WordEntry) (sum x y next : ℚ) → n < length ws
    → sum ≡ sum_from zero_ℚ (products xs (map fraction_entry (take n ws)))
    → x ≡ value_at xs (get_or ws n d).row → y ≡ whole (get_or ws n d).value → next ≡ sum +ℚ x *ℚ y
    → next ≡ sum_from zero_ℚ (products xs (map fraction_entry (take (n + 1) ws)))
words_more xs ws n d sum x y next below is_sum is_x is_y is_next =
    is_next ∙ ap₂ (λ (s p : ℚ). s +ℚ p) is_sum (ap₂ (λ (x y : ℚ). x *ℚ y) is_x is_y)
    ∙ sym (ap (λ k. sum_from zero_ℚ (products xs (map fraction_entry (take k ws)))) (add-one n) ∙ words-take xs ws n d zero_ℚ below)

-- the rows of a column are rows of the matrix
pub column_within : (a : Matrix) (j n : ℕ) → IsMatrix a → IsColumn a j → n ≡ size a → All (IsRowPlace n) (column a j)
column_within a j n lawful is same i d below =
    let on = lawful.on_rows (j - 1) [] (let counted = lawful.columns_counted in omega (arith, is.0, is.1, counted)) i d below in
    (on.0, omega (arith, on.1, same))

-- the rows of the words are those of the column
pub words_within : (n : ℕ) (c : List Entry) (ws : List WordEntry) → AreWordsOf c ws → All (IsRowPlace n) c → All (IsWordPlace n) ws
words_within n c ws are within i d below =
    let same : All (IsRowPlace n) (map fraction_entry ws) = subst (λ es. All (IsRowPlace n) es) (sym are) within in
    let inside : i < length (map fraction_entry ws) = subst (λ m. i < m) (sym (length-map ws fraction_entry)) below in
    subst (λ (e : Entry). IsRowPlace n e) (get_or-map fraction_entry ws i d (fraction_entry d) below) (same i (fraction_entry d) inside)

-- and the sum over the words is that over the column
pub words_sum : (xs : List ℚ) (c : List Entry) (ws : List WordEntry) (sum : ℚ) → AreWordsOf c ws → sum ≡ sum_from zero_ℚ (products xs (map fraction_entry ws)) →
    sum ≡ sum_from zero_ℚ (products xs c)
words_sum xs c ws sum are is_sum = is_sum ∙ ap (λ es. sum_from zero_ℚ (products xs es)) are
