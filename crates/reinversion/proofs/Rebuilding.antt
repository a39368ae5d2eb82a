-- A file that is made anew, column by column.
use Rattle.std.proofs.Common.{◌≡◌, ◌≢◌, ℕ, zero, suc, ◌+◌, ◌-◌, ◌<◌, ◌≤◌, ◌⊎◌, inl, inr, List, [], ◌∷◌, ◌++◌, length, drop, get_or, refl, sym, ◌∙◌, ap, true}
use Rattle.std.proofs.Common.{false, Bool, subst, arith, All}
use Rattle.std.specs.Prelude.{nat_le, eqb}
use Rattle.std.proofs.lemmas.Bool.Decides.{eqb_tells}
use Rattle.std.proofs.lemmas.List.{length-append}
use Rattle.std.proofs.lemmas.List.Elements.{All-append}
use Rattle.exact_values.specs.Rational.{ℚ, zero_ℚ}
use Rattle.exact_values.proofs.Inverse.{zero_or_not, one_apart}
use Rattle.lp_definitions.specs.LinearProgram.{Matrix, size, IsRow, IsColumn, IsVariable, value_at}
use Rattle.lp_definitions.specs.Basis.{Basics, is_in, IsBasic, IsNonbasic, IsNonsingular, IsDirectionOf, exchanged, row_basics}
use Rattle.lp_definitions.specs.Waypoints.{HasColumnsWithin}
use Rattle.lp_laws.proofs.Values.{clash}
use Rattle.lp_laws.proofs.Exchange.{marked_is, entering_in, others_stay}
use Rattle.lp_laws.proofs.Opening.{is_in-row_basics}
use Rattle.eta_file.specs.Prefixes.{prefixes, after, basic_columns}
use Rattle.eta_file.specs.Inverse.{Inverse, ways_of, IsAppended}
use Rattle.eta_file.proofs.PrefixLaws.{prefixes-append}
use Rattle.eta_file.proofs.Counts.{columns_at_most}
use Rattle.reinversion.specs.Rebuilt.{IsRebuilt, IsRemade, IsLeaver}
use Rattle.reinversion.proofs.Marks.{same_marks, one_column_more}

row_is : (a : Matrix) (k : ℕ) → IsVariable a k → k ≤ a.rows → is_in (row_basics a) k ≡ true
row_is a k is low = let here : nat_le k a.rows ≡ true = grind arith in is_in-row_basics a k is ∙ here

column_is : (a : Matrix) (k : ℕ) → IsVariable a k → a.rows < k → is_in (row_basics a) k ≡ false
column_is a k is high = let away : nat_le k a.rows ≡ false = grind arith in is_in-row_basics a k is ∙ away

rows_within : (a : Matrix) (b : Basics) → HasColumnsWithin a (row_basics a) b
rows_within a b k proper basic = absurd (clash (sym basic.1 ∙ column_is a k basic.0 proper))

-- at the rows
pub rebuilt_start : (a : Matrix) (b : Basics) (g : Inverse) → g.matrix ≡ a → g.basics ≡ row_basics a → g.etas ≡ [] → IsRebuilt a b 0 g
rebuilt_start a b g same are none = record {
  same_matrix = same;
  within = subst (λ m. HasColumnsWithin a m b) (sym are) (rows_within a b);
  all_in = λ j low is basic. ap (λ m. is_in m j) are ∙ row_is a j is (omega (arith, low));
  counted =
      let few = columns_at_most a [] (row_basics a) refl in
      let zero_few : basic_columns a (row_basics a) ≤ 0 = few in
      ap length none ∙ (let e : 0 ≡ basic_columns a (row_basics a) = omega (arith, zero_few) in e) ∙ ap (basic_columns a) (sym are);
  ways =
      subst (λ ws. All (λ w. HasColumnsWithin a w b) ws)
      (sym (ap (λ (x : Matrix). prefixes (row_basics x) g.etas) same ∙ ap (prefixes (row_basics a)) none)) only;
}
  where
    only : All (λ w. HasColumnsWithin a w b) (row_basics a ∷ [])
    only k d below = let first : 0 ≡ k = omega arith in subst (λ n. HasColumnsWithin a (get_or (row_basics a ∷ []) n d) b) first (rows_within a b)

-- one column more is in, if it is basic
pub next_column : (a : Matrix) (b : Basics) (c : ℕ) (g : Inverse) → (is_in b (a.rows + (c + 1)) ≡ true → is_in g.basics (a.rows + (c + 1)) ≡ true) →
    IsRebuilt a b c g → IsRebuilt a b (c + 1) g
next_column a b c g enters h = record {
  same_matrix = h.same_matrix;
  within = h.within;
  all_in = λ j low is basic. at j low is basic (eqb_tells j (a.rows + (c + 1)));
  counted = h.counted;
  ways = h.ways;
}
  where
    at : (j : ℕ) → j ≤ a.rows + (c + 1) → IsVariable a j → is_in b j ≡ true →
        (((eqb j (a.rows + (c + 1)) ≡ true) × (j ≡ a.rows + (c + 1))) ⊎ ((eqb j (a.rows + (c + 1)) ≡ false) × (j ≢ a.rows + (c + 1)))) → is_in g.basics j ≡ true
    at j low is basic (inl same) = ap (is_in g.basics) same.1 ∙ enters (ap (is_in b) (sym same.1) ∙ basic)
    at j low is basic (inr other) = h.all_in j (omega (arith, low, other.1)) is basic

-- fewer columns are in too
pub no_columns : (a : Matrix) (b : Basics) (c : ℕ) (g : Inverse) → IsRebuilt a b c g → IsRebuilt a b 0 g
no_columns a b c g h = record {
  same_matrix = h.same_matrix;
  within = h.within;
  all_in = λ j low is basic. h.all_in j (omega (arith, low)) is basic;
  counted = h.counted;
  ways = h.ways;
}

-- a column that enters
module _ (a : Matrix) (b : Basics) (c : ℕ) (g f : Inverse) (p : ℕ) (column : IsColumn a c) (basic : is_in b (a.rows + c) ≡ true)
    (enters_out : is_in g.basics (a.rows + c) ≡ false) (counted_g : length g.basics ≡ size a)
    (row : IsRow a p) (leaves : is_in g.basics p ≡ true) (out : is_in b p ≡ false) (are : g.basics ≡ after (row_basics g.matrix) g.etas)
    (more : IsAppended g p (a.rows + c) f) where
  variable : IsVariable a (a.rows + c)
  variable = (omega (arith, column.0), omega (arith, column.1))

  leaver : IsBasic a g.basics p
  leaver = ((row.0, omega (arith, row.1)), leaves)

  entering_variable : IsNonbasic a g.basics (a.rows + c)
  entering_variable = (variable, enters_out)

  stays : (j : ℕ) → IsVariable a j → j ≢ p → j ≢ a.rows + c → is_in f.basics j ≡ is_in g.basics j
  stays j is other_p other_k =
      ap (λ m. is_in m j) more.is_exchanged ∙ others_stay a g.basics counted_g p (a.rows + c) leaver entering_variable j is other_p other_k

  pub entered : is_in f.basics (a.rows + c) ≡ true
  entered = ap (λ m. is_in m (a.rows + c)) more.is_exchanged ∙ entering_in a g.basics counted_g p (a.rows + c) leaver entering_variable

  within_then : HasColumnsWithin a g.basics b → HasColumnsWithin a f.basics b
  within_then within j proper inside = at (eqb_tells j (a.rows + c))
    where
      at : (((eqb j (a.rows + c) ≡ true) × (j ≡ a.rows + c)) ⊎ ((eqb j (a.rows + c) ≡ false) × (j ≢ a.rows + c))) → is_in b j ≡ true
      at (inl same) = ap (is_in b) same.1 ∙ basic
      at (inr other) =
          let not_p : j ≢ p = λ e. (let no_row : j ≤ a.rows = omega (arith, e, row.1) in absurd (omega (arith, no_row, proper))) in
          within j proper (inside.0, sym (stays j inside.0 not_p other.1) ∙ inside.1)

  pub rebuilt_more : (n : ℕ) → IsRebuilt a b n g → IsRebuilt a b n f
  rebuilt_more n h = record {
    same_matrix = more.same_matrix ∙ h.same_matrix;
    within = within_then h.within;
    all_in = λ j low is inside. at j low is inside (eqb_tells j (a.rows + c));
    counted =
        ap length more.one_more ∙ length-append g.etas (more.eta ∷ []) ∙ (let e : length g.etas + 1 ≡ suc (length g.etas) = omega arith in e) ∙ ap suc h.counted
        ∙ sym columns;
    ways = subst (λ ws. All (λ w. HasColumnsWithin a w b) ws) (sym ways_then)
        (All-append (λ w. HasColumnsWithin a w b) (ways_of g) (f.basics ∷ []) h.ways last);
  }
    where
      at : (j : ℕ) → j ≤ a.rows + n → IsVariable a j → is_in b j ≡ true →
          (((eqb j (a.rows + c) ≡ true) × (j ≡ a.rows + c)) ⊎ ((eqb j (a.rows + c) ≡ false) × (j ≢ a.rows + c))) → is_in f.basics j ≡ true
      at j low is inside (inl same) = ap (is_in f.basics) same.1 ∙ entered
      at j low is inside (inr other) =
          let not_p : j ≢ p = λ e. clash (sym inside ∙ ap (is_in b) e ∙ out) in
          stays j is not_p other.1 ∙ h.all_in j low is inside

      columns : basic_columns a f.basics ≡ suc (basic_columns a g.basics)
      columns =
          ap (basic_columns a) more.is_exchanged ∙ sym (marked_is (drop a.rows (exchanged g.basics p (a.rows + c))))
          ∙ one_column_more g.basics a.rows (p - 1) (a.rows + c - 1) (omega (arith, row.0, row.1)) (omega (arith, column.0))
          (omega (arith, counted_g, column.0, column.1)) enters_out
          ∙ ap suc (marked_is (drop a.rows g.basics))

      ways_then : ways_of f ≡ ways_of g ++ (f.basics ∷ [])
      ways_then =
          ap (λ (x : Matrix). prefixes (row_basics x) f.etas) more.same_matrix ∙ ap (prefixes (row_basics g.matrix)) more.one_more
          ∙ prefixes-append (row_basics g.matrix) g.etas more.eta
          ∙ ap (λ w. ways_of g ++ (w ∷ []))
          (ap (λ w. exchanged w more.eta.p more.eta.q) (sym are) ∙ ap (λ i. exchanged g.basics i more.eta.q) more.is_p
          ∙ ap (λ i. exchanged g.basics p i) more.is_q ∙ sym more.is_exchanged)

      last : All (λ w. HasColumnsWithin a w b) (f.basics ∷ [])
      last k d below = let first : 0 ≡ k = omega arith in subst (λ i. HasColumnsWithin a (get_or (f.basics ∷ []) i d) b) first (within_then h.within)

-- all columns are through
pub rebuilt_all : (f g : Inverse) → IsNonsingular f.matrix f.basics → IsNonsingular g.matrix g.basics → (c : ℕ) → c ≡ f.matrix.cols →
    IsRebuilt f.matrix f.basics c g → IsRemade f g
rebuilt_all f g one two c all h = record {
  same_matrix = h.same_matrix;
  same_basics = same;
  counted = h.counted ∙ ap (basic_columns f.matrix) same;
  ways = h.ways;
}
  where
    counted_g : length g.basics ≡ size f.matrix
    counted_g = two.counted ∙ ap size h.same_matrix

    same : g.basics ≡ f.basics
    same =
        same_marks f.basics g.basics (one.counted ∙ sym counted_g) inside
        (marked_is g.basics ∙ two.m_basics ∙ ap (λ (x : Matrix). x.rows) h.same_matrix ∙ sym (marked_is f.basics ∙ one.m_basics))
      where
        inside : (i : ℕ) → get_or f.basics i false ≡ true → get_or g.basics i false ≡ true
        inside i basic =
            let here : i + 1 - 1 ≡ i = omega arith in
            let within : i < size f.matrix = subst (λ n. i < n) one.counted (marked_below f.basics i basic) in
            ap (λ n. get_or g.basics n false) (sym here)
            ∙ h.all_in (i + 1) (omega (arith, within, all)) (omega arith, omega (arith, within)) (ap (λ n. get_or f.basics n false) here ∙ basic)
          where
            marked_below : (ms : Basics) (n : ℕ) → get_or ms n false ≡ true → n < length ms
            marked_below [] n h = absurd (clash (sym h))
            marked_below (m ∷ ms) zero h = omega arith
            marked_below (m ∷ ms) (suc n) h = let rest = marked_below ms n h in omega (arith, rest)

-- there is one that may leave
pub some_leaver : (a : Matrix) (b : Basics) (c : ℕ) (g : Inverse) (xs : List ℚ) → IsNonsingular a b → IsColumn a c → is_in b (a.rows + c) ≡ true
    → IsRebuilt a b 0 g → IsDirectionOf a g.basics (a.rows + c) (value_at xs)
    → ((p : ℕ) → IsRow a p → IsLeaver a b g.basics xs p → ⊥) → ⊥
some_leaver a b c g xs one column basic h direction no_leaver =
    one_apart (sym direction.own ∙ one.only_zero (value_at xs) direction.keeps vanishes (a.rows + c) (omega (arith, column.0), omega (arith, column.1)))
  where
    vanishes : (j : ℕ) → IsNonbasic a b j → value_at xs j ≡ zero_ℚ
    vanishes j out = at (is_in g.basics j) refl
      where
        at : (mark : Bool) → is_in g.basics j ≡ mark → value_at xs j ≡ zero_ℚ
        at false outside = direction.others j (out.0, outside) (λ e. clash (sym basic ∙ ap (is_in b) (sym e) ∙ out.1))
        at true inside = in_row (nat_le j a.rows) refl
          where
            in_row : (low : Bool) → nat_le j a.rows ≡ low → value_at xs j ≡ zero_ℚ
            in_row false high = absurd (clash (sym (h.within j (grind (arith, high)) (out.0, inside)) ∙ out.1))
            in_row true low = pick (zero_or_not (value_at xs j))
              where
                pick : ((value_at xs j ≡ zero_ℚ) ⊎ (value_at xs j ≢ zero_ℚ)) → value_at xs j ≡ zero_ℚ
                pick (inl none) = none
                pick (inr apart) =
                    let row : IsRow a j = (out.0.0, grind (arith, low)) in
                    absurd (no_leaver j row (record { is_row = row; is_basic = inside; is_out = out.1; apart = apart }))
