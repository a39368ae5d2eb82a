-- What a file shows of the column that is carried through it.
use Rattle.std.proofs.Common.{◌≡◌, ◌≢◌, ℕ, zero, suc, ◌+◌, ◌-◌, ◌*◌, ◌<◌, ◌≤◌, ◌⊎◌, inl, inr, List, [], ◌∷◌, ◌++◌, length, map, cond, take, get_or, refl, sym}
use Rattle.std.proofs.Common.{◌∙◌, ap, ap₂, subst, arith, add-one, All, Ok, Err, Result, IfErr, OnOk, Option, None, Some, IfSome, Bool, true, false}
use Rattle.std.specs.Prelude.{nat_le, eqb}
use Rattle.std.proofs.lemmas.Bool.{eq-eqb}
use Rattle.std.proofs.lemmas.Bool.Decides.{eqb_tells}
use Rattle.std.proofs.lemmas.List.{length-append, get_or_default}
use Rattle.exact_values.specs.Rational.{ℚ, zero_ℚ, ◌*ℚ◌}
use Rattle.lp_definitions.specs.LinearProgram.{Matrix, size, IsColumn, IsRow, column, value_at}
use Rattle.lp_definitions.specs.Basis.{Basics, is_in, IsBasic, IsNonbasic, IsNonsingular, IsDirectionOf, AreRates, exchanged, row_basics}
use Rattle.lp_definitions.specs.RatesEvidence.{ExchangeRefused}
use Rattle.lp_definitions.specs.declared.Entry.{Entry}
use Rattle.lp_definitions.specs.declared.Evidence.{Evidence}
use Rattle.lp_laws.proofs.Values.{clash}
use Rattle.lp_laws.proofs.Exchange.{entering_in}
use Rattle.lp_laws.proofs.Opening.{IsNonsingular-row_basics, is_in-row_basics, length-row_basics, AreRates-opening}
use Rattle.lp_laws.proofs.WaypointLaws.{Covers-itself, Covers-insert, ExchangeRefused-covered}
use Rattle.lp_laws.specs.Rates.{opening_rate}
use Rattle.eta_file.specs.declared.eta.StoredEta.{StoredEta}
use Rattle.eta_file.specs.declared.eta.WholeEta.{WholeEta}
use Rattle.lp_laws.proofs.Alike.{direction_same}
use Rattle.whole_vectors.specs.Quotients.{quotients, AreQuotients, Represent}
use Rattle.whole_vectors.proofs.Over.{made_values}
use Rattle.eta_file.specs.Entries.{scaled, IsWholeOf, others, IsEntryWithin, AreApart, IsRowWithin, AreDistinctRows}
use Rattle.eta_file.specs.Transformations.{IsWithinPlaces, IsTransformed, IsLeaving, IsColumnFilled, NoneLater}
use Rattle.eta_file.specs.Refusals.{TransformRefused, LeaveRefused}
use Rattle.eta_file.specs.Prefixes.{IsEta, after, prefixes, rate_entries, entries_to, entry_count, IsExchangeOf, IsLentScaled}
use Rattle.eta_file.proofs.Counts.{rate_entries_few}
use Rattle.eta_file.specs.File.{IsFileOf}
use Rattle.lp_model.specs.RatesCalls.{HasPivot, IfOverflow}
use Rattle.lp_model.specs.declared.Stop.{Stop}
use Rattle.lp_model.specs.declared.Stop.TheVariants.{Overflow, NoMemory}
use Rattle.lp_laws.proofs.Uniqueness.{one_direction}
use Rattle.eta_file.specs.Inverse.{IsAppended}
use Rattle.lp_definitions.specs.Waypoints.{waypoint}
use Rattle.eta_file.proofs.RateEntries.{rate_entry, rate_entries_apart, others_less, length-rate_entries}
use Rattle.eta_file.proofs.PrefixLaws.{after-take_next, eta_at, Passed-take, nonsingular_after, out_from, entry_count-take, length-prefixes, prefixes-at}
use Rattle.eta_file.proofs.PrefixLaws.{rates_after, after-append, Passed-append}
use Rattle.eta_file.proofs.Directions.{leaver_is_not_entering, entry_rate, transformed_direction, leaving_direction, column_direction}
use Rattle.eta_file.proofs.RefusedLaws.{transform_refused, leave_refused}

-- what a refusal shows, in other words
pub refused_map : (r : Result (Unit {0}) Evidence) (P Q : Evidence → Type 0) → ((e : Evidence) → P e → Q e) → IfErr r P → IfErr r Q
refused_map (Ok x) P Q f h = h
refused_map (Err e) P Q f h = f e h

pub ok_map : (r : Result (Unit {0}) Evidence) (P Q : Type 0) → (P → Q) → OnOk r P → OnOk r Q
ok_map (Ok x) P Q f h = f h
ok_map (Err e) P Q f h = h

pub some_map : {X : Type 0} (o : Option X) (P Q : X → Type 0) → ((x : X) → P x → Q x) → IfSome o P → IfSome o Q
some_map None P Q f h = h
some_map (Some x) P Q f h = f x h

take_all : (es : List StoredEta) → take (length es) es ≡ es
take_all [] = refl
take_all (e ∷ es) = ap (λ rest. e ∷ rest) (take_all es)

-- a direction that was carried in numbers over one denominator
pub divided : (a : Matrix) (marks : Basics) (j : ℕ) (d : ℚ) (old new : List ℚ) → IsNonbasic a marks j →
    Represent (λ xs. IsDirectionOf a marks j (value_at xs)) d old → AreQuotients d old new → IsDirectionOf a marks j (value_at new)
divided a marks j d old new out h quotients_are =
    direction_same a marks j (value_at (quotients d old)) (value_at new) out.0 (λ i var. sym (made_values d old new quotients_are i)) h.holds

some_eta : (etas : List StoredEta) → 0 < length etas → StoredEta
some_eta [] h = absurd (omega arith)
some_eta (e ∷ es) h = e

module _ (a : Matrix) (etas : List StoredEta) (marks : Basics) (file : IsFileOf a etas marks) where
  abbrev set_at : ℕ → Basics
  set_at k = after (row_basics a) (take k etas)

  one_at : (k : ℕ) → IsNonsingular a (set_at k)
  one_at k = nonsingular_after a (row_basics a) (take k etas) (IsNonsingular-row_basics a) (Passed-take a (row_basics a) etas k file.passed)

  refused_here : (e : Evidence)
      → ExchangeRefused a (after (row_basics a) etas ∷ prefixes (row_basics a) etas) (after (row_basics a) etas) (prefixes (row_basics a) etas) e
      → ExchangeRefused a (marks ∷ prefixes (row_basics a) etas) marks (prefixes (row_basics a) etas) e
  refused_here e h = subst (λ m. ExchangeRefused a (m ∷ prefixes (row_basics a) etas) m (prefixes (row_basics a) etas) e) (sym file.are_marks) h

  -- a nonbasic is nonbasic since it left
  pub nonbasic_from : (j first : ℕ) → NoneLater etas j first → IsNonbasic a marks j → (k : ℕ) → first ≤ k → IsNonbasic a (set_at k) j
  nonbasic_from j first none out k from =
      out_from a (row_basics a) etas j first (IsNonsingular-row_basics a) file.passed none (subst (λ m. IsNonbasic a m j) file.are_marks out) k from

  module _ (k : ℕ) (eta : StoredEta) (below : k < length etas) (is_eta : eta ≡ get_or etas k eta) where
    pub is : IsEta a (set_at k) eta
    is = subst (λ (x : StoredEta). IsEta a (set_at k) x) (sym is_eta) (eta_at a (row_basics a) etas k eta file.passed below)

    set_next : set_at (k + 1) ≡ exchanged (set_at k) eta.p eta.q
    set_next =
        ap set_at (add-one k) ∙ after-take_next (row_basics a) etas k eta below
        ∙ ap (λ (x : StoredEta). exchanged (set_at k) x.p x.q) (sym is_eta)

    -- the place after it, as one number less
    pub set_then : (n : ℕ) → n ≡ k + 1 → set_at n ≡ exchanged (set_at k) eta.p eta.q
    set_then n same = ap set_at same ∙ set_next

    pub exchange_of : IsExchangeOf a (set_at k) eta.p eta.q eta.entries.items
    exchange_of = record { leaves = is.leaves; enters = is.enters; rate = is.rate; are_rates = is.are_rates; apart = is.apart; are_entries = is.are_entries }

    pub entries_at_most_rows : length eta.entries.items ≤ a.rows
    entries_at_most_rows = subst (λ es. length es ≤ a.rows) (sym is.are_entries) (rate_entries_few a (set_at k) (λ i. is.rate i eta.q) (one_at k))

    pub within_places : (n : ℕ) → n ≡ size a → IsWithinPlaces n eta
    within_places n same = record {
      p_low = is.leaves.0.0;
      p_high = omega (arith, is.leaves.0.1, same);
      q_low = is.enters.0.0;
      q_high = omega (arith, is.enters.0.1, same);
      apart = λ none. is.apart (sym is.is_pivot ∙ none);
      entries = λ i d inside.
          let one = rate_entry a (set_at k) (λ x. is.rate x eta.q) i d (subst (λ es. i < length es) is.are_entries inside) in
          subst (λ es. IsEntryWithin n (get_or es i d)) (sym is.are_entries) (one.low, omega (arith, one.high, same));
    }

    pub entries_apart : AreApart eta.entries.items
    entries_apart = subst (λ es. AreApart es) (sym is.are_entries) (rate_entries_apart a (set_at k) (λ x. is.rate x eta.q))

    pub whole_is : IfSome eta.whole (IsWholeOf eta.pivot eta.entries.items)
    whole_is = is.are_whole

    pub fewer : others eta.p eta.entries.items + 1 ≤ length eta.entries.items
    fewer =
        others_less eta.p eta.entries.items
        (λ none. is.apart (sym (entry_rate a (set_at k) (one_at k) eta is eta.p is.leaves.0 (leaver_is_not_entering a (set_at k) (one_at k) eta is)) ∙ none))

    pub count_next : entry_count (take (k + 1) etas) ≡ entry_count (take k etas) + length eta.entries.items
    count_next =
        ap (λ n. entry_count (take n etas)) (add-one k) ∙ entry_count-take etas k eta below
        ∙ ap (λ (x : StoredEta). entry_count (take k etas) + length x.entries.items) (sym is_eta)

    module _ (j : ℕ) (before : IsNonbasic a (set_at k) j) (next : IsNonbasic a (set_at (k + 1)) j) (old : List ℚ) (counted : length old ≡ size a)
        (direction : IsDirectionOf a (set_at k) j (value_at old)) where
      then : IsNonbasic a (exchanged (set_at k) eta.p eta.q) j
      then = subst (λ w. IsNonbasic a w j) set_next next

      apart_p : j ≢ eta.p
      apart_p same = clash (sym is.leaves.1 ∙ ap (is_in (set_at k)) (sym same) ∙ before.1)

      apart_q : j ≢ eta.q
      apart_q same =
          clash (sym (entering_in a (set_at k) (one_at k).counted eta.p eta.q is.leaves is.enters) ∙ ap (is_in (exchanged (set_at k) eta.p eta.q)) (sym same)
          ∙ then.1)

      pub transformed : (new : List ℚ) → IsTransformed eta old new → IsDirectionOf a (set_at (k + 1)) j (value_at new)
      transformed new h =
          subst (λ w. IsDirectionOf a w j (value_at new)) (sym set_next)
          (transformed_direction a (set_at k) (one_at k) eta is j before then apart_p apart_q old counted direction new h)

      pub transformation_refused : (e : Evidence) → TransformRefused eta (k + 1) j old e →
          ExchangeRefused a (marks ∷ prefixes (row_basics a) etas) marks (prefixes (row_basics a) etas) e
      transformation_refused e h =
          refused_here e
          (transform_refused a (row_basics a) (IsNonsingular-row_basics a) etas file.passed k eta below e j before
          (subst (λ (x : StoredEta). IsNonbasic a (exchanged (set_at k) x.p x.q) j) is_eta then)
          (subst (λ (x : StoredEta). j ≢ x.p) is_eta apart_p) (subst (λ (x : StoredEta). j ≢ x.q) is_eta apart_q) old counted direction
          (subst (λ (x : StoredEta). TransformRefused x (k + 1) j old e) is_eta h))

    pub left : (new : List ℚ) → length new ≡ size a → IsLeaving eta new → (n j : ℕ) → n ≡ k + 1 → eta.p ≡ j → IsDirectionOf a (set_at n) j (value_at new)
    left new counted h n j same own =
        subst (λ w. IsDirectionOf a w j (value_at new)) (sym (set_then n same))
        (subst (λ i. IsDirectionOf a (exchanged (set_at k) eta.p eta.q) i (value_at new)) own (leaving_direction a (set_at k) (one_at k) eta is new counted h))

    pub leaving_refused : (n : ℕ) → n ≡ k + 1 → (e : Evidence) → LeaveRefused eta n e →
        ExchangeRefused a (marks ∷ prefixes (row_basics a) etas) marks (prefixes (row_basics a) etas) e
    leaving_refused n same e h =
        refused_here e
        (leave_refused a (row_basics a) (IsNonsingular-row_basics a) etas file.passed k eta below e
        (subst (λ i. LeaveRefused (get_or etas k eta) i e) same (subst (λ (x : StoredEta). LeaveRefused x n e) is_eta h)))

  -- ---- a column that never left

  module _ (j : ℕ) (out : IsNonbasic a (set_at 0) j) where
    pub is_column : a.rows < j
    is_column = at (nat_le j a.rows) refl
      where
        at : (low : Bool) → nat_le j a.rows ≡ low → a.rows < j
        at true low = absurd (clash (sym (is_in-row_basics a j out.0 ∙ low) ∙ out.1))
        at false high = grind (arith, high)

    pub column_number : IsColumn a (j - a.rows)
    column_number = (omega (arith, is_column), omega (arith, out.0.1))

    pub column_rows : All (λ (e : Entry). IsRow a e.row) (column a (j - a.rows))
    column_rows = file.lawful.on_rows (j - a.rows - 1) [] (omega (arith, column_number.0, column_number.1, file.lawful.columns_counted))

    pub column_within : All (IsRowWithin j) (column a (j - a.rows))
    column_within i d below = let row = column_rows i d below in (row.0, omega (arith, row.1, is_column))

    pub column_distinct : AreDistinctRows (column a (j - a.rows))
    column_distinct = file.lawful.distinct (j - a.rows - 1) [] (omega (arith, column_number.0, column_number.1, file.lawful.columns_counted))

    pub filled : (new : List ℚ) → IsColumnFilled (column a (j - a.rows)) j new → IsDirectionOf a (set_at 0) j (value_at new)
    filled new h = column_direction a j new out is_column column_rows h

  -- ---- the marks, and their rates

  pub marks_counted : length marks ≡ size a
  marks_counted = ap length file.are_marks ∙ (nonsingular_after a (row_basics a) etas (IsNonsingular-row_basics a) file.passed).counted

  pub marks_nonsingular : IsNonsingular a marks
  marks_nonsingular = subst (λ m. IsNonsingular a m) (sym file.are_marks) (nonsingular_after a (row_basics a) etas (IsNonsingular-row_basics a) file.passed)

  marks_rates : (rate : ℕ → ℕ → ℚ) × AreRates a marks rate
  marks_rates =
      subst (λ m. (rate : ℕ → ℕ → ℚ) × AreRates a m rate) (sym file.are_marks)
      (rates_after a (row_basics a) etas (opening_rate a) (length-row_basics a) (AreRates-opening a) file.passed)

  -- ---- a direction that was carried in numbers over one denominator

  pub at_end : (j n : ℕ) (d : ℚ) (xs : List ℚ) → n ≡ length etas → Represent (λ ys. IsDirectionOf a (set_at n) j (value_at ys)) d xs →
      Represent (λ ys. IsDirectionOf a marks j (value_at ys)) d xs
  at_end j n d xs all h =
      subst (λ b. Represent (λ ys. IsDirectionOf a b j (value_at ys)) d xs)
      (ap (λ k. after (row_basics a) (take k etas)) all ∙ ap (after (row_basics a)) (take_all etas) ∙ sym file.are_marks) h

  -- ---- the number of entries

  pub entries_few : (k : ℕ) → k ≤ length etas → entry_count (take k etas) ≤ 4294967295 * k
  entries_few zero below = at etas
    where
      at : (es : List StoredEta) → entry_count (take zero es) ≤ 4294967295 * zero
      at [] = omega arith
      at (e ∷ es) = omega arith
  entries_few (suc k) below =
      let d : StoredEta = some_eta etas (omega arith) in
      let less : k < length etas = omega arith in
      let is = eta_at a (row_basics a) etas k d file.passed less in
      let so_far = entries_few k (omega arith) in
      let more = entry_count-take etas k d less in
      let few = length-rate_entries a (set_at k) (λ x. is.rate x (get_or etas k d).q) in
      let same : length (get_or etas k d).entries.items ≡ length (rate_entries a (set_at k) (λ x. is.rate x (get_or etas k d).q)) = ap length is.are_entries in
      omega (arith, so_far, more, few, same, file.lawful.small)

  -- ---- one exchange more

  module _ (p q : ℕ) (leaves : IsBasic a marks p) (enters : IsNonbasic a marks q) (d : List ℚ) (direction : IsDirectionOf a marks q (value_at d))
      (apart : value_at d p ≢ zero_ℚ) where
    -- the rates, with this direction as that of q
    abbrev with_direction : ℕ → ℕ → ℚ
    with_direction i j = cond (eqb j q) (value_at d i) (marks_rates.0 i j)

    at_q : eqb q q ≡ true
    at_q = eq-eqb q q refl

    are_with : AreRates a marks with_direction
    are_with j out = at (eqb_tells j q)
      where
        at : (((eqb j q ≡ true) × (j ≡ q)) ⊎ ((eqb j q ≡ false) × (j ≢ q))) → IsDirectionOf a marks j (λ i. with_direction i j)
        at (inl same) = rw same.0 (subst (λ k. IsDirectionOf a marks k (value_at d)) (sym same.1) direction)
        at (inr other) = rw other.0 (marks_rates.1 j out)

    new_eta : (eta : StoredEta) → eta.p ≡ p → eta.q ≡ q → eta.pivot ≡ value_at d p → eta.entries.items ≡ entries_to marks (value_at d) (length marks)
        → IfSome eta.whole (IsWholeOf eta.pivot eta.entries.items) → IsEta a marks eta
    new_eta eta is_p is_q is_pivot are_entries are_whole = record {
      leaves = subst (λ k. IsBasic a marks k) (sym is_p) leaves;
      enters = subst (λ k. IsNonbasic a marks k) (sym is_q) enters;
      rate = with_direction;
      are_rates = are_with;
      apart = λ none. apart (sym (pivot_rate eta is_p is_q) ∙ none);
      is_pivot = is_pivot ∙ sym (pivot_rate eta is_p is_q);
      are_entries =
          are_entries ∙ ap (entries_to marks (value_at d)) marks_counted
          ∙ ap (λ t. rate_entries a marks (λ i. cond t (value_at d i) (marks_rates.0 i q))) (sym at_q)
          ∙ ap (λ k. rate_entries a marks (λ i. with_direction i k)) (sym is_q);
      are_whole = are_whole;
    }
      where
        pivot_rate : (eta : StoredEta) → eta.p ≡ p → eta.q ≡ q → with_direction eta.p eta.q ≡ value_at d p
        pivot_rate eta is_p is_q = ap₂ with_direction is_p is_q ∙ ap (λ t. cond t (value_at d p) (marks_rates.0 p q)) at_q

    pub appended : (eta : StoredEta) → eta.p ≡ p → eta.q ≡ q → eta.pivot ≡ value_at d p → eta.entries.items ≡ entries_to marks (value_at d) (length marks)
        → IfSome eta.whole (IsWholeOf eta.pivot eta.entries.items) → length etas < 4294967294 → IsFileOf a (etas ++ (eta ∷ [])) (exchanged marks p q)
    appended eta is_p is_q is_pivot are_entries are_whole few = record {
      lawful = file.lawful;
      are_marks =
          ap (λ m. exchanged m p q) file.are_marks ∙ ap₂ (λ i j. exchanged (after (row_basics a) etas) i j) (sym is_p) (sym is_q)
          ∙ sym (after-append (row_basics a) etas eta);
      passed =
          Passed-append a (row_basics a) etas eta file.passed
          (subst (λ m. IsEta a m eta) file.are_marks (new_eta eta is_p is_q is_pivot are_entries are_whole));
      few = let more = length-append etas (eta ∷ []) in omega (arith, more, few);
    }

  pub added : (p q : ℕ) (es : List StoredEta) (eta : StoredEta) → es ≡ etas ++ (eta ∷ []) → eta.p ≡ p → eta.q ≡ q
      → IsAppended (record { matrix = a; basics = marks; etas = etas }) p q (record { matrix = a; basics = exchanged marks p q; etas = es })
  added p q es eta is_es is_p is_q = record { same_matrix = refl; is_exchanged = refl; eta = eta; is_p = is_p; is_q = is_q; one_more = is_es }

  -- the sets that the file has passed through
  pub way_is : (way : ℕ) → way ≢ 0 → way ≤ length (prefixes (row_basics a) etas) → waypoint marks (prefixes (row_basics a) etas) way ≡ set_at (way - 1)
  way_is zero some within = absurd (some refl)
  way_is (suc n) some within =
      let counted = length-prefixes (row_basics a) etas in
      let same : suc n - 1 ≡ n = omega arith in
      prefixes-at (row_basics a) etas n marks (omega (arith, within, counted)) ∙ ap set_at (sym same)

  pub way_below : (way : ℕ) → way ≤ length (prefixes (row_basics a) etas) → way ≤ length etas + 1
  way_below way within = let counted = length-prefixes (row_basics a) etas in omega (arith, within, counted)

-- what a stop shows, in other words
pub stop_map : (stop : Stop) (P Q : Evidence → Type 0) → ((e : Evidence) → P e → Q e) → IfOverflow stop P → IfOverflow stop Q
stop_map (Overflow e) P Q f h = f e h
stop_map NoMemory P Q f h = h

-- the column of an exchange, with the set that is to be made among those around
pub column_to_exchange : (a : Matrix) (b : Basics) (ways : List Basics) (p q : ℕ) (e : Evidence) → ExchangeRefused a (b ∷ ways) b ways e →
    ExchangeRefused a (b ∷ exchanged b p q ∷ ways) b ways e
column_to_exchange a b ways p q e h =
    ExchangeRefused-covered a (b ∷ ways) (b ∷ exchanged b p q ∷ ways) b ways e
    (Covers-insert a (b ∷ ways) b (exchanged b p q) ways (Covers-itself a (b ∷ ways))) h

-- a direction of the entering variable is not 0 at the leaver
pub pivot_apart : (a : Matrix) (b : Basics) → IsNonsingular a b → (p q : ℕ) → IsBasic a b p → (d : List ℚ) → IsDirectionOf a b q (value_at d) →
    HasPivot a b p q → value_at d p ≢ zero_ℚ
pivot_apart a b one p q leaves d direction pivot none = pivot.2 (one_direction a b q pivot.0 (value_at d) one pivot.1 direction p leaves.0 ∙ none)

-- an eta that has whole numbers
pub lent_scaled : (etas : List StoredEta) (k : ℕ) (eta : StoredEta) (w : WholeEta) → k < length etas → eta ≡ get_or etas k eta →
    IsWholeOf eta.pivot eta.entries.items w → IsLentScaled etas k w.scale w.pivot w.entries.items
lent_scaled etas k eta w below is h = record {
  apart = h.apart;
  is_pivot = λ d. h.is_pivot ∙ ap (λ (x : StoredEta). x.pivot *ℚ w.scale) (its d);
  are_entries = λ d. h.are_entries ∙ ap (λ (x : StoredEta). map (scaled w.scale) x.entries.items) (its d);
}
  where
    its : (d : StoredEta) → eta ≡ get_or etas k d
    its d = is ∙ get_or_default etas k eta d below
