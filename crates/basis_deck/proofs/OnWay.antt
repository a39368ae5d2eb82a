-- Sets of basics on the way from the rows to a basis.
use Rattle.std.proofs.Common.{◌≡◌, ◌≢◌, ℕ, zero, suc, ◌+◌, ◌-◌, ◌<◌, ◌≤◌, ◌⊎◌, inl, inr, Bool, true, false, List, [], ◌∷◌, length, get_or, refl, sym, ◌∙◌, ap}
use Rattle.std.proofs.Common.{subst, arith, All}
use Rattle.std.specs.Prelude.{nat_le, eqb, count_by}
use Rattle.std.proofs.lemmas.Bool.Decides.{eqb_tells}
use Rattle.std.proofs.lemmas.List.Elements.{All-contains}
use Rattle.exact_values.specs.Rational.{ℚ, zero_ℚ}
use Rattle.exact_values.proofs.Inverse.{zero_or_not}
use Rattle.lp_definitions.specs.LinearProgram.{Matrix, size, IsVariable, value_at}
use Rattle.lp_definitions.specs.Basis.{Basics, is_in, IsBasic, IsNonbasic, IsDirectionOf, exchanged, row_basics}
use Rattle.lp_definitions.specs.Waypoints.{HasColumnsWithin, IsKept, KeepsWaypoints, waypoint}
use Rattle.lp_definitions.specs.RatesEvidence.{ExchangeRefused}
use Rattle.lp_definitions.specs.declared.Evidence.{Evidence}
use Rattle.lp_laws.proofs.Values.{clash}
use Rattle.lp_laws.proofs.Exchange.{marked_is, entering_in, others_stay, IsNonsingular-exchanged}
use Rattle.lp_laws.proofs.Opening.{is_in-row_basics, IsNonsingular-row_basics}
use Rattle.lp_laws.proofs.WaypointLaws.{Covers-all, covered, within_trans}
use Rattle.lp_model.specs.RatesCalls.{HasPivot, IfOverflow}
use Rattle.lp_model.specs.declared.Stop.{Stop}
use Rattle.lp_model.specs.declared.Stop.TheVariants as stops
use Rattle.reinversion.proofs.Marks.{same_marks}
use Rattle.basis_deck_definitions.specs.Dependencies.{IsDependency, InstallRefused}
use Rattle.basis_deck.specs.Installing.{IsOnWay, IsUnderWay, IsLeaver, HasNoLeaver, RefusesWay, fill_stop, FillStops}
use Rattle.basis_deck.proofs.Dependent.{dependent}

-- ---- at the rows

module _ (a : Matrix) (b : Basics) where
  row_in : (k : ℕ) → IsVariable a k → k ≤ a.rows → is_in (row_basics a) k ≡ true
  row_in k is low = let here : nat_le k a.rows ≡ true = grind arith in is_in-row_basics a k is ∙ here

  column_out : (k : ℕ) → IsVariable a k → a.rows < k → is_in (row_basics a) k ≡ false
  column_out k is past = let away : nat_le k a.rows ≡ false = grind arith in is_in-row_basics a k is ∙ away

  rows_within : HasColumnsWithin a (row_basics a) b
  rows_within k past basic = absurd (clash (sym basic.1 ∙ column_out k basic.0 past))

  pub at_rows : (w : Basics) (ways : List Basics) → w ≡ row_basics a → All (λ way. way ≡ row_basics a) ways → IsUnderWay a b w ways (a.rows + 1)
  at_rows w ways are only = subst (λ w. IsUnderWay a b w ways (a.rows + 1)) (sym are) (record {
    on_way = record {
      nonsingular = IsNonsingular-row_basics a;
      rows = λ k is low basic. row_in k is low;
      done = λ k is past before. absurd (omega (arith, past, before));
      ahead = λ k is from. column_out k is (omega (arith, from));
    };
    within = λ k d below. subst (λ w. HasColumnsWithin a w b) (sym (only k d below)) rows_within;
  })

module _ (a : Matrix) (b w : Basics) (ways : List Basics) (c : ℕ) (h : IsUnderWay a b w ways c) where
  -- the columns that are in are of b
  way_within : HasColumnsWithin a w b
  way_within k past basic = by (nat_le c k) refl
    where
      by : (far : Bool) → nat_le c k ≡ far → is_in b k ≡ true
      by true e = absurd (clash (sym basic.1 ∙ h.on_way.ahead k basic.0 (grind (arith, e))))
      by false e = sym (h.on_way.done k basic.0 past (grind (arith, e))) ∙ basic.1

  -- a column that b doesn't have
  pub passed_by : is_in b c ≡ false → IsUnderWay a b w ways (c + 1)
  passed_by out = record {
    on_way = record {
      nonsingular = h.on_way.nonsingular;
      rows = h.on_way.rows;
      done = λ k is past before. by k is past before (eqb_tells k c);
      ahead = λ k is from. h.on_way.ahead k is (omega (arith, from));
    };
    within = h.within;
  }
    where
      by : (k : ℕ) → IsVariable a k → a.rows < k → k < c + 1 → (((eqb k c ≡ true) × (k ≡ c)) ⊎ ((eqb k c ≡ false) × (k ≢ c))) → is_in w k ≡ is_in b k
      by k is past before (inl same) = h.on_way.ahead k is (omega (arith, same.1)) ∙ sym (ap (is_in b) same.1 ∙ out)
      by k is past before (inr other) = h.on_way.done k is past (omega (arith, before, other.1))

  -- waypoints after a call at the basics
  ways_within : (next : Basics) (now : List Basics) → HasColumnsWithin a next b → KeepsWaypoints a w ways next now → All (λ way. HasColumnsWithin a way b) now
  ways_within next now within keeps k d below = by (get_or now k d) (keeps.each k d below)
    where
      by : (way : Basics) → IsKept a w ways next way → HasColumnsWithin a way b
      by way (inl old) = All-contains (λ way. HasColumnsWithin a way b) ways way h.within old
      by way (inr (inl in_w)) = within_trans a way w b in_w way_within
      by way (inr (inr in_next)) = within_trans a way next b in_next within

  -- a call that leaves the basics
  pub stays : (after : Basics) (now : List Basics) → after ≡ w → KeepsWaypoints a w ways after now → IsUnderWay a b after now c
  stays after now same keeps = record {
    on_way = subst (λ w. IsOnWay a b w c) (sym same) h.on_way;
    within = ways_within after now (subst (λ w. HasColumnsWithin a w b) (sym same) way_within) keeps;
  }

  -- ---- refusals

  -- a waypoint that the evidence names
  named_within : (way : ℕ) → way ≤ length ways → HasColumnsWithin a (waypoint w ways way) b
  named_within zero few = way_within
  named_within (suc n) few = h.within n w (omega arith)

  pub refuses : (around : List Basics) (e : Evidence) → All (λ way. HasColumnsWithin a way b) around → ExchangeRefused a around w ways e →
      RefusesWay a b w ways e
  refuses around e near refused = record {
    is_way = refused.at.is_way;
    refused = subst (λ way. InstallRefused a b way e) refused.at.is_waypoint (record {
      rate = refused.rate;
      are_rates = refused.at.are_rates;
      formula = refused.formula;
      is_way = (refused.at.nonsingular, inl (subst (λ way. HasColumnsWithin a way b) (sym refused.at.is_waypoint) (named_within e.way refused.at.is_way)));
      reaches = (
        refused.at.reaches.0,
        covered a (exchanged refused.way e.p e.q) around (b ∷ [])
            (Covers-all a around (b ∷ []) (λ k d below. inl (near k d below))) refused.at.reaches.1,
      );
      no_theta = refused.at.no_theta;
    });
  }

  -- ---- a column of b, with its direction

  module _ (column : a.rows < c) (basic : IsBasic a b c) (xs : List ℚ) (direction : IsDirectionOf a w c (value_at xs)) where
    pub enters : IsNonbasic a w c
    enters = (basic.0, h.on_way.ahead c basic.0 (omega arith))

    -- no row may leave
    pub depends : HasNoLeaver a b xs → IsDependency a b c (value_at xs)
    depends none = dependent a b w c (value_at xs) h.on_way column basic direction vanishes
      where
        vanishes : (k : ℕ) → IsVariable a k → k ≤ a.rows → is_in b k ≡ false → is_in w k ≡ true → value_at xs k ≡ zero_ℚ
        vanishes k is low out inside = by (zero_or_not (value_at xs k))
          where
            by : ((value_at xs k ≡ zero_ℚ) ⊎ (value_at xs k ≢ zero_ℚ)) → value_at xs k ≡ zero_ℚ
            by (inl none_there) = none_there
            by (inr apart) = absurd (none k (record { is_row = (is.0, low); is_out = out; apart = apart }))

    -- p may leave
    module _ (p : ℕ) (leaver : IsLeaver a b xs p) where
      variable : IsVariable a p
      variable = (leaver.is_row.0, omega (arith, leaver.is_row.1))

      other : p ≢ c
      other e = absurd (omega (arith, e, leaver.is_row.1, column))

      pub leaves : IsBasic a w p
      leaves = (variable, by (is_in w p) refl)
        where
          by : (mark : Bool) → is_in w p ≡ mark → is_in w p ≡ true
          by true e = e
          by false e = absurd (leaver.apart (direction.others p (variable, e) other))

      next : Basics
      next = exchanged w p c

      remains : (k : ℕ) → IsVariable a k → k ≢ p → k ≢ c → is_in (exchanged w p c) k ≡ is_in w k
      remains k is not_p not_c = others_stay a w h.on_way.nonsingular.counted p c leaves enters k is not_p not_c

      pub exchanged_on_way : IsOnWay a b (exchanged w p c) (c + 1)
      exchanged_on_way = record {
        nonsingular = IsNonsingular-exchanged a w p c (value_at xs) h.on_way.nonsingular leaves enters direction leaver.apart;
        rows = λ k is low inside.
            let not_p : k ≢ p = λ e. clash (sym inside ∙ ap (is_in b) e ∙ leaver.is_out) in
            let not_c : k ≢ c = λ e. absurd (omega (arith, e, low, column)) in
            remains k is not_p not_c ∙ h.on_way.rows k is low inside;
        done = λ k is past before. by k is past before (eqb_tells k c);
        ahead = λ k is from.
            let not_p : k ≢ p = λ e. absurd (omega (arith, e, from, leaver.is_row.1, column)) in
            let not_c : k ≢ c = λ e. absurd (omega (arith, e, from)) in
            remains k is not_p not_c ∙ h.on_way.ahead k is (omega (arith, from));
      }
        where
          by : (k : ℕ) → IsVariable a k → a.rows < k → k < c + 1 → (((eqb k c ≡ true) × (k ≡ c)) ⊎ ((eqb k c ≡ false) × (k ≢ c))) →
              is_in (exchanged w p c) k ≡ is_in b k
          by k is past before (inl same) =
              ap (is_in (exchanged w p c)) same.1 ∙ entering_in a w h.on_way.nonsingular.counted p c leaves enters ∙ sym (ap (is_in b) same.1 ∙ basic.1)
          by k is past before (inr apart) =
              let not_p : k ≢ p = λ e. absurd (omega (arith, e, past, leaver.is_row.1)) in
              remains k is not_p apart.1 ∙ h.on_way.done k is past (omega (arith, before, apart.1))

-- after the exchange
module _ (a : Matrix) (b w : Basics) (ways : List Basics) (c : ℕ) (h : IsUnderWay a b w ways c) (column : a.rows < c) (basic : IsBasic a b c) (xs : List ℚ)
    (direction : IsDirectionOf a w c (value_at xs)) (p : ℕ) (leaver : IsLeaver a b xs p) where
  next_way : IsOnWay a b (exchanged w p c) (c + 1)
  next_way = exchanged_on_way a b w ways c h column basic xs direction p leaver

  next_within : HasColumnsWithin a (exchanged w p c) b
  next_within = way_within a b (exchanged w p c) [] (c + 1) (record { on_way = next_way; within = λ k d below. absurd (omega (arith, below)) })

  pub entered : (after : Basics) (now : List Basics) → after ≡ exchanged w p c → KeepsWaypoints a w ways after now → IsUnderWay a b after now (c + 1)
  entered after now same keeps = record {
    on_way = subst (λ w. IsOnWay a b w (c + 1)) (sym same) next_way;
    within = ways_within a b w ways c h after now (subst (λ w. HasColumnsWithin a w b) (sym same) next_within) keeps;
  }

  -- what an exchange is refused with
  pub exchange_refuses : (after : Basics) (now : List Basics) (e : Evidence) → after ≡ w → KeepsWaypoints a w ways after now →
      ExchangeRefused a (w ∷ exchanged w p c ∷ ways) w now e → RefusesWay a b after now e
  exchange_refuses after now e same keeps refused =
      refuses a b after now c (stays a b w ways c h after now same keeps) (w ∷ exchanged w p c ∷ ways) e near
      (subst (λ w'. ExchangeRefused a (w ∷ exchanged w p c ∷ ways) w' now e) (sym same) refused)
    where
      near : All (λ way. HasColumnsWithin a way b) (w ∷ exchanged w p c ∷ ways)
      near zero d below = way_within a b w ways c h
      near (suc zero) d below = next_within
      near (suc (suc k)) d below = h.within k d (omega arith)

-- what a column is refused with
pub column_refuses : (a : Matrix) (b w : Basics) (ways : List Basics) (c : ℕ) → IsUnderWay a b w ways c → (after : Basics) (now : List Basics) (e : Evidence)
    → after ≡ w → KeepsWaypoints a w ways after now
    → ExchangeRefused a (w ∷ ways) w now e → RefusesWay a b after now e
column_refuses a b w ways c h after now e same keeps refused =
    refuses a b after now c (stays a b w ways c h after now same keeps) (w ∷ ways) e near
    (subst (λ w'. ExchangeRefused a (w ∷ ways) w' now e) (sym same) refused)
  where
    near : All (λ way. HasColumnsWithin a way b) (w ∷ ways)
    near zero d below = way_within a b w ways c h
    near (suc k) d below = h.within k d (omega arith)

-- ---- all columns are through

marked_below : (marks : Basics) (i : ℕ) → get_or marks i false ≡ true → i < length marks
marked_below [] i h = absurd (clash (sym h))
marked_below (mark ∷ marks) zero h = omega arith
marked_below (mark ∷ marks) (suc i) h = let rest = marked_below marks i h in omega (arith, rest)

-- a set that has all of b, and no more, is b
pub same_basics : (a : Matrix) (b w : Basics) (c : ℕ) → length b ≡ size a → count_by (λ mark. mark) b ≡ a.rows → size a < c → IsOnWay a b w c → w ≡ b
same_basics a b w c counted marks all h =
    same_marks b w (counted ∙ sym h.nonsingular.counted) inside (marked_is w ∙ h.nonsingular.m_basics ∙ sym (marked_is b ∙ marks))
  where
    has : (k : ℕ) → IsVariable a k → is_in b k ≡ true → (low : Bool) → nat_le k a.rows ≡ low → is_in w k ≡ true
    has k is basic true e = h.rows k is (grind (arith, e)) basic
    has k is basic false e = h.done k is (grind (arith, e)) (omega (arith, is.1, all)) ∙ basic

    inside : (i : ℕ) → get_or b i false ≡ true → get_or w i false ≡ true
    inside i basic =
        let here : i + 1 - 1 ≡ i = omega arith in
        let within : i < size a = subst (λ n. i < n) counted (marked_below b i basic) in
        ap (λ n. get_or w n false) (sym here)
        ∙ has (i + 1) (omega arith, omega (arith, within)) (ap (λ n. get_or b n false) here ∙ basic) (nat_le (i + 1) a.rows) refl

-- ---- one column of b, by an engine: its matrix is m, and then m'

viewed : (a : Matrix) (b : Basics) (xs : List ℚ) (after : Basics) (now : List Basics) (stop : Stop) (P : Evidence → Type 0) →
    ((e : Evidence) → P e → RefusesWay a b after now e) → IfOverflow stop P → FillStops a b xs after now (fill_stop stop)
viewed a b xs after now (stops.Overflow e) P gives refused = gives e refused
viewed a b xs after now stops.NoMemory P gives refused = tt

module _ (a : Matrix) (b : Basics) (m : Matrix) (w : Basics) (ways : List Basics) (k : ℕ) (same_m : m ≡ a) (h : IsUnderWay a b w ways k) where
  pub column_stops : (xs : List ℚ) (after : Basics) (now : List Basics) (stop : Stop) → after ≡ w → KeepsWaypoints m w ways after now →
      IfOverflow stop (ExchangeRefused m (w ∷ ways) w now) → FillStops a b xs after now (fill_stop stop)
  column_stops xs after now stop same keeps refused =
      viewed a b xs after now stop (ExchangeRefused m (w ∷ ways) w now)
      (λ e r. column_refuses a b w ways k h after now e same (subst (λ m. KeepsWaypoints m w ways after now) same_m keeps)
      (subst (λ m. ExchangeRefused m (w ∷ ways) w now e) same_m r)) refused

  module _ (column : a.rows < k) (is : IsVariable a k) (mark : is_in b k ≡ true) (m' : Matrix) (w' : Basics) (mid : List Basics) (same_m' : m' ≡ m)
      (same_w' : w' ≡ w) (keeps : KeepsWaypoints m w ways w' mid)
      (xs : List ℚ) (direction : IsDirectionOf m w k (value_at xs)) where
    at_w : IsDirectionOf a w k (value_at xs)
    at_w = subst (λ m. IsDirectionOf m w k (value_at xs)) same_m direction

    after_column : IsUnderWay a b w' mid k
    after_column = stays a b w ways k h w' mid same_w' (subst (λ m. KeepsWaypoints m w ways w' mid) same_m keeps)

    at_w' : IsDirectionOf a w' k (value_at xs)
    at_w' = subst (λ w. IsDirectionOf a w k (value_at xs)) (sym same_w') at_w

    pub singular : HasNoLeaver a b xs → (c : ℕ) × IsDependency a b c (value_at xs)
    singular none = (k, depends a b w ways k h column (is, mark) xs at_w none)

    module _ (p : ℕ) (leaver : IsLeaver a b xs p) where
      pub pivot : HasPivot m' w' p k
      pivot = (value_at xs, subst (λ m. IsDirectionOf m w' k (value_at xs)) (sym (same_m' ∙ same_m)) at_w', leaver.apart)

      pub engine_entered : (after : Basics) (now : List Basics) → after ≡ exchanged w' p k → KeepsWaypoints m' w' mid after now →
          IsUnderWay a b after now (k + 1)
      engine_entered after now same kept =
          entered a b w' mid k after_column column (is, mark) xs at_w' p leaver after now same
          (subst (λ m. KeepsWaypoints m w' mid after now) (same_m' ∙ same_m) kept)

      pub exchange_stops : (after : Basics) (now : List Basics) (stop : Stop) → after ≡ w' → KeepsWaypoints m' w' mid after now →
          IfOverflow stop (ExchangeRefused m' (w' ∷ exchanged w' p k ∷ mid) w' now) → FillStops a b xs after now (fill_stop stop)
      exchange_stops after now stop same kept refused =
          viewed a b xs after now stop (ExchangeRefused m' (w' ∷ exchanged w' p k ∷ mid) w' now)
          (λ e r. exchange_refuses a b w' mid k after_column column (is, mark) xs at_w' p leaver after now e same
          (subst (λ m. KeepsWaypoints m w' mid after now) (same_m' ∙ same_m) kept)
          (subst (λ m. ExchangeRefused m (w' ∷ exchanged w' p k ∷ mid) w' now e) (same_m' ∙ same_m) r)) refused
