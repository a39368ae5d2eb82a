-- What an eta makes of a direction.
use Rattle.std.proofs.Common.{◌≡◌, ◌≢◌, ℕ, suc, ◌+◌, ◌-◌, ◌<◌, ◌≤◌, ◌⊎◌, inl, inr, List, [], ◌∷◌, length, refl, sym, ◌∙◌, ap, ap₂, true, false, cond, Bool}
use Rattle.std.proofs.Common.{arith, All}
use Rattle.std.specs.Prelude.{nat_eq, nat_le, eqb}
use Rattle.std.proofs.lemmas.Bool.Decides.{eqb_tells}
use Rattle.exact_values.specs.Rational.{ℚ, zero_ℚ, one_ℚ, neg_ℚ, ◌-ℚ◌, ◌*ℚ◌, ◌/ℚ◌}
use Rattle.exact_values.proofs.RingLaws.{mul-one, zero-mul, zero-add}
use Rattle.exact_values.proofs.Inverse.{div-mul_cancel}
use Rattle.lp_definitions.specs.LinearProgram.{Matrix, Vector, size, IsVariable, IsRow, column, on_row, value_at}
use Rattle.lp_definitions.specs.Basis.{Basics, is_in, IsNonbasic, IsNonsingular, IsDirectionOf, exchanged, row_basics}
use Rattle.lp_definitions.specs.declared.Entry.{Entry}
use Rattle.lp_laws.specs.Vectors.{unit}
use Rattle.lp_laws.specs.Rates.{opening_rate}
use Rattle.lp_laws.proofs.Values.{sub-self, sub-zero, clash}
use Rattle.lp_laws.proofs.Uniqueness.{one_direction}
use Rattle.lp_laws.proofs.Exchange.{leaver_direction, other_direction}
use Rattle.lp_laws.proofs.Opening.{AreRates-opening}
use Rattle.lp_laws.proofs.Alike.{direction_same}
use Rattle.lp_laws.proofs.Idle.{zero_over}
use Rattle.eta_file.specs.declared.eta.StoredEta.{StoredEta}
use Rattle.eta_file.specs.Entries.{sum_rate}
use Rattle.eta_file.specs.Transformations.{IsTransformed, untouched, changed, IsLeaving, IsColumnFilled}
use Rattle.eta_file.specs.Prefixes.{IsEta}
use Rattle.eta_file.proofs.RateEntries.{sum_rate_entries}

module _ (a : Matrix) (w : Basics) (one : IsNonsingular a w) (e : StoredEta) (is : IsEta a w e) where
  pub leaver_is_not_entering : e.p ≢ e.q
  leaver_is_not_entering same = clash (sym is.leaves.1 ∙ ap (is_in w) same ∙ is.enters.1)

  own_rate : is.rate e.q e.q ≡ one_ℚ
  own_rate = (is.are_rates e.q is.enters).own

  -- what the entries have at a variable, is its rate at the entering variable
  pub entry_rate : (i : ℕ) → IsVariable a i → i ≢ e.q → sum_rate e.entries.items i ≡ is.rate i e.q
  entry_rate i var other = ap (λ es. sum_rate es i) is.are_entries ∙ sum_rate_entries a w (λ k. is.rate k e.q) i var ∙ at (is_in w i) refl
    where
      at : (mark : Bool) → is_in w i ≡ mark → cond mark (is.rate i e.q) zero_ℚ ≡ is.rate i e.q
      at true basic = refl
      at false out = sym ((is.are_rates e.q is.enters).others i (var, out) other)

  module _ (j : ℕ) (before : IsNonbasic a w j) (then : IsNonbasic a (exchanged w e.p e.q) j) (apart_p : j ≢ e.p) (apart_q : j ≢ e.q) where
    abbrev made : Vector
    made i = is.rate i j -ℚ (is.rate e.p j /ℚ is.rate e.p e.q) *ℚ is.rate i e.q

    made_at_leaver : made e.p ≡ zero_ℚ
    made_at_leaver = ap (λ x. is.rate e.p j -ℚ x) (div-mul_cancel (is.rate e.p j) (is.rate e.p e.q) is.apart) ∙ sub-self (is.rate e.p j)

    made_at_entering : made e.q ≡ neg_ℚ (is.rate e.p j /ℚ is.rate e.p e.q)
    made_at_entering =
        ap (λ x. x -ℚ (is.rate e.p j /ℚ is.rate e.p e.q) *ℚ is.rate e.q e.q) ((is.are_rates j before).others e.q is.enters (λ same. apart_q (sym same)))
        ∙ ap (λ x. zero_ℚ -ℚ (is.rate e.p j /ℚ is.rate e.p e.q) *ℚ x) own_rate
        ∙ ap (λ x. zero_ℚ -ℚ x) (mul-one (is.rate e.p j /ℚ is.rate e.p e.q))
        ∙ zero-add (neg_ℚ (is.rate e.p j /ℚ is.rate e.p e.q))

    module _ (old : List ℚ) (counted : length old ≡ size a) (direction : IsDirectionOf a w j (value_at old)) where
      pub old_is : (i : ℕ) → IsVariable a i → value_at old i ≡ is.rate i j
      old_is i var = one_direction a w j (value_at old) (λ k. is.rate k j) one direction (is.are_rates j before) i var

      pub ratio_is : value_at old e.p /ℚ e.pivot ≡ is.rate e.p j /ℚ is.rate e.p e.q
      ratio_is = ap₂ (λ u v. u /ℚ v) (old_is e.p is.leaves.0) is.is_pivot

      pub transformed_direction : (new : List ℚ) → IsTransformed e old new → IsDirectionOf a (exchanged w e.p e.q) j (value_at new)
      transformed_direction new transformed =
          direction_same a (exchanged w e.p e.q) j made (value_at new) before.0 (same transformed)
          (other_direction a w one.counted is.rate is.are_rates e.p e.q is.leaves is.enters is.apart j then apart_p)
        where
          same : IsTransformed e old new → (i : ℕ) → IsVariable a i → value_at new i ≡ made i
          same (untouched none is_old) i var =
              ap (λ xs. value_at xs i) is_old ∙ old_is i var
              ∙ sym (ap (λ x. is.rate i j -ℚ x *ℚ is.rate i e.q) (zero_over (is.rate e.p j) (is.rate e.p e.q) (sym (old_is e.p is.leaves.0) ∙ none))
              ∙ ap (λ x. is.rate i j -ℚ x) (zero-mul (is.rate i e.q)) ∙ sub-zero (is.rate i j))
          same (changed at_p at_q elsewhere) i var = split (eqb_tells i e.p) (eqb_tells i e.q)
            where
              split : (((eqb i e.p ≡ true) × (i ≡ e.p)) ⊎ ((eqb i e.p ≡ false) × (i ≢ e.p))) →
                  (((eqb i e.q ≡ true) × (i ≡ e.q)) ⊎ ((eqb i e.q ≡ false) × (i ≢ e.q))) → value_at new i ≡ made i
              split (inl here) others =
                  let differ : nat_eq e.p e.q ≡ false = grind (arith, leaver_is_not_entering) in
                  ap (value_at new) here.1 ∙ at_p ∙ ap (λ t. cond t (neg_ℚ (value_at old e.p /ℚ e.pivot)) zero_ℚ) differ ∙ sym (ap made here.1 ∙ made_at_leaver)
              split (inr other) (inl here) = ap (value_at new) here.1 ∙ at_q ∙ ap neg_ℚ ratio_is ∙ sym (ap made here.1 ∙ made_at_entering)
              split (inr other) (inr also) =
                  elsewhere i var.0 (omega (arith, var.1, counted)) other.1 also.1
                  ∙ ap₂ (λ x u. x -ℚ u *ℚ sum_rate e.entries.items i) (old_is i var) ratio_is
                  ∙ ap (λ s. is.rate i j -ℚ (is.rate e.p j /ℚ is.rate e.p e.q) *ℚ s) (entry_rate i var also.1)

  pub leaving_direction : (new : List ℚ) → length new ≡ size a → IsLeaving e new → IsDirectionOf a (exchanged w e.p e.q) e.p (value_at new)
  leaving_direction new counted leaving =
      direction_same a (exchanged w e.p e.q) e.p made (value_at new) is.leaves.0 (λ i var. same i var (eqb_tells i e.p) (eqb_tells i e.q))
      (leaver_direction a w one.counted is.rate is.are_rates e.p e.q is.leaves is.enters is.apart)
    where
      made : Vector
      made = λ i. (one_ℚ /ℚ is.rate e.p e.q) *ℚ is.rate i e.q

      same : (i : ℕ) → IsVariable a i → (((eqb i e.p ≡ true) × (i ≡ e.p)) ⊎ ((eqb i e.p ≡ false) × (i ≢ e.p))) →
          (((eqb i e.q ≡ true) × (i ≡ e.q)) ⊎ ((eqb i e.q ≡ false) × (i ≢ e.q))) → value_at new i ≡ made i
      same i var (inl here) others =
          ap (value_at new) here.1 ∙ leaving.leaver leaver_is_not_entering ∙ sym (ap made here.1 ∙ div-mul_cancel one_ℚ (is.rate e.p e.q) is.apart)
      same i var (inr other) (inl here) =
          ap (value_at new) here.1 ∙ leaving.entering_variable ∙ ap (λ v. one_ℚ /ℚ v) is.is_pivot
          ∙ sym (ap made here.1 ∙ ap (λ x. (one_ℚ /ℚ is.rate e.p e.q) *ℚ x) own_rate ∙ mul-one (one_ℚ /ℚ is.rate e.p e.q))
      same i var (inr other) (inr also) =
          leaving.each i var.0 (omega (arith, var.1, counted)) other.1 also.1
          ∙ ap (λ v. (one_ℚ /ℚ v) *ℚ sum_rate e.entries.items i) is.is_pivot
          ∙ ap (λ s. (one_ℚ /ℚ is.rate e.p e.q) *ℚ s) (entry_rate i var also.1)

-- a column has no number past the rows
past_rows : (m : ℕ) (c : List Entry) (k : ℕ) → All (λ (e : Entry). (1 ≤ e.row) × (e.row ≤ m)) c → m < k → on_row c k ≡ zero_ℚ
past_rows m [] k on past = refl
past_rows m (e ∷ es) k on past =
    let row : (1 ≤ e.row) × (e.row ≤ m) = on 0 e (omega arith) in
    let other : nat_eq e.row k ≡ false = grind (arith, row.1) in
    ap (λ t. cond t e.value (on_row es k)) other ∙ past_rows m es k (λ i d below. on (suc i) d (omega arith)) past

pub column_direction : (a : Matrix) (j : ℕ) (new : List ℚ) → IsNonbasic a (row_basics a) j → a.rows < j
    → All (λ (e : Entry). IsRow a e.row) (column a (j - a.rows))
    → IsColumnFilled (column a (j - a.rows)) j new → IsDirectionOf a (row_basics a) j (value_at new)
column_direction a j new out above on filled =
    direction_same a (row_basics a) j (λ i. opening_rate a i j) (value_at new) out.0 (λ i var. same i var (eqb_tells i j) (nat_le i a.rows) refl)
    (AreRates-opening a j out)
  where
    number : a.rows + (j - a.rows) ≡ j
    number = omega (arith, above)

    same : (i : ℕ) → IsVariable a i → (((eqb i j ≡ true) × (i ≡ j)) ⊎ ((eqb i j ≡ false) × (i ≢ j))) → (low : Bool) → nat_le i a.rows ≡ low →
        value_at new i ≡ unit a (j - a.rows) i
    same i var (inl here) true low = absurd (let le : i ≤ a.rows = grind (arith, low) in omega (arith, le, here.1, above))
    same i var (inl here) false high =
        let is_j : nat_eq i (a.rows + (j - a.rows)) ≡ true = grind (arith, here.1, number) in
        ap (value_at new) here.1 ∙ filled.own ∙ sym (rw (high, is_j) refl)
    same i var (inr other) true low = filled.rows i var.0 other.1 ∙ sym (rw low refl)
    same i var (inr other) false high =
        let past : a.rows < i = grind (arith, high) in
        let not_j : nat_eq i (a.rows + (j - a.rows)) ≡ false = grind (arith, other.1, number) in
        filled.rows i var.0 other.1 ∙ past_rows a.rows (column a (j - a.rows)) i on past ∙ sym (rw (high, not_j) refl)
