-- What an exchange of p for q makes of the table.
use Rattle.std.specs.Prelude.{eqb}
use Rattle.std.proofs.Common.{◌≡◌, ◌≢◌, ℕ, ◌-◌, ◌<◌, ◌≤◌, ◌⊎◌, inl, inr, List, length, get_or, set, sym, ◌∙◌, ap, true, false, cond, subst, arith}
use Rattle.std.proofs.lemmas.Bool.Decides.{eqb_tells}
use Rattle.std.proofs.lemmas.List.{get_or-set_same, get_or-set_other, length-set, get_or_read}
use Rattle.std.specs.List.{HoldsAt}
use Rattle.exact_values.specs.Rational.{ℚ, zero_ℚ, one_ℚ, ◌/ℚ◌}
use Rattle.lp_definitions.specs.LinearProgram.{Matrix, Vector, size, IsVariable, value_at}
use Rattle.lp_definitions.specs.Basis.{Basics, is_in, IsBasic, IsNonbasic, IsNonsingular, exchanged}
use Rattle.lp_model.specs.RatesCalls.{HasPivot}
use Rattle.rates_dense.specs.declared.line.Line.{Line}
use Rattle.rates_dense.specs.Lines.{quotient_at, AreQuotients, IsTakenOver, entering_rate, staying_rate, LineByLine, SameRates, IsCommitted, entering_line}
use Rattle.rates_dense.specs.Lines.{changed_line, same_line, IsExchanged}
use Rattle.rates_dense.specs.Placed.{IsPlaced}
use Rattle.rates_dense.specs.Table.{IsLine, IsTableOf}
use Rattle.rates_dense.proofs.Fills.{filled_at, taken_everywhere}
use Rattle.rates_dense.proofs.Values.{zero_from_quotient}
use Rattle.lp_laws.proofs.Values.{clash}
use Rattle.lp_laws.specs.Rates.{exchanged_rate}
use Rattle.lp_laws.proofs.Uniqueness.{one_direction}
use Rattle.lp_laws.proofs.Exchange.{IsNonsingular-exchanged, AreRates-exchanged}
use Rattle.rates_dense.proofs.NewLines.{line_entry, untouched_entry, unchanged_entry, unchanged_entering, basic_stays, entering_basic, basic_before}
use Rattle.rates_dense.proofs.NewLines.{staying_new, entering_new}

-- a line whose rates are the same
pub line_kept : (a : Matrix) (b : Basics) (rate : ℕ → ℕ → ℚ) (old new : Line) → SameRates old new → IsLine a b rate old → IsLine a b rate new
line_kept a b rate old new same is = record {
  is_basic = subst (λ k. IsBasic a b k) (sym same.same_basic) is.is_basic;
  places = ap (λ v. length v.items) same.same_rates ∙ is.places;
  room = same.same_room ∙ is.room;
  entries = λ k var.
      ap (λ v. value_at v.items k) same.same_rates ∙ is.entries k var ∙ ap (λ i. line_entry b rate i k) (sym same.same_basic);
}

-- what becomes of the basic of a line
pub basic_enters : (p q : ℕ) (quotients : List ℚ) (old new : Line) → IsExchanged p q quotients old new → old.basic ≡ p → new.basic ≡ q
basic_enters p q quotients old new is own = at is.committed
  where
    at : IsCommitted p q is.changed is.ready new → new.basic ≡ q
    at (entering_line same now takes) = now
    at (changed_line other apart now takes) = absurd (other (is.same.same_basic ∙ own))
    at (same_line other none now) = absurd (other (is.same.same_basic ∙ own))

pub basic_kept : (p q : ℕ) (quotients : List ℚ) (old new : Line) → IsExchanged p q quotients old new → old.basic ≢ p → new.basic ≡ old.basic
basic_kept p q quotients old new is other = at is.committed
  where
    at : IsCommitted p q is.changed is.ready new → new.basic ≡ old.basic
    at (entering_line same now takes) = absurd (other (sym is.same.same_basic ∙ same))
    at (changed_line not_p apart now takes) = now ∙ is.same.same_basic
    at (same_line not_p none now) = ap (λ (line : Line). line.basic) now ∙ is.same.same_basic

module _ (a : Matrix) (b : Basics) (slots : List ℕ) (lines : List Line) (quotients : List ℚ) (table : IsTableOf a b slots lines quotients) where
  -- only the workspace differs
  pub table_kept : (now : List Line) (used : List ℚ) → length now ≡ length lines → length used ≡ length quotients → LineByLine SameRates lines now →
      IsTableOf a b slots now used
  table_kept now used counted room same = record {
    small = table.small;
    nonsingular = table.nonsingular;
    rate = table.rate;
    are_rates = table.are_rates;
    each_line = λ k d below.
        let before : k < length lines = omega (arith, counted, below) in
        line_kept a b table.rate (get_or lines k d) (get_or now k d) (same k d before) (table.each_line k d before);
    slots_counted = table.slots_counted;
    placed = λ k basic.
        let was = table.placed k basic in
        record { within = omega (arith, counted, was.within); own = λ d. (same (get_or slots (k - 1) 0) d was.within).same_basic ∙ was.own d };
    room = room ∙ table.room;
  }

  module _ (p q : ℕ) (leaves : IsBasic a b p) (enters : IsNonbasic a b q) (pivot : HasPivot a b p q) where
    -- where the leaver's line is
    abbrev pub slot : ℕ
    slot = get_or slots (p - 1) 0

    pub slot_read : (v : ℕ) → v ≡ get_or slots (p - 1) v → v ≡ slot
    slot_read v is =
        let within : p - 1 < length slots = omega (arith, table.slots_counted, leaves.0.0, leaves.0.1) in get_or_read slots (p - 1) v within is 0

    pub slot_within : slot < length lines
    slot_within = (table.placed p leaves).within

    pub rate_apart : table.rate p q ≢ zero_ℚ
    rate_apart none =
        pivot.2 (one_direction a b q pivot.0 (λ i. table.rate i q) table.nonsingular pivot.1 (table.are_rates q enters) p leaves.0 ∙ none)

    pub leaver_entry : (d : Line) (k : ℕ) → IsVariable a k → value_at (get_or lines slot d).rates.items k ≡ line_entry b table.rate p k
    leaver_entry d k var =
        (table.each_line slot d slot_within).entries k var ∙ ap (λ i. line_entry b table.rate i k) ((table.placed p leaves).own d)

    pub leaver_at_entering : (d : Line) → value_at (get_or lines slot d).rates.items q ≡ table.rate p q
    leaver_at_entering d = leaver_entry d q enters.0 ∙ ap (λ m. cond m zero_ℚ (table.rate p q)) enters.1

    pub leaver_apart : HoldsAt (λ leaver. value_at leaver.rates.items q ≢ zero_ℚ) lines slot
    leaver_apart d none = rate_apart (sym (leaver_at_entering d) ∙ none)

    pub nonsingular_then : IsNonsingular a (exchanged b p q)
    nonsingular_then =
        IsNonsingular-exchanged a b p q (λ i. table.rate i q) table.nonsingular leaves enters (table.are_rates q enters) rate_apart

    pub counted : length b ≡ size a
    counted = table.nonsingular.counted

    module _ (used : List ℚ) (room : length used ≡ size a) (are : HoldsAt (λ leaver. AreQuotients p q leaver.rates.items used) lines slot) where
      -- the quotients of the leaver's line, whose default is any line
      pub are_quotients : (d : Line) (k : ℕ) → IsVariable a k →
          value_at used k ≡ cond (eqb k p) one_ℚ (value_at (get_or lines slot d).rates.items k) /ℚ value_at (get_or lines slot d).rates.items q
      are_quotients d k var =
          let high : k ≤ length used = omega (arith, room, var.1) in
          filled_at used (quotient_at p q (get_or lines slot d).rates.items) (are d).filled k var.0 high

      line_then : (old new : Line) → IsLine a b table.rate old → IsExchanged p q used old new → IsLine a (exchanged b p q) (exchanged_rate table.rate p q) new
      line_then old new is change = at change.committed
        where
          leaver : Vector
          leaver k = value_at (get_or lines slot old).rates.items k

          ready : IsLine a b table.rate change.ready
          ready = line_kept a b table.rate old change.ready change.same is

          taken : (f : ℕ → ℚ) → IsTakenOver change.changed change.ready.rates.items new.rates.items f → (k : ℕ) → IsVariable a k
              → (value_at used k ≡ zero_ℚ → value_at change.ready.rates.items k ≡ f k) → value_at new.rates.items k ≡ f k
          taken f over k var kept =
              taken_everywhere change.changed used change.ready.rates.items new.rates.items f change.are_changed (ready.places ∙ sym room) over k var.0
              (omega (arith, room, var.1)) kept

          at_leaver : (i : ℕ) → line_entry b table.rate i p ≡ zero_ℚ
          at_leaver i = ap (λ m. cond m zero_ℚ (table.rate i p)) leaves.1

          pivot_apart : leaver q ≢ zero_ℚ
          pivot_apart = leaver_apart old

          not_both : eqb q p ≡ false
          not_both = elim (eqb_tells q p) [ inl same ↦ absurd (clash (sym leaves.1 ∙ ap (is_in b) (sym same.1) ∙ enters.1)) | inr other ↦ other.0 ]

          quotient_is : (k : ℕ) → IsVariable a k → eqb k p ≡ false → value_at used k ≡ leaver k /ℚ leaver q
          quotient_is k var reported = are_quotients old k var ∙ ap (λ m. cond m one_ℚ (leaver k) /ℚ leaver q) reported

          entering_apart : value_at used q ≢ zero_ℚ
          entering_apart none = pivot_apart (zero_from_quotient (leaver q) (leaver q) pivot_apart (sym (quotient_is q enters.0 not_both) ∙ none))

          at : IsCommitted p q change.changed change.ready new → IsLine a (exchanged b p q) (exchanged_rate table.rate p q) new
          at (entering_line same now takes) = record {
            is_basic = subst (λ k. IsBasic a (exchanged b p q) k) (sym now) (entering_basic a b counted table.rate table.are_rates p q leaves enters);
            places = takes.same_places ∙ ready.places;
            room = takes.same_room ∙ ready.room;
            entries = λ k var.
                let own : value_at change.ready.rates.items k ≡ leaver k =
                ready.entries k var ∙ ap (λ i. line_entry b table.rate i k) same ∙ sym (leaver_entry old k var) in
                taken (entering_rate p q used) (takes.taken (entering_rate p q used) (change.is_ready.entering same)) k var
                (λ none. own ∙ unchanged_entering p q (value_at used) leaver (leaver_entry old p leaves.0 ∙ at_leaver p) entering_apart k
                (λ reported. zero_from_quotient (leaver k) (leaver q) pivot_apart (sym (quotient_is k var reported) ∙ none)) none)
                ∙ entering_new a b counted table.rate table.are_rates p q leaves enters leaver (value_at used) (leaver_entry old) (are_quotients old) k var
                ∙ ap (λ i. line_entry (exchanged b p q) (exchanged_rate table.rate p q) i k) (sym now);
          }
          at (changed_line other apart now takes) = record {
            is_basic =
                subst (λ k. IsBasic a (exchanged b p q) k) (sym now)
                (basic_stays a b counted table.rate table.are_rates p q leaves enters change.ready.basic ready.is_basic other);
            places = takes.same_places ∙ ready.places;
            room = takes.same_room ∙ ready.room;
            entries = λ k var.
                taken (staying_rate p q used change.ready.rates.items)
                (takes.taken (staying_rate p q used change.ready.rates.items) (change.is_ready.staying other apart)) k var
                (unchanged_entry p q (value_at used) (value_at change.ready.rates.items)
                (ready.entries p leaves.0 ∙ at_leaver change.ready.basic) entering_apart k)
                ∙ staying_new a b counted table.rate table.are_rates p q leaves enters leaver (value_at used) (leaver_entry old)
                (are_quotients old) change.ready.basic (value_at change.ready.rates.items) ready.entries k var
                ∙ ap (λ i. line_entry (exchanged b p q) (exchanged_rate table.rate p q) i k) (sym now);
          }
          at (same_line other none now) = subst (λ (line : Line). IsLine a (exchanged b p q) (exchanged_rate table.rate p q) line) (sym now) (record {
            is_basic = basic_stays a b counted table.rate table.are_rates p q leaves enters change.ready.basic ready.is_basic other;
            places = ready.places;
            room = ready.room;
            entries = λ k var.
                untouched_entry p q (value_at used) (value_at change.ready.rates.items) (ready.entries p leaves.0 ∙ at_leaver change.ready.basic) none k
                ∙ staying_new a b counted table.rate table.are_rates p q leaves enters leaver (value_at used) (leaver_entry old)
                (are_quotients old) change.ready.basic (value_at change.ready.rates.items) ready.entries k var;
          })

      pub table_then : (now : List Line) → length now ≡ length lines → LineByLine (IsExchanged p q used) lines now →
          IsTableOf a (exchanged b p q) (set slots (q - 1) slot) now used
      table_then now same change = record {
        small = table.small;
        nonsingular = nonsingular_then;
        rate = exchanged_rate table.rate p q;
        are_rates = AreRates-exchanged a b counted table.rate table.are_rates p q leaves enters rate_apart;
        each_line = λ k d below.
            let before : k < length lines = omega (arith, same, below) in
            line_then (get_or lines k d) (get_or now k d) (table.each_line k d before) (change k d before);
        slots_counted = length-set slots (q - 1) slot ∙ table.slots_counted;
        placed = λ k basic. at k basic (eqb_tells k q);
        room = room;
      }
        where
          q_slot : q - 1 < length slots
          q_slot = omega (arith, table.slots_counted, enters.0.0, enters.0.1)

          entered : IsPlaced (set slots (q - 1) slot) now q
          entered =
              let is_slot : get_or (set slots (q - 1) slot) (q - 1) 0 ≡ slot = get_or-set_same slots (q - 1) slot 0 q_slot in
              record {
                within = subst (λ n. n < length now) (sym is_slot) (omega (arith, same, slot_within));
                own = λ d. ap (λ n. (get_or now n d).basic) is_slot
                    ∙ basic_enters p q used (get_or lines slot d) (get_or now slot d) (change slot d slot_within) ((table.placed p leaves).own d);
              }

          at : (k : ℕ) → IsBasic a (exchanged b p q) k → (((eqb k q ≡ true) × (k ≡ q)) ⊎ ((eqb k q ≡ false) × (k ≢ q))) →
              IsPlaced (set slots (q - 1) slot) now k
          at k basic (inl is_q) = subst (λ n. IsPlaced (set slots (q - 1) slot) now n) (sym is_q.1) entered
          at k basic (inr not_q) =
              let before = basic_before a b counted table.rate table.are_rates p q leaves enters k basic not_q.1 in
              let was = table.placed k before.0 in
              let other : k - 1 ≢ q - 1 = λ e. not_q.1 (omega (arith, e, basic.0.0, enters.0.0)) in
              let is_slot : get_or (set slots (q - 1) slot) (k - 1) 0 ≡ get_or slots (k - 1) 0 = get_or-set_other slots (q - 1) (k - 1) slot 0 other in
              let differs : (d : Line) → (get_or lines (get_or slots (k - 1) 0) d).basic ≢ p = λ d e. before.1 (sym (was.own d) ∙ e) in
              record {
                within = subst (λ n. n < length now) (sym is_slot) (omega (arith, same, was.within));
                own = λ d. ap (λ n. (get_or now n d).basic) is_slot
                    ∙ basic_kept p q used (get_or lines (get_or slots (k - 1) 0) d) (get_or now (get_or slots (k - 1) 0) d)
                    (change (get_or slots (k - 1) 0) d was.within) (differs d)
                    ∙ was.own d;
              }
