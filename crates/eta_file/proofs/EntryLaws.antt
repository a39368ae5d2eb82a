-- One entry more, of an eta or of a column.
use Rattle.std.proofs.Common.{◌≡◌, ◌≢◌, ℕ, zero, suc, ◌+◌, ◌<◌, ◌≤◌, List, [], ◌∷◌, length, take, get_or, map, refl, sym, ◌∙◌, ap, true, false, cond, arith}
use Rattle.std.proofs.Common.{Bool}
use Rattle.std.specs.Prelude.{nat_eq}
use Rattle.std.specs.List.{IsDistinct, AllByRecursion}
use Rattle.std.proofs.lemmas.Map.Keys.{IsDistinct-head, IsDistinct-tail}
use Rattle.exact_values.specs.Rational.{◌+ℚ◌}
use Rattle.exact_values.proofs.RingLaws.{add-zero, zero-add, add_assoc}
use Rattle.lp_definitions.specs.LinearProgram.{on_row}
use Rattle.lp_definitions.specs.declared.Entry.{Entry}
use Rattle.eta_file.specs.declared.eta.EtaEntry.{EtaEntry}
use Rattle.eta_file.specs.Entries.{sum_rate, rate_where, others}

pub sum_rate-take : (es : List EtaEntry) (n : ℕ) (d : EtaEntry) (k : ℕ) → n < length es →
    sum_rate (take (suc n) es) k ≡ sum_rate (take n es) k +ℚ rate_where (get_or es n d) k
sum_rate-take [] n d k below = absurd (omega arith)
sum_rate-take (e ∷ es) zero d k below = add-zero (rate_where e k) ∙ sym (zero-add (rate_where e k))
sum_rate-take (e ∷ es) (suc n) d k below =
    ap (λ s. rate_where e k +ℚ s) (sum_rate-take es n d k (omega arith))
    ∙ sym (add_assoc (rate_where e k) (sum_rate (take n es) k) (rate_where (get_or es n d) k))

pub others-take : (p : ℕ) (es : List EtaEntry) (n : ℕ) (d : EtaEntry) → n < length es →
    others p (take (suc n) es) ≡ others p (take n es) + cond (nat_eq (get_or es n d).i p) 0 1
others-take p [] n d below = absurd (omega arith)
others-take p (e ∷ es) zero d below = at (nat_eq e.i p)
  where
    at : (same : Bool) → cond same 0 1 ≡ 0 + cond same 0 1
    at true = refl
    at false = refl
others-take p (e ∷ es) (suc n) d below = at (nat_eq e.i p) (others-take p es n d (omega arith))
  where
    at : (same : Bool) → others p (take (suc n) es) ≡ others p (take n es) + cond (nat_eq (get_or es n d).i p) 0 1
        → cond same (others p (take (suc n) es)) (1 + others p (take (suc n) es)) ≡ cond same (others p (take n es)) (1 + others p (take n es)) + cond
        (nat_eq (get_or es n d).i p) 0 1
    at true h = h
    at false h = ap (λ k. 1 + k) h ∙ omega arith

pub others-take_le : (p : ℕ) (es : List EtaEntry) (n : ℕ) → others p (take n es) ≤ others p es
others-take_le p [] zero = omega arith
others-take_le p [] (suc n) = omega arith
others-take_le p (e ∷ es) zero = omega arith
others-take_le p (e ∷ es) (suc n) = at (nat_eq e.i p) (others-take_le p es n)
  where
    at : (same : Bool) → others p (take n es) ≤ others p es →
        cond same (others p (take n es)) (1 + others p (take n es)) ≤ cond same (others p es) (1 + others p es)
    at true h = h
    at false h = omega arith

-- the number of a row, once its entry has come
pub on_row-take_same : (c : List Entry) (n : ℕ) (d : Entry) → IsDistinct nat_eq (map (λ (e : Entry). e.row) c) → n < length c →
    on_row (take (suc n) c) (get_or c n d).row ≡ (get_or c n d).value
on_row-take_same [] n d apart below = absurd (omega arith)
on_row-take_same (e ∷ es) zero d apart below = let same : nat_eq e.row e.row ≡ true = grind arith in rw same
on_row-take_same (e ∷ es) (suc n) d apart below =
    let other : nat_eq e.row (get_or es n d).row ≡ false = at es n d (omega arith) (IsDistinct-head nat_eq e.row (map (λ (e : Entry). e.row) es) apart) in
    ap (λ t. cond t e.value (on_row (take (suc n) es) (get_or es n d).row)) other
    ∙ on_row-take_same es n d (IsDistinct-tail nat_eq e.row (map (λ (e : Entry). e.row) es) apart) (omega arith)
  where
    at : (es : List Entry) (n : ℕ) (d : Entry) → n < length es → AllByRecursion (λ r. nat_eq e.row r ≡ false) (map (λ (e : Entry). e.row) es) →
        nat_eq e.row (get_or es n d).row ≡ false
    at [] n d below all = absurd (omega arith)
    at (x ∷ xs) zero d below all = all.0
    at (x ∷ xs) (suc n) d below all = at xs n d (omega arith) all.1

pub on_row-take_other : (c : List Entry) (n : ℕ) (d : Entry) (k : ℕ) → n < length c → (get_or c n d).row ≢ k → on_row (take (suc n) c) k ≡ on_row (take n c) k
on_row-take_other [] n d k below other = absurd (omega arith)
on_row-take_other (e ∷ es) zero d k below other = let apart : nat_eq e.row k ≡ false = grind (arith, other) in rw apart
on_row-take_other (e ∷ es) (suc n) d k below other = ap (λ v. cond (nat_eq e.row k) e.value v) (on_row-take_other es n d k (omega arith) other)
