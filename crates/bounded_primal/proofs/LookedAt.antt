-- A loop over the variables that are looked at in a motion: what isn't among them stands still, so that a step leaves it where it is and
-- it reaches no limit.
use Rattle.std.proofs.Common.{◌≡◌, ℕ, zero, suc, ◌+◌, ◌-◌, ◌<◌, ◌≤◌, ◌⊎◌, inl, inr, Bool, true, false, List, [], ◌∷◌, length, get_or, drop, refl, sym, ap, ap₂}
use Rattle.std.proofs.Common.{subst, ◌∙◌, arith}
use Rattle.std.specs.Prelude.{Option, Some, None, IsTrue, ◌||◌, slice_set}
use Rattle.std.proofs.lemmas.Bool.{cases_lt}
use Rattle.std.proofs.lemmas.List.{drop_all, drop_more, get_or-set_other, get_or-set_same}
use Rattle.exact_values.specs.Rational.{ℚ, zero_ℚ, ◌+ℚ◌, ◌*ℚ◌}
use Rattle.lp_definitions.specs.LinearProgram.{LinearProgram, Vector, value_at}
use Rattle.lp_model.specs.Sparse.{AreNonzeroFrom, no_more, next_nonzero, CoverNonzeroFrom, no_more_listed, next_listed}
use Rattle.simplex_definitions.specs.Moves.{step_length, is_no_later}
use Rattle.basis_values.specs.Motions.{motion}
use Rattle.basis_values.specs.Reach.{IsNearest, sooner}
use Rattle.basis_values.specs.declared.reach.Reach.{Reach}
use Rattle.basis_values.proofs.Lengths.{nearest_more}
use Rattle.basis_values.proofs.Skips.{stays_put}
use Rattle.bounded_primal.specs.KeptPoints.{has_limit}
use Rattle.bounded_primal.specs.Steps.{IsMoved, IsMovedAtLimits}
use Rattle.bounded_primal.proofs.Still.{no_step_length}

-- ---- which variables they are

pub listed_cover : (xs : List ℚ) (n : ℕ) (ks : List ℕ) → AreNonzeroFrom xs n ks → CoverNonzeroFrom xs n ks
listed_cover xs n [] (no_more zeros) = no_more_listed zeros
listed_cover xs n (k ∷ ks) (next_nonzero h rest) =
    next_listed (record { from = h.from; within = h.within; between = h.between }) (listed_cover xs (suc k) ks rest)

-- ---- how the loop goes on

-- the variables after n up to m stand still
abbrev pub StandStill : Vector → ℕ → ℕ → Type 0
StandStill d n m = (k : ℕ) → n < k → k ≤ m → d k ≡ zero_ℚ

-- so much is done of the variables up to n, and ks are left to be looked at
pub record IsDoneUpTo (xs : List ℚ) (Done : ℕ → Type 0) (ks : List ℕ) : Type 0 where
  pub upto : ℕ
  pub within : upto ≤ length xs
  pub done : Done upto
  pub left : CoverNonzeroFrom xs (suc upto) ks

-- so much is done of the variables before k, and after it ks are left
pub record IsDoneBefore (xs : List ℚ) (Done : ℕ → Type 0) (k : ℕ) (ks : List ℕ) : Type 0 where
  pub before : ℕ
  pub is_next : before + 1 ≡ k
  pub within : k ≤ length xs
  pub done : Done before
  pub left : CoverNonzeroFrom xs (suc k) ks

module _ (xs : List ℚ) (Done : ℕ → Type 0) where
  pub begun : (ks : List ℕ) → CoverNonzeroFrom xs 1 ks → Done 0 → IsDoneUpTo xs Done ks
  begun ks covers done = record { upto = 0; within = (omega arith); done = done; left = covers }

  pub one_more : (k : ℕ) (ks : List ℕ) → k ≤ length xs → CoverNonzeroFrom xs (suc k) ks → Done k → IsDoneUpTo xs Done ks
  one_more k ks within left done = record { upto = k; within = within; done = done; left = left }

  -- it goes over what stands still
  module _ (over : (n m : ℕ) → n ≤ m → StandStill (value_at xs) n m → Done n → Done m) where
    next_of : (k : ℕ) (ks : List ℕ) → IsDoneUpTo xs Done (k ∷ ks) → IsDoneBefore xs Done k ks
    next_of zero ks h = at h.left
      where
        at : CoverNonzeroFrom xs (suc h.upto) (zero ∷ ks) → IsDoneBefore xs Done zero ks
        at (next_listed next rest) = absurd (omega (arith, next.from))
    next_of (suc k) ks h = at h.left
      where
        at : CoverNonzeroFrom xs (suc h.upto) (suc k ∷ ks) → IsDoneBefore xs Done (suc k) ks
        at (next_listed next rest) = record {
          before = k;
          is_next = (omega arith);
          within = next.within;
          done = over h.upto k (omega (arith, next.from)) (λ i above high. next.between i (omega (arith, above)) (omega (arith, high))) h.done;
          left = rest;
        }

    end_of : IsDoneUpTo xs Done [] → Done (length xs)
    end_of h = at h.left
      where
        at : CoverNonzeroFrom xs (suc h.upto) [] → Done (length xs)
        at (no_more_listed zeros) = over h.upto (length xs) h.within (λ i above high. zeros i (omega (arith, above))) h.done

    pub next_at : (ks : List ℕ) (place k : ℕ) → place < length ks → k ≡ get_or ks place 0 → IsDoneUpTo xs Done (drop place ks) →
        IsDoneBefore xs Done k (drop (place + 1) ks)
    next_at ks place k below is h =
        next_of k (drop (place + 1) ks)
        (subst (λ (j : ℕ). IsDoneUpTo xs Done (j ∷ drop (place + 1) ks)) (sym is) (subst (IsDoneUpTo xs Done) (drop_more ks place 0 below) h))

    pub end_at : (ks : List ℕ) (place : ℕ) → length ks ≤ place → IsDoneUpTo xs Done (drop place ks) → Done (length xs)
    end_at ks place past h = end_of (subst (IsDoneUpTo xs Done) (drop_all place ks past) h)

-- ---- what reaches a limit first

-- what is nearest stays nearest over those that reach no limit
nearest_beyond : (f : ℕ → Option ℚ) (n m : ℕ) (nearest : Option Reach) → n ≤ m → ((k : ℕ) → n < k → k ≤ m → f k ≡ None) → IsNearest f n nearest →
    IsNearest f m nearest
nearest_beyond f n m None within none h = λ k low high. at k low high (cases_lt n k)
  where
    at : (k : ℕ) → 1 ≤ k → k ≤ m → (n < k) ⊎ (k ≤ n) → f k ≡ None
    at k low high (inl more) = none k more high
    at k low high (inr le) = h k low le
nearest_beyond f n m (Some r) within none h = record {
  low = h.low;
  high = omega (arith, h.high, within);
  reaches = h.reaches;
  first = λ i low high. at i low high (cases_lt n i);
  later = h.later;
}
  where
    at : (i : ℕ) → 1 ≤ i → i ≤ m → (n < i) ⊎ (i ≤ n) → is_no_later (f r.p) (f i) ≡ true
    at i low high (inl more) = rw (h.reaches, none i more high) refl
    at i low high (inr le) = h.first i low le

module _ (p : LinearProgram) (z d : Vector) (up : Bool) where
  abbrev pub NearestUpTo : Option Reach → ℕ → Type 0
  NearestUpTo nearest n = IsNearest (step_length p z (motion d up)) n nearest

  pub nearest_over : (nearest : Option Reach) (n m : ℕ) → n ≤ m → StandStill d n m → NearestUpTo nearest n → NearestUpTo nearest m
  nearest_over nearest n m within still =
      nearest_beyond (step_length p z (motion d up)) n m nearest within (λ k more high. sym (no_step_length p z d up k (still k more high)))

  pub nearest_by : (n k : ℕ) (nearest next : Option Reach) (length : Option ℚ) → n + 1 ≡ k → NearestUpTo nearest n → length ≡ step_length p z (motion d up) k →
      next ≡ sooner nearest length k → NearestUpTo next k
  nearest_by n k nearest next length e h is found =
      subst (NearestUpTo next) e
      (nearest_more (step_length p z (motion d up)) n nearest next length h (is ∙ ap (step_length p z (motion d up)) (sym e))
      (found ∙ ap (sooner nearest length) (sym e)))

-- ---- where the values come to stand

-- the first n variables of w, of those that Asked tells, are where the step brings them
module _ (t : ℚ) (d z : Vector) (Asked : ℕ → Type 0) where
  abbrev AreAhead : Vector → ℕ → Type 0
  AreAhead w n = (k : ℕ) → 1 ≤ k → k ≤ n → Asked k → w k ≡ z k +ℚ t *ℚ d k

  ahead_over : (w : Vector) (n m : ℕ) → StandStill d n m → ((k : ℕ) → n < k → w k ≡ z k) → AreAhead w n → AreAhead w m
  ahead_over w n m still same h k low high asked = at (cases_lt n k)
    where
      at : (n < k) ⊎ (k ≤ n) → w k ≡ z k +ℚ t *ℚ d k
      at (inl more) = same k more ∙ stays_put (z k) t (d k) (still k more high)
      at (inr le) = h k low le asked

  -- the next one is moved, or isn't asked
  ahead_by : (ws : List ℚ) (n k : ℕ) (x : ℚ) → n + 1 ≡ k → k ≤ length ws → x ≡ z k +ℚ t *ℚ d k → AreAhead (value_at ws) n →
      AreAhead (value_at (slice_set ws (k - 1) x)) k
  ahead_by ws n k x e within is h j low high asked = at (cases_lt n j)
    where
      at : (n < j) ⊎ (j ≤ n) → value_at (slice_set ws (k - 1) x) j ≡ z j +ℚ t *ℚ d j
      at (inl more) =
          let here : j ≡ k = omega (arith, e, more, high) in
          ap (value_at (slice_set ws (k - 1) x)) here ∙ get_or-set_same ws (k - 1) x zero_ℚ (omega (arith, e, within)) ∙ is
          ∙ ap (λ (i : ℕ). z i +ℚ t *ℚ d i) (sym here)
      at (inr le) = get_or-set_other ws (k - 1) (j - 1) x zero_ℚ (λ same. omega (arith, low, le, e, same)) ∙ h j low le asked

  ahead_but : (w : Vector) (n k : ℕ) → n + 1 ≡ k → (Asked k → ⊥) → AreAhead w n → AreAhead w k
  ahead_but w n k e never h j low high asked = at (cases_lt n j)
    where
      at : (n < j) ⊎ (j ≤ n) → w j ≡ z j +ℚ t *ℚ d j
      at (inl more) =
          let here : j ≡ k = omega (arith, e, more, high) in
          absurd (never (subst Asked here asked))
      at (inr le) = h j low le asked

-- of the first n variables those with a limit are moved, and all of them where all are kept; those after n are as before
pub record IsMovedUpTo (p : LinearProgram) (t : ℚ) (d z w : Vector) (all : Bool) (n : ℕ) : Type 0 where
  pub limited : IsMovedAtLimits p t d z n w
  pub moved : IsTrue all → IsMoved t d z n w
  pub rest : (k : ℕ) → n < k → w k ≡ z k

module _ (p : LinearProgram) (t : ℚ) (d z : Vector) where
  pub moved_over : (w : Vector) (all : Bool) (n m : ℕ) → n ≤ m → StandStill d n m → IsMovedUpTo p t d z w all n → IsMovedUpTo p t d z w all m
  moved_over w all n m within still h = record {
    limited = ahead_over t d z (λ k. IsTrue (has_limit p k)) w n m still h.rest h.limited;
    moved = λ kept k low high. ahead_over t d z (λ _. Unit {0}) w n m still h.rest (λ j l g _. h.moved kept j l g) k low high tt;
    rest = λ k more. h.rest k (omega (arith, more, within));
  }

  -- one that moves
  pub moved_by : (ws : List ℚ) (all : Bool) (n k : ℕ) (x value rate : ℚ) → n + 1 ≡ k → k ≤ length ws → value ≡ value_at ws k → rate ≡ d k →
      x ≡ value +ℚ t *ℚ rate →
      IsMovedUpTo p t d z (value_at ws) all n → IsMovedUpTo p t d z (value_at (slice_set ws (k - 1) x)) all k
  moved_by ws all n k x value rate e within value_is rate_is is h =
      let there : x ≡ z k +ℚ t *ℚ d k = is ∙ ap₂ (λ (v r : ℚ). v +ℚ t *ℚ r) (value_is ∙ h.rest k (omega (arith, e))) rate_is in
      record {
        limited = ahead_by t d z (λ j. IsTrue (has_limit p j)) ws n k x e within there h.limited;
        moved = λ kept j low high. ahead_by t d z (λ _. Unit {0}) ws n k x e within there (λ i l g _. h.moved kept i l g) j low high tt;
        rest = λ j more. get_or-set_other ws (k - 1) (j - 1) x zero_ℚ (λ same. omega (arith, e, more, same)) ∙ h.rest j (omega (arith, e, more));
      }

  -- one without a limit that is left where it is, where not all are kept
  pub moved_but : (w : Vector) (all now : Bool) (n k : ℕ) → n + 1 ≡ k → (IsTrue (has_limit p k) → ⊥) → (IsTrue now → ⊥) → IsMovedUpTo p t d z w all n →
      IsMovedUpTo p t d z w now k
  moved_but w all now n k e free some h = record {
    limited = ahead_but t d z (λ j. IsTrue (has_limit p j)) w n k e free h.limited;
    moved = λ kept. absurd (some kept);
    rest = λ j more. h.rest j (omega (arith, e, more));
  }

-- what isn't needed has no limit
pub or_left : (a b : Bool) → a ≡ true → (a || b) ≡ true
or_left true b h = refl
or_left false b h = cc

pub or_right : (a b : Bool) → b ≡ true → (a || b) ≡ true
or_right true b h = refl
or_right false b h = h
