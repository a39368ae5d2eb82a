-- What lets a nonbasic lower a quantity is what the path's choice asks.
use Rattle.std.proofs.Common.{◌≡◌, ◌≢◌, ℕ, ◌+◌, ◌-◌, ◌<◌, ◌≤◌, List, [], ◌∷◌, ◌++◌, length, set, Bool, true, false, ◌⊎◌, inl, inr, refl, sym, ◌∙◌, ap, arith}
use Rattle.std.specs.Prelude.{eqb, Option, Some, None, not, ◌&&◌, ◌||◌, if◌then◌else◌}
use Rattle.std.proofs.lemmas.Bool.Decides.{eqb_tells}
use Rattle.std.proofs.lemmas.List.{get_or-set_same, get_or-set_other, length-set, get_or_append_left, get_or_push}
use Rattle.exact_values.specs.Rational.{ℚ, zero_ℚ}
use Rattle.exact_values.specs.Tests.{lt_ℚ}
use Rattle.lp_definitions.specs.LinearProgram.{LinearProgram, Vector, IsVariable}
use Rattle.lp_definitions.specs.Basis.{status_of, with_status, IsBasis}
use Rattle.lp_definitions.specs.declared.Status.{Status}
use Rattle.lp_definitions.specs.declared.Status.TheVariants.{Bs, Ll, Ul, Fr}
use Rattle.lp_laws.proofs.Statuses.{changed_other}
use Rattle.lp_model.specs.Wanted.{is_wanted, turned, wanted_at, meets, IsLeastWanted}
use Rattle.lp_model.specs.declared.wanted.Wanted.{Wanted}
use Rattle.lp_model.specs.declared.wanted.Wanted.TheVariants.{Nothing}
use Rattle.simplex_definitions.specs.Moves.{is_fixed, rises_from, falls_from, lowers, entering}
use Rattle.simplex_definitions.specs.Path.{Move, after}
use Rattle.simplex_laws.proofs.Searches.{least_is, least_none}
use Rattle.basis_values.specs.Motions.{motion}
use Rattle.basis_values.specs.Wants.{want_from, want_of, AreWants, AreWantsBut}

wanted_from : (st : Status) (fixed : Bool) (v : ℚ) → is_wanted (if fixed then Nothing else want_from st) v
    ≡ ((lt_ℚ v zero_ℚ && (rises_from st && not fixed)) || (lt_ℚ zero_ℚ v && (falls_from st && not fixed)))
wanted_from st fixed v = at st fixed (lt_ℚ v zero_ℚ) (lt_ℚ zero_ℚ v) refl refl
  where
    at : (st : Status) (fixed a b : Bool) → lt_ℚ v zero_ℚ ≡ a → lt_ℚ zero_ℚ v ≡ b → is_wanted (if fixed then Nothing else want_from st) v
        ≡ ((a && (rises_from st && not fixed)) || (b && (falls_from st && not fixed)))
    at Bs true true true e f = refl
    at Bs true true false e f = refl
    at Bs true false true e f = refl
    at Bs true false false e f = refl
    at Bs false true true e f = refl
    at Bs false true false e f = refl
    at Bs false false true e f = refl
    at Bs false false false e f = refl
    at Ll true true true e f = refl
    at Ll true true false e f = refl
    at Ll true false true e f = refl
    at Ll true false false e f = refl
    at Ll false true true e f = e
    at Ll false true false e f = e
    at Ll false false true e f = e
    at Ll false false false e f = e
    at Ul true true true e f = refl
    at Ul true true false e f = refl
    at Ul true false true e f = refl
    at Ul true false false e f = refl
    at Ul false true true e f = f
    at Ul false true false e f = f
    at Ul false false true e f = f
    at Ul false false false e f = f
    at Fr true true true e f = refl
    at Fr true true false e f = refl
    at Fr true false true e f = refl
    at Fr true false false e f = refl
    at Fr false true true e f = ap (λ a. a || lt_ℚ zero_ℚ v) e
    at Fr false true false e f = ap (λ a. a || lt_ℚ zero_ℚ v) e
    at Fr false false true e f = ap (λ a. a || lt_ℚ zero_ℚ v) e ∙ f
    at Fr false false false e f = ap (λ a. a || lt_ℚ zero_ℚ v) e ∙ f

module _ (p : LinearProgram) (s : List Status) (ws : List Wanted) (h : AreWants p s ws) where
  -- a rate is wanted just where it lets the variable lower the quantity
  meets_lowers : (up : Bool) (xs : Vector) (k : ℕ) → IsVariable p.matrix k → meets ws up xs k ≡ lowers p s (motion xs up) k
  meets_lowers up xs k is = ap (λ w. is_wanted w (turned up (xs k))) (h.each k is) ∙ wanted_from (status_of s k) (is_fixed p k) (motion xs up k)

  -- so the least-numbered one that is wanted enters
  pub wanted_enters : (up : Bool) (xs : Vector) (found : Option ℕ) → IsLeastWanted ws up xs found → found ≡ entering p s (motion xs up)
  wanted_enters up xs None least =
      sym (least_none p (lowers p s (motion xs up)) (λ k is. sym (meets_lowers up xs k is) ∙ least k is.0 (omega (arith, is.1, h.places))))
  wanted_enters up xs (Some q) least =
      let is_q : IsVariable p.matrix q = (least.low, omega (arith, least.high, h.places)) in
      sym (least_is p (lowers p s (motion xs up)) q (record {
        is_variable = is_q;
        passes = sym (meets_lowers up xs q is_q) ∙ least.met;
        before = λ k low less. sym (meets_lowers up xs k (low, omega (arith, less, is_q.1))) ∙ least.before k low less;
      }))

  -- a move changes where its two variables stand, and no other
  pub wants_after : (basis : IsBasis p s) (m : Move) (next : List Status) → IsVariable p.matrix m.enters → IsVariable p.matrix m.leaves → next ≡ after s m →
      AreWantsBut p next m.leaves m.enters ws
  wants_after basis m next enters leaves is_next = record {
    places = h.places;
    each = λ k is far apart.
        h.each k is
        ∙ ap (λ st. want_with p k st)
        (sym (ap (λ t. status_of t k) is_next ∙ changed_other p s basis m.leaves k m.to (with_status s m.enters Bs) leaves is far
        ∙ changed_other p s basis m.enters k Bs s enters is apart));
  }
    where
      want_with : LinearProgram → ℕ → Status → Wanted
      want_with p k st = if is_fixed p k then Nothing else want_from st

module _ (p : LinearProgram) (s : List Status) (u v : ℕ) (ws : List Wanted) (is_u : IsVariable p.matrix u) (is_v : IsVariable p.matrix v)
    (h : AreWantsBut p s u v ws) where
  length-twice : (a b : Wanted) → length (set (set ws (u - 1) a) (v - 1) b) ≡ length ws
  length-twice a b = length-set (set ws (u - 1) a) (v - 1) b ∙ length-set ws (u - 1) a

  -- both are written anew
  pub wants_renewed : (a b : Wanted) → a ≡ want_of p s u → b ≡ want_of p s v → AreWants p s (set (set ws (u - 1) a) (v - 1) b)
  wants_renewed a b a_is b_is = record { places = length-twice a b ∙ h.places; each = λ k is. at k is (eqb_tells k v) (eqb_tells k u) }
    where
      at : (k : ℕ) → IsVariable p.matrix k → (((eqb k v ≡ true) × (k ≡ v)) ⊎ ((eqb k v ≡ false) × (k ≢ v)))
          → (((eqb k u ≡ true) × (k ≡ u)) ⊎ ((eqb k u ≡ false) × (k ≢ u)))
          → wanted_at (set (set ws (u - 1) a) (v - 1) b) k ≡ want_of p s k
      at k is (inl same) other =
          let within : v - 1 < length (set ws (u - 1) a) = omega (arith, length-set ws (u - 1) a, h.places, is_v.0, is_v.1) in
          ap (wanted_at (set (set ws (u - 1) a) (v - 1) b)) same.1 ∙ get_or-set_same (set ws (u - 1) a) (v - 1) b Nothing within ∙ b_is
          ∙ ap (want_of p s) (sym same.1)
      at k is (inr apart) (inl same) =
          let within : u - 1 < length ws = omega (arith, h.places, is_u.0, is_u.1) in
          let far : k - 1 ≢ v - 1 = λ e. apart.1 (omega (arith, e, is.0, is_v.0)) in
          get_or-set_other (set ws (u - 1) a) (v - 1) (k - 1) b Nothing far
          ∙ ap (wanted_at (set ws (u - 1) a)) same.1 ∙ get_or-set_same ws (u - 1) a Nothing within ∙ a_is ∙ ap (want_of p s) (sym same.1)
      at k is (inr apart) (inr other) =
          let far : k - 1 ≢ v - 1 = λ e. apart.1 (omega (arith, e, is.0, is_v.0)) in
          let away : k - 1 ≢ u - 1 = λ e. other.1 (omega (arith, e, is.0, is_u.0)) in
          get_or-set_other (set ws (u - 1) a) (v - 1) (k - 1) b Nothing far ∙ get_or-set_other ws (u - 1) (k - 1) a Nothing away ∙ h.each k is other.1 apart.1

-- one more at the end
pub wants_more : (p : LinearProgram) (s : List Status) (ws : List Wanted) (k : ℕ) (w : Wanted) → length ws ≡ k
    → ((j : ℕ) → 1 ≤ j → j ≤ k → wanted_at ws j ≡ want_of p s j) → w ≡ want_of p s (k + 1)
    → (j : ℕ) → 1 ≤ j → j ≤ k + 1 → wanted_at (ws ++ (w ∷ [])) j ≡ want_of p s j
wants_more p s ws k w counted each w_is j low high = at (eqb_tells j (k + 1))
  where
    at : (((eqb j (k + 1) ≡ true) × (j ≡ k + 1)) ⊎ ((eqb j (k + 1) ≡ false) × (j ≢ k + 1))) → wanted_at (ws ++ (w ∷ [])) j ≡ want_of p s j
    at (inl same) =
        let place : length ws ≡ j - 1 = omega (arith, counted, same.1) in
        get_or_push ws w Nothing (j - 1) place ∙ w_is ∙ ap (want_of p s) (sym same.1)
    at (inr other) =
        let apart = other.1 in get_or_append_left ws (w ∷ []) Nothing (j - 1) (omega (arith, counted, apart, low, high))
        ∙ each j low (omega (arith, apart, high))

-- a rate is wanted just where it lets the variable lower the quantity
pub wanted_lowers : (p : LinearProgram) (s : List Status) (v : ℚ) (k : ℕ) → is_wanted (want_of p s k) v ≡ lowers p s (λ _. v) k
wanted_lowers p s v k = wanted_from (status_of s k) (is_fixed p k) v
