-- A set of as many variables as there are rows is reached from the rows by exchanges: its columns are taken in, in ascending order, each for
-- a variable that isn't of the set and whose rate along the column's direction isn't 0. Where there is no such variable, this direction is
-- a dependency of the set.
use Rattle.std.proofs.Common.{◌≡◌, ◌≢◌, ℕ, zero, suc, ◌+◌, ◌-◌, ◌<◌, ◌≤◌, ◌⊎◌, inl, inr, refl, sym, ◌∙◌, ap, subst, Bool, true, false, List, [], ◌∷◌, length}
use Rattle.std.proofs.Common.{get_or, arith}
use Rattle.std.specs.Prelude.{eqb, not, ◌&&◌, count_by}
use Rattle.std.proofs.lemmas.Bool.Decides.{eqb_tells}
use Rattle.std.proofs.lemmas.Bool.{and_parts, and_cases, not-true, not-false, cases_lt}
use Rattle.std.proofs.lemmas.List.{length-map}
use Rattle.exact_values.specs.Rational.{ℚ, zero_ℚ}
use Rattle.exact_values.specs.Tests.{eq_ℚ}
use Rattle.exact_values.proofs.Inverse.{one_apart}
use Rattle.exact_values.proofs.TestsLaws.{same_from_test, apart_from_eq_fails}
use Rattle.lp_definitions.specs.LinearProgram.{Matrix, LinearProgram, Vector, size, IsVariable}
use Rattle.lp_definitions.specs.Basis.{Basics, is_in, is_basic, IsBasic, IsNonbasic, IsNonsingular, AreRates, exchanged, row_basics, basics_of, IsBasis}
use Rattle.lp_definitions.specs.declared.Status.{Status}
use Rattle.lp_laws.specs.Rates.{exchanged_rate, opening_rate}
use Rattle.lp_laws.proofs.Values.{clash}
use Rattle.lp_laws.proofs.Exchange.{marked, marked_is, entering_in, others_stay, IsNonsingular-exchanged, AreRates-exchanged}
use Rattle.lp_laws.proofs.Opening.{IsNonsingular-row_basics, AreRates-opening, is_in-row_basics}
use Rattle.lp_laws.proofs.Statuses.{marked-basics_of}
use Rattle.simplex_laws.specs.Laws.{IsNonsingularBasis, HasTableau}
use Rattle.simplex_laws.proofs.Goes.{tableau_from}
use Rattle.basis_deck_definitions.specs.Dependencies.{IsCombination, IsDependency}
use Rattle.existence_laws.specs.Bases.{HasTableOfRates, HasDependency}

-- ---- a bounded search

-- one of the numbers from 1 to n passes, or none does
pub search_up_to : (n : ℕ) (test : ℕ → Bool) → ((k : ℕ) × (1 ≤ k) × (k ≤ n) × (test k ≡ true)) ⊎ ((k : ℕ) → 1 ≤ k → k ≤ n → test k ≡ false)
search_up_to zero test = inr (λ k low high. absurd (omega arith))
search_up_to (suc n) test = by_own (test (suc n)) refl (search_up_to n test)
  where
    by_own : (own : Bool) → test (suc n) ≡ own → (((k : ℕ) × (1 ≤ k) × (k ≤ n) × (test k ≡ true)) ⊎ ((k : ℕ) → 1 ≤ k → k ≤ n → test k ≡ false)) →
        ((k : ℕ) × (1 ≤ k) × (k ≤ suc n) × (test k ≡ true)) ⊎ ((k : ℕ) → 1 ≤ k → k ≤ suc n → test k ≡ false)
    by_own true is rest = inl (suc n, omega arith, omega arith, is)
    by_own false is (inl found) = inl (found.0, found.1, omega (arith, found.2), found.3)
    by_own false is (inr none) = inr (λ k low high. at k low high (eqb_tells k (suc n)))
      where
        at : (k : ℕ) → 1 ≤ k → k ≤ suc n → (((eqb k (suc n) ≡ true) × (k ≡ suc n)) ⊎ ((eqb k (suc n) ≡ false) × (k ≢ suc n))) → test k ≡ false
        at k low high (inl same) = ap test same.1 ∙ is
        at k low high (inr other) = none k low (let apart = other.1 in omega (arith, apart))

-- ---- marks

-- where what is marked in the one list is marked in the other: the other has at least as many marks, and the lists are one if it has no more
marks_within : (b w : Basics) → length b ≡ length w → ((i : ℕ) → get_or b i false ≡ true → get_or w i false ≡ true) → marked b ≤ marked w
marks_within [] [] counted within = omega arith
marks_within [] (m ∷ w) counted within = omega arith
marks_within (m ∷ b) [] counted within = absurd (omega (arith, counted))
marks_within (true ∷ b) (true ∷ w) counted within = let rest = marks_within b w (omega (arith, counted)) (λ i. within (suc i)) in omega (arith, rest)
marks_within (true ∷ b) (false ∷ w) counted within = absurd (clash (sym (within 0 refl)))
marks_within (false ∷ b) (true ∷ w) counted within = let rest = marks_within b w (omega (arith, counted)) (λ i. within (suc i)) in omega (arith, rest)
marks_within (false ∷ b) (false ∷ w) counted within = marks_within b w (omega (arith, counted)) (λ i. within (suc i))

same_marks : (b w : Basics) → length b ≡ length w → ((i : ℕ) → get_or b i false ≡ true → get_or w i false ≡ true) → marked w ≤ marked b → b ≡ w
same_marks [] [] counted within least = refl
same_marks [] (m ∷ w) counted within least = absurd (omega (arith, counted))
same_marks (m ∷ b) [] counted within least = absurd (omega (arith, counted))
same_marks (true ∷ b) (true ∷ w) counted within least =
    ap (λ ms. true ∷ ms) (same_marks b w (omega (arith, counted)) (λ i. within (suc i)) (omega (arith, least)))
same_marks (true ∷ b) (false ∷ w) counted within least = absurd (clash (sym (within 0 refl)))
same_marks (false ∷ b) (true ∷ w) counted within least =
    let rest = marks_within b w (omega (arith, counted)) (λ i. within (suc i)) in absurd (omega (arith, rest, least))
same_marks (false ∷ b) (false ∷ w) counted within least = ap (λ ms. false ∷ ms) (same_marks b w (omega (arith, counted)) (λ i. within (suc i)) least)

past_end : (b : Basics) (i : ℕ) → get_or b i false ≡ true → i < length b
past_end [] i is = absurd (clash (sym is))
past_end (m ∷ b) zero is = omega arith
past_end (m ∷ b) (suc i) is = let rest = past_end b i is in omega (arith, rest)

-- ---- one exchange after another

-- p may leave the basics w for q, on the way to b: it isn't of b, and its rate along the direction of q isn't 0
may_leave : Basics → Basics → (ℕ → ℕ → ℚ) → ℕ → ℕ → Bool
may_leave b w rate q p = (is_in w p && not (is_in b p)) && not (eq_ℚ (rate p q) zero_ℚ)

record MayLeave (b w : Basics) (rate : ℕ → ℕ → ℚ) (q p : ℕ) : Type 0 where
  inside : is_in w p ≡ true
  outside : is_in b p ≡ false
  pivot : rate p q ≢ zero_ℚ

leaves : (b w : Basics) (rate : ℕ → ℕ → ℚ) (q p : ℕ) → may_leave b w rate q p ≡ true → MayLeave b w rate q p
unfolding may_leave
leaves b w rate q p e =
    let both = and_parts (is_in w p && not (is_in b p)) (not (eq_ℚ (rate p q) zero_ℚ)) e in
    let marks = and_parts (is_in w p) (not (is_in b p)) both.0 in
    record { inside = marks.0; outside = not-true (is_in b p) marks.1; pivot = apart_from_eq_fails (rate p q) zero_ℚ (not-true _ both.1) }

stays : (b w : Basics) (rate : ℕ → ℕ → ℚ) (q p : ℕ) → may_leave b w rate q p ≡ false → is_in w p ≡ true → is_in b p ≡ false → rate p q ≡ zero_ℚ
unfolding may_leave
stays b w rate q p e inside outside = by (and_cases (is_in w p && not (is_in b p)) (not (eq_ℚ (rate p q) zero_ℚ)) e)
  where
    by : ((is_in w p && not (is_in b p) ≡ false) ⊎ (not (eq_ℚ (rate p q) zero_ℚ) ≡ false)) → rate p q ≡ zero_ℚ
    by (inl out) = let passes : is_in w p && not (is_in b p) ≡ true = rw (inside, outside) refl in absurd (clash (sym passes ∙ out))
    by (inr same) = same_from_test (rate p q) zero_ℚ (not-false _ same)

module _ (a : Matrix) (b : Basics) where
  -- a nonsingular set of variables, with its rates, that has all of b up to n and nothing past n
  record Reached (n : ℕ) : Type 0 where
    basics : Basics
    nonsingular : IsNonsingular a basics
    rate : ℕ → ℕ → ℚ
    are_rates : AreRates a basics rate
    taken : (k : ℕ) → 1 ≤ k → k ≤ n → is_in b k ≡ true → is_in basics k ≡ true
    not_yet : (k : ℕ) → n < k → k ≤ size a → is_in basics k ≡ false

  module _ (n : ℕ) (rows : a.rows ≤ n) (below : suc n ≤ size a) (r : Reached n) where
    q_is : IsVariable a (suc n)
    q_is = (omega arith, below)

    enters : IsNonbasic a r.basics (suc n)
    enters = (q_is, r.not_yet (suc n) (omega arith) below)

    passed : is_in b (suc n) ≡ false → Reached (suc n)
    passed out = record {
      basics = r.basics;
      nonsingular = r.nonsingular;
      rate = r.rate;
      are_rates = r.are_rates;
      taken = λ k low high is. at k low high is (eqb_tells k (suc n));
      not_yet = λ k past high. r.not_yet k (omega arith) high;
    }
      where
        at : (k : ℕ) → 1 ≤ k → k ≤ suc n → is_in b k ≡ true → (((eqb k (suc n) ≡ true) × (k ≡ suc n)) ⊎ ((eqb k (suc n) ≡ false) × (k ≢ suc n))) →
            is_in r.basics k ≡ true
        at k low high is (inl same) = absurd (clash (sym is ∙ ap (is_in b) same.1 ∙ out))
        at k low high is (inr other) = r.taken k low (let apart = other.1 in omega (arith, apart)) is

    module _ (is_mine : is_in b (suc n) ≡ true) where
      exchanges : (p : ℕ) → IsVariable a p → MayLeave b r.basics r.rate (suc n) p → Reached (suc n)
      exchanges p is may = record {
        basics = exchanged r.basics p (suc n);
        nonsingular = IsNonsingular-exchanged a r.basics p (suc n) (λ i. r.rate i (suc n)) r.nonsingular leaver enters (r.are_rates (suc n) enters) may.pivot;
        rate = exchanged_rate r.rate p (suc n);
        are_rates = AreRates-exchanged a r.basics r.nonsingular.counted r.rate r.are_rates p (suc n) leaver enters may.pivot;
        taken = λ k low high mine. at k low high mine (eqb_tells k (suc n));
        not_yet = λ k past high.
            let not_p : k ≢ p = λ e. clash (sym may.inside ∙ ap (is_in r.basics) (sym e) ∙ r.not_yet k (omega arith) high) in
            let not_q : k ≢ suc n = λ e. omega arith in
            others_stay a r.basics r.nonsingular.counted p (suc n) leaver enters k (omega arith, high) not_p not_q ∙ r.not_yet k (omega arith) high;
      }
        where
          leaver : IsBasic a r.basics p
          leaver = (is, may.inside)

          at : (k : ℕ) → 1 ≤ k → k ≤ suc n → is_in b k ≡ true → (((eqb k (suc n) ≡ true) × (k ≡ suc n)) ⊎ ((eqb k (suc n) ≡ false) × (k ≢ suc n))) →
              is_in (exchanged r.basics p (suc n)) k ≡ true
          at k low high mine (inl same) =
              ap (is_in (exchanged r.basics p (suc n))) same.1 ∙ entering_in a r.basics r.nonsingular.counted p (suc n) leaver enters
          at k low high mine (inr other) =
              let not_p : k ≢ p = λ e. clash (sym mine ∙ ap (is_in b) e ∙ may.outside) in
              let apart = other.1 in
              let earlier : k ≤ n = omega (arith, apart) in
              others_stay a r.basics r.nonsingular.counted p (suc n) leaver enters k (low, omega arith) not_p other.1 ∙ r.taken k low earlier mine

      -- where nothing may leave, the direction of the next variable is a dependency, and the first
      depends : ((p : ℕ) → 1 ≤ p → p ≤ size a → may_leave b r.basics r.rate (suc n) p ≡ false) → IsDependency a b (suc n) (λ i. r.rate i (suc n))
      depends none = record {
        combination = record {
          is_column = omega arith;
          basic = (q_is, is_mine);
          keeps = (r.are_rates (suc n) enters).keeps;
          own = (r.are_rates (suc n) enters).own;
          later = λ k past basic. (r.are_rates (suc n) enters).others k (basic.0, r.not_yet k (omega arith) basic.0.1) (λ e. omega arith);
          outside = λ k out. by_mark k out (is_in r.basics k) refl;
        };
        first =
            λ j before e other. one_apart
            (sym other.own ∙ r.nonsingular.only_zero e other.keeps (λ k out. vanishes j before e other k out (is_in b k) refl) j other.basic.0);
      }
        where
          by_mark : (k : ℕ) → IsNonbasic a b k → (mark : Bool) → is_in r.basics k ≡ mark → r.rate k (suc n) ≡ zero_ℚ
          by_mark k out true is = stays b r.basics r.rate (suc n) k (none k out.0.0 out.0.1) is out.1
          by_mark k out false is = (r.are_rates (suc n) enters).others k (out.0, is) (λ e. clash (sym is_mine ∙ ap (is_in b) (sym e) ∙ out.1))

          vanishes : (j : ℕ) → j < suc n → (e : Vector) → IsCombination a b j e → (k : ℕ) → IsNonbasic a r.basics k → (mark : Bool) → is_in b k ≡ mark →
              e k ≡ zero_ℚ
          vanishes j before e other k out false is = other.outside k (out.0, is)
          vanishes j before e other k out true is = other.later k (by_order (cases_lt n k)) (out.0, is)
            where
              by_order : ((n < k) ⊎ (k ≤ n)) → j < k
              by_order (inr early) = absurd (clash (sym (r.taken k out.0.0 early is) ∙ out.1))
              by_order (inl late) = omega arith

    next_reached : Reached (suc n) ⊎ HasDependency a b
    next_reached = by_mark (is_in b (suc n)) refl
      where
        by_search : (is_mine : is_in b (suc n) ≡ true) →
            (((p : ℕ) × (1 ≤ p) × (p ≤ size a) × (may_leave b r.basics r.rate (suc n) p ≡ true)) ⊎
            ((p : ℕ) → 1 ≤ p → p ≤ size a → may_leave b r.basics r.rate (suc n) p ≡ false)) → Reached (suc n) ⊎ HasDependency a b
        by_search is_mine (inl found) = inl (exchanges is_mine found.0 (found.1, found.2) (leaves b r.basics r.rate (suc n) found.0 found.3))
        by_search is_mine (inr none) = inr (suc n, (λ i. r.rate i (suc n)), depends is_mine none)

        by_mark : (mark : Bool) → is_in b (suc n) ≡ mark → Reached (suc n) ⊎ HasDependency a b
        by_mark false is = inl (passed is)
        by_mark true is = by_search is (search_up_to (size a) (may_leave b r.basics r.rate (suc n)))

  from_rows : Reached a.rows
  from_rows = record {
    basics = row_basics a;
    nonsingular = IsNonsingular-row_basics a;
    rate = opening_rate a;
    are_rates = AreRates-opening a;
    taken = λ k low high is. is_in-row_basics a k (low, omega arith) ∙ grind arith;
    not_yet = λ k past high. is_in-row_basics a k (omega arith, high) ∙ grind arith;
  }

  reached : (c : ℕ) → c ≤ a.cols → Reached (a.rows + c) ⊎ HasDependency a b
  reached zero within = let e : a.rows ≡ a.rows + 0 = omega arith in inl (subst Reached e from_rows)
  reached (suc c) within = by (reached c (omega arith))
    where
      e : suc (a.rows + c) ≡ a.rows + suc c
      e = omega arith

      on : (Reached (suc (a.rows + c)) ⊎ HasDependency a b) → Reached (a.rows + suc c) ⊎ HasDependency a b
      on (inl r) = inl (subst Reached e r)
      on (inr d) = inr d

      by : (Reached (a.rows + c) ⊎ HasDependency a b) → Reached (a.rows + suc c) ⊎ HasDependency a b
      by (inl r) = on (next_reached (a.rows + c) (omega arith) (omega arith) r)
      by (inr d) = inr d

  module _ (counted : length b ≡ size a) (m_basics : count_by (λ mark. mark) b ≡ a.rows) where
    whole : (r : Reached (size a)) → b ≡ r.basics
    whole r = same_marks b r.basics (counted ∙ sym r.nonsingular.counted) within least
      where
        within : (i : ℕ) → get_or b i false ≡ true → get_or r.basics i false ≡ true
        within i is =
            let low : i < length b = past_end b i is in
            let same : suc i - 1 ≡ i = omega arith in
            ap (λ k. get_or r.basics k false) (sym same) ∙ r.taken (suc i) (omega arith) (omega (arith, low, counted)) (ap (λ k. get_or b k false) same ∙ is)

        least : marked r.basics ≤ marked b
        least = let one = marked_is r.basics ∙ r.nonsingular.m_basics in let other = marked_is b ∙ m_basics in omega (arith, one, other)

    pub rates_or_dependency : HasTableOfRates a b ⊎ HasDependency a b
    rates_or_dependency = by (reached a.cols (omega arith))
      where
        by : (Reached (a.rows + a.cols) ⊎ HasDependency a b) → HasTableOfRates a b ⊎ HasDependency a b
        by (inl r) = inl (subst (HasTableOfRates a) (sym (whole r)) (record { nonsingular = r.nonsingular; rate = r.rate; are_rates = r.are_rates }))
        by (inr d) = inr d

-- ---- what follows

-- a dependency refutes that a set is nonsingular
pub depends_not : (a : Matrix) (b : Basics) (c : ℕ) (d : Vector) → IsDependency a b c d → IsNonsingular a b → ⊥
depends_not a b c d dep one = one_apart (sym dep.combination.own ∙ one.only_zero d dep.combination.keeps dep.combination.outside c dep.combination.basic.0)

pub rates_of : (a : Matrix) (b : Basics) → IsNonsingular a b → HasTableOfRates a b
rates_of a b one = by (rates_or_dependency a b one.counted one.m_basics)
  where
    by : (HasTableOfRates a b ⊎ HasDependency a b) → HasTableOfRates a b
    by (inl has) = has
    by (inr d) = absurd (depends_not a b d.0 d.1 d.2 one)

pub tableau_of : (p : LinearProgram) (s : List Status) → IsNonsingularBasis p s → HasTableau p s
tableau_of p s at = let has = rates_of p.matrix (basics_of s) at.nonsingular in tableau_from p s at has.rate has.are_rates

pub nonsingular_or_dependency : (p : LinearProgram) (s : List Status) → IsBasis p s → IsNonsingularBasis p s ⊎ HasDependency p.matrix (basics_of s)
nonsingular_or_dependency p s basis =
    by (rates_or_dependency p.matrix (basics_of s) (length-map s is_basic ∙ basis.counted) (marked-basics_of s ∙ basis.m_basics))
  where
    by : (HasTableOfRates p.matrix (basics_of s) ⊎ HasDependency p.matrix (basics_of s)) → IsNonsingularBasis p s ⊎ HasDependency p.matrix (basics_of s)
    by (inl has) = inl (record { is_basis = basis; nonsingular = has.nonsingular })
    by (inr d) = inr d
