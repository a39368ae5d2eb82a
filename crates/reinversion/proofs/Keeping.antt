-- What a stop of a reinversion shows, and how its waypoints are kept.
use Rattle.std.proofs.Common.{◌≡◌, ℕ, zero, suc, ◌≤◌, List, [], ◌∷◌, inl, inr, length, refl, sym, subst, arith, All, Ok, Err, Result}
use Rattle.exact_values.specs.Rational.{ℚ}
use Rattle.frac128.specs.declared.Op.{Op}
use Rattle.std.specs.Prelude.{IfErr}
use Rattle.lp_definitions.specs.LinearProgram.{Matrix}
use Rattle.lp_definitions.specs.Basis.{Basics, exchanged}
use Rattle.lp_definitions.specs.Waypoints.{HasColumnsWithin, KeepsWaypoints, waypoint}
use Rattle.lp_definitions.specs.RatesEvidence.{Names, Refuses, ExchangeFormula, f1, f2, f3, f4, f5, ExchangeRefused}
use Rattle.lp_definitions.specs.declared.Evidence.{Evidence}
use Rattle.lp_laws.proofs.WaypointLaws.{keeps_then, within_itself, Covers-all, Covers-insert, covered, kept_within, ExchangeRefused-covered}
use Rattle.lp_model.specs.RatesCalls.{IfOverflow, ExchangeOverflow}
use Rattle.lp_model.specs.declared.Stop.{Stop}
use Rattle.lp_model.specs.declared.Stop.TheVariants.{Overflow, NoMemory}
use Rattle.eta_file.specs.Inverse.{Inverse, ways_of, file_state}
use Rattle.reinversion.specs.Rebuilt.{IsRebuilt, IsRemade, KeptRefused, without_way}

module _ (e : Evidence) where
  abbrev anew : Evidence
  anew = record e { way = 0 }

  names_anew : (formula p q i j term : ℕ) → Names e formula p q i j term → Names anew formula p q i j term
  names_anew formula p q i j term h = record { is_formula = h.is_formula; is_p = h.is_p; is_q = h.is_q; is_i = h.is_i; is_j = h.is_j; is_term = h.is_term }

  refuses_anew : (op : Op) (left right : ℚ) → Refuses e op left right → Refuses anew op left right
  refuses_anew op left right h = record { is_op = h.is_op; is_left = h.is_left; is_right = h.is_right; refused = h.refused }

  formula_anew : (a : Matrix) (w : Basics) (rate : ℕ → ℕ → ℚ) → ExchangeFormula a w rate e → ExchangeFormula a w rate anew
  formula_anew a w rate (f1 p q j names exchange out refuses) = f1 p q j (names_anew 1 p q 0 j 0 names) exchange out (refuses_anew _ _ _ refuses)
  formula_anew a w rate (f2 p q i j names exchange basic other out refuses) =
      f2 p q i j (names_anew 2 p q i j 0 names) exchange basic other out (refuses_anew _ _ _ refuses)
  formula_anew a w rate (f3 p q i j names exchange basic other out refuses) =
      f3 p q i j (names_anew 3 p q i j 0 names) exchange basic other out (refuses_anew _ _ _ refuses)
  formula_anew a w rate (f4 p q names exchange refuses) = f4 p q (names_anew 4 p q 0 0 0 names) exchange (refuses_anew _ _ _ refuses)
  formula_anew a w rate (f5 p q i names exchange basic other refuses) =
      f5 p q i (names_anew 5 p q i 0 0 names) exchange basic other (refuses_anew _ _ _ refuses)

waypoint_within : (a : Matrix) (b g : Basics) (ways : List Basics) → HasColumnsWithin a g b → All (λ w. HasColumnsWithin a w b) ways → (way : ℕ) →
    way ≤ length ways → HasColumnsWithin a (waypoint g ways way) b
waypoint_within a b g ways here all zero within = here
waypoint_within a b g ways here all (suc way) within = all way g (omega arith)

-- evidence of the new file
kept_refused : (a : Matrix) (b : Basics) (c : ℕ) (g : Inverse) → IsRebuilt a b c g → (e : Evidence) →
    ExchangeRefused a (g.basics ∷ ways_of g) g.basics (ways_of g) e → KeptRefused a b (record e { way = 0 })
kept_refused a b c g h e refused = record {
  way = refused.way;
  rate = refused.rate;
  within = subst (λ w. HasColumnsWithin a w b) (sym refused.at.is_waypoint) (waypoint_within a b g.basics (ways_of g) h.within h.ways e.way refused.at.is_way);
  nonsingular = refused.at.nonsingular;
  are_rates = refused.at.are_rates;
  reaches = (
    refused.at.reaches.0,
    covered a (exchanged refused.way e.p e.q) (g.basics ∷ ways_of g) (b ∷ [])
        (inl h.within, Covers-all a (ways_of g) (b ∷ []) (λ k d below. inl (h.ways k d below))) refused.at.reaches.1,
  );
  no_way = refl;
  no_theta = refused.at.no_theta;
  formula = formula_anew e a refused.way refused.rate refused.formula;
}

pub stop_kept : (a : Matrix) (b : Basics) (c : ℕ) (g : Inverse) → IsRebuilt a b c g → (stop : Stop) →
    IfOverflow stop (ExchangeRefused g.matrix (g.basics ∷ ways_of g) g.basics (ways_of g)) → IfOverflow (without_way stop) (KeptRefused a b)
stop_kept a b c g h (Overflow e) refused =
    kept_refused a b c g h e (subst (λ (m : Matrix). ExchangeRefused m (g.basics ∷ ways_of g) g.basics (ways_of g) e) h.same_matrix refused)
stop_kept a b c g h NoMemory refused = refused

-- the sets of a file that was made anew lie in the basics
pub keeps_remade : (f g : Inverse) → IsRemade f g → KeepsWaypoints f.matrix f.basics (ways_of f) g.basics (ways_of g)
keeps_remade f g h = record { each = λ k d below. inr (inl (h.ways k d below)) }

-- an exchange that is refused at the basics b
abbrev ExchangeStops : Result (Unit {0}) Stop → Matrix → Basics → ℕ → ℕ → List Basics → List Basics → Type 0
ExchangeStops r a b p q ways now = IfErr r (λ stop. IfOverflow stop (ExchangeRefused a (b ∷ exchanged b p q ∷ ways) b now))

-- an exchange after a call that left the basics
overflow_after : (r : Result (Unit {0}) Stop) (a : Matrix) (b : Basics) (p q : ℕ) (ways mid now : List Basics) → KeepsWaypoints a b ways b mid →
    ExchangeStops r a b p q mid now → ExchangeStops r a b p q ways now
overflow_after (Ok x) a b p q ways mid now kept h = h
overflow_after (Err (Overflow e)) a b p q ways mid now kept h =
    ExchangeRefused-covered a (b ∷ exchanged b p q ∷ mid) (b ∷ exchanged b p q ∷ ways) b now e
    (inl (within_itself a b), (inr (inl (within_itself a (exchanged b p q))), Covers-insert a mid b (exchanged b p q) ways (kept_within a b ways mid kept))) h
overflow_after (Err NoMemory) a b p q ways mid now kept h = h

module _ (f g h : Inverse) (same_matrix : g.matrix ≡ f.matrix) (same_basics : g.basics ≡ f.basics)
    (kept : KeepsWaypoints f.matrix f.basics (ways_of f) g.basics (ways_of g)) where
  kept_here : KeepsWaypoints f.matrix f.basics (ways_of f) f.basics (ways_of g)
  kept_here = subst (λ b. KeepsWaypoints f.matrix f.basics (ways_of f) b (ways_of g)) same_basics kept

  pub keeps_through : KeepsWaypoints g.matrix g.basics (ways_of g) h.basics (ways_of h) → KeepsWaypoints f.matrix f.basics (ways_of f) h.basics (ways_of h)
  keeps_through second =
      keeps_then f.matrix f.basics (ways_of f) h.basics (ways_of g) (ways_of h) kept_here
      (subst (λ (m : Matrix). KeepsWaypoints m f.basics (ways_of g) h.basics (ways_of h)) same_matrix
      (subst (λ b. KeepsWaypoints g.matrix b (ways_of g) h.basics (ways_of h)) same_basics second))

  pub overflow_through : (r : Result (Unit {0}) Stop) (p q : ℕ) → ExchangeOverflow r p q (file_state g) (file_state h) →
      ExchangeOverflow r p q (file_state f) (file_state h)
  overflow_through r p q refused =
      overflow_after r f.matrix f.basics p q (ways_of f) (ways_of g) (ways_of h) kept_here
      (subst (λ (m : Matrix). ExchangeStops r m f.basics p q (ways_of g) (ways_of h)) same_matrix
      (subst (λ b. ExchangeStops r g.matrix b p q (ways_of g) (ways_of h)) same_basics refused))
