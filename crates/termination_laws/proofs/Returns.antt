-- No closed walk goes over bases at each of which the first basic outside its limits is brought back, where a nonbasic before the one that
-- brings it doesn't bring it back, or has one value throughout.
--     IsReturning p v              the visit brings a basic back
--     no_return_cycle
use Rattle.std.proofs.Common.{◌≡◌, ◌≢◌, ℕ, ◌<◌, ◌⊎◌, Bool, true, false, List, ◌∷◌, sym, ap, subst, ◌∙◌}
use Rattle.std.specs.Prelude.{if◌then◌else◌}
use Rattle.lp_definitions.specs.LinearProgram.{LinearProgram, IsVariable}
use Rattle.lp_definitions.specs.Basis.{is_in, is_basic, basics_of, status_of, IsTableau}
use Rattle.lp_definitions.specs.declared.Status.{Status}
use Rattle.lp_definitions.specs.declared.Status.TheVariants.{Bs, Ll, Ul}
use Rattle.lp_laws.proofs.Values.{clash}
use Rattle.lp_laws.proofs.Statuses.{status_of_basic, status_of_nonbasic}
use Rattle.simplex_definitions.specs.Moves.{is_below, lowers}
use Rattle.simplex_definitions.specs.Path.{excess_rate}
use Rattle.simplex_laws.specs.Laws.{IsNonsingularBasis}
use Rattle.simplex_laws.proofs.Turns.{IsFirstPhase}
use Rattle.simplex_laws.proofs.UnboundedEnds.{IsEntering, lowering_enters}
use Rattle.simplex_laws.proofs.Rays.{broken_basic}
use Rattle.termination_laws.proofs.Walks.{Visit, In, IsWalk}
use Rattle.termination_laws.proofs.Fickle.{Exchanges, FicklePair, fickle_pair}
use Rattle.termination_laws.proofs.FirstClash.{first_clash}

-- the first basic outside its limits is r, and q, which moves so as to bring it back, takes its place
pub record IsReturning (p : LinearProgram) (v : Visit) : Type 0 where
  pub at : IsNonsingularBasis p v.basis
  pub is_tableau : IsTableau p v.basis v.tableau
  pub r : ℕ
  pub q : ℕ
  pub phase : IsFirstPhase p v.basis v.tableau r
  pub is_q : IsVariable p.matrix q
  pub lowers_it : lowers p v.basis (excess_rate v.tableau.rate r (is_below p v.tableau.point r)) q ≡ true
  pub gives : v.move ≡ record { enters = q; leaves = r; to = if is_below p v.tableau.point r then Ll else Ul }

limit_apart : (below : Bool) → (if below then Ll else Ul) ≢ Bs
limit_apart true e = cc
limit_apart false e = cc

pub returning_exchanges : (p : LinearProgram) (v : Visit) → IsReturning p v → Exchanges p v
returning_exchanges p v h = record {
  basis = h.at.is_basis;
  enters_is = subst (λ m. IsVariable p.matrix m.enters) (sym h.gives) h.is_q;
  leaves_is = subst (λ m. IsVariable p.matrix m.leaves) (sym h.gives) (broken_basic p v.basis v.tableau h.r h.phase).0;
  enters =
      subst (λ m. status_of v.basis m.enters ≢ Bs) (sym h.gives)
      (λ e. clash (sym (ap is_basic e) ∙ status_of_nonbasic p v.basis h.at.is_basis h.q comes.nonbasic));
  leaves =
      subst (λ m. status_of v.basis m.leaves ≡ Bs) (sym h.gives) (status_of_basic p v.basis h.at.is_basis h.r (broken_basic p v.basis v.tableau h.r h.phase));
  stands = subst (λ m. m.to ≢ Bs) (sym h.gives) (limit_apart (is_below p v.tableau.point h.r));
}
  where
    comes : IsEntering p v.basis (excess_rate v.tableau.rate h.r (is_below p v.tableau.point h.r)) h.q
    comes = lowering_enters p v.basis (excess_rate v.tableau.rate h.r (is_below p v.tableau.point h.r)) h.q h.at.is_basis h.is_q h.lowers_it

pub no_return_cycle : (p : LinearProgram) (s : List Status) (v : Visit) (vs : List Visit) → IsWalk s (v ∷ vs) s →
    (returns : (x : Visit) → In x (v ∷ vs) → IsReturning p x) →
    ((x y : Visit) → (i : In x (v ∷ vs)) → In y (v ∷ vs) → (k : ℕ) → IsVariable p.matrix k → k < (returns x i).q → is_in (basics_of x.basis) k ≡ false →
    (lowers p x.basis (excess_rate x.tableau.rate (returns x i).r (is_below p x.tableau.point (returns x i).r)) k ≡ false) ⊎
    (y.tableau.point k ≡ x.tableau.point k)) → ⊥
no_return_cycle p s v vs walk returns earlier =
    first_clash p e.basis w.basis e.tableau w.tableau at_e.at at_w.at at_e.is_tableau at_w.is_tableau
    at_e.r pair.t at_e.phase (subst (IsVariable p.matrix) q_is at_e.is_q)
    (subst (λ j. lowers p e.basis (excess_rate e.tableau.rate at_e.r (is_below p e.tableau.point at_e.r)) j ≡ true) q_is at_e.lowers_it)
    (λ k is before out. earlier e w pair.is_entering pair.is_leaving k is (subst (λ j. k < j) (sym q_is) before) out)
    (subst (IsFirstPhase p w.basis w.tableau) r_is at_w.phase) left pair.past r_before
  where
    pair : FicklePair p (v ∷ vs)
    pair = fickle_pair p s v vs walk (λ x i. returning_exchanges p x (returns x i))

    e : Visit
    e = pair.entering

    w : Visit
    w = pair.leaving

    at_e : IsReturning p e
    at_e = returns e pair.is_entering

    at_w : IsReturning p w
    at_w = returns w pair.is_leaving

    q_is : at_e.q ≡ pair.t
    q_is = sym (ap (λ m. m.enters) at_e.gives) ∙ pair.enters

    r_is : at_w.r ≡ pair.t
    r_is = sym (ap (λ m. m.leaves) at_w.gives) ∙ pair.leaves

    left : status_of e.basis pair.t ≡ (if is_below p w.tableau.point pair.t then Ll else Ul)
    left =
        pair.stands ∙ ap (λ m. m.to) at_w.gives
        ∙ ap (λ j. if is_below p w.tableau.point j then Ll else Ul) r_is

    r_before : at_e.r < pair.t
    r_before = subst (λ m. m.leaves < pair.t) at_e.gives pair.leaves_before
