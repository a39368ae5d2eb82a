use Rattle.std.proofs.Common.{◌∙◌, sym, subst, inl, get_or}
use Rattle.lp_definitions.specs.Basis.{Basics}
use Rattle.lp_laws.proofs.Opening.{IsNonsingular-row_basics}
use Rattle.lp_definitions.specs.Waypoints.{HasColumnsWithin}
use Rattle.lp_laws.proofs.WaypointLaws.{within_itself}
use Rattle.lp_laws.proofs.Statuses.{basics_of-opening, IsBasis-opening}
use Rattle.lp_definitions.specs.Basis.{IsNonsingular}
use Rattle.bounded_primal.proofs.beginning.opening.Goals as goal

pub returns-clause-rates : goal.returns-clause-rates
returns-clause-rates g c =
    let p = c.args.lp.now in
    rw c.in_ok-basis.ensures (record {
      is_basis = IsBasis-opening p;
      nonsingular = subst (λ (b : Basics). IsNonsingular p.matrix b) (sym (basics_of-opening p)) (IsNonsingular-row_basics p.matrix);
      same_matrix = c.in_ok-rates.ensures.matrix;
      same_basics = c.in_ok-rates.ensures.basics ∙ sym (basics_of-opening p);
    })

pub returns-clause-waypoints : goal.returns-clause-waypoints
returns-clause-waypoints g c =
    let p = c.args.lp.now in
    rw c.in_ok-basis.ensures (λ k d below.
    inl (subst (HasColumnsWithin p.matrix (get_or (g.R.Rates.state c.in_ok-rates.rates).waypoints k d))
    (c.in_ok-rates.ensures.waypoints k d below ∙ sym (basics_of-opening p))
    (within_itself p.matrix (get_or (g.R.Rates.state c.in_ok-rates.rates).waypoints k d))))
