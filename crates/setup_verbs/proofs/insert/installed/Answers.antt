-- What comes of the basis of a deck.
use Rattle.std.proofs.Common.{List, refl, sym, ap, ap₂, subst}
use Rattle.exact_values.specs.Rational.{ℚ}
use Rattle.lp_definitions.specs.Waypoints.{waypoint}
use Rattle.basis_deck.specs.Installing.{InstallStops}
use Rattle.selection_definitions.specs.Choice.{Choice}
use Rattle.fitting_answers.specs.Fitting.{EvidenceFits}
use Rattle.setup_verbs.specs.Kept.{Setup}
use Rattle.setup_verbs.specs.Inserting.{IsSingularFor}
use Rattle.setup_verbs.proofs.Inserted.{ended_at}
use Rattle.setup_verbs.proofs.insert.installed.Goals as goal

pub returns-in-Ok : goal.returns-in-Ok
returns-in-Ok g c = record {
  name = ap (λ (s : Setup). s.name) c.setup.view_is;
  options = ap (λ (s : Setup). s.options) c.setup.view_is;
  is_chosen =
      ap₂ (λ (chosen : Choice) (s : Setup). record { objective = chosen.objective; rhs = chosen.rhs; options = s.options }) c.choice.view_is c.setup.view_is;
  same_lp = refl;
  same_basis = refl;
  rates = c.in-Ok.ensures.rates;
  within = c.in-Ok.ensures.within;
  is_deck = c.problem_name-name.ensures.name;
  is_basic = c.basic_count-basic.ensures;
  is_next = refl;
}

pub returns-in-Err-Singular : goal.returns-in-Err-Singular
returns-in-Err-Singular g c =
    let stops = subst (InstallStops g.E.Rates.state c.args.selection.lp c.args.given.basis) c.in-Err-Singular.field-0-is c.in-Err-Singular.ensures.stops in
    subst (λ (d : List ℚ). IsSingularFor c.args.card c.args.setup.now c.args.selection.choice c.args.selection.lp c.args.given.basis c.args.given.deck.first
    c.args.given.deck.last c.args.cards.now c.setup.inside.name c.args.selection.lp d) (sym c.in-Err-Singular.dependency-is) (record {
      same_name = ap (λ (s : Setup). s.name) c.setup.view_is;
      same_lp = refl;
      full = stops.0;
      column = stops.1.0;
      is_dependency = stops.1.1;
    })

pub returns-in-Ok-overflow_end : goal.returns-in-Ok-overflow_end
returns-in-Ok-overflow_end g c =
    let stops = subst (InstallStops g.E.Rates.state c.args.selection.lp c.args.given.basis) c.in-Err-Overflow.field-0-is c.in-Err-Overflow.ensures.stops in
    record {
      evidence = c.in-Err-Overflow.evidence;
      way = waypoint (g.E.Rates.state c.in-Err-Overflow.engine).basics (g.E.Rates.state c.in-Err-Overflow.engine).waypoints c.in-Err-Overflow.evidence.way;
      is_refused = stops.refuses.refused;
      fits = subst EvidenceFits c.in-Err-Overflow.evidence-is c.in-Ok-overflow_end.ensures.1;
      is_end =
          ended_at (λ e. (g.E.Rates.state e).basics)
          (λ e. (g.E.Rates.state e).waypoints) c.args.card _ _ c.setup.view_is _ _ c.in-Err-Overflow.evidence-is _ _ c.in-Err-Overflow.engine-is
          c.in-Ok-overflow_end.end c.in-Ok-overflow_end.ensures.0;
    }
