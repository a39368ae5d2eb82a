use Rattle.std.proofs.Common.{rules, ◌∙◌, ap}
use Rattle.lp_definitions.specs.Basis.{Basics}
use Rattle.lp_definitions.specs.Waypoints.{waypoint}
use Rattle.setup_verbs.specs.Overflows.{reported, no_memory}
use Rattle.setup_verbs.proofs.overflow.overflow_at.Goals as goal

pub returns-in-Ok : goal.returns-in-Ok
returns-in-Ok g c =
    reported c.in-Ok.place (c.in-Ok.ensures
    ∙ ap (λ (b : Basics). record {
      basis = c.args.basis.now;
      way = waypoint b
          (g.R.Rates.state c.args.rates.now).waypoints c.args.evidence.way;
    }) c.requires.rates.same_basics)
    (record {
      formula = search rules;
      left = search rules;
      right = search rules;
      p = search rules;
      q = search rules;
      i = search rules;
      j = search rules;
      term = search rules;
      theta = search rules;
    })

pub returns-in-Err : goal.returns-in-Err
returns-in-Err g c = no_memory
