use Rattle.std.proofs.Common.{rules, Some, ap}
use Rattle.listing_definitions.specs.Ending as endings
use Rattle.setup_verbs.proofs.insert.overflow_end.Goals as goal

pub returns : goal.returns
returns g c = (
  ap (λ place. endings.OverflowStop (record { evidence = c.args.evidence; place = Some place; card = c.args.card })) c.in_ok-place.ensures,
  record {
    formula = search rules;
    left = search rules;
    right = search rules;
    p = search rules;
    q = search rules;
    i = search rules;
    j = search rules;
    term = search rules;
    theta = search rules;
  },
)
