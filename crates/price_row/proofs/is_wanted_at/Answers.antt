use Rattle.std.proofs.Common.{rules, ◌≡◌, ◌+◌, false}
use Rattle.std.specs.Prelude.{not}
use Rattle.lp_model.specs.Wanted.{wanted_at}
use Rattle.price_row.proofs.WantedSteps.{nothing_wanted}
use Rattle.price_row.proofs.is_wanted_at.Goals as goal

pub returns-else-not-is_zero : goal.returns-else-not-is_zero
returns-else-not-is_zero c =
    let fails : not c.is_zero.result ≡ false = search rules in
    nothing_wanted c.is_zero.result (wanted_at c.args.wanted.now (c.args.place + 1)) c.args.up c.args.rate c.is_zero.ensures.0 fails
