use Rattle.eta_file.proofs.ColumnLaws.{keeps_exchange}
use Rattle.eta_file.proofs.by_columns.ByColumnsRates.exchange.Goals as goal

pub append_in-requires-clause-pivot : goal.append_in-requires-clause-pivot
append_in-requires-clause-pivot c = rw (← c.self.view_is) at c.requires.pivot

pub returns-clause-waypoints : goal.returns-clause-waypoints
returns-clause-waypoints c =
    rw (← c.self.view_is)
    (keeps_exchange c.append_in.result c.self.inside.file c.args.p c.args.q c.append_in.new.self c.size-size.ensures.basics c.append_in.ensures.ok
    c.append_in.ensures.err)
