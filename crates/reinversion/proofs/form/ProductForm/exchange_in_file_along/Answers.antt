use Rattle.eta_file.specs.Inverse.{ways_of}
use Rattle.eta_file.proofs.ColumnLaws.{keeps_appended}
use Rattle.reinversion.proofs.form.ProductForm.exchange_in_file_along.Goals as goal
use Rattle.lp_laws.proofs.WaypointLaws.{keeps_same}

pub returns-in_err-append_along-clause-waypoints : goal.returns-in_err-append_along-clause-waypoints
returns-in_err-append_along-clause-waypoints c =
    rw (← c.self.view_is, c.in_err-append_along.ensures.err) (keeps_same c.self.inside.file.matrix c.self.inside.file.basics (ways_of c.self.inside.file))

pub returns-clause-waypoints : goal.returns-clause-waypoints
returns-clause-waypoints c =
    rw (← c.self.view_is)
    (keeps_appended c.self.inside.file c.args.p c.args.q c.append_along.new.self c.size-size.ensures.basics c.in_ok-append_along.ensures.ok)
