use Rattle.std.proofs.Common.{rules, ◌≡◌, ◌∷◌, Err}
use Rattle.lp_definitions.specs.Basis.{exchanged}
use Rattle.lp_definitions.specs.RatesEvidence.{ExchangeRefused}
use Rattle.eta_file.specs.Inverse.{Inverse, ways_of}
use Rattle.eta_file.proofs.ColumnLaws.{keeps_appended}
use Rattle.eta_file.proofs.FileLaws.{pivot_apart, stop_map, column_to_exchange}
use Rattle.reinversion.proofs.form.ProductForm.exchange_in_file.Goals as goal
use Rattle.lp_laws.proofs.WaypointLaws.{keeps_same}

pub append_carried-requires-clause-pivot : goal.append_carried-requires-clause-pivot
append_carried-requires-clause-pivot c =
    rw c.deref.ensures.value
    (pivot_apart c.self.inside.file.matrix c.self.inside.file.basics c.size-size.ensures.nonsingular c.args.p c.args.q
    (rw (← c.self.view_is) at c.requires.leaves) c.carry.new.self.direction.items
    c.in_ok-carry.ensures.direction (rw (← c.self.view_is) at c.requires.pivot))

pub returns-in_err-carry-clause-waypoints : goal.returns-in_err-carry-clause-waypoints
returns-in_err-carry-clause-waypoints c = rw (← c.self.view_is) (keeps_same c.self.inside.file.matrix c.self.inside.file.basics (ways_of c.self.inside.file))

pub returns-in_err-carry-clause-overflow : goal.returns-in_err-carry-clause-overflow
returns-in_err-carry-clause-overflow c =
    let f : Inverse = c.self.inside.file in
    let is_err : c.from_residual.result ≡ Err c.in_err-carry.field-0.0 = search rules in
    rw (← c.self.view_is, is_err)
    (stop_map c.in_err-carry.field-0.0 (ExchangeRefused f.matrix (f.basics ∷ ways_of f) f.basics (ways_of f))
    (ExchangeRefused f.matrix (f.basics ∷ exchanged f.basics c.args.p c.args.q ∷ ways_of f) f.basics (ways_of f))
    (column_to_exchange f.matrix f.basics (ways_of f) c.args.p c.args.q)
    c.in_err-carry.ensures.overflow)

pub returns-in_err-append_carried-clause-waypoints : goal.returns-in_err-append_carried-clause-waypoints
returns-in_err-append_carried-clause-waypoints c =
    rw (← c.self.view_is, c.in_err-append_carried.ensures.err) (keeps_same c.self.inside.file.matrix c.self.inside.file.basics (ways_of c.self.inside.file))

pub returns-clause-waypoints : goal.returns-clause-waypoints
returns-clause-waypoints c =
    rw (← c.self.view_is)
    (keeps_appended c.self.inside.file c.args.p c.args.q c.append_carried.new.self c.size-size.ensures.basics c.in_ok-append_carried.ensures.ok)
