use Rattle.std.proofs.Common.{rules, ◌≡◌, ◌∷◌, Err}
use Rattle.lp_definitions.specs.RatesEvidence.{ExchangeRefused}
use Rattle.eta_file.specs.Inverse.{ways_of}
use Rattle.eta_file.proofs.FileLaws.{pivot_apart, stop_map, column_to_exchange}
use Rattle.eta_file.proofs.file.EtaFile.append_in.Goals as goal

pub returns-in_err-column_to-clause-overflow : goal.returns-in_err-column_to-clause-overflow
returns-in_err-column_to-clause-overflow c =
    let f = c.args.self.now in
    let is_err : c.from_residual.result ≡ Err c.in_err-column_to.field-0.0 = search rules in
    rw is_err
    (stop_map c.in_err-column_to.field-0.0 (ExchangeRefused f.matrix (f.basics ∷ ways_of f) f.basics (ways_of f)) _
    (column_to_exchange f.matrix f.basics (ways_of f) c.args.p c.args.q)
    c.in_err-column_to.ensures.overflow)

pub append_carried-requires-clause-pivot : goal.append_carried-requires-clause-pivot
append_carried-requires-clause-pivot c =
    rw c.deref.ensures.value
    (pivot_apart c.args.self.now.matrix c.args.self.now.basics c.size-size.ensures.nonsingular c.args.p c.args.q c.requires.leaves
    c.column_to.new.workspace.direction.items
    c.in_ok-column_to.ensures.direction c.requires.pivot)
