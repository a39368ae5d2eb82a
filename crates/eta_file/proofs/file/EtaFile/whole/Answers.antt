use Rattle.std.proofs.Common.{◌≤◌, ◌-◌, length, subst, arith, IfSome}
use Rattle.eta_file.specs.Entries.{IsWholeOf}
use Rattle.eta_file.specs.File.{inverse_of}
use Rattle.eta_file.proofs.FileLaws.{whole_is, lent_scaled}
use Rattle.eta_file.proofs.file.EtaFile.whole.Goals as goal

pub returns : goal.returns
returns c =
    let f = inverse_of c.self.inside in
    let high : c.args.k ≤ length f.etas = rw (← c.self.view_is) at c.requires.high in
    let eta = c.index-eta.result.now in
    let is_whole : IsWholeOf eta.pivot eta.entries.items c.in-Some.whole =
    subst (λ o. IfSome o (IsWholeOf eta.pivot eta.entries.items)) c.in-Some.is
    (whole_is f.matrix f.etas f.basics c.self.invariant.0 (c.args.k - 1) eta (omega (arith, high, c.requires.low)) c.index-eta.ensures) in
    rw (← c.self.view_is, c.deref.ensures.value)
    (lent_scaled f.etas (c.args.k - 1) eta c.in-Some.whole (omega (arith, high, c.requires.low)) c.index-eta.ensures is_whole)
