use Rattle.std.proofs.Common.{rules, ◌≡◌, ◌<◌, ◌++◌, ◌∷◌, [], length, arith, refl, IfSome}
use Rattle.eta_file.specs.declared.eta.StoredEta.{StoredEta}
use Rattle.eta_file.specs.Entries.{IsWholeOf}
use Rattle.eta_file.specs.Inverse.{IsNextEta}
use Rattle.eta_file.specs.File.{inverse_of}
use Rattle.eta_file.proofs.FileLaws.{marks_counted, appended, added}
use Rattle.eta_file.proofs.file.EtaFile.append_entries.Goals as goal

pub exchange-requires-clause-p_high : goal.exchange-requires-clause-p_high
exchange-requires-clause-p_high c =
    let f = inverse_of c.self.inside in
    let counted = marks_counted f.matrix f.etas f.basics c.self.invariant.0 in
    let next : IsNextEta f c.args.p c.args.q c.args.pivot c.args.entries.items = rw (← c.self.view_is) at c.requires in
    omega (arith, counted, next.leaves.0.1)

pub exchange-requires-clause-q_high : goal.exchange-requires-clause-q_high
exchange-requires-clause-q_high c =
    let f = inverse_of c.self.inside in
    let counted = marks_counted f.matrix f.etas f.basics c.self.invariant.0 in
    let next : IsNextEta f c.args.p c.args.q c.args.pivot c.args.entries.items = rw (← c.self.view_is) at c.requires in
    omega (arith, counted, next.enters.0.1)

pub exchange-requires-clause-leaves : goal.exchange-requires-clause-leaves
exchange-requires-clause-leaves c =
    let f = inverse_of c.self.inside in
    let next : IsNextEta f c.args.p c.args.q c.args.pivot c.args.entries.items = rw (← c.self.view_is) at c.requires in
    next.leaves.1

pub exchange-requires-clause-enters : goal.exchange-requires-clause-enters
exchange-requires-clause-enters c =
    let f = inverse_of c.self.inside in
    let next : IsNextEta f c.args.p c.args.q c.args.pivot c.args.entries.items = rw (← c.self.view_is) at c.requires in
    next.enters.1

pub invariant_of-self-2 : goal.invariant_of-self-2
invariant_of-self-2 c =
    let f = inverse_of c.self.inside in
    let next : IsNextEta f c.args.p c.args.q c.args.pivot c.args.entries.items = rw (← c.self.view_is) at c.requires in
    let eta : StoredEta = record { p = c.args.p; q = c.args.q; pivot = c.args.pivot; entries = c.args.entries; whole = c.in_ok-whole.whole } in
    let pushed : c.push.new.self.items ≡ f.etas ++ (eta ∷ []) = search rules in
    let whole : IfSome c.in_ok-whole.whole (IsWholeOf c.args.pivot c.args.entries.items) = rw c.deref.ensures.value at c.in_ok-whole.ensures in
    let workspace : length f.etas < 4294967294 = search rules in
    rw (pushed, c.exchange.ensures) (
      appended f.matrix f.etas f.basics c.self.invariant.0 c.args.p c.args.q next.leaves next.enters next.direction next.is_direction next.apart
          eta refl refl next.is_pivot next.are_entries whole workspace,
      c.self.invariant.1,
    )

pub returns-clause-ok : goal.returns-clause-ok
returns-clause-ok c =
    let f = inverse_of c.self.inside in
    let eta : StoredEta = record { p = c.args.p; q = c.args.q; pivot = c.args.pivot; entries = c.args.entries; whole = c.in_ok-whole.whole } in
    let pushed : c.push.new.self.items ≡ f.etas ++ (eta ∷ []) = search rules in
    rw (← c.self.view_is, c.exchange.ensures) (added f.matrix f.etas f.basics c.self.invariant.0 c.args.p c.args.q c.push.new.self.items eta pushed refl refl)
