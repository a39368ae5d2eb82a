use Rattle.std.proofs.Common.{take, rules, arith, ◌≡◌, ◌<◌, Err, length, get_or}
use Rattle.rates_dense.specs.declared.line.Line.{Line}
use Rattle.rates_dense.specs.Lines.{AreQuotients}
use Rattle.rates_dense.specs.Refusals.{QuotientRefused, at_leaver, at_another}
use Rattle.rates_dense.proofs.LineSteps.{held_at}
use Rattle.rates_dense.proofs.exchange_lines.Goals as goal

pub returns-in_err-count-clause-refused : goal.returns-in_err-count-clause-refused
returns-in_err-count-clause-refused c =
    let is_err : c.from_residual.result ≡ Err c.in_err-count.field-0.0 = search rules in
    rw is_err
    (at_leaver
    (held_at (λ (leaver : Line). QuotientRefused c.args.exchange.now.p c.args.exchange.now.q leaver.rates.items c.in_err-count.field-0.0)
    c.args.lines.now c.args.slot c.index-lines-slot.result c.requires.slot (rw c.deref.ensures.value at c.in_err-count.ensures.refused)))

pub returns-in_err-prepare_lines-clause-refused : goal.returns-in_err-prepare_lines-clause-refused
returns-in_err-prepare_lines-clause-refused c =
    let is_err : c.from_residual-in_err-prepare_lines.result ≡ Err c.in_err-prepare_lines.field-0.0 = search rules in
    rw is_err
    (at_another c.fill_quotients.new.quotients
    (held_at (λ (leaver : Line). AreQuotients c.args.exchange.now.p c.args.exchange.now.q leaver.rates.items c.fill_quotients.new.quotients)
    c.args.lines.now c.args.slot c.index-lines-slot.result c.requires.slot
    (rw (← c.deref.ensures.value) (record { counted = search rules; filled = c.in_ok-count.ensures.filled })))
    c.in_err-prepare_lines.ensures.refused)

pub returns-clause-quotients : goal.returns-clause-quotients
returns-clause-quotients c =
    held_at (λ (leaver : Line). AreQuotients c.args.exchange.now.p c.args.exchange.now.q leaver.rates.items c.fill_quotients.new.quotients)
    c.args.lines.now c.args.slot c.index-lines-slot.result c.requires.slot
    (rw (← c.deref.ensures.value) (record { counted = search rules; filled = c.in_ok-count.ensures.filled }))

pub returns-clause-lines : goal.returns-clause-lines
returns-clause-lines c slot d within =
    let still : slot < length c.prepare_lines.new.lines = omega (arith, c.prepare_lines.auto.lines, within) in
    record {
      changed = take c.in_ok-count.count c.fill_quotients.new.changed;
      are_changed = c.in_ok-count.ensures.listed;
      ready = get_or c.prepare_lines.new.lines slot d;
      same = c.in_ok-prepare_lines.ensures.same slot d within;
      is_ready = c.in_ok-prepare_lines.ensures.ready slot d still;
      committed = c.commit_lines.ensures slot d still;
    }
