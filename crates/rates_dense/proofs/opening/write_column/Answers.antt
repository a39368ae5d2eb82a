use Rattle.std.proofs.Common.{arith, ◌≡◌, ◌<◌, ◌+◌, ◌-◌, ◌∙◌, ap, get_or, length, subst, sym}
use Rattle.lp_definitions.specs.declared.Entry.{Entry}
use Rattle.rates_dense.specs.Lines.{IsNumberOf}
use Rattle.rates_dense.proofs.OpeningLines.{written_more}
use Rattle.rates_dense.proofs.opening.write_column.Goals as goal

pub loop-back-preserved : goal.loop-back-preserved
loop-back-preserved c =
    let n = length c.args.column.now - (c.loop-back.back + 1) in
    let e : Entry = c.index-column-count.result in
    let within : n < length c.args.column.now = omega (arith, c.loop-back-test.true) in
    let later : length c.args.column.now - c.loop-back.back ≡ n + 1 = omega (arith, c.loop-back-test.true) in
    let place : length c.args.column.now - 1 - c.loop-back.back ≡ n = omega arith in
    let is_entry : e ≡ get_or c.args.column.now n e = c.index-column-count.is ∙ ap (λ k. get_or c.args.column.now k e) place in
    let number : IsNumberOf (length c.args.lines.now) e.row =
    subst (λ (x : Entry). IsNumberOf (length c.args.lines.now) x.row) (sym is_entry) (c.requires.rows n e within) in
    written_more c.args.j c.args.column.now c.args.lines.now c.loop-back.lines n
    (length c.args.column.now - c.loop-back.back) e c.index-lines-entry.result c.write.new.self
    within later is_entry number c.write.ensures c.loop-back.invariant
