use Rattle.std.proofs.Common.{sym, ◌∙◌, arith}
use Rattle.std.proofs.lemmas.Slice.Eq.{bytes_eq-Decides}
use Rattle.command_line.proofs.Sizes.{written, not_parsed, other_size}
use Rattle.command_line.proofs.size.size_of.Goals as goal
use Rattle.command_line.proofs.size.size_of.Goals.{then-size-eq0-via-then-size-eq0, then-size-eq0-via-else-size-eq0+then-size-gt-MAX_SIZE}

pub returns-in_err-size-clause-size : goal.returns-in_err-size-clause-size
returns-in_err-size-clause-size c =
    c.from_residual.ensures ∙ sym (not_parsed c.args.word.now c.parse.result c.parse.ensures.value.0 c.in_err-size.ensures.value)

pub returns-then-size-eq0-clause-size : goal.returns-then-size-eq0-clause-size
returns-then-size-eq0-clause-size c =
    elim c.then-size-eq0.branch [
      | then-size-eq0-via-then-size-eq0 w ↦ sym
          (other_size c.args.word.now c.in_ok-size.size c.parse.result c.parse.ensures.value.0 c.in_ok-size.ensures.value
          (λ h. absurd (omega (arith, h.least, w.if-size-eq0))))
      | then-size-eq0-via-else-size-eq0+then-size-gt-MAX_SIZE w ↦ sym
          (other_size c.args.word.now c.in_ok-size.size c.parse.result c.parse.ensures.value.0 c.in_ok-size.ensures.value
          (λ h. absurd (omega (arith, h.most, w.if-size-gt-MAX_SIZE))))
    ]

pub returns-then-eq-clause-size : goal.returns-then-eq-clause-size
returns-then-eq-clause-size c =
    let same = (bytes_eq-Decides c.format.result.now c.args.word.now).0 (sym c.eq.ensures ∙ c.if-eq.true) in
    sym (written
    (record { least = omega (arith, c.if-size-eq0.false); most = omega (arith, c.if-size-gt-MAX_SIZE.false); digits = sym c.format.ensures.text ∙ same }))

pub returns-else-eq-clause-size : goal.returns-else-eq-clause-size
returns-else-eq-clause-size c =
    sym (other_size c.args.word.now c.in_ok-size.size c.parse.result c.parse.ensures.value.0 c.in_ok-size.ensures.value (λ h.
    let holds = (bytes_eq-Decides c.format.result.now c.args.word.now).1 (c.format.ensures.text ∙ h.digits) in
    absurd (cc (holds, c.eq.ensures, c.if-eq.false))))
