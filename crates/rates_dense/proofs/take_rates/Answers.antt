use Rattle.std.proofs.Common.{arith, ◌≡◌, ◌∙◌, ◌<◌, ◌≤◌, sym, length}
use Rattle.lp_definitions.specs.LinearProgram.{value_at}
use Rattle.std.proofs.lemmas.List.{length-map}
use Rattle.rates_dense.specs.declared.line.Line.{Line}
use Rattle.rates_dense.specs.Lines.{AreNumbers, basics_of}
use Rattle.rates_dense.proofs.Changes.{basic_within, place_within, taken_line, taken_zero, taken_to_end}
use Rattle.rates_dense.proofs.take_rates.Goals as goal
use Rattle.lp_laws.proofs.Places.{value_at_place}

pub overflow_sub-rate : goal.overflow_sub-rate
overflow_sub-rate c =
    (basic_within c.args.lines.now (length c.args.out.now) c.loop-line.line-index c.line-item.result c.loop-line-test.true c.line-item.is c.requires.basics).0

pub bounds-out-line : goal.bounds-out-line
bounds-out-line c =
    let h =
    basic_within c.args.lines.now (length c.args.out.now) c.loop-line.line-index c.line-item.result c.loop-line-test.true c.line-item.is c.requires.basics in
    omega (arith, h.0, h.1, c.loop-line.auto.out)

pub loop-line-preserved-then-is_zero : goal.loop-line-preserved-then-is_zero
loop-line-preserved-then-is_zero c f have =
    let within : c.loop-line.line-index < length c.args.lines.now = c.loop-line-test.true in
    let high : c.args.j ≤ length c.line-item.result.rates.items =
    omega (
      arith,
      place_within c.args.lines.now
          (length c.args.out.now) c.loop-line.line-index c.line-item.result within c.line-item.is c.requires.places,
      c.requires.high,
    ) in
    let here : c.index-rate.result.now ≡ value_at c.line-item.result.rates.items c.args.j =
    value_at_place c.line-item.result.rates.items c.args.j c.index-rate.result.now c.requires.low high c.index-rate.ensures in
    taken_zero c.args.lines.now c.args.j c.args.out.now c.loop-line.out f c.loop-line.line-index c.line-item.result within c.line-item.is c.requires.basics
    c.requires.zeros have
    (sym here ∙ c.is_zero.ensures.0 c.if-is_zero.true) (c.loop-line.invariant f have)

pub loop-line-preserved : goal.loop-line-preserved
loop-line-preserved c f have =
    let within : c.loop-line.line-index < length c.args.lines.now = c.loop-line-test.true in
    let numbers : AreNumbers (length c.loop-line.out) (basics_of c.args.lines.now) = λ place below. let h = c.requires.basics place below in
    (h.0, omega (arith, h.1, c.loop-line.auto.out)) in
    let high : c.args.j ≤ length c.line-item.result.rates.items =
    omega (
      arith,
      place_within c.args.lines.now
          (length c.args.out.now) c.loop-line.line-index c.line-item.result within c.line-item.is c.requires.places,
      c.requires.high,
    ) in
    taken_line c.args.lines.now c.args.j c.args.out.now c.loop-line.out f c.loop-line.line-index c.line-item.result c.index-rate.result.now within
    c.line-item.is numbers have
    (value_at_place c.line-item.result.rates.items c.args.j c.index-rate.result.now c.requires.low high c.index-rate.ensures) (c.loop-line.invariant f have)

pub returns : goal.returns
returns c f have =
    let end : length (basics_of c.args.lines.now) ≤ c.loop-line.line-index =
    omega (arith, length-map c.args.lines.now (λ (x : Line). x.basic), c.loop-line-test.false) in
    taken_to_end (basics_of c.args.lines.now) c.args.out.now c.loop-line.out f c.loop-line.line-index end (c.loop-line.invariant f have)
