use Rattle.std.proofs.Common.{Some, refl, sym, subst}
use Rattle.listing_definitions.specs.Report.{limit_value}
use Rattle.listing_definitions.specs.Report as reports
use Rattle.listing_claims.specs.Numbers.{number_in}
use Rattle.listing_readers.specs.declared.tables.Slot.{Slot}
use Rattle.listing_readers.specs.Tables.{IsSlotTaken}
use Rattle.listing_readers.proofs.tables.take_slot.Goals as goal

pub returns-in_ok-_at-in-Code : goal.returns-in_ok-_at-in-Code
returns-in_ok-_at-in-Code g c =
    let of = number_in g.T.Checks.checker c.args.by in
    subst (λ (slot : Slot). IsSlotTaken of slot c.args.cursor.now c.code.new.cursor c.args.numbers.now c.args.numbers.now (Some tt)) (sym c.in-Code.is)
    (reports.Code c.in_ok-_at-in-Code._at, c.in_ok-_at-in-Code.ensures, refl)

pub returns-in_ok-number-in-Number : goal.returns-in_ok-number-in-Number
returns-in_ok-number-in-Number g c =
    let of = number_in g.T.Checks.checker c.args.by in
    subst (λ (slot : Slot). IsSlotTaken of slot c.args.cursor.now c.number.new.cursor c.args.numbers.now c.put.new.self (Some tt)) (sym c.in-Number.is)
    (reports.Number c.in_ok-number-in-Number.number, c.in_ok-number-in-Number.ensures, c.put.ensures)

pub returns-then-known_limit : goal.returns-then-known_limit
returns-then-known_limit g c =
    let of = number_in g.T.Checks.checker c.args.by in
    subst (λ (slot : Slot). IsSlotTaken of slot c.args.cursor.now c.known_limit.new.cursor c.args.numbers.now c.args.numbers.now (Some tt)) (sym c.in-Known.is)
    (limit_value c.in-Known.limit, c.if-known_limit.ensures, refl)
