use Rattle.std.proofs.Common.{Err, Some, subst, sym}
use Rattle.std.proofs.lemmas.List.{drop_all}
use Rattle.listing_claims.specs.Numbers.{number_in}
use Rattle.listing_readers.specs.declared.tables.Numbers.{Numbers}
use Rattle.listing_readers.specs.declared.tables.Slot.{Slot}
use Rattle.listing_readers.specs.Results.{IfRead}
use Rattle.listing_readers.specs.Tables.{IsSlotTaken}
use Rattle.listing_readers.proofs.Slots.{AreTakenSoFar, slots_begin, slots_go_on, slots_fail, slots_end}
use Rattle.listing_readers.proofs.tables.take_slots.Goals as goal

pub loop-slot-init : goal.loop-slot-init
loop-slot-init g c =
    let of = number_in g.T.Checks.checker c.args.by in
    subst (λ (numbers : Numbers). AreTakenSoFar of c.args.slots.now c.args.cursor.now 0 c.args.cursor.now numbers) (sym c.zeros-numbers.ensures)
    (slots_begin of c.args.slots.now c.args.cursor.now)

pub loop-slot-preserved : goal.loop-slot-preserved
loop-slot-preserved g c =
    let of = number_in g.T.Checks.checker c.args.by in
    slots_go_on of c.args.slots.now c.args.cursor.now c.loop-slot.slot-index c.slot-item.result c.loop-slot.cursor c.take_slot.new.cursor c.loop-slot.numbers
    c.take_slot.new.numbers c.loop-slot-test.true c.loop-slot.invariant
    (subst (λ (slot : Slot). IsSlotTaken of slot c.loop-slot.cursor c.take_slot.new.cursor c.loop-slot.numbers c.take_slot.new.numbers (Some tt)) c.slot-item.is
    c.in-Ok.ensures)

pub returns-in-Err : goal.returns-in-Err
returns-in-Err g c =
    let of = number_in g.T.Checks.checker c.args.by in
    slots_fail of c.args.slots.now c.args.cursor.now c.loop-slot.slot-index c.slot-item.result c.loop-slot.cursor c.take_slot.new.cursor c.loop-slot.numbers
    c.take_slot.new.numbers c.loop-slot-test.true c.loop-slot.invariant c.in-Err.stop
    (subst (λ (slot : Slot). IfRead (Err c.in-Err.stop)
    (IsSlotTaken of slot c.loop-slot.cursor c.take_slot.new.cursor c.loop-slot.numbers c.take_slot.new.numbers))
    c.slot-item.is c.in-Err.ensures)

pub returns : goal.returns
returns g c =
    slots_end (number_in g.T.Checks.checker c.args.by) c.args.slots.now c.args.cursor.now c.loop-slot.slot-index c.loop-slot.cursor c.loop-slot.numbers
    c.loop-slot.invariant (drop_all c.loop-slot.slot-index c.args.slots.now c.loop-slot-test.false)
