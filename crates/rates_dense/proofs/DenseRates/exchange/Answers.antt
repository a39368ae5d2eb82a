use Rattle.std.proofs.Common.{rules, ◌≡◌, ◌∙◌, sym, get_or, length, ◌-◌, ◌<◌}
use Rattle.lp_definitions.specs.Basis.{IsBasic, IsNonbasic}
use Rattle.lp_model.specs.RatesCalls.{HasPivot}
use Rattle.rates_dense.specs.Table.{inverse_of}
use Rattle.rates_dense.proofs.Exchanges.{slot_read, slot_within, leaver_apart, table_kept, table_then}
use Rattle.rates_dense.proofs.RefusedLaws.{lines_own, lines_refused}
use Rattle.rates_dense.proofs.LineSteps.{came_back}
use Rattle.rates_dense.proofs.DenseRates.exchange.Goals as goal

pub exchange_lines-requires-clause-pivot : goal.exchange_lines-requires-clause-pivot
exchange_lines-requires-clause-pivot c =
    let inverse = inverse_of c.self.inside in
    let leaves : IsBasic inverse.matrix inverse.basics c.args.p = rw (← c.self.view_is) at c.requires.leaves in
    let enters : IsNonbasic inverse.matrix inverse.basics c.args.q = rw (← c.self.view_is) at c.requires.enters in
    let pivot : HasPivot inverse.matrix inverse.basics c.args.p c.args.q = rw (← c.self.view_is) at c.requires.pivot in
    rw (
      c.deref_mut.ensures.value,
      slot_read inverse.matrix inverse.basics c.self.inside.slots.items c.self.inside.lines.items c.self.inside.quotients.items
          c.self.invariant.0 c.args.p c.args.q leaves enters pivot c.index-slot.result.now c.index-slot.ensures,
    )
    (leaver_apart inverse.matrix inverse.basics c.self.inside.slots.items c.self.inside.lines.items c.self.inside.quotients.items c.self.invariant.0 c.args.p
    c.args.q leaves enters pivot)

pub invariant_of-self : goal.invariant_of-self
invariant_of-self c =
    let inverse = inverse_of c.self.inside in
    let same_lines : length c.exchange_lines.new.lines ≡ length c.self.inside.lines.items = search rules in
    let same_quotients : length c.exchange_lines.new.quotients ≡ length c.self.inside.quotients.items = search rules in
    let same_changed : length c.exchange_lines.new.changed ≡ length c.self.inside.changed.items = search rules in
    let same_changing : length c.exchange_lines.new.changing ≡ length c.self.inside.changing.items = search rules in
    rw (
      came_back c.exchange_lines.new.lines c.self.inside.lines.items c.self.inside.lines.len same_lines (search rules),
      came_back c.exchange_lines.new.quotients c.self.inside.quotients.items c.self.inside.quotients.len same_quotients (search rules),
      came_back c.exchange_lines.new.changed c.self.inside.changed.items c.self.inside.changed.len same_changed (search rules),
      came_back c.exchange_lines.new.changing c.self.inside.changing.items c.self.inside.changing.len same_changing (search rules),
    ) (
      table_kept inverse.matrix inverse.basics c.self.inside.slots.items c.self.inside.lines.items c.self.inside.quotients.items c.self.invariant.0
          c.exchange_lines.new.lines c.exchange_lines.new.quotients same_lines same_quotients (rw c.deref_mut.ensures.value at c.in-Err.ensures.err),
      same_changed ∙ c.self.invariant.1,
      same_changing ∙ c.self.invariant.2 ∙ sym same_lines,
    )

pub returns-in-Err-clause-overflow : goal.returns-in-Err-clause-overflow
returns-in-Err-clause-overflow c =
    let inverse = inverse_of c.self.inside in
    let leaves : IsBasic inverse.matrix inverse.basics c.args.p = rw (← c.self.view_is) at c.requires.leaves in
    let enters : IsNonbasic inverse.matrix inverse.basics c.args.q = rw (← c.self.view_is) at c.requires.enters in
    let pivot : HasPivot inverse.matrix inverse.basics c.args.p c.args.q = rw (← c.self.view_is) at c.requires.pivot in
    rw (← c.self.view_is)
    (lines_refused inverse.matrix inverse.basics c.self.inside.slots.items c.self.inside.lines.items c.self.inside.quotients.items c.self.invariant.0 c.args.p
    c.args.q leaves enters pivot c.in-Err.evidence
    (rw (
      c.deref_mut.ensures.value,
      slot_read inverse.matrix inverse.basics c.self.inside.slots.items c.self.inside.lines.items c.self.inside.quotients.items
          c.self.invariant.0 c.args.p c.args.q leaves enters pivot c.index-slot.result.now c.index-slot.ensures,
    ) at c.in-Err.ensures.refused))

pub returns-in-Err-clause-own : goal.returns-in-Err-clause-own
returns-in-Err-clause-own c =
    let inverse = inverse_of c.self.inside in
    let leaves : IsBasic inverse.matrix inverse.basics c.args.p = rw (← c.self.view_is) at c.requires.leaves in
    let enters : IsNonbasic inverse.matrix inverse.basics c.args.q = rw (← c.self.view_is) at c.requires.enters in
    let pivot : HasPivot inverse.matrix inverse.basics c.args.p c.args.q = rw (← c.self.view_is) at c.requires.pivot in
    let is_slot : c.index-slot.result.now ≡ get_or c.self.inside.slots.items (c.args.p - 1) 0 =
    slot_read inverse.matrix inverse.basics c.self.inside.slots.items c.self.inside.lines.items c.self.inside.quotients.items c.self.invariant.0 c.args.p
    c.args.q leaves enters pivot c.index-slot.result.now c.index-slot.ensures in
    let within : c.index-slot.result.now < length c.deref_mut.result.now =
    rw (c.deref_mut.ensures.value, is_slot)
    (slot_within inverse.matrix inverse.basics c.self.inside.slots.items c.self.inside.lines.items c.self.inside.quotients.items c.self.invariant.0 c.args.p
    c.args.q leaves enters pivot) in
    lines_own c.args.p c.args.q c.deref_mut.result.now c.index-slot.result.now c.in-Err.evidence within c.in-Err.ensures.refused

pub invariant_of-self-2 : goal.invariant_of-self-2
invariant_of-self-2 c =
    let inverse = inverse_of c.self.inside in
    let leaves : IsBasic inverse.matrix inverse.basics c.args.p = rw (← c.self.view_is) at c.requires.leaves in
    let enters : IsNonbasic inverse.matrix inverse.basics c.args.q = rw (← c.self.view_is) at c.requires.enters in
    let pivot : HasPivot inverse.matrix inverse.basics c.args.p c.args.q = rw (← c.self.view_is) at c.requires.pivot in
    let same_lines : length c.exchange_lines.new.lines ≡ length c.self.inside.lines.items = search rules in
    let same_quotients : length c.exchange_lines.new.quotients ≡ length c.self.inside.quotients.items = search rules in
    let same_changed : length c.exchange_lines.new.changed ≡ length c.self.inside.changed.items = search rules in
    let same_changing : length c.exchange_lines.new.changing ≡ length c.self.inside.changing.items = search rules in
    let is_slot : c.index-slot.result.now ≡ get_or c.self.inside.slots.items (c.args.p - 1) 0 =
    slot_read inverse.matrix inverse.basics c.self.inside.slots.items c.self.inside.lines.items c.self.inside.quotients.items c.self.invariant.0 c.args.p
    c.args.q leaves enters pivot c.index-slot.result.now c.index-slot.ensures in
    rw (
      came_back c.exchange_lines.new.lines c.self.inside.lines.items c.self.inside.lines.len same_lines (search rules),
      came_back c.exchange_lines.new.quotients c.self.inside.quotients.items c.self.inside.quotients.len same_quotients (search rules),
      came_back c.exchange_lines.new.changed c.self.inside.changed.items c.self.inside.changed.len same_changed (search rules),
      came_back c.exchange_lines.new.changing c.self.inside.changing.items c.self.inside.changing.len same_changing (search rules),
      is_slot,
    ) (
      table_then inverse.matrix inverse.basics c.self.inside.slots.items c.self.inside.lines.items c.self.inside.quotients.items c.self.invariant.0 c.args.p
          c.args.q leaves enters pivot
          c.exchange_lines.new.quotients (same_quotients ∙ c.self.invariant.0.room) (rw (c.deref_mut.ensures.value, is_slot) at c.in_default.ensures.quotients)
          c.exchange_lines.new.lines same_lines (rw c.deref_mut.ensures.value at c.in_default.ensures.lines),
      same_changed ∙ c.self.invariant.1,
      same_changing ∙ c.self.invariant.2 ∙ sym same_lines,
    )
