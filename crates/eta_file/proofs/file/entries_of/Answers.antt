use Rattle.std.proofs.Common.{rules, ◌≡◌, ◌∙◌, ◌++◌, ◌∷◌, [], get_or}
use Rattle.lp_definitions.specs.LinearProgram.{value_at}
use Rattle.lp_laws.proofs.Places.{value_at_place}
use Rattle.eta_file.specs.declared.eta.EtaEntry.{EtaEntry}
use Rattle.eta_file.proofs.RateEntries.{entry_then, entry_else, zero_test}
use Rattle.eta_file.proofs.file.entries_of.Goals as goal
use Rattle.eta_file.proofs.file.entries_of.Goals.{then-not-is_zero+in_ok-map_err, else-not-is_zero}

pub loop-k-preserved : goal.loop-k-preserved
loop-k-preserved c =
    let k = get_or c.args.listed.now c.loop-k.k-index 0 in
    let d = c.args.direction.now in
    let within = c.requires c.loop-k.k-index 0 c.loop-k-test.true in
    let rate = value_at_place d k c.index-direction-k.result within.0 within.1 c.index-direction-k.is in
    let tested = zero_test c.is_zero.result c.index-direction-k.result c.is_zero.ensures.0 c.is_zero.ensures.1 in
    elim c.if-not-is_zero.branch [
      | then-not-is_zero+in_ok-map_err w ↦
          let one : EtaEntry = record { i = k; rate = c.index-direction-k.result } in
          let pushed : w.push.new.self.items ≡ c.loop-k.entries.items ++ (one ∷ []) = search rules in
          rw w.entries-is
          (pushed ∙ entry_then
          (value_at d) c.args.listed.now c.loop-k.k-index c.loop-k-test.true c.loop-k.entries.items c.loop-k.invariant c.index-direction-k.result
          c.is_zero.result rate tested w.if-not-is_zero.true)
      | else-not-is_zero w ↦
          rw w.entries-is
          (entry_else (value_at d) c.args.listed.now c.loop-k.k-index c.loop-k-test.true c.loop-k.entries.items c.loop-k.invariant c.index-direction-k.result
          c.is_zero.result rate tested w.if-not-is_zero.false)
    ]
