use Rattle.std.proofs.Common.{rules, ◌≡◌, ◌∙◌, ◌++◌, ◌∷◌, [], get_or}
use Rattle.lp_definitions.specs.LinearProgram.{value_at}
use Rattle.lp_laws.proofs.Places.{value_at_place}
use Rattle.eta_file.specs.declared.eta.EtaEntry.{EtaEntry}
use Rattle.eta_file.proofs.RateEntries.{other_then, other_else}
use Rattle.eta_file.proofs.file.entries_but.Goals as goal
use Rattle.eta_file.proofs.file.entries_but.Goals.{then-k-q+in_ok-map_err, else-k-q}

pub loop-k-preserved : goal.loop-k-preserved
loop-k-preserved c =
    let k = get_or c.args.listed.now c.loop-k.k-index 0 in
    let d = c.args.direction.now in
    let within = c.requires c.loop-k.k-index 0 c.loop-k-test.true in
    elim c.if-k-q.branch [
      | then-k-q+in_ok-map_err w ↦
          let one : EtaEntry = record { i = k; rate = w.index-direction-k.result } in
          let pushed : w.push.new.self.items ≡ c.loop-k.entries.items ++ (one ∷ []) = search rules in
          rw w.entries-is
          (pushed ∙ other_then
          (value_at d) c.args.q c.args.listed.now c.loop-k.k-index c.loop-k-test.true c.loop-k.entries.items c.loop-k.invariant w.index-direction-k.result
          (value_at_place d k w.index-direction-k.result within.0 within.1 w.index-direction-k.is) w.if-k-q.true)
      | else-k-q w ↦ rw w.entries-is
          (other_else (value_at d) c.args.q c.args.listed.now c.loop-k.k-index c.loop-k-test.true c.loop-k.entries.items c.loop-k.invariant w.if-k-q.false)
    ]
