use Rattle.std.proofs.Common.{rules, ◌≡◌, ◌∙◌, ◌++◌, ◌∷◌, [], ◌+◌}
use Rattle.eta_file.proofs.ListedLaws.{listed_then, listed_else}
use Rattle.eta_file.proofs.basic_set.listed_in.Goals as goal
use Rattle.eta_file.proofs.basic_set.listed_in.Goals.{then-marks-place+in_ok-map_err, else-marks-place}

pub loop-place-preserved : goal.loop-place-preserved
loop-place-preserved c =
    elim c.if-marks-place.branch [
      | then-marks-place+in_ok-map_err w ↦
          let pushed : w.push.new.self.items ≡ c.loop-place.listed.items ++ ((c.loop-place.place + 1) ∷ []) = search rules in
          rw w.listed-is (pushed ∙ listed_then c.args.marks.now c.loop-place.place c.loop-place.listed.items w.if-marks-place.true c.loop-place.invariant)
      | else-marks-place w ↦ rw w.listed-is
          (listed_else c.args.marks.now c.loop-place.place c.loop-place.listed.items w.if-marks-place.false c.loop-place.invariant)
    ]
