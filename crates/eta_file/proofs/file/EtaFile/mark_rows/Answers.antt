use Rattle.std.proofs.Common.{◌≡◌, ◌∙◌, length, sym, arith, false}
use Rattle.std.proofs.lemmas.List.{ext_get_or}
use Rattle.lp_definitions.specs.LinearProgram.{size}
use Rattle.lp_definitions.specs.Basis.{row_basics}
use Rattle.lp_laws.proofs.Opening.{length-row_basics}
use Rattle.eta_file.proofs.Marks.{row_mark}
use Rattle.eta_file.proofs.file.EtaFile.mark_rows.Goals as goal

pub returns : goal.returns
returns c =
    let counted : length c.loop-k.out ≡ size c.args.self.now.matrix = omega (arith, c.loop-k.auto.out, c.requires) in
    ext_get_or false c.loop-k.out (row_basics c.args.self.now.matrix) (counted ∙ sym (length-row_basics c.args.self.now.matrix))
    (λ i below. c.loop-k.invariant i (omega (arith, below)) ∙ sym (row_mark c.args.self.now.matrix i (omega (arith, below, counted))))
