use Rattle.std.proofs.Common.{◌∙◌, ◌++◌, ap}
use Rattle.std.specs.List.{flat_map}
use Rattle.job_devices.proofs.TextLemmas.{writes_same}
use Rattle.report_text.specs.Views.{letters_of}
use Rattle.report_text.proofs.overflow.put_piece.Goals as goal

pub returns-in-Ok : goal.returns-in-Ok
returns-in-Ok g c =
    let text = flat_map (letters_of g.T.Lettered.letter_of) c.args.items.now in
    writes_same (c.bytes.ensures ∙ c.in-Ok.ensures.bytes ∙ ap (λ front. front ++ text) c.new-letters.ensures) c.put_all.ensures
