use Rattle.std.proofs.Common.{◌≡◌, None, false, length, replicate, map, refl, ap, ◌∙◌}
use Rattle.std.proofs.lemmas.List.{length-map, length-replicate}
use Rattle.lp_definitions.specs.LinearProgram.{size, variables}
use Rattle.lp_laws.proofs.Opening.{length-numbers_from}
use Rattle.basis_deck.proofs.CardStep.{nothing_read}
use Rattle.basis_deck.proofs.draft.BasisDraft.new.Goals as goal

pub invariant_of-result : goal.invariant_of-result
invariant_of-result c =
    let marks : c.in_ok-marks.marks.items ≡ replicate (size c.args.lp.now.matrix) false
    = c.in_ok-marks.ensures.items_if_clones_equal (λ y clone. clone) ∙ ap (λ n. replicate n false) c.number_of_variables-size.ensures.size in
    record {
      row_names = c.in_ok-rows.ensures ∙ ap (map (λ row. row.name)) c.rows.ensures.rows;
      column_names = c.in_ok-columns.ensures ∙ ap (map (λ column. column.name)) c.columns.ensures.columns;
      names = c.requires;
      placed =
          ap length (c.into_statuses.ensures ∙ c.in_ok-opening.ensures) ∙ length-map (variables c.args.lp.now.matrix) _
          ∙ length-numbers_from 1 (size c.args.lp.now.matrix);
      marked = ap length marks ∙ length-replicate (size c.args.lp.now.matrix) false;
    }

pub returns : goal.returns
returns c =
    nothing_read c.args.problem.now c.args.lp.now None c.into_statuses.result.items c.in_ok-marks.marks.items refl
    (c.into_statuses.ensures ∙ c.in_ok-opening.ensures)
    (c.in_ok-marks.ensures.items_if_clones_equal (λ y clone. clone) ∙ ap (λ n. replicate n false) c.number_of_variables-size.ensures.size)
