use Rattle.std.proofs.Common.{◌≡◌, ◌++◌, ◌∷◌, [], rules, sym, ap, subst, ◌∙◌}
use Rattle.card_definitions.specs.Words.{is_empty}
use Rattle.problem_definitions.specs.Problem.{combination}
use Rattle.deck_fields.specs.Reported.{ReportsDeckFault}
use Rattle.deck_fields.specs.Views.{viewed}
use Rattle.named_problem.specs.Bodies.{row_at}
use Rattle.named_problem.proofs.RowsReported.{more_parts, tells_more, not_plain}
use Rattle.named_problem.proofs.row_cards.put_back.Goals as goal

pub unreachable-requires : goal.unreachable-requires
unreachable-requires c =
    let row = row_at (c.args.name, c.args.body) in
    absurd (cc (
      not_plain (viewed c.args.card.now) (c.args.rows.now ++ row ∷ []) c.args.rows.now row
          (λ i. c.args.rows.now ++ row ∷ []) c.in_default.is,
      c.requires.goes_on,
    ))

pub returns-in_ok-add-in-Ok : goal.returns-in_ok-add-in-Ok
returns-in_ok-add-in-Ok c =
    let row = row_at (c.args.name, c.args.body) in
    let taken : c.args.rows.now ++ row ∷ [] ≡ c.args.rows.now ++ combination c.args.body.kind c.args.name c.in-Some.parts ∷ [] =
    ap (λ parts. c.args.rows.now ++ record { kind = c.args.body.kind; name = c.args.name; parts = parts } ∷ []) c.in-Some.is in
    record {
      no_fault = tells_more (viewed c.args.card.now)
          (c.args.rows.now ++ row ∷ []) c.args.rows.now c.args.body.kind c.args.name c.in-Some.parts c.requires.goes_on taken c.requires.apart
          (ap is_empty (sym c.bytes.ensures.bytes) ∙ sym c.is_blank.ensures ∙ c.if-is_blank.false) ∙ c.in-Ok.ensures.no_fault;
      step = c.in_ok-add-in-Ok.ensures ∙ ap (λ parts. c.args.rows.now ++ combination c.args.body.kind c.args.name parts ∷ []) c.in-Ok.ensures.step
          ∙ sym (more_parts (viewed c.args.card.now)
          (c.args.rows.now ++ row ∷ []) c.args.rows.now c.args.body.kind c.args.name c.in-Some.parts c.requires.goes_on taken c.requires.apart);
      stop = search rules;
    }

pub returns-in-Err : goal.returns-in-Err
returns-in-Err c = record {
  no_fault = search rules;
  step = search rules;
  stop =
      let row = row_at (c.args.name, c.args.body) in
      let taken : c.args.rows.now ++ row ∷ [] ≡ c.args.rows.now ++ combination c.args.body.kind c.args.name c.in-Some.parts ∷ [] =
      ap (λ parts. c.args.rows.now ++ record { kind = c.args.body.kind; name = c.args.name; parts = parts } ∷ []) c.in-Some.is in
      subst (λ fault. ReportsDeckFault fault c.in-Err.stop)
      (sym (tells_more (viewed c.args.card.now)
      (c.args.rows.now ++ row ∷ []) c.args.rows.now c.args.body.kind c.args.name c.in-Some.parts c.requires.goes_on taken c.requires.apart
      (ap is_empty (sym c.bytes.ensures.bytes) ∙ sym c.is_blank.ensures ∙ c.if-is_blank.false)))
      c.in-Err.ensures.stop;
}
