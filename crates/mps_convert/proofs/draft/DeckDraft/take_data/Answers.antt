use Rattle.std.proofs.Common.{◌≡◌, None, OnOk, IfErr, rules, ap, sym, subst, ◌∙◌}
use Rattle.deck_definitions.specs.Conversion.{data_card_fault}
use Rattle.deck_fields.specs.Reported.{ReportsDeckFault}
use Rattle.mps_convert.specs.DraftView.{problem_view}
use Rattle.deck_fields.specs.Views.{viewed}
use Rattle.mps_convert.proofs.DataTaken.{fault_in_section}
use Rattle.mps_convert.proofs.draft.DeckDraft.take_data.Goals as goal

pub returns-in-Ok-clause-taken : goal.returns-in-Ok-clause-taken
returns-in-Ok-clause-taken c =
    let at = fault_in_section (problem_view c.args.self.now) c.args.self.now.style c.args.card.bytes.now c.in-Some.section (viewed c.in-Ok.data)
    (sym c.if-is_section.ensures) c.in-Ok.ensures.no_fault c.in-Ok.ensures.reading in
    let here = ap (λ section. data_card_fault (problem_view c.args.self.now) c.args.self.now.style section c.args.card.bytes.now) (sym c.in-Some.is) in
    record {
      no_fault = subst (λ fault. OnOk c.take_in.result (fault ≡ None)) (at ∙ here) c.take_in.ensures.taken.no_fault;
      step = search rules;
      stop = subst (λ fault. IfErr c.take_in.result (ReportsDeckFault fault)) (at ∙ here) c.take_in.ensures.taken.stop;
    }
