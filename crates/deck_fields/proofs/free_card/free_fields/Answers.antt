use Rattle.std.proofs.Common.{ap, sym, ◌∙◌, option_map}
use Rattle.deck_fields.proofs.FreeForm.{reading, long_name, long_number, formed}
use Rattle.deck_fields.proofs.free_card.free_fields.Goals as goal

pub returns-then-has_long_name-clause-fault : goal.returns-then-has_long_name-clause-fault
returns-then-has_long_name-clause-fault c =
    long_name c.args.section c.args.deletes c.args.card.bytes.now c.word_text-first.result.now c.free_words-found.result.count c.in-Some-fields_on.list.now
    c.read_words-fields.result
    (c.word_text-first.ensures c.args.card.bytes.now c.free_words-found.ensures) c.free_words-found.ensures.count
    (sym c.first_word_fault.ensures ∙ c.in_default.is)
    (sym c.fields_on.ensures.fields ∙ ap (option_map (λ f. f.now)) c.in-Some-fields_on.is)
    (c.read_words-fields.ensures.reading c.args.card.bytes.now c.free_words-found.ensures)
    (sym c.has_long_name.ensures ∙ c.if-has_long_name.true)

pub returns-then-has_long_number-clause-fault : goal.returns-then-has_long_number-clause-fault
returns-then-has_long_number-clause-fault c =
    long_number c.args.section c.args.deletes c.args.card.bytes.now c.word_text-first.result.now c.free_words-found.result.count c.in-Some-fields_on.list.now
    c.read_words-fields.result
    (c.word_text-first.ensures c.args.card.bytes.now c.free_words-found.ensures) c.free_words-found.ensures.count
    (sym c.first_word_fault.ensures ∙ c.in_default.is)
    (sym c.fields_on.ensures.fields ∙ ap (option_map (λ f. f.now)) c.in-Some-fields_on.is)
    (c.read_words-fields.ensures.reading c.args.card.bytes.now c.free_words-found.ensures)
    (sym c.has_long_name.ensures ∙ c.if-has_long_name.false) (sym c.has_long_number.ensures ∙ c.if-has_long_number.true)

pub returns-clause-reading : goal.returns-clause-reading
returns-clause-reading c =
    reading c.args.section c.args.deletes c.args.card.bytes.now c.word_text-first.result.now c.free_words-found.result.count c.in-Some-fields_on.list.now
    c.read_words-fields.result
    (c.word_text-first.ensures c.args.card.bytes.now c.free_words-found.ensures) c.free_words-found.ensures.count
    (sym c.first_word_fault.ensures ∙ c.in_default.is)
    (sym c.fields_on.ensures.fields ∙ ap (option_map (λ f. f.now)) c.in-Some-fields_on.is)
    (c.read_words-fields.ensures.reading c.args.card.bytes.now c.free_words-found.ensures)

pub returns-clause-no_fault : goal.returns-clause-no_fault
returns-clause-no_fault c =
    formed c.args.section c.args.deletes c.args.card.bytes.now c.word_text-first.result.now c.free_words-found.result.count c.in-Some-fields_on.list.now
    c.read_words-fields.result
    (c.word_text-first.ensures c.args.card.bytes.now c.free_words-found.ensures) c.free_words-found.ensures.count
    (sym c.first_word_fault.ensures ∙ c.in_default.is)
    (sym c.fields_on.ensures.fields ∙ ap (option_map (λ f. f.now)) c.in-Some-fields_on.is)
    (c.read_words-fields.ensures.reading c.args.card.bytes.now c.free_words-found.ensures)
    (sym c.has_long_name.ensures ∙ c.if-has_long_name.false) (sym c.has_long_number.ensures ∙ c.if-has_long_number.false)
