use Rattle.std.proofs.Common.{refl, ap, sym, ◌∙◌}
use Rattle.std.specs.Prelude.{option_and_then}
use Rattle.listing_definitions.specs.Report.{Unchecked}
use Rattle.listing_words.specs.Read.{taken}
use Rattle.listing_answers.specs.Words.{refusal_in}
use Rattle.listing_answers.proofs.Chains.{after_refusal, not_made}
use Rattle.listing_answers.proofs.words.check.Goals as goal

pub returns : goal.returns
returns c =
    let none = c.take.ensures.taken ∙ ap (λ b. taken b c.take.new.self) c.if-take.false in
    let here = ap refusal_in (sym (c.take.ensures.kept c.if-take.false)) ∙ c.in_ok-refusal.ensures in
    record {
      check = Unchecked c.in_ok-refusal.field-0;
      reads = λ next. not_made next c.args.cursor.now none ∙ ap (option_and_then (after_refusal next)) here;
      says = refl;
    }
