use Rattle.std.proofs.Common.{ap, length}
use Rattle.listing_check.specs.declared.status.CheckStatus.TheVariants.{Words}
use Rattle.listing_check.specs.Statuses.{code_of}
use Rattle.listing_check.specs.Answer.{words_text}
use Rattle.listing_check.proofs.Reporting.{answer_of, why_tells, why_ends, true_listing, without, there_are}
use Rattle.listing_check.proofs.check.check_listing.Goals as goal

-- ---- without words

pub returns-then-is_empty-clause-answer : goal.returns-then-is_empty-clause-answer
returns-then-is_empty-clause-answer g c bytes lines none job listing =
    answer_of g.T.Checks.checker _ bytes lines job listing _ (λ e. e) (λ e. e) (λ e. e) (λ e. e) c.check_job.result c.check_job.ensures.tells

pub returns-then-is_empty-clause-truth : goal.returns-then-is_empty-clause-truth
returns-then-is_empty-clause-truth g c is bytes lines job listing =
    true_listing g.T.Checks.checker (c.attested_law.ensures g.T.Checks.checker) bytes lines _ (code_of c.check_job.result) _
    (returns-then-is_empty-clause-answer g c bytes lines (without (length c.args.words.now) c.if-is_empty.ensures) job listing) (ap code_of is)

pub returns-then-is_empty-clause-cause : goal.returns-then-is_empty-clause-cause
returns-then-is_empty-clause-cause g c =
    why_tells _ g.T.Checks.checker _ (without (length c.args.words.now) c.if-is_empty.ensures) (λ e. e) (λ e. e) (λ e. e) (λ e. e)
    (λ e. e) c.check_job.result c.check_job.ensures.tells

-- ---- with words

pub returns-clause-cause : goal.returns-clause-cause
returns-clause-cause g c =
    why_ends _ (λ e. e) words_text Words c.end_with.result (there_are (length c.args.words.now) c.if-is_empty.ensures) c.end_with.ensures
