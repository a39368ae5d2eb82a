use Rattle.std.proofs.Common.{ap, Err, ◌≡◌, ◌∙◌, take, ◌+◌}
use Rattle.listing_check.specs.declared.status.CheckStatus.TheVariants.{ListingFault}
use Rattle.listing_check.specs.Answer.{listing_fault_text}
use Rattle.listing_check.specs.Reads.{listing_fault, says}
use Rattle.listing_check.proofs.Lengths.{some_of}
use Rattle.listing_check.proofs.Reporting.{tells_too}
use Rattle.listing_check.proofs.check.check_read.Goals as goal
use Rattle.walk_definitions.specs.Found.{max_listing}

pub returns-in-Ok-clause-tells : goal.returns-in-Ok-clause-tells
returns-in-Ok-clause-tells g c =
    tells_too g.T.Checks.checker (record {
      job_fails = λ e. absurd e;
      job_quiet = λ e. e;
      job_read = λ e. e;
      listing_fails = λ e. absurd e;
      listing_quiet = λ e. c.in-Ok.ensures.cause.quiet (λ stops. absurd (cc stops));
      listing_read = λ e. c.in-Ok.ensures.whole;
      listing_same = λ e. absurd e;
      is_job = λ bytes is. is;
      is_listing =
          λ lines is. c.deref.ensures.value
          ∙ some_of (λ left. c.in-Ok.bytes.items ≡ take (max_listing + 1) left) (g.L.Source.given c.args.listing.now).left lines is c.in-Ok.ensures.bytes;
    }) c.check_bytes.result c.check_bytes.ensures

pub returns-in-Err-Failed-clause-tells : goal.returns-in-Err-Failed-clause-tells
returns-in-Err-Failed-clause-tells g c =
    says listing_fault_text ListingFault
    (listing_fault tt tt (c.in-Err-Failed.ensures.cause.failed (ap (λ s. Err s) c.in-Err-Failed.field-0-is))) c.end_with.ensures
