use Rattle.std.proofs.Common.{refl, subst, sym, Some}
use Rattle.job_program.specs.Stops.{ReportsEarlyStop}
use Rattle.listing_check.specs.Starting.{IsWhole}
use Rattle.listing_check.specs.declared.status.CheckStatus.TheVariants.{ReadFault}
use Rattle.listing_check.specs.Answer.{read_fault_text}
use Rattle.listing_check.specs.Reads.{job_fault, says}
use Rattle.listing_check.proofs.Reporting.{tells_too}
use Rattle.listing_check.proofs.check.check_stopped.Goals as goal

pub returns-in-ReadFault-clause-tells : goal.returns-in-ReadFault-clause-tells
returns-in-ReadFault-clause-tells g c = says read_fault_text ReadFault (job_fault c.in-ReadFault.is refl) c.end_with.ensures

pub returns-in-Card-clause-tells : goal.returns-in-Card-clause-tells
returns-in-Card-clause-tells g c =
    tells_too g.T.Checks.checker (record {
      job_fails = λ e. absurd e;
      job_quiet = λ e is. absurd (cc (c.in-Card.is, is));
      job_read = λ e. subst IsWhole (sym c.in-Card.is) tt;
      listing_fails = λ e. e;
      listing_quiet = λ e. e;
      listing_read = λ e. e;
      listing_same = λ e. absurd e;
      is_job = λ bytes is. subst (ReportsEarlyStop (Some bytes)) c.in-Card.is is;
      is_listing = λ lines is. is;
    }) c.check_read.result c.check_read.ensures.tells

pub returns-in-Control-clause-tells : goal.returns-in-Control-clause-tells
returns-in-Control-clause-tells g c =
    tells_too g.T.Checks.checker (record {
      job_fails = λ e. absurd e;
      job_quiet = λ e is. absurd (cc (c.in-Control.is, is));
      job_read = λ e. subst IsWhole (sym c.in-Control.is) tt;
      listing_fails = λ e. e;
      listing_quiet = λ e. e;
      listing_read = λ e. e;
      listing_same = λ e. absurd e;
      is_job = λ bytes is. subst (ReportsEarlyStop (Some bytes)) c.in-Control.is is;
      is_listing = λ lines is. is;
    }) c.check_read-in-Control.result c.check_read-in-Control.ensures.tells
