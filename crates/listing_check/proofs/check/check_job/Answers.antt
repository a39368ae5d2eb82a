use Rattle.std.proofs.Common.{subst, Option, List, ℕ}
use Rattle.job_program.specs.Stops.{ArePrepared, ReportsEarlyStop}
use Rattle.listing_check.proofs.Reporting.{tells_too}
use Rattle.listing_check.proofs.Beginning.{read_failed, read_whole}
use Rattle.listing_check.proofs.check.check_job.Goals as goal

pub returns-in-Ok-clause-tells : goal.returns-in-Ok-clause-tells
returns-in-Ok-clause-tells g c =
    tells_too g.T.Checks.checker (record {
      job_fails = λ e. absurd e;
      job_quiet = λ e. c.in-Ok.ensures.quiet (λ stops. absurd (cc stops));
      job_read = λ e. c.in-Ok.ensures.read;
      listing_fails = λ e. e;
      listing_quiet = λ e. e;
      listing_read = λ e. e;
      listing_same = λ e. absurd e;
      is_job = λ bytes is. subst (λ (known : Option (List ℕ)). ArePrepared known c.in-Ok.prepared) is c.in-Ok.ensures.prepared;
      is_listing = λ lines is. is;
    }) c.check_read.result c.check_read.ensures.tells

pub returns-in-Err-clause-tells : goal.returns-in-Err-clause-tells
returns-in-Err-clause-tells g c =
    tells_too g.T.Checks.checker (record {
      job_fails = λ e. read_failed _ _ c.in-Err.stop e c.in-Err.ensures.cause;
      job_quiet = λ e. c.in-Err.ensures.quiet (λ stops. e (cc stops));
      job_read = λ e. read_whole _ _ c.in-Err.stop e c.in-Err.ensures.cause;
      listing_fails = λ e. e;
      listing_quiet = λ e. e;
      listing_read = λ e. e;
      listing_same = λ e. e;
      is_job = λ bytes is. subst (λ (known : Option (List ℕ)). ReportsEarlyStop known c.in-Err.stop) is c.in-Err.ensures.stop;
      is_listing = λ lines is. is;
    }) c.check_stopped.result c.check_stopped.ensures.tells
