use Rattle.std.proofs.Common.{Some, refl}
use Rattle.listing_definitions.specs.Report.{OptimalAt}
use Rattle.listing_answers.proofs.reader.Reader.optimal.Goals as goal

pub returns-in_default : goal.returns-in_default
returns-in_default g c =
    let head = rw c.in_default.is at c.in_ok-head.ensures in
    head (λ steps objective check rest. Some ((OptimalAt steps objective, check), rest))

pub returns : goal.returns
returns g c =
    let head = rw c.in-Some.is at c.in_ok-head.ensures in
    record {
      answer = (OptimalAt head.steps c.in-Some.head.objective, head.check);
      is_found = head.reads (λ steps objective check rest. Some ((OptimalAt steps objective, check), rest));
      shows = record { says = refl; says_check = head.says; fits = tt };
    }
