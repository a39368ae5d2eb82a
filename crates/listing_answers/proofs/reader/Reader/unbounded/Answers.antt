use Rattle.std.proofs.Common.{◌≡◌, None, refl, ap, ◌∙◌}
use Rattle.std.specs.Prelude.{option_map}
use Rattle.lp_definitions.specs.LinearProgram.{variables}
use Rattle.listing_definitions.specs.Report.{UnboundedBy}
use Rattle.walk_definitions.specs.Tables.{table_in, pair_slots}
use Rattle.listing_words.specs.Read.{sheet_view}
use Rattle.listing_claims.specs.Numbers.{number_in}
use Rattle.listing_answers.proofs.reader.Reader.unbounded.Goals as goal

pub returns-in_default : goal.returns-in_default
returns-in_default g c =
    let of = number_in g.T.Checks.checker c.args.self.now.by in
    let sheet = sheet_view c.args.self.now.sheet in
    (rw c.in_default.is at c.in_ok-head.ensures)
    (λ steps objective check rest. option_map (λ got. ((UnboundedBy steps objective got.0, check), got.1))
    (table_in of sheet pair_slots (variables sheet.lp.matrix) rest))

pub returns-in_default-2 : goal.returns-in_default-2
returns-in_default-2 g c =
    let of = number_in g.T.Checks.checker c.args.self.now.by in
    let sheet = sheet_view c.args.self.now.sheet in
    let head = rw c.in-Some.is at c.in_ok-head.ensures in
    let objective = c.in-Some.head.objective in
    let none : table_in of sheet pair_slots (variables sheet.lp.matrix) c.read_head.new.cursor ≡ None = rw c.in_default-2.is at c.in_ok-pair.ensures in
    head.reads (λ steps objective check rest. option_map (λ got. ((UnboundedBy steps objective got.0, check), got.1))
    (table_in of sheet pair_slots (variables sheet.lp.matrix) rest))
    ∙ ap (option_map (λ got. ((UnboundedBy head.steps objective got.0, head.check), got.1))) none

pub returns : goal.returns
returns g c =
    let of = number_in g.T.Checks.checker c.args.self.now.by in
    let sheet = sheet_view c.args.self.now.sheet in
    let head = rw c.in-Some.is at c.in_ok-head.ensures in
    let objective = c.in-Some.head.objective in
    let read = rw c.in-Some-2.is at c.in_ok-pair.ensures in
    record {
      answer = (UnboundedBy head.steps objective read.answer, head.check);
      is_found =
          head.reads (λ steps objective check rest. option_map (λ got. ((UnboundedBy steps objective got.0, check), got.1))
          (table_in of sheet pair_slots (variables sheet.lp.matrix) rest))
          ∙ ap (option_map (λ got. ((UnboundedBy head.steps objective got.0, head.check), got.1))) read.is_found;
      shows = record { says = (refl, read.shows); says_check = head.says; fits = read.shows.fits };
    }
