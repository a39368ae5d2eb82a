use Rattle.std.proofs.Common.{◌≡◌, false, Some, None, nat_eq, codes, if◌then◌else◌, refl, ap, sym, ◌∙◌, arith}
use Rattle.std.proofs.lemmas.Bool.Decides.{nat_tests}
use Rattle.lp_definitions.specs.LinearProgram.{size}
use Rattle.listing_definitions.specs.Report.{CrossedAt}
use Rattle.walk_definitions.specs.Words.{with_text, count_in}
use Rattle.walk_definitions.specs.Reading.{with_check}
use Rattle.listing_answers.specs.Words.{labelled}
use Rattle.listing_answers.proofs.Chains.{labelled_read, labelled_most}
use Rattle.listing_answers.proofs.claims.crossed.Goals as goal

pub returns : goal.returns
returns c =
    let k = c.in_ok-k.k in
    let most = c.number_of_variables-size.result in
    let check = c.in_ok-is_checked.ensures in
    let head : labelled (codes "INFEASIBLE STEPS 0 CROSSED ") (count_in (size c.args.sheet.lp.now.matrix)) c.args.cursor.now ≡ Some
    (k, c.count_after.new.cursor) =
    ap (λ n. labelled (codes "INFEASIBLE STEPS 0 CROSSED ") (count_in n) c.args.cursor.now) (sym c.number_of_variables-size.ensures.size) ∙ c.in_ok-k.ensures in
    let below = labelled_most (codes "INFEASIBLE STEPS 0 CROSSED ") (size c.args.sheet.lp.now.matrix) c.args.cursor.now k c.count_after.new.cursor head in
    let some : nat_eq k 0 ≡ false = grind (arith, nat_tests, c.if-k-eq0.false) in
    record {
      answer = (CrossedAt k, check.check);
      is_found =
          labelled_read (codes "INFEASIBLE STEPS 0 CROSSED ") (count_in (size c.args.sheet.lp.now.matrix))
          (λ k. with_text (codes " ")
          (with_check (λ check rest. if nat_eq k 0 then None else Some ((CrossedAt k, check), rest)))) c.args.cursor.now k c.count_after.new.cursor head
          ∙ check.reads (λ check rest. if nat_eq k 0 then None else Some ((CrossedAt k, check), rest))
          ∙ ap (λ b. if b then None else Some ((CrossedAt k, check.check), c.check_after.new.cursor)) some;
      shows = record { says = refl; says_check = check.says; fits = (omega (arith, c.if-k-eq0.false), below) };
    }
