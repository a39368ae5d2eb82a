use Rattle.std.proofs.Common.{◌≡◌, ◌∙◌, ap, subst, sym, codes, map, option_map}
use Rattle.std.specs.String.{string_bytes}
use Rattle.clap.specs.Values.{kind_of}
use Rattle.clap.specs.Kinds.{HasKind}
use Rattle.clap.specs.Matches.{found_of}
use Rattle.clap.specs.Walk.{first_of}
use Rattle.clap.specs.Simple.{is_simple, matches_of}
use Rattle.clap.specs.Faults.{fault_of, is_simple_and_free}
use Rattle.clap.proofs.WalkLemmas.{first_value-rows}
use Rattle.command_line.specs.declared.request.WordsStop.TheVariants.{Refused}
use Rattle.command_line.specs.Requests.{asked}
use Rattle.command_line.proofs.Readings.{command_is_simple, command_is_walked, taken_by, accepts, refuses, refuses_error}
use Rattle.command_line.proofs.words.request_of.Goals as goal

-- what is asked for is what the value of the option asks for
reads : (c : goal.Joined-matches) → asked (map string_bytes c.args.words.now) ≡ c.request_with.result
reads c =
    let words = map string_bytes c.args.words.now in
    let is = c.in_ok-command.ensures in
    let none = ap (λ a. fault_of a words) (sym is) ∙ c.in-Ok.ensures.kinds (ap is_simple_and_free is ∙ command_is_simple) in
    let rows = (c.in-Ok.ensures.matches (ap is_simple is ∙ command_is_walked)).0 ∙ ap (λ a. matches_of a words) is in
    let given = ap (first_of (codes "make")) (sym rows) ∙ sym (first_value-rows (found_of c.in-Ok.matches) (codes "make")) ∙ sym c.get_str.ensures in
    taken_by words (option_map (λ text. text.now) c.get_str.result) none given ∙ sym c.request_with.ensures.asked

pub returns-in-Ok-clause-accepted : goal.returns-in-Ok-clause-accepted
returns-in-Ok-clause-accepted c = accepts (map string_bytes c.args.words.now) c.request_with.result c.ok_or.result (reads c) c.ok_or.ensures.ok_part

pub returns-in-Ok-clause-refused : goal.returns-in-Ok-clause-refused
returns-in-Ok-clause-refused c = refuses (map string_bytes c.args.words.now) c.request_with.result c.ok_or.result Refused (reads c) c.ok_or.ensures.ok_part

pub returns-in-Err-clause-refused : goal.returns-in-Err-clause-refused
returns-in-Err-clause-refused c refused =
    let words = map string_bytes c.args.words.now in
    let is = c.in_ok-command.ensures in
    let has_kind = c.in-Err.ensures.kinds (ap is_simple_and_free is ∙ command_is_simple) in
    let same : c.stop_of.result ≡ Refused = cc in
    let kinds = subst (λ a. HasKind (fault_of a words) c.in-Err.error) is has_kind in
    refuses_error words (kind_of c.in-Err.error) (c.stop_of.ensures same) kinds
