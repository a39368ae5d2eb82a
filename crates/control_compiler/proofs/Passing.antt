-- One more card of a job: what is known after it.
use Rattle.std.proofs.Common.{◌≡◌, ℕ, ◌+◌, ◌≤◌, Bool, true, false, not, ◌&&◌, List, [], ◌∷◌, ◌++◌, Option, Some, None, length, refl, ap, sym, subst, ◌∙◌, arith}
use Rattle.std.proofs.Common.{length-append, ltb}
use Rattle.std.specs.Prelude.{Result, Ok, Err, slice_get, is_some, option_to_list}
use Rattle.std.proofs.lemmas.Bool.Decides.{nat_tests}
use Rattle.card_definitions.specs.Cards.{Card, is_skipped, last_number}
use Rattle.control_definitions.specs.declared.TheConstants.{MAX_STATEMENTS}
use Rattle.control_definitions.specs.Verbs.{verb_of}
use Rattle.control_definitions.specs.Compiled.{is_pend, cards_to_pend}
use Rattle.control_definitions.specs.declared.ControlFault.{ControlFault}
use Rattle.card_reader.specs.declared.stop.CardStop.{CardStop}
use Rattle.card_reader.specs.declared.stop.CardStop.TheVariants.{Fault, NoMemory}
use Rattle.control_compiler.specs.declared.draft.Draft.{Draft}
use Rattle.control_compiler.specs.After.{IsAfter, Takes}
use Rattle.control_compiler.specs.Jobs.{live_cards, live_after}
use Rattle.control_compiler.specs.Underway.{StandsFirst, IsReached, IsUnderway, Passes}
use Rattle.control_compiler.specs.Outcomes.{IsRead}
use Rattle.control_compiler.proofs.Live.{skipped_next, live_next, none_follows, reached_next, reached_fault, reached_end, reached_nothing, reached_first}
use Rattle.control_compiler.proofs.Taking.{IsFaultless, faultless, says_verb, pend_is_no_statement, statements_more, last_number-push}

one_thing : {X : Type 0} (o : Option X) → is_some o ≡ true → length (option_to_list o) ≡ 1
one_thing None e = cc e
one_thing (Some x) e = refl

few_before : (ends : Bool) (most n : ℕ) → ends ≡ false → (not ends && ltb most n) ≡ false → n ≤ most
few_before true most n goes_on e = cc goes_on
few_before false most n goes_on e = grind (arith, nat_tests)

-- A skipped card changes nothing.
pub passed_over : (job : List (List ℕ)) (number : ℕ) (card : List ℕ) (draft : Draft) → slice_get job number ≡ Some card → is_skipped card ≡ true →
    IsUnderway job number draft → IsUnderway job (number + 1) draft
passed_over job number card draft e skipped underway = record {
  before = underway.before;
  reached = subst (λ (rest : List Card). IsReached job underway.before rest) (skipped_next job number card e skipped) underway.reached;
  after = underway.after;
  count = underway.count;
  few = underway.few;
}

module _ (job : List (List ℕ)) (number : ℕ) (bytes : List ℕ) (old new : Draft) (e : slice_get job number ≡ Some bytes) (kept : is_skipped bytes ≡ false)
    (underway : IsUnderway job number old) where
  abbrev card : Card
  card = record { number = number + 1; bytes = bytes }

  here : IsReached job underway.before ((record { number = number + 1; bytes = bytes }) ∷ live_after (number + 1) job)
  here = subst (λ (rest : List Card). IsReached job underway.before rest) (live_next job number bytes e kept) underway.reached

  goes_on : (false ≡ is_pend bytes) → (tests : IsFaultless underway.before bytes) → IsReached job (underway.before ++ card ∷ []) (live_after (number + 1) job) →
      IsAfter (underway.before ++ card ∷ []) new → IsUnderway job (number + 1) new
  goes_on on tests reached after =
      let more : length new.statements.items ≡ length old.statements.items + length (option_to_list (verb_of bytes)) =
      statements_more underway.before card old new underway.after after in
      let one : length (option_to_list (verb_of bytes)) ≡ 1 = one_thing (verb_of bytes) (says_verb underway.before bytes tests (sym on)) in
      let room : length underway.before ≤ MAX_STATEMENTS = few_before (is_pend bytes) MAX_STATEMENTS (length underway.before) (sym on) tests.few in
      let longer : length (underway.before ++ card ∷ []) ≡ length underway.before + 1 = length-append underway.before (card ∷ []) in
      let count : length underway.before ≡ length old.statements.items + 1 = underway.count in
      record {
        before = underway.before ++ card ∷ [];
        reached = reached;
        after = after;
        count = omega (arith, more, one, longer, count);
        few = omega (arith, more, one, count, room);
      }

  ends_here : (true ≡ is_pend bytes) → (facts : (cards_to_pend (live_cards job) ≡ underway.before ++ card ∷ [])) → IsAfter (underway.before ++ card ∷ []) new
      → (length (cards_to_pend (live_cards job)) ≡ length new.statements.items + 2) × (length new.statements.items ≤ MAX_STATEMENTS)
  ends_here ends whole after =
      let more : length new.statements.items ≡ length old.statements.items + length (option_to_list (verb_of bytes)) =
      statements_more underway.before card old new underway.after after in
      let nothing : length (option_to_list (verb_of bytes)) ≡ 0 = ap (λ verb. length (option_to_list verb)) (pend_is_no_statement bytes (sym ends)) in
      let longer : length (cards_to_pend (live_cards job)) ≡ length underway.before + 1 =
      ap (λ (cards : List Card). length cards) whole ∙ length-append underway.before (card ∷ []) in
      let count : length underway.before ≡ length old.statements.items + 1 = underway.count in
      let few : length old.statements.items ≤ MAX_STATEMENTS = underway.few in
      (omega (arith, more, nothing, longer, count), omega (arith, more, nothing, few))

  -- What becomes of a draft by a card that isn't skipped.
  pub passed : (r : Result Bool (CardStop ControlFault)) → Takes r underway.before (record { number = number + 1; bytes = bytes }) new →
      Passes r job (number + 1) new
  passed (Err (Fault fault)) takes = reached_fault job underway.before card (live_after (number + 1) job) here fault takes
  passed (Err NoMemory) takes = tt
  passed (Ok false) takes =
      goes_on takes.1 (faultless underway.before bytes takes.0)
      (reached_next job underway.before card (live_after (number + 1) job) here takes.0 (sym takes.1)) takes.2
  passed (Ok true) takes =
      let facts = reached_end job underway.before card (live_after (number + 1) job) here takes.0 (sym takes.1) in
      let counts = ends_here takes.1 facts.0 takes.2 in
      record {
        after = subst (λ (cards : List Card). IsAfter cards new) (sym facts.0) takes.2;
        ends = facts.1;
        fault = facts.2;
        count = counts.0;
        last = sym (ap last_number facts.0 ∙ last_number-push underway.before card);
        few = counts.1;
      }

-- Before the first card after PROGRAM, and at the job's end.
pub underway_first : (job : List (List ℕ)) (first : ℕ) (draft : Draft) → StandsFirst job first draft → IsUnderway job first draft
underway_first job first draft stands = record {
  before = stands.card ∷ [];
  reached = reached_first job stands.card (live_after first job) stands.live stands.lawful;
  after = stands.after;
  count = rw stands.empty refl;
  few = rw stands.empty (omega arith);
}

pub read_to_the_end : (job : List (List ℕ)) (number : ℕ) (draft : Draft) → length job ≤ number → IsUnderway job number draft →
    IsRead job (record { draft = draft; end = None })
read_to_the_end job number draft le underway =
    let facts = reached_nothing job underway.before (live_after number job) underway.reached (none_follows job number le) in
    record {
      after = subst (λ (cards : List Card). IsAfter cards draft) (sym facts.0) underway.after;
      ends = sym facts.1;
      fault = facts.2;
      count = ap (λ (cards : List Card). length cards) facts.0 ∙ underway.count;
      last = tt;
      within = tt;
      few = underway.few;
    }
