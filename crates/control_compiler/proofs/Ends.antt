-- A job whose cards are read: its fault as a whole, or its program.
use Rattle.std.proofs.Common.{◌≡◌, ℕ, ◌+◌, ◌≤◌, Bool, true, false, cond, List, [], ◌∷◌, Option, Some, None, length, map, refl, ap, sym, subst, ◌∙◌}
use Rattle.std.specs.Prelude.{is_some, option_map, filter_map, find, Result, Ok, Err, IfSome, if◌then◌else◌}
use Rattle.std.specs.List.{All}
use Rattle.std.proofs.lemmas.List.{length-map}
use Rattle.std.proofs.lemmas.List.Elements.{All-map}
use Rattle.card_definitions.specs.Words.{unless}
use Rattle.card_definitions.specs.Cards.{Card, last_number}
use Rattle.control_definitions.specs.declared.ControlFault.{ControlFault}
use Rattle.control_definitions.specs.declared.TheConstants.{MAX_STATEMENTS}
use Rattle.control_definitions.specs.Program.{Verb, Statement}
use Rattle.control_definitions.specs.Compiled.{statement_on, cards_to_pend, program_of, end_fault, control_fault, compiled}
use Rattle.control_verbs.specs.declared.verb.Statement as read
use Rattle.control_verbs.specs.Views.{viewed, statement_view}
use Rattle.control_compiler.specs.declared.reading.Reading.{Reading}
use Rattle.card_reader.specs.declared.stop.CardStop.{CardStop}
use Rattle.card_reader.specs.declared.stop.CardStop.TheVariants.{Fault, NoMemory}
use Rattle.control_compiler.specs.Cards.{statement_said}
use Rattle.control_compiler.specs.Jobs.{live_cards, first_missing}
use Rattle.control_compiler.specs.Outcomes.{IsRead, Reads, EndsAt, ReportsControlFault}
use Rattle.control_compiler.specs.Settled.{lacks_label, settled, settled_program}
use Rattle.control_compiler.specs.Valid.{IsProgram}
use Rattle.control_compiler.proofs.Named.{HoldsLaw, HoldsPosition, HoldsLimit, lacking, missing_reported, statements_reported, positions_within, limits_within}

-- the first statement that passes, among the views of statements
find_view : (p : Verb (List ℕ) → Bool) (statements : List (read.Statement (List ℕ)))
    → option_map (λ (statement : read.Statement (List ℕ)). statement.card)
    (find (λ (statement : read.Statement (List ℕ)). p (viewed statement.verb)) statements)
    ≡ option_map (λ (statement : Statement (List ℕ)). statement.card)
    (find (λ (statement : Statement (List ℕ)). p statement.verb) (map statement_view statements))
find_view p [] = refl
find_view p (statement ∷ statements) = by (p (viewed statement.verb)) (find_view p statements)
  where
    by : (t : Bool)
        → option_map (λ (statement : read.Statement (List ℕ)). statement.card)
        (find (λ (statement : read.Statement (List ℕ)). p (viewed statement.verb)) statements)
        ≡ option_map (λ (statement : Statement (List ℕ)). statement.card)
        (find (λ (statement : Statement (List ℕ)). p statement.verb) (map statement_view statements))
        → option_map (λ (statement : read.Statement (List ℕ)). statement.card)
        (cond t (Some statement) (find (λ (statement : read.Statement (List ℕ)). p (viewed statement.verb)) statements))
        ≡ option_map (λ (statement : Statement (List ℕ)). statement.card)
        (cond t (Some (statement_view statement)) (find (λ (statement : Statement (List ℕ)). p statement.verb) (map statement_view statements)))
    by true rest = refl
    by false rest = rest

map_view : (f : Statement (List ℕ) → Statement ℕ) (statements : List (read.Statement (List ℕ))) →
    map (λ (statement : read.Statement (List ℕ)). f (statement_view statement)) statements ≡ map f (map statement_view statements)
map_view f [] = refl
map_view f (statement ∷ statements) = ap (λ (others : List (Statement ℕ)). f (statement_view statement) ∷ others) (map_view f statements)

none_missing : (last : ℕ) (missing : Option Card) → end_fault last true missing ≡ None → missing ≡ None
none_missing last None e = refl
none_missing last (Some card) e = cc e

counted : (pend : Option ℕ) (n len number : ℕ) → pend ≡ Some number → len ≡ n + (if is_some pend then 2 else 1) → len ≡ n + 2
counted None n len number e count = cc e
counted (Some other) n len number e count = count

numbered : (pend : Option ℕ) (number last : ℕ) → pend ≡ Some number → IfSome pend (λ number. number ≡ last) → number ≡ last
numbered None number last e is = cc e
numbered (Some other) number last e is = let same : other ≡ number = cc e in sym same ∙ is

pub pend_within : (pend : Option ℕ) (number last : ℕ) → pend ≡ Some number → IfSome pend (λ number. number ≤ last) → number ≤ last
pend_within None number last e le = cc e
pend_within (Some other) number last e le = let same : other ≡ number = cc e in subst (λ (n : ℕ). n ≤ last) same le

-- a job's fault, where it isn't read to PEND
pub stopped : (job : List (List ℕ)) (stop : CardStop ControlFault) → Reads (Err stop) job → ReportsControlFault (compiled job) stop
unfolding compiled
stopped job (Fault fault) some = ap (λ (fault : Option ControlFault). unless fault (program_of (cards_to_pend (live_cards job)))) some
stopped job NoMemory some = tt

module _ (job : List (List ℕ)) (reading : Reading) (is : IsRead job reading) where
  lawful : All HoldsLaw (filter_map statement_said (cards_to_pend (live_cards job)))
  lawful = subst (All HoldsLaw) is.after.statements (All-map HoldsLaw statement_view reading.draft.statements.items is.after.lawful)

  statements_are : map (λ (statement : read.Statement (List ℕ)). settled reading.draft.labels (statement_view statement)) reading.draft.statements.items
      ≡ filter_map (statement_on (cards_to_pend (live_cards job))) (cards_to_pend (live_cards job))
  statements_are = map_view (settled reading.draft.labels) reading.draft.statements.items ∙ ap (map (settled reading.draft.labels)) is.after.statements
      ∙ statements_reported reading.draft.labels (cards_to_pend (live_cards job)) is.after.labels (cards_to_pend (live_cards job)) lawful

  -- the first statement that names a label without a position
  missing_is : option_map (λ (statement : read.Statement (List ℕ)). statement.card)
      (find (λ (statement : read.Statement (List ℕ)). lacks_label reading.draft.labels (viewed statement.verb)) reading.draft.statements.items)
      ≡ option_map (λ (card : Card). card.number) (first_missing job)
  missing_is = find_view (lacks_label reading.draft.labels) reading.draft.statements.items ∙ ap (lacking reading.draft.labels) is.after.statements
      ∙ missing_reported reading.draft.labels (cards_to_pend (live_cards job)) is.after.labels (cards_to_pend (live_cards job)) lawful

  -- what decides, by the job's last card and the first statement that misses its label
  pub ends_at : (last : ℕ) (missing : Option ℕ) (outcome : Result ℕ ControlFault) → last ≡ length job
      → missing ≡ option_map (λ (statement : read.Statement (List ℕ)). statement.card)
      (find (λ (statement : read.Statement (List ℕ)). lacks_label reading.draft.labels (viewed statement.verb)) reading.draft.statements.items)
      → ((card : Option Card) → missing ≡ option_map (λ (card : Card). card.number) card
      → EndsAt outcome reading.end (end_fault last (is_some reading.end) card))
      → EndsAt outcome reading.end (end_fault (length job) (is_some reading.end) (first_missing job))
  ends_at last missing outcome len first reported =
      subst (λ (n : ℕ). EndsAt outcome reading.end (end_fault n (is_some reading.end) (first_missing job))) len
      (reported (first_missing job) (first ∙ missing_is))

  decides : control_fault job ≡ end_fault (length job) (is_some reading.end) (first_missing job)
  decides = is.fault ∙ ap (λ (ends : Bool). end_fault (length job) ends (first_missing job)) (sym is.ends)

  -- a fault of the program as a whole
  pub refused : (fault : ControlFault) → EndsAt (Err fault) reading.end (end_fault (length job) (is_some reading.end) (first_missing job)) →
      compiled job ≡ Err fault
  unfolding compiled
  refused fault some = ap (λ (fault : Option ControlFault). unless fault (program_of (cards_to_pend (live_cards job)))) (decides ∙ some)

  module _ (pend : ℕ) (ends : EndsAt (Ok pend) reading.end (end_fault (length job) (is_some reading.end) (first_missing job))) where
    none : first_missing job ≡ None
    none = none_missing (length job) (first_missing job) (ap (λ (t : Bool). end_fault (length job) t (first_missing job)) (sym (ap is_some ends.0)) ∙ ends.1)

    -- or its program, which is one
    pub whole_program : IsProgram (settled_program reading.draft (pend + 1))
    whole_program =
        let same : length reading.draft.statements.items ≡ length
        (map (λ (statement : read.Statement (List ℕ)). settled reading.draft.labels (statement_view statement)) reading.draft.statements.items) =
        sym (length-map reading.draft.statements.items (λ (statement : read.Statement (List ℕ)). settled reading.draft.labels (statement_view statement))) in
        let len = counted reading.end (length reading.draft.statements.items) (length (cards_to_pend (live_cards job))) pend ends.0 is.count in
        record {
          few = subst (λ (n : ℕ). n ≤ MAX_STATEMENTS) same is.few;
          positions =
              subst (λ (n : ℕ). All (HoldsPosition n)
              (map (λ (statement : read.Statement (List ℕ)). settled reading.draft.labels (statement_view statement)) reading.draft.statements.items)) same
              (subst (All (HoldsPosition (length reading.draft.statements.items))) (sym statements_are)
              (positions_within (cards_to_pend (live_cards job)) (length reading.draft.statements.items) len (cards_to_pend (live_cards job)) none));
          limits = subst (All HoldsLimit) (sym statements_are) (limits_within (cards_to_pend (live_cards job)) (cards_to_pend (live_cards job)) lawful);
        }

    pub compiled_is : compiled job ≡ Ok (settled_program reading.draft (pend + 1))
    unfolding compiled
    compiled_is =
        let next : last_number (cards_to_pend (live_cards job)) + 1 ≡ pend + 1 =
        ap (λ (n : ℕ). n + 1) (sym (numbered reading.end pend (last_number (cards_to_pend (live_cards job))) ends.0 is.last)) in
        ap (λ (fault : Option ControlFault). unless fault (program_of (cards_to_pend (live_cards job)))) (decides ∙ ends.1)
        ∙ ap (λ (n : ℕ). Ok
        (record { statements = filter_map (statement_on (cards_to_pend (live_cards job))) (cards_to_pend (live_cards job)); decks_from = n })) next
        ∙ ap (λ (statements : List (Statement ℕ)). Ok (record { statements = statements; decks_from = pend + 1 })) (sym statements_are)
