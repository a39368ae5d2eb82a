-- PROGRAM's label has the first position; or the card is faulty.
use Rattle.std.proofs.Common.{◌≡◌, ℕ, ◌-◌, false, List, [], ◌∷◌, Option, Some, None, map, refl, ap, sym, subst, ◌∙◌, rules}
use Rattle.std.specs.Prelude.{slice_get, option_map}
use Rattle.std.specs.List.{cons_option}
use Rattle.std.proofs.lemmas.Bool.{and_right}
use Rattle.control_definitions.specs.Program.{Verb}
use Rattle.control_definitions.specs.Arguments.{label_text}
use Rattle.control_definitions.specs.Compiled.{head_fault, has_label, fault_at}
use Rattle.control_verbs.specs.Views.{statement_view}
use Rattle.control_compiler.specs.Jobs.{live_cards, live_after}
use Rattle.control_compiler.proofs.Live.{head_is_faulty}
use Rattle.control_compiler.proofs.Places.{next_positions}
use Rattle.control_compiler.proofs.Taking.{said_on, program_is_no_statement}
use Rattle.control_compiler.proofs.reading.begin.Goals as goal

-- the first card's bytes are those that were read
first_card : (job : List (List ℕ)) (number : ℕ) (bytes read : List ℕ) → slice_get job (number - 1) ≡ Some bytes → slice_get job (number - 1) ≡ Some read
    → live_cards job ≡ (record { number = number; bytes = bytes }) ∷ live_after number job
    → live_cards job ≡ (record { number = number; bytes = read }) ∷ live_after number job
first_card job number bytes read there got live =
    let same : bytes ≡ read = cc (there, got) in
    subst (λ (bytes : List ℕ). live_cards job ≡ (record { number = number; bytes = bytes }) ∷ live_after number job) same live

pub returns-in-Some : goal.returns-in-Some
returns-in-Some c =
    head_is_faulty c.args.cards.now (record { number = c.args.number; bytes = c.bytes-card.result.now }) (live_after c.args.number c.args.cards.now)
    (fault_at c.args.number c.in-Some.fault)
    (first_card c.args.cards.now c.args.number c.requires.bytes c.bytes-card.result.now c.requires.there
    (c.card.ensures ∙ ap Some (sym c.bytes-card.ensures.bytes)) c.requires.live)
    (ap (option_map (fault_at c.args.number)) (sym c.in-Some.ensures)) ∙ ap Some (sym c.on_card.ensures)

pub returns : goal.returns
returns c =
    let lawful : head_fault c.bytes-card.result.now ≡ None = sym c.in_default.ensures in
    let facts = program_is_no_statement c.bytes-card.result.now lawful in
    record {
      card = record { number = c.args.number; bytes = c.bytes-card.result.now };
      live =
          first_card c.args.cards.now c.args.number c.requires.bytes c.bytes-card.result.now c.requires.there
          (c.card.ensures ∙ ap Some (sym c.bytes-card.ensures.bytes)) c.requires.live;
      lawful = lawful;
      after = record {
        labels =
            next_positions c.new-labels.result c.place_label.new.labels []
            (record { number = c.args.number; bytes = c.bytes-card.result.now }) c.label_in.result 1
            (c.label_in.ensures.label ∙ ap label_text c.label.ensures.label) facts.0
            (and_right (has_label c.bytes-card.result.now) false refl) refl c.in_ok-place_label.ensures.ok (λ label some. c.new-labels.ensures label);
        statements =
            ap (map statement_view) c.new.ensures.items
            ∙ sym (ap (λ (verb : Option (Verb (List ℕ))). cons_option (option_map (said_on c.args.number) verb) []) facts.1);
        lawful = rw c.new.ensures.items (search rules);
      };
      empty = c.new.ensures.items;
    }
