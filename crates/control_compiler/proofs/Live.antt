-- The cards that aren't skipped, one by one, and what is known of a job on the way.
use Rattle.std.proofs.Common.{◌≡◌, ℕ, zero, suc, ◌+◌, ◌≤◌, Bool, true, false, not, List, [], ◌∷◌, ◌++◌, Option, Some, None, length, drop, take, refl, ap, sym}
use Rattle.std.proofs.Common.{subst, ◌∙◌, arith, ◌-◌}
use Rattle.std.specs.Prelude.{slice_get, filter, find, option_map}
use Rattle.std.specs.Option.{option_or}
use Rattle.std.specs.List.{list_any, position_or_len}
use Rattle.std.proofs.lemmas.List.{append_assoc, append-nil}
use Rattle.std.proofs.Math.ListN.{drop_of_length-le}
use Rattle.card_definitions.specs.Cards.{Card, is_skipped, live, numbered_from}
use Rattle.card_definitions.proofs.FirstFaults.{or_none}
use Rattle.control_definitions.specs.declared.ControlFault.{ControlFault}
use Rattle.control_definitions.specs.Verbs.{verb_of}
use Rattle.control_definitions.specs.declared.ControlFaultKind.TheVariants.{NoProgram}
use Rattle.control_definitions.specs.Compiled.{is_pend, program_cards, cards_to_pend, control_card_fault, first_control_fault, control_fault, fault_at}
use Rattle.control_definitions.specs.Compiled.{head_fault, live_fault, end_fault, misses_label}
use Rattle.control_compiler.specs.Jobs.{live_cards, live_after, after_head, has_end, late_fault}
use Rattle.control_compiler.specs.Underway.{IsReached}
use Rattle.control_compiler.proofs.Taking.{program_is_no_statement}

drop_at : {X : Type 0} (xs : List X) (n : ℕ) (x : X) → slice_get xs n ≡ Some x → drop n xs ≡ x ∷ drop (suc n) xs
drop_at [] n x e = cc e
drop_at (y ∷ xs) zero x e = let same : y ≡ x = cc e in ap (λ z. z ∷ xs) same
drop_at (y ∷ xs) (suc n) x e = drop_at xs n x e

module _ (job : List (List ℕ)) (number : ℕ) where
  next_cards : (card : List ℕ) → slice_get job number ≡ Some card
      → live_after number job ≡ filter (λ (other : Card). not (is_skipped other.bytes))
      ((record { number = number + 1; bytes = card }) ∷ numbered_from (number + 1 + 1) (drop (number + 1) job))
  next_cards card e =
      let next : number + 1 ≡ suc number = omega arith in
      ap (λ cards. live (numbered_from (number + 1) cards)) (drop_at job number card e ∙ ap (λ n. card ∷ drop n job) (sym next))

  -- a skipped card, and another
  pub skipped_next : (card : List ℕ) → slice_get job number ≡ Some card → is_skipped card ≡ true → live_after number job ≡ live_after (number + 1) job
  skipped_next card e skipped = next_cards card e ∙ rw skipped refl

  pub live_next : (card : List ℕ) → slice_get job number ≡ Some card → is_skipped card ≡ false
      → live_after number job ≡ (record { number = number + 1; bytes = card }) ∷ live_after (number + 1) job
  live_next card e kept = next_cards card e ∙ rw kept refl

  pub none_follows : length job ≤ number → live_after number job ≡ []
  none_follows le = ap (λ cards. live (numbered_from (number + 1) cards)) (drop_of_length-le job le)

-- ---- the program's cards

on_to : (card : Card) (rest : List Card) → is_pend card.bytes ≡ false → program_cards (card ∷ rest) ≡ card ∷ program_cards rest
on_to card rest e =
    let n = position_or_len (λ (other : Card). is_pend other.bytes) rest in
    let next : 1 + n + 1 ≡ suc (n + 1) = omega arith in
    rw e (ap (λ (k : ℕ). take k (card ∷ rest)) next)

up_to : (card : Card) (rest : List Card) → is_pend card.bytes ≡ true → program_cards (card ∷ rest) ≡ card ∷ []
up_to card rest e = rw e refl

module _ (job : List (List ℕ)) (before : List Card) (card : Card) (rest : List Card) (reached : IsReached job before (card ∷ rest)) where
  -- a card without a fault that doesn't end the program
  pub reached_next : control_card_fault before card.bytes ≡ None → is_pend card.bytes ≡ false → IsReached job (before ++ card ∷ []) rest
  reached_next none goes_on = record {
    whole = reached.whole ∙ ap (λ cards. before ++ cards) (on_to card rest goes_on) ∙ sym (append_assoc before (card ∷ []) (program_cards rest));
    ends = reached.ends ∙ rw goes_on refl;
    fault = reached.fault ∙ ap (λ cards. option_or (first_control_fault before cards) (late_fault job)) (on_to card rest goes_on) ∙ rw none refl;
  }

  -- one with a fault
  pub reached_fault : (fault : ControlFault) → option_map (fault_at card.number) (control_card_fault before card.bytes) ≡ Some fault →
      control_fault job ≡ Some fault
  reached_fault fault some = reached.fault ∙ by (is_pend card.bytes) refl
    where
      by : (t : Bool) → is_pend card.bytes ≡ t → option_or (first_control_fault before (program_cards (card ∷ rest))) (late_fault job) ≡ Some fault
      by true e = ap (λ cards. option_or (first_control_fault before cards) (late_fault job)) (up_to card rest e) ∙ rw some refl
      by false e = ap (λ cards. option_or (first_control_fault before cards) (late_fault job)) (on_to card rest e) ∙ rw some refl

  -- and one that ends the program
  pub reached_end : control_card_fault before card.bytes ≡ None → is_pend card.bytes ≡ true
      → (cards_to_pend (live_cards job) ≡ before ++ card ∷ []) × (has_end job ≡ true) × (control_fault job ≡ late_fault job)
  reached_end none ends = (
    reached.whole ∙ ap (λ cards. before ++ cards) (up_to card rest ends),
    reached.ends ∙ rw ends refl,
    reached.fault ∙ ap (λ cards. option_or (first_control_fault before cards) (late_fault job)) (up_to card rest ends) ∙ rw none refl,
  )

-- The job's end comes before PEND.
pub reached_nothing : (job : List (List ℕ)) (before rest : List Card) → IsReached job before rest → rest ≡ []
    → (cards_to_pend (live_cards job) ≡ before) × (has_end job ≡ false) × (control_fault job ≡ late_fault job)
reached_nothing job before [] reached e = (reached.whole ∙ append-nil before, reached.ends, reached.fault)
reached_nothing job before (card ∷ rest) reached e = cc e

-- ---- the first card

-- PROGRAM names no label.
names_no_label : (whole : List Card) (head : Card) (rest : List Card) → verb_of head.bytes ≡ None →
    find (misses_label whole) rest ≡ find (misses_label whole) (head ∷ rest)
names_no_label whole head rest none = rw none refl

-- PROGRAM stands first, and the others come.
pub reached_first : (job : List (List ℕ)) (head : Card) (rest : List Card) → live_cards job ≡ head ∷ rest → head_fault head.bytes ≡ None →
    IsReached job (head ∷ []) rest
unfolding control_fault
reached_first job head rest e lawful =
    let whole : List Card = head ∷ program_cards rest in
    let ends : Bool = list_any (λ (card : Card). is_pend card.bytes) rest in
    let after : live_fault (length job) (head ∷ rest) ≡ option_or (first_control_fault (head ∷ []) (program_cards rest))
    (end_fault (length job) ends (find (misses_label whole) (program_cards rest))) =
    rw lawful (ap (option_or (first_control_fault (head ∷ []) (program_cards rest)))
    (or_none (end_fault (length job) ends (find (misses_label whole) (program_cards rest))))) in
    let missing : find (misses_label whole) (program_cards rest) ≡ find (misses_label whole) whole =
    names_no_label whole head (program_cards rest) (program_is_no_statement head.bytes lawful).1 in
    record {
      whole = ap cards_to_pend e;
      ends = ap (λ cards. list_any (λ (card : Card). is_pend card.bytes) (after_head cards)) e;
      fault = subst (λ (cards : List Card). live_fault (length job) cards ≡ option_or (first_control_fault (head ∷ []) (program_cards rest))
          (end_fault (length job) (list_any (λ (card : Card). is_pend card.bytes) (after_head cards))
          (find (misses_label (cards_to_pend cards)) (cards_to_pend cards))))
          (sym e) (after
          ∙ ap (λ (card : Option Card). option_or (first_control_fault (head ∷ []) (program_cards rest)) (end_fault (length job) ends card)) missing);
    }

-- The first card isn't PROGRAM in its lawful form, or there is none.
pub head_is_faulty : (job : List (List ℕ)) (head : Card) (rest : List Card) (fault : ControlFault) → live_cards job ≡ head ∷ rest →
    option_map (fault_at head.number) (head_fault head.bytes) ≡ Some fault → control_fault job ≡ Some fault
unfolding control_fault
head_is_faulty job head rest fault e some = ap (live_fault (length job)) e ∙ rw some refl

pub all_skipped : (job : List (List ℕ)) → live_cards job ≡ [] → control_fault job ≡ Some (fault_at (length job) NoProgram)
unfolding control_fault
all_skipped job e = ap (live_fault (length job)) e

pub same_place : (number : ℕ) → number ≡ number + 1 - 1
same_place number = omega arith
