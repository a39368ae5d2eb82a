-- The choices of SETUP one by one.
use Rattle.std.proofs.Common.{◌≡◌, ℕ, suc, ◌<◌, Bool, true, false, ◌&&◌, List, [], ◌∷◌, ◌++◌, Option, Some, None, length, if◌then◌else◌, refl, ap, sym, ◌∙◌}
use Rattle.std.proofs.Common.{arith, leb}
use Rattle.std.specs.Prelude.{option_map, option_and_then, option_to_list, is_some, is_none, filter_map, slice_get}
use Rattle.std.specs.Option.{option_or}
use Rattle.std.specs.List.{slice_split}
use Rattle.std.proofs.lemmas.List.{length-map}
use Rattle.std.proofs.lemmas.List.Splits.{length-slice_split}
use Rattle.std.proofs.lemmas.Bool.Decides.{nat_tests}
use Rattle.lp_definitions.specs.declared.Sense.{Sense}
use Rattle.control_definitions.specs.Statements.{split_outside, is_comma, marked, outside}
use Rattle.control_definitions.specs.Arguments.{SetupArgument, BoundSet, RangeSet, Direction, bound_chosen, range_chosen, sense_chosen, choices, led_by}
use Rattle.control_definitions.specs.Arguments.{sense_choice, set_choice, is_setup, options_of, setup_arguments}
use Rattle.control_verbs.specs.declared.options.Chosen.{Chosen}
use Rattle.control_verbs.specs.Chosen.{nothing_chosen, first_choice, after_first_word, added, all_added, chosen_options}

-- ---- what is chosen, and how often

-- what is chosen of each kind, where nothing is chosen twice
abbrev outcome : List (List ℕ) → List (List ℕ) → List Sense → Option Chosen
outcome bounds ranges senses =
    if leb (length bounds) 1 && leb (length ranges) 1 && leb (length senses) 1
    then Some (record { bound = slice_get bounds 0; range = slice_get ranges 0; sense = slice_get senses 0 }) else None

two_are_many : (n : ℕ) → leb (suc (suc n)) 1 ≡ false
two_are_many n = grind (arith, nat_tests)

closed : (a c : Bool) (x : Option Chosen) → (if a && false && c then x else None) ≡ None
closed true c x = refl
closed false c x = refl

closed_last : (a b : Bool) (x : Option Chosen) → (if a && b && false then x else None) ≡ None
closed_last true true x = refl
closed_last true false x = refl
closed_last false b x = refl

many_ranges : (bounds : List (List ℕ)) (m n : List ℕ) (ranges : List (List ℕ)) (senses : List Sense) → outcome bounds (m ∷ n ∷ ranges) senses ≡ None
many_ranges bounds m n ranges senses =
    rw (two_are_many (length ranges))
    (closed (leb (length bounds) 1) (leb (length senses) 1)
    (Some (record { bound = slice_get bounds 0; range = slice_get (m ∷ n ∷ ranges) 0; sense = slice_get senses 0 })))

many_senses : (bounds ranges : List (List ℕ)) (m n : Sense) (senses : List Sense) → outcome bounds ranges (m ∷ n ∷ senses) ≡ None
many_senses bounds ranges m n senses =
    rw (two_are_many (length senses))
    (closed_last (leb (length bounds) 1) (leb (length ranges) 1)
    (Some (record { bound = slice_get bounds 0; range = slice_get ranges 0; sense = slice_get (m ∷ n ∷ senses) 0 })))

as_it_is : (bound range : Option (List ℕ)) (sense : Option Sense)
    → Some (record { bound = bound; range = range; sense = sense }) ≡ outcome (option_to_list bound ++ []) (option_to_list range ++ [])
    (option_to_list sense ++ [])
as_it_is None None None = refl
as_it_is None None (Some s) = refl
as_it_is None (Some r) None = refl
as_it_is None (Some r) (Some s) = refl
as_it_is (Some b) None None = refl
as_it_is (Some b) None (Some s) = refl
as_it_is (Some b) (Some r) None = refl
as_it_is (Some b) (Some r) (Some s) = refl

all_added_is : (list : List SetupArgument) (so_far : Chosen) →
    all_added so_far list ≡ outcome (option_to_list so_far.bound ++ filter_map bound_chosen list) (option_to_list so_far.range ++ filter_map range_chosen list)
    (option_to_list so_far.sense ++ filter_map sense_chosen list)
all_added_is [] so_far = as_it_is so_far.bound so_far.range so_far.sense
all_added_is (BoundSet name ∷ list) so_far = by so_far.bound (all_added_is list (record so_far { bound = Some name }))
  where
    by : (bound : Option (List ℕ))
        → all_added (record so_far { bound = Some name }) list ≡ outcome (name ∷ filter_map bound_chosen list)
        (option_to_list so_far.range ++ filter_map range_chosen list) (option_to_list so_far.sense ++ filter_map sense_chosen list)
        → option_and_then (λ more. all_added more list) (if is_none bound then Some (record so_far { bound = Some name }) else None)
        ≡ outcome (option_to_list bound ++ (name ∷ filter_map bound_chosen list)) (option_to_list so_far.range ++ filter_map range_chosen list)
        (option_to_list so_far.sense ++ filter_map sense_chosen list)
    by None rest = rest
    by (Some other) rest = rw (two_are_many (length (filter_map bound_chosen list))) refl
all_added_is (RangeSet name ∷ list) so_far = by so_far.range (all_added_is list (record so_far { range = Some name }))
  where
    by : (range : Option (List ℕ))
        → all_added (record so_far { range = Some name }) list ≡ outcome (option_to_list so_far.bound ++ filter_map bound_chosen list)
        (name ∷ filter_map range_chosen list) (option_to_list so_far.sense ++ filter_map sense_chosen list)
        → option_and_then (λ more. all_added more list) (if is_none range then Some (record so_far { range = Some name }) else None)
        ≡ outcome (option_to_list so_far.bound ++ filter_map bound_chosen list) (option_to_list range ++ (name ∷ filter_map range_chosen list))
        (option_to_list so_far.sense ++ filter_map sense_chosen list)
    by None rest = rest
    by (Some other) rest =
        sym (many_ranges (option_to_list so_far.bound ++ filter_map bound_chosen list) other name (filter_map range_chosen list)
        (option_to_list so_far.sense ++ filter_map sense_chosen list))
all_added_is (Direction sense ∷ list) so_far = by so_far.sense (all_added_is list (record so_far { sense = Some sense }))
  where
    by : (chosen : Option Sense)
        → all_added (record so_far { sense = Some sense }) list ≡ outcome (option_to_list so_far.bound ++ filter_map bound_chosen list)
        (option_to_list so_far.range ++ filter_map range_chosen list) (sense ∷ filter_map sense_chosen list)
        → option_and_then (λ more. all_added more list) (if is_none chosen then Some (record so_far { sense = Some sense }) else None)
        ≡ outcome (option_to_list so_far.bound ++ filter_map bound_chosen list) (option_to_list so_far.range ++ filter_map range_chosen list)
        (option_to_list chosen ++ (sense ∷ filter_map sense_chosen list))
    by None rest = rest
    by (Some other) rest =
        sym (many_senses (option_to_list so_far.bound ++ filter_map bound_chosen list) (option_to_list so_far.range ++ filter_map range_chosen list) other sense
        (filter_map sense_chosen list))

-- ---- the options of SETUP

of_choices : (list : List SetupArgument) (t : Bool)
    → option_map options_of (if t then Some list else None)
    ≡ option_map chosen_options
    (if t then Some
    (record {
      bound = slice_get (filter_map bound_chosen list) 0;
      range = slice_get (filter_map range_chosen list) 0;
      sense = slice_get
          (filter_map sense_chosen list) 0;
    }) else None)
of_choices list true = refl
of_choices list false = refl

of_made : (made : Option (List SetupArgument))
    → option_map options_of (option_and_then (λ list. if is_setup list then Some list else None) made) ≡ option_map chosen_options
    (option_and_then (all_added nothing_chosen) made)
of_made None = refl
of_made (Some list) = rw (all_added_is list nothing_chosen) (of_choices list (is_setup list))

of_parts : (parts : List (List ℕ)) → 0 < length parts →
    setup_arguments parts ≡ option_map chosen_options (option_and_then (all_added nothing_chosen) (choices parts))
of_parts [] some = absurd (omega arith)
of_parts (part ∷ parts) some = of_made (choices (part ∷ parts))

pub setup_is : (text : List ℕ) →
    setup_arguments (split_outside is_comma text) ≡ option_map chosen_options
    (option_and_then (all_added nothing_chosen) (choices (split_outside is_comma text)))
setup_is text =
    let parts = slice_split (outside is_comma) (marked text) in
    let some : 0 < length parts = omega (arith, length-slice_split (outside is_comma) (marked text)) in
    of_parts (split_outside is_comma text) (simp length-map some)

-- ---- the first choice

-- the choices of arguments are the first one and those after it
choices_one_by_one : (word : List ℕ) (parts : List (List ℕ)) →
    choices (word ∷ parts) ≡ led_by (first_choice (word ∷ parts)) (choices (after_first_word (word ∷ parts)))
choices_one_by_one word [] = by (sense_choice word)
  where
    by : (sense : Option SetupArgument) → led_by sense (Some []) ≡ led_by sense (choices (if is_some sense then [] else []))
    by (Some choice) = refl
    by None = refl
choices_one_by_one word (next ∷ parts) = by (sense_choice word)
  where
    by : (sense : Option SetupArgument)
        → elim sense as
        (λ _. Option (List SetupArgument)) [
          | Some choice ↦ led_by (Some choice) (choices (next ∷ parts))
          | None ↦ led_by (set_choice word next)
              (choices parts)
        ]
        ≡ led_by (option_or sense (set_choice word next)) (choices (if is_some sense then next ∷ parts else parts))
    by (Some choice) = refl
    by None = refl

pub one_by_one : (text : List ℕ) →
    choices (split_outside is_comma text) ≡ led_by (first_choice (split_outside is_comma text)) (choices (after_first_word (split_outside is_comma text)))
one_by_one text =
    let parts = slice_split (outside is_comma) (marked text) in
    let some : 0 < length parts = omega (arith, length-slice_split (outside is_comma) (marked text)) in
    by (split_outside is_comma text) (simp length-map some)
  where
    by : (parts : List (List ℕ)) → 0 < length parts → choices parts ≡ led_by (first_choice parts) (choices (after_first_word parts))
    by [] some = absurd (omega arith)
    by (word ∷ parts) some = choices_one_by_one word parts

-- ---- one more choice

module _ (so_far : Chosen) (text : List ℕ) where
  pub one_more : (more : Chosen) (choice : SetupArgument) → first_choice (split_outside is_comma text) ≡ Some choice → added so_far choice ≡ Some more
      → option_and_then (all_added so_far) (choices (split_outside is_comma text)) ≡ option_and_then (all_added more)
      (choices (after_first_word (split_outside is_comma text)))
  one_more more choice first e =
      ap (option_and_then (all_added so_far)) (one_by_one text) ∙ rw first (by (choices (after_first_word (split_outside is_comma text))))
    where
      by : (others : Option (List SetupArgument)) → option_and_then (all_added so_far) (led_by (Some choice) others) ≡ option_and_then (all_added more) others
      by None = refl
      by (Some list) = rw e refl

  pub one_too_many : (choice : SetupArgument) → first_choice (split_outside is_comma text) ≡ Some choice → added so_far choice ≡ None
      → option_and_then (all_added so_far) (choices (split_outside is_comma text)) ≡ None
  one_too_many choice first e =
      ap (option_and_then (all_added so_far)) (one_by_one text) ∙ rw first (by (choices (after_first_word (split_outside is_comma text))))
    where
      by : (others : Option (List SetupArgument)) → option_and_then (all_added so_far) (led_by (Some choice) others) ≡ None
      by None = refl
      by (Some list) = rw e refl

  pub no_more : first_choice (split_outside is_comma text) ≡ None → option_and_then (all_added so_far) (choices (split_outside is_comma text)) ≡ None
  no_more first = ap (option_and_then (all_added so_far)) (one_by_one text) ∙ rw first refl
