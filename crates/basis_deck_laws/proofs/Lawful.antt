-- What a deck without a fault stands for is a basis.
use Rattle.std.proofs.Common.{◌≡◌, ◌≢◌, ℕ, ◌<◌, ◌≤◌, ◌⊎◌, inl, inr, Bool, true, false, cond, not, ◌||◌, ◌&&◌, unwrap_or, List, [], ◌∷◌, ◌++◌, Option, Some}
use Rattle.std.proofs.Common.{None, Ok, length, refl, sym, ap, subst, ◌∙◌, arith}
use Rattle.std.specs.Prelude.{nat_le, nat_eq, IsSome, is_none, fold, codes, bytes_eq}
use Rattle.std.specs.List.{list_any}
use Rattle.std.specs.Option.{option_map}
use Rattle.std.proofs.lemmas.List.{length-map, append-nil, append_assoc}
use Rattle.std.proofs.lemmas.List.Folds.{list_any-append}
use Rattle.std.proofs.lemmas.List.Sums.{fold-append}
use Rattle.std.proofs.lemmas.Grind.{flat_map-append}
use Rattle.lp_definitions.specs.LinearProgram.{LinearProgram, lower_of, upper_of, IsVariable}
use Rattle.lp_definitions.specs.Basis.{status_of, with_status, opening_status_of, opening_at_of, opening_statuses, IsAllowed, IsBasis}
use Rattle.lp_definitions.specs.declared.Status.{Status}
use Rattle.lp_definitions.specs.declared.Status.TheVariants.{Bs, Ll, Ul, Fr}
use Rattle.lp_laws.proofs.Statuses.{IsBasis-opening, IsBasis-replaced, IsBasis-flipped, status_of-opening, changed_other}
use Rattle.card_definitions.specs.Words.{named, unless, ◌⟹◌}
use Rattle.card_definitions.specs.Cards.{Card, live}
use Rattle.card_definitions.specs.Fields.{Fixed, Reading, reading_of}
use Rattle.card_definitions.proofs.FirstFaults.{no_first, no_second, passes, test_fails}
use Rattle.problem_definitions.specs.Problem.{Problem, row_names, group_names, has_row, has_group}
use Rattle.problem_definitions.specs.Valid.{IsNumberOf}
use Rattle.problem_definitions.proofs.Names.{row_is_named}
use Rattle.problem_definitions.proofs.Groups.{has_group-names}
use Rattle.problem_definitions.proofs.Places.{number_in-within}
use Rattle.deck_definitions.specs.declared.DeckFault.{DeckFault}
use Rattle.deck_definitions.specs.declared.DeckFaultKind.{DeckFaultKind}
use Rattle.deck_definitions.specs.declared.Section.TheVariants.{Header, Endata}
use Rattle.deck_definitions.specs.declared.DeckFaultKind.TheVariants.{SectionOrder, UnknownRow, UnknownColumn, NamedTwice, NoSuchLimit}
use Rattle.deck_definitions.specs.Sections.{is_section, is_section_card, section_after, is_section_after}
use Rattle.deck_definitions.specs.Conversion.{section_card_fault, gaps_fault, first_faulty, fault_by}
use Rattle.basis_deck_definitions.specs.declared.Code.{Code}
use Rattle.basis_deck_definitions.specs.declared.Code.TheVariants.{Exchanges, Stands}
use Rattle.basis_deck_definitions.specs.Placings.{code_words, HasNames, Placing, placings_by, row_variable, column_variable}
use Rattle.basis_deck_definitions.specs.Reading.{has_limit_of, placings_on, placings_of, stands_for, is_named_in, row_fault, filled_after, code_fault, by_code}
use Rattle.basis_deck_definitions.specs.Reading.{basis_data_fault, basis_card_fault, basis_reading}

-- ---- tests and codes

pub or_false : (a b : Bool) → (a || b) ≡ false → (a ≡ false) × (b ≡ false)
or_false true b h = absurd (cc h)
or_false false b h = (refl, h)

pub not_false : (b : Bool) → not b ≡ false → b ≡ true
not_false true h = refl
not_false false h = absurd (cc h)

unmapped : {A B : Type 0} (f : A → B) (o : Option A) → option_map f o ≡ None → o ≡ None
unmapped f None h = refl
unmapped f (Some x) h = absurd (cc h)

-- the status in which a card with this code leaves a nonbasic
abbrev pub limit_of : Code → Status
limit_of (Exchanges to) = to
limit_of (Stands at) = at

-- it is one of the two limits
abbrev pub IsLimit : Status → Type 0
IsLimit st = (st ≡ Ll) ⊎ (st ≡ Ul)

pub code_limits : (word : List ℕ) (code : Code) → named code_words word ≡ Some code → IsLimit (limit_of code)
code_limits word code = by (bytes_eq (codes "XU") word) (bytes_eq (codes "XL") word) (bytes_eq (codes "UL") word) (bytes_eq (codes "LL") word)
  where
    taken : (st : Code) → IsLimit (limit_of st) → Some st ≡ Some code → IsLimit (limit_of code)
    taken st is same = let e : st ≡ code = cc in subst (λ c. IsLimit (limit_of c)) e is

    by : (a b c d : Bool) → option_map (λ (line : List ℕ × Code). line.1)
        (cond a (Some (codes "XU", Exchanges Ul))
        (cond b (Some (codes "XL", Exchanges Ll)) (cond c (Some (codes "UL", Stands Ul)) (cond d (Some (codes "LL", Stands Ll)) None)))) ≡ Some code →
        IsLimit (limit_of code)
    by true b c d h = taken (Exchanges Ul) (inr refl) h
    by false true c d h = taken (Exchanges Ll) (inl refl) h
    by false false true d h = taken (Stands Ul) (inr refl) h
    by false false false true h = taken (Stands Ll) (inl refl) h
    by false false false false h = absurd (cc h)

limit_nonbasic : (st : Status) → IsLimit st → st ≢ Bs
limit_nonbasic st (inl e) = λ h. cc
limit_nonbasic st (inr e) = λ h. cc

limit_stands : (st : Status) → IsLimit st → st ≢ Fr
limit_stands st (inl e) = λ h. cc
limit_stands st (inr e) = λ h. cc

-- a column opens at a limit or free
pub opens_nonbasic : (low high : Option _) → opening_status_of low high ≢ Bs
opens_nonbasic (Some l) high = λ h. cc
opens_nonbasic None (Some u) = λ h. cc
opens_nonbasic None None = λ h. cc

pub row_opens : (lp : LinearProgram) (k : ℕ) → k ≤ lp.rows → opening_at_of lp k ≡ Bs
row_opens lp k low = let is : nat_le k lp.rows ≡ true = grind arith in rw is

pub column_opens : (lp : LinearProgram) (k : ℕ) → lp.rows < k → opening_at_of lp k ≡ opening_status_of (lower_of lp k) (upper_of lp k)
column_opens lp k past = let is : nat_le k lp.rows ≡ false = grind arith in rw is

-- the limit of a placing is what its status asks
pub limit_allows : (lp : LinearProgram) (k : ℕ) (st : Status) → has_limit_of lp (record { variable = k; status = st }) ≡ true → IsLimit st →
    IsAllowed st (lower_of lp k) (upper_of lp k)
limit_allows lp k st h is = by st is h
  where
    some : {A : Type 0} (o : Option A) → not (is_none o) ≡ true → IsSome o
    some None h = absurd (cc h)
    some (Some x) h = refl

    by : (st : Status) → IsLimit st → has_limit_of lp (record { variable = k; status = st }) ≡ true → IsAllowed st (lower_of lp k) (upper_of lp k)
    by Bs is h = tt
    by Ll is h = some (lower_of lp k) h
    by Ul is h = some (upper_of lp k) h
    by Fr (inl e) h = absurd (cc e)
    by Fr (inr e) h = absurd (cc e)

-- ---- placings

-- the statuses after placings, in their order
abbrev pub put : List Status → List Placing → List Status
put s placings = fold (λ s placing. with_status s placing.variable placing.status) s placings

-- whether one of them places this variable
abbrev pub places : List Placing → ℕ → Bool
places placings k = list_any (λ earlier. nat_eq earlier.variable k) placings

-- what stands so far is a basis, and what isn't placed opens as SETUP opens it
pub record IsSoFar (lp : LinearProgram) (s : List Status) (placed : List Placing) : Type 0 where
  pub basis : IsBasis lp s
  pub opens : (k : ℕ) → IsVariable lp.matrix k → places placed k ≡ false → status_of s k ≡ opening_at_of lp k

module _ (problem : Problem ℕ) (lp : LinearProgram) (names : HasNames problem lp) where
  -- ---- the numbers of names

  pub row_is : (name : List ℕ) → has_row problem.rows name ≡ true → IsNumberOf lp.rows (row_variable problem name)
  row_is name there =
      let number = number_in-within (row_names problem) name (sym (row_is_named name problem.rows) ∙ there) in
      subst (λ n. IsNumberOf n (row_variable problem name)) (length-map problem.rows _ ∙ names.rows) number

  pub column_is : (name : List ℕ) → has_group problem.columns name ≡ true →
      (lp.rows < column_variable problem name) × IsVariable lp.matrix (column_variable problem name)
  column_is name there =
      let number = number_in-within (group_names problem.columns) name (sym (has_group-names problem.columns name) ∙ there) in
      let few : length (group_names problem.columns) ≡ lp.cols = length-map problem.columns _ ∙ names.columns in
      (omega (arith, number.positive, names.rows), (omega (arith, number.positive), omega (arith, number.at_most, few, names.rows)))

  -- the tests of a card with a code
  abbrev tests_of : List Placing → Reading → Code → List (Option DeckFaultKind)
  tests_of placed card code =
      (not (has_group problem.columns card.name1) ⟹ UnknownColumn) ∷
      row_fault problem card code ∷
      (list_any (is_named_in placed) (placings_by problem card code) ⟹ NamedTwice) ∷
      (list_any (λ placing. not (has_limit_of lp placing)) (placings_by problem card code) ⟹ NoSuchLimit) ∷
      filled_after card code ∷ []

  module _ (s : List Status) (placed : List Placing) (so_far : IsSoFar lp s placed) where
    -- a column goes to a limit
    module _ (c : ℕ) (at : Status) (past : lp.rows < c) (is : IsVariable lp.matrix c) (limit : IsLimit at)
        (allowed : IsAllowed at (lower_of lp c) (upper_of lp c)) (fresh : places placed c ≡ false) where
      nonbasic : status_of s c ≢ Bs
      nonbasic h = opens_nonbasic (lower_of lp c) (upper_of lp c) (sym (so_far.opens c is fresh ∙ column_opens lp c past) ∙ h)

      other_status : (k : ℕ) → IsVariable lp.matrix k → places (placed ++ record { variable = c; status = at } ∷ []) k ≡ false →
          status_of (with_status s c at) k ≡ opening_at_of lp k
      other_status k variable out =
          by (or_false _ _ (sym (list_any-append (λ earlier. nat_eq earlier.variable k) placed (record { variable = c; status = at } ∷ [])) ∙ out))
        where
          by : (places placed k ≡ false) × ((nat_eq c k || false) ≡ false) → status_of (with_status s c at) k ≡ opening_at_of lp k
          by (before, own) =
              let apart : k ≢ c = λ e. absurd (grind (arith, own, e)) in
              changed_other lp s so_far.basis c k at s is variable apart ∙ so_far.opens k variable before

      pub stands_so_far : IsSoFar lp (with_status s c at) (placed ++ record { variable = c; status = at } ∷ [])
      stands_so_far = record {
        basis = IsBasis-flipped lp s so_far.basis c at is nonbasic (limit_nonbasic at limit) (limit_stands at limit) allowed;
        opens = other_status;
      }

    -- a column comes in, and a row goes to a limit
    module _ (c r : ℕ) (to : Status) (past : lp.rows < c) (is_c : IsVariable lp.matrix c) (row : IsNumberOf lp.rows r) (limit : IsLimit to)
        (allowed : IsAllowed to (lower_of lp r) (upper_of lp r))
        (fresh_c : places placed c ≡ false) (fresh_r : places placed r ≡ false) where
      is_r : IsVariable lp.matrix r
      is_r = (omega (arith, row.positive), omega (arith, row.at_most))

      enters : status_of s c ≢ Bs
      enters h = opens_nonbasic (lower_of lp c) (upper_of lp c) (sym (so_far.opens c is_c fresh_c ∙ column_opens lp c past) ∙ h)

      leaves : status_of s r ≡ Bs
      leaves = so_far.opens r is_r fresh_r ∙ row_opens lp r row.at_most

      both : List Placing
      both = record { variable = c; status = Bs } ∷ record { variable = r; status = to } ∷ []

      other_exchanged : (k : ℕ) → IsVariable lp.matrix k →
          places (placed ++ record { variable = c; status = Bs } ∷ record { variable = r; status = to } ∷ []) k ≡ false →
          status_of (with_status (with_status s c Bs) r to) k ≡ opening_at_of lp k
      other_exchanged k variable out =
          by (or_false _ _
          (sym (list_any-append (λ earlier. nat_eq earlier.variable k) placed
          (record { variable = c; status = Bs } ∷ record { variable = r; status = to } ∷ [])) ∙ out))
        where
          by : (places placed k ≡ false) × ((nat_eq c k || (nat_eq r k || false)) ≡ false) →
              status_of (with_status (with_status s c Bs) r to) k ≡ opening_at_of lp k
          by (before, own) =
              let first = or_false (nat_eq c k) (nat_eq r k || false) own in
              let second = or_false (nat_eq r k) false first.1 in
              let not_c : k ≢ c = λ e. absurd (grind (arith, first.0, e)) in
              let not_r : k ≢ r = λ e. absurd (grind (arith, second.0, e)) in
              changed_other lp s so_far.basis r k to (with_status s c Bs) is_r variable not_r ∙ changed_other lp s so_far.basis c k Bs s is_c variable not_c
              ∙ so_far.opens k variable before

      pub exchanged_so_far : IsSoFar lp (with_status (with_status s c Bs) r to)
          (placed ++ record { variable = c; status = Bs } ∷ record { variable = r; status = to } ∷ [])
      exchanged_so_far = record {
        basis = IsBasis-replaced lp s so_far.basis r c to is_r is_c leaves enters (limit_nonbasic to limit) (limit_stands to limit) allowed;
        opens = other_exchanged;
      }

    -- what a card without a fault says
    pub code_so_far : (card : Reading) (code : Code) → IsLimit (limit_of code) → code_fault problem lp placed card code ≡ None →
        IsSoFar lp (put s (placings_by problem card code)) (placed ++ placings_by problem card code)
    code_so_far card (Exchanges to) limit fine =
        let tests = passes (tests_of placed card (Exchanges to)) fine in
        let column =
        column_is card.name1
        (not_false (has_group problem.columns card.name1) (test_fails (not (has_group problem.columns card.name1)) UnknownColumn tests.0)) in
        let row = row_is card.name2 (not_false (has_row problem.rows card.name2) (test_fails (not (has_row problem.rows card.name2)) UnknownRow tests.1.0)) in
        let fresh = test_fails (list_any (is_named_in placed) (placings_by problem card (Exchanges to))) NamedTwice tests.1.1.0 in
        let one = or_false (places placed (column_variable problem card.name1)) (places placed (row_variable problem card.name2) || false) fresh in
        let two = or_false (places placed (row_variable problem card.name2)) false one.1 in
        let limits = test_fails (list_any (λ placing. not (has_limit_of lp placing)) (placings_by problem card (Exchanges to))) NoSuchLimit tests.1.1.1.0 in
        let last = or_false (not (has_limit_of lp (record { variable = row_variable problem card.name2; status = to }))) false limits in
        exchanged_so_far (column_variable problem card.name1) (row_variable problem card.name2) to column.0 column.1 row limit
        (limit_allows lp (row_variable problem card.name2) to
        (not_false (has_limit_of lp (record { variable = row_variable problem card.name2; status = to })) last.0) limit) one.0 two.0
    code_so_far card (Stands at) limit fine =
        let tests = passes (tests_of placed card (Stands at)) fine in
        let column =
        column_is card.name1
        (not_false (has_group problem.columns card.name1) (test_fails (not (has_group problem.columns card.name1)) UnknownColumn tests.0)) in
        let fresh = test_fails (list_any (is_named_in placed) (placings_by problem card (Stands at))) NamedTwice tests.1.1.0 in
        let one = or_false (places placed (column_variable problem card.name1)) false fresh in
        let limits = test_fails (list_any (λ placing. not (has_limit_of lp placing)) (placings_by problem card (Stands at))) NoSuchLimit tests.1.1.1.0 in
        let last = or_false (not (has_limit_of lp (record { variable = column_variable problem card.name1; status = at }))) false limits in
        stands_so_far (column_variable problem card.name1) at column.0 column.1 limit
        (limit_allows lp (column_variable problem card.name1) at
        (not_false (has_limit_of lp (record { variable = column_variable problem card.name1; status = at })) last.0) limit) one.0

  -- ---- cards

  abbrev pub AreSoFar : List Card → Type 0
  AreSoFar cards = IsSoFar lp (stands_for problem lp cards) (placings_of problem cards)

  nothing_so_far : AreSoFar []
  unfolding stands_for
  nothing_so_far = record { basis = IsBasis-opening lp; opens = λ k is out. status_of-opening lp k is }

  -- what a card says after others
  said : (before : List Card) (card : Card) (ps : List Placing) → placings_on problem card ≡ ps →
      IsSoFar lp (put (stands_for problem lp before) ps) (placings_of problem before ++ ps) → AreSoFar (before ++ card ∷ [])
  unfolding stands_for
  said before card ps is h =
      let all : placings_of problem (before ++ card ∷ []) ≡ placings_of problem before ++ ps
      = flat_map-append (placings_on problem) before (card ∷ [])
      ∙ ap (λ more. placings_of problem before ++ more) (append-nil (placings_on problem card) ∙ is) in
      let statuses : stands_for problem lp (before ++ card ∷ []) ≡ put (stands_for problem lp before) ps
      = ap (put (opening_statuses lp)) all
      ∙ fold-append (λ (s : List Status) (placing : Placing). with_status s placing.variable placing.status) (opening_statuses lp)
      (placings_of problem before) ps in
      subst (λ list. IsSoFar lp list (placings_of problem (before ++ card ∷ []))) (sym statuses)
      (subst (λ list. IsSoFar lp (put (stands_for problem lp before) ps) list) (sym all) h)

  -- one more card without a fault
  pub card_so_far : (before : List Card) (card : Card) → basis_card_fault problem lp before card.bytes ≡ None → AreSoFar before → AreSoFar (before ++ card ∷ [])
  unfolding basis_card_fault
  card_so_far before card fine h = by_section (is_section_card card.bytes) (is_section_after Header before) refl fine
    where
      read : Reading
      read = reading_of Fixed card.bytes

      nothing_said : is_section_card card.bytes ≡ true → placings_on problem card ≡ []
      nothing_said e =
          ap (λ b. cond b []
          (unwrap_or (option_map (placings_by problem (reading_of Fixed card.bytes)) (named code_words ((reading_of Fixed card.bytes).kind))) [])) e

      something_said : (code : Code) → is_section_card card.bytes ≡ false → named code_words ((reading_of Fixed card.bytes).kind) ≡ Some code →
          placings_on problem card ≡ placings_by problem (reading_of Fixed card.bytes) code
      something_said code e known =
          ap (λ b. cond b []
          (unwrap_or (option_map (placings_by problem (reading_of Fixed card.bytes)) (named code_words ((reading_of Fixed card.bytes).kind))) [])) e
          ∙ ap (λ o. unwrap_or (option_map (placings_by problem (reading_of Fixed card.bytes)) o) []) known

      by_known : (o : Option Code) → named code_words ((reading_of Fixed card.bytes).kind) ≡ o → is_section_card card.bytes ≡ false →
          by_code problem lp (placings_of problem before) (reading_of Fixed card.bytes) o ≡ None → AreSoFar (before ++ card ∷ [])
      by_known None known plain fault = absurd (cc fault)
      by_known (Some code) known plain fault =
          said before card (placings_by problem (reading_of Fixed card.bytes) code) (something_said code plain known)
          (code_so_far (stands_for problem lp before) (placings_of problem before) h (reading_of Fixed card.bytes) code
          (code_limits ((reading_of Fixed card.bytes).kind) code known) fault)

      by_section : (b c : Bool) → is_section_card card.bytes ≡ b
          → cond b (section_card_fault (λ earlier section. is_section Header earlier && is_section Endata section) (section_after before) card.bytes)
          (cond c (basis_data_fault problem lp (placings_of problem before) card.bytes) (Some SectionOrder)) ≡ None
          → AreSoFar (before ++ card ∷ [])
      by_section true c e h' =
          said before card [] (nothing_said e) (subst (IsSoFar lp (stands_for problem lp before)) (sym (append-nil (placings_of problem before))) h)
      by_section false false e h' = absurd (cc h')
      by_section false true e h' =
          let coded = no_second (gaps_fault card.bytes) _ h' in
          by_known (named code_words ((reading_of Fixed card.bytes).kind)) refl e
          (no_first (by_code problem lp (placings_of problem before) (reading_of Fixed card.bytes)
          (named code_words ((reading_of Fixed card.bytes).kind))) None coded)

  -- and any number of them
  pub cards_so_far : (before cards : List Card) → first_faulty (basis_card_fault problem lp) before cards ≡ None → AreSoFar before → AreSoFar (before ++ cards)
  cards_so_far before [] fine h = subst AreSoFar (sym (append-nil before)) h
  cards_so_far before (card ∷ cards) fine h =
      let own =
      unmapped _ (basis_card_fault problem lp before card.bytes) (no_first _ (first_faulty (basis_card_fault problem lp) (before ++ card ∷ []) cards) fine) in
      let rest = no_second (option_map (λ kind. record { card = card.number; kind = kind }) (basis_card_fault problem lp before card.bytes)) _ fine in
      subst AreSoFar (append_assoc before (card ∷ []) cards) (cards_so_far (before ++ card ∷ []) cards rest (card_so_far before card own h))

pub lawful : (problem : Problem ℕ) (lp : LinearProgram) (deck : List Card) (s : List Status) → HasNames problem lp → basis_reading problem lp deck ≡ Ok s →
    IsBasis lp s
unfolding basis_reading
lawful problem lp deck s names reads = by (fault_by (basis_card_fault problem lp) deck) refl reads
  where
    by : (o : Option DeckFault) → fault_by (basis_card_fault problem lp) deck ≡ o → unless o (stands_for problem lp (live deck)) ≡ Ok s → IsBasis lp s
    by (Some fault) e h = absurd (cc h)
    by None e h =
        let is : stands_for problem lp (live deck) ≡ s = cc in
        let fine = no_first (first_faulty (basis_card_fault problem lp) [] (live deck)) _ e in
        subst (IsBasis lp) is ((cards_so_far problem lp names [] (live deck) fine (nothing_so_far problem lp names)).basis)
