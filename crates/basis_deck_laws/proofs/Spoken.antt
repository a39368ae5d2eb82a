-- What the cards say that are written for a basis, whatever cards stand before them.
use Rattle.std.proofs.Common.{◌≡◌, ℕ, ◌+◌, ◌-◌, ◌<◌, Bool, true, false, cond, not, ◌||◌, ◌&&◌, unwrap_or, List, [], ◌∷◌, ◌++◌, Option, Some, None, length, map}
use Rattle.std.proofs.Common.{refl, sym, ap, ap₂, subst, ◌∙◌, arith}
use Rattle.std.specs.Prelude.{IsSome, is_none, codes}
use Rattle.std.specs.List.{AllByRecursion, list_any, flat_map}
use Rattle.std.specs.Option.{option_or, option_map}
use Rattle.std.proofs.lemmas.List.{length-map, append-nil, append_assoc}
use Rattle.std.proofs.lemmas.Grind.{flat_map-append}
use Rattle.lp_definitions.specs.LinearProgram.{LinearProgram, lower_of, upper_of, IsRow, IsVariable}
use Rattle.lp_definitions.specs.Basis.{is_basic, status_of, IsAllowed, IsBasis}
use Rattle.lp_definitions.specs.declared.Status.{Status}
use Rattle.lp_definitions.specs.declared.Status.TheVariants.{Bs, Ll, Ul, Fr}
use Rattle.card_definitions.specs.Words.{first_fault, named, is_empty, without_leading, ◌⟹◌}
use Rattle.card_definitions.specs.Cards.{Card, is_blank, is_skipped, live, numbered_from}
use Rattle.card_definitions.specs.Fields.{Fixed, Reading, reading_of}
use Rattle.card_definitions.proofs.Numbered.{live-append}
use Rattle.problem_definitions.specs.Names.{name_at}
use Rattle.problem_definitions.specs.Problem.{Problem, row_names, group_names, has_row, has_group}
use Rattle.problem_definitions.specs.Numbering.{entry_by, by_names}
use Rattle.problem_definitions.specs.Valid.{IsNumberOf, IsProblem}
use Rattle.problem_definitions.proofs.Names.{row_is_named}
use Rattle.problem_definitions.proofs.Groups.{has_group-names}
use Rattle.problem_definitions.proofs.RowsBy.{row_names-by}
use Rattle.problem_definitions.proofs.Lawful.{IsLabel, names-by}
use Rattle.deck_definitions.specs.declared.DeckFaultKind.{DeckFaultKind}
use Rattle.deck_definitions.specs.declared.DeckFaultKind.TheVariants.{SectionOrder, UnknownRow, UnknownColumn, NamedTwice, NoSuchLimit, ExtraField}
use Rattle.deck_definitions.specs.declared.Section.TheVariants.{Header, Endata}
use Rattle.deck_definitions.specs.Sections.{is_section, is_section_card, section_words, section_word, section_after, is_section_after}
use Rattle.deck_definitions.specs.Conversion.{section_card_fault, gaps_fault, first_faulty}
use Rattle.deck_definitions.proofs.WrittenCards.{FitsField}
use Rattle.deck_definitions.proofs.Steps.{section_after-push, first_faulty-append}
use Rattle.revise_laws.proofs.ByNames.{named-lawful}
use Rattle.revise_laws.proofs.Places.{name_at-there, number_in-name_at}
use Rattle.basis_deck_laws.proofs.Cards.{IsWritten, fields, written-card}
use Rattle.basis_deck_laws.proofs.Facts.{none_found, not_found, fits-name, label-of}
use Rattle.basis_deck_definitions.specs.declared.Code.{Code}
use Rattle.basis_deck_definitions.specs.declared.Code.TheVariants.{Exchanges, Stands}
use Rattle.basis_deck_definitions.specs.Placings.{code_words, HasNames, Placing, placings_by, row_variable, column_variable}
use Rattle.basis_deck_definitions.specs.Reading.{has_limit_of, placings_on, placings_of, is_named_in, filled_after, code_fault, by_code, basis_data_fault}
use Rattle.basis_deck_definitions.specs.Reading.{basis_card_fault}
use Rattle.basis_deck_definitions.specs.Writing.{is_up, exchange_card, limit_card}
use Rattle.basis_deck_laws.proofs.Lawful.{places}

-- ---- the code of an exchange

abbrev pub limit_word : Bool → List ℕ
limit_word up = cond up (codes "XU") (codes "XL")

abbrev pub limit_status : Bool → Status
limit_status up = cond up Ul Ll

word_code : (up : Bool) → named code_words (limit_word up) ≡ Some (Exchanges (limit_status up))
word_code true = refl
word_code false = refl

word_fits : (up : Bool) → FitsField 2 (limit_word up)
word_fits true = record { short = omega arith; trimmed = refl }
word_fits false = record { short = omega arith; trimmed = refl }

word_leads : (up : Bool) → without_leading is_blank (limit_word up) ≡ limit_word up
word_leads true = refl
word_leads false = refl

abbrev pub exchange_placings : List Status → ℕ × ℕ → List Placing
exchange_placings s pair = record { variable = pair.0; status = Bs } ∷ record { variable = pair.1; status = limit_status (is_up (status_of s pair.1)) } ∷ []

abbrev pub limit_placings : ℕ → List Placing
limit_placings k = record { variable = k; status = Ul } ∷ []

-- ---- cards

has_some : {A : Type 0} (o : Option A) → IsSome o → not (is_none o) ≡ true
has_some None h = absurd (cc h)
has_some (Some x) h = refl

module _ (lp : LinearProgram) (s : List Status) (basis : IsBasis lp s) where
  -- a nonbasic row stands at a limit that it has
  pub row_limit : (r : ℕ) → IsRow lp.matrix r → is_basic (status_of s r) ≡ false →
      (status_of s r ≡ limit_status (is_up (status_of s r))) × (has_limit_of lp (record { variable = r; status = limit_status (is_up (status_of s r)) }) ≡ true)
  row_limit r row out = by (status_of s r) refl out (basis.allowed r (row.0, omega (arith, row.1)))
    where
      by : (st : Status) → status_of s r ≡ st → is_basic st ≡ false → IsAllowed st (lower_of lp r) (upper_of lp r)
          → (st ≡ limit_status (is_up st)) × (has_limit_of lp (record { variable = r; status = limit_status (is_up st) }) ≡ true)
      by Bs e out allowed = absurd (cc out)
      by Ll e out allowed = (refl, has_some (lower_of lp r) allowed)
      by Ul e out allowed = (refl, has_some (upper_of lp r) allowed)
      by Fr e out allowed = absurd (let basic = basis.free_rows r row allowed in cc (e, basic))

-- none of these variables is placed yet
abbrev pub AreFree : List Placing → List Placing → Type 0
AreFree placed ps = AllByRecursion (λ p. places placed p.variable ≡ false) ps

-- the groups of placings are free one after the other
abbrev pub AreFreeInTurn : List Placing → List (List Placing) → Type 0
AreFreeInTurn placed [] = Unit {0}
AreFreeInTurn placed (ps ∷ pss) = AreFree placed ps × AreFreeInTurn (placed ++ ps) pss

module _ (problem : Problem ℕ) (lp : LinearProgram) where
  -- a card that says so much, and has no fault where none of it is said before
  pub record Speaks (text : List ℕ) (ps : List Placing) : Type 0 where
    pub there : is_skipped text ≡ false
    pub is_data : is_section_card text ≡ false
    pub says : (n : ℕ) → placings_on problem (record { number = n; bytes = text }) ≡ ps
    pub fine : (before : List Placing) → AreFree before ps → basis_data_fault problem lp before text ≡ None

  speaks_by : (text : List ℕ) (read : Reading) (code : Code) (ps : List Placing) → IsWritten text read → named code_words read.kind ≡ Some code
      → placings_by problem read code ≡ ps
      → ((before : List Placing) → AreFree before ps → code_fault problem lp before read code ≡ None) → Speaks text ps
  speaks_by text read code ps is known says fine = record {
    there = is.there;
    is_data = is.data_card;
    says = λ n.
        ap (λ b. cond b []
        (unwrap_or (option_map (placings_by problem (reading_of Fixed text)) (named code_words ((reading_of Fixed text).kind))) [])) is.data_card
        ∙ ap (λ (r : Reading). unwrap_or (option_map (placings_by problem r) (named code_words r.kind)) []) is.reads
        ∙ ap (λ o. unwrap_or (option_map (placings_by problem read) o) []) known ∙ says;
    fine = λ before free.
        two (gaps_fault text) (by_code problem lp before (reading_of Fixed text) (named code_words ((reading_of Fixed text).kind)))
        (ap (λ b. not b ⟹ ExtraField) is.spaced)
        (ap (λ (r : Reading). by_code problem lp before r (named code_words r.kind)) is.reads ∙ ap (by_code problem lp before read) known ∙ fine before free);
  }
    where
      two : (a b : Option DeckFaultKind) → a ≡ None → b ≡ None → first_fault (a ∷ b ∷ []) ≡ None
      two a b ea eb = none_found (a ∷ b ∷ []) (ea, (eb, tt))

  -- ---- the names of variables

  module _ (lawful : IsProblem problem) (names : HasNames problem lp) where
    row_labels : AllByRecursion IsLabel (row_names problem)
    unfolding by_names
    row_labels = subst (AllByRecursion IsLabel) (row_names-by (name_at (row_names problem)) problem.rows) ((named-lawful problem lawful).row_labels)

    column_labels : AllByRecursion IsLabel (group_names problem.columns)
    unfolding by_names
    column_labels =
        subst (AllByRecursion IsLabel) (names-by (entry_by (name_at (row_names problem))) problem.columns) ((named-lawful problem lawful).columns.names)

    row_number : (r : ℕ) → IsRow lp.matrix r → IsNumberOf (length (row_names problem)) r
    row_number r row = record { positive = omega (arith, row.0); at_most = omega (arith, row.1, names.rows, length-map problem.rows (λ row. row.name)) }

    column_number : (k : ℕ) → lp.rows < k → IsVariable lp.matrix k → IsNumberOf (length (group_names problem.columns)) (k - lp.rows)
    column_number k past is =
        record { positive = omega (arith, past); at_most = omega (arith, is.1, names.columns, length-map problem.columns (λ column. column.name)) }

    pub row_label : (r : ℕ) → IsRow lp.matrix r → IsLabel (name_at (row_names problem) r)
    row_label r row = label-of (row_names problem) (name_at (row_names problem) r) row_labels (name_at-there (row_names problem) r (row_number r row))

    pub column_label : (k : ℕ) → lp.rows < k → IsVariable lp.matrix k → IsLabel (name_at (group_names problem.columns) (k - lp.rows))
    column_label k past is =
        label-of (group_names problem.columns) (name_at (group_names problem.columns) (k - lp.rows)) column_labels
        (name_at-there (group_names problem.columns) (k - lp.rows) (column_number k past is))

    row_again : (r : ℕ) → IsRow lp.matrix r → row_variable problem (name_at (row_names problem) r) ≡ r
    row_again r row = number_in-name_at (row_names problem) lawful.rows.distinct r (row_number r row)

    column_again : (k : ℕ) → lp.rows < k → IsVariable lp.matrix k → column_variable problem (name_at (group_names problem.columns) (k - lp.rows)) ≡ k
    column_again k past is =
        ap (λ n. length problem.rows + n) (number_in-name_at (group_names problem.columns) lawful.columns.distinct (k - lp.rows) (column_number k past is))
        ∙ omega (arith, names.rows, past)

    has_it_row : (r : ℕ) → IsRow lp.matrix r → has_row problem.rows (name_at (row_names problem) r) ≡ true
    has_it_row r row = row_is_named (name_at (row_names problem) r) problem.rows ∙ name_at-there (row_names problem) r (row_number r row)

    has_it_column : (k : ℕ) → lp.rows < k → IsVariable lp.matrix k → has_group problem.columns (name_at (group_names problem.columns) (k - lp.rows)) ≡ true
    has_it_column k past is =
        has_group-names problem.columns (name_at (group_names problem.columns) (k - lp.rows))
        ∙ name_at-there (group_names problem.columns) (k - lp.rows) (column_number k past is)

    -- ---- the cards of a basis

    module _ (s : List Status) (basis : IsBasis lp s) where
      none_of : (before : List Placing) (v w : ℕ) → places before v ≡ false → places before w ≡ false → (places before v || (places before w || false)) ≡ false
      none_of before v w ev ew = ap₂ (λ a b. a || (b || false)) ev ew

      pub exchange_speaks : (k r : ℕ) → lp.rows < k → IsVariable lp.matrix k → IsRow lp.matrix r → is_basic (status_of s r) ≡ false →
          Speaks (exchange_card problem lp s (k, r)) (exchange_placings s (k, r))
      exchange_speaks k r past is row out =
          let up = is_up (status_of s r) in
          let to = limit_status (is_up (status_of s r)) in
          let name1 = name_at (group_names problem.columns) (k - lp.rows) in
          let name2 = name_at (row_names problem) r in
          let one = column_label k past is in
          let two = row_label r row in
          let read = fields (limit_word (is_up (status_of s r))) (name_at (group_names problem.columns) (k - lp.rows)) (name_at (row_names problem) r) [] in
          speaks_by (exchange_card problem lp s (k, r)) read (Exchanges to) (exchange_placings s (k, r))
          (written-card (limit_word up) name1 name2 [] (word_fits up) (word_leads up) (fits-name name1 one.name_of) (fits-name name2 two.name_of)
          (record { short = omega arith; trimmed = refl }) (ap (λ b. b && is_empty name2) one.present))
          (word_code up)
          (ap₂ (λ v w. record { variable = v; status = Bs } ∷ record { variable = w; status = to } ∷ []) (column_again k past is) (row_again r row))
          (λ before free. none_found (
          (not (has_group problem.columns name1) ⟹ UnknownColumn) ∷
          (not (has_row problem.rows name2) ⟹ UnknownRow) ∷
          (list_any (is_named_in before) (placings_by problem read (Exchanges to)) ⟹ NamedTwice) ∷
          (list_any (λ placing. not (has_limit_of lp placing)) (placings_by problem read (Exchanges to)) ⟹ NoSuchLimit) ∷
          filled_after read (Exchanges to) ∷ []) (
            not_found (not (has_group problem.columns name1)) UnknownColumn (ap not (has_it_column k past is)),
            (
              not_found (not (has_row problem.rows name2)) UnknownRow (ap not (has_it_row r row)),
              (
                not_found (list_any (is_named_in before) (placings_by problem read (Exchanges to))) NamedTwice
                    (ap₂ (λ v w. places before v || (places before w || false)) (column_again k past is) (row_again r row)
                    ∙ none_of before k r free.0 free.1.0),
                (
                  not_found (list_any (λ placing. not (has_limit_of lp placing)) (placings_by problem read (Exchanges to))) NoSuchLimit
                      (ap (λ w. not (has_limit_of lp (record { variable = w; status = to })) || false) (row_again r row)
                      ∙ ap (λ b. not b || false) ((row_limit lp s basis r row out).1)),
                  (refl, tt),
                ),
              ),
            ),
          ))

      pub limit_speaks : (k : ℕ) → lp.rows < k → IsVariable lp.matrix k → status_of s k ≡ Ul → Speaks (limit_card problem lp k) (limit_placings k)
      limit_speaks k past is at =
          let name1 = name_at (group_names problem.columns) (k - lp.rows) in
          let one = column_label k past is in
          let read = fields (codes "UL") (name_at (group_names problem.columns) (k - lp.rows)) [] [] in
          let allowed : IsSome (upper_of lp k) = subst (λ st. IsAllowed st (lower_of lp k) (upper_of lp k)) at (basis.allowed k is) in
          speaks_by (limit_card problem lp k) read (Stands Ul) (limit_placings k)
          (written-card (codes "UL") name1 [] [] (record { short = omega arith; trimmed = refl }) refl (fits-name name1 one.name_of)
          (record { short = omega arith; trimmed = refl }) (record { short = omega arith; trimmed = refl }) (ap (λ b. b && true) one.present))
          refl
          (ap (λ v. record { variable = v; status = Ul } ∷ []) (column_again k past is))
          (λ before free. none_found (
          (not (has_group problem.columns name1) ⟹ UnknownColumn) ∷
          None ∷
          (list_any (is_named_in before) (placings_by problem read (Stands Ul)) ⟹ NamedTwice) ∷
          (list_any (λ placing. not (has_limit_of lp placing)) (placings_by problem read (Stands Ul)) ⟹ NoSuchLimit) ∷
          filled_after read (Stands Ul) ∷ []) (
            not_found (not (has_group problem.columns name1)) UnknownColumn (ap not (has_it_column k past is)),
            (
              refl,
              (
                not_found (list_any (is_named_in before) (placings_by problem read (Stands Ul))) NamedTwice
                    (ap (λ v. places before v || false) (column_again k past is) ∙ ap (λ b. b || false) free.0),
                (
                  not_found (list_any (λ placing. not (has_limit_of lp placing)) (placings_by problem read (Stands Ul))) NoSuchLimit
                      (ap (λ v. not (has_limit_of lp (record { variable = v; status = Ul })) || false) (column_again k past is)
                      ∙ ap (λ b. not b || false) (has_some (upper_of lp k) allowed)),
                  (refl, tt),
                ),
              ),
            ),
          ))

  -- ---- cards after others

  -- cards after others: none is skipped, none has a fault, and they say so much
  pub record AreAccepted (before cards : List Card) (ps : List Placing) : Type 0 where
    pub alive : live cards ≡ cards
    pub fine : first_faulty (basis_card_fault problem lp) before cards ≡ None
    pub after : section_after (before ++ cards) ≡ Some Header
    pub placed : placings_of problem (before ++ cards) ≡ placings_of problem before ++ ps

  card_fine : (before : List Card) (card : Card) (ps : List Placing) → Speaks card.bytes ps → section_after before ≡ Some Header →
      AreFree (placings_of problem before) ps → basis_card_fault problem lp before card.bytes ≡ None
  unfolding basis_card_fault
  card_fine before card ps speaks header free =
      ap (λ b. cond b (section_card_fault (λ earlier section. is_section Header earlier && is_section Endata section) (section_after before) card.bytes)
      (cond (is_section_after Header before) (basis_data_fault problem lp (placings_of problem before) card.bytes) (Some SectionOrder))) speaks.is_data
      ∙ ap (λ o. cond (unwrap_or (option_map (is_section Header) o) false) (basis_data_fault problem lp (placings_of problem before) card.bytes)
      (Some SectionOrder)) header
      ∙ speaks.fine (placings_of problem before) free

  pub card_placed : (before : List Card) (card : Card) (ps : List Placing) → placings_on problem card ≡ ps →
      placings_of problem (before ++ card ∷ []) ≡ placings_of problem before ++ ps
  card_placed before card ps says =
      flat_map-append (placings_on problem) before (card ∷ []) ∙ ap (λ more. placings_of problem before ++ more) (append-nil (placings_on problem card) ∙ says)

  card_section : (before : List Card) (card : Card) → is_section_card card.bytes ≡ false → section_after before ≡ Some Header →
      section_after (before ++ card ∷ []) ≡ Some Header
  card_section before card plain header =
      section_after-push before card ∙ ap (λ b. option_or (cond b (named section_words (section_word card.bytes)) None) (section_after before)) plain ∙ header

  module _ {X : Type 0} (text : X → List ℕ) (says : X → List Placing) where
    pub accepted : (xs : List X) → AllByRecursion (λ x. Speaks (text x) (says x)) xs → (n : ℕ) (before : List Card) → section_after before ≡ Some Header
        → AreFreeInTurn (placings_of problem before) (map says xs)
        → AreAccepted before (numbered_from n (map text xs)) (flat_map says xs)
    accepted [] each n before header free = record {
      alive = refl;
      fine = refl;
      after = ap section_after (append-nil before) ∙ header;
      placed = ap (placings_of problem) (append-nil before) ∙ sym (append-nil (placings_of problem before));
    }
    accepted (x ∷ xs) each n before header free =
        let card : Card = record { number = n; bytes = text x } in
        let own = card_placed before (record { number = n; bytes = text x }) (says x) (each.0.says n) in
        let rest =
        accepted xs each.1 (n + 1) (before ++ record { number = n; bytes = text x } ∷ [])
        (card_section before (record { number = n; bytes = text x }) each.0.is_data header)
        (subst (λ ps. AreFreeInTurn ps (map says xs)) (sym own) free.1) in
        joined (record { number = n; bytes = text x }) (numbered_from (n + 1) (map text xs)) own
        (card_fine before (record { number = n; bytes = text x }) (says x) each.0 header free.0) each.0.there rest
      where
        joined : (card : Card) (cards : List Card) → placings_of problem (before ++ card ∷ []) ≡ placings_of problem before ++ says x
            → basis_card_fault problem lp before card.bytes ≡ None → is_skipped card.bytes ≡ false
            → AreAccepted (before ++ card ∷ []) cards (flat_map says xs) → AreAccepted before (card ∷ cards) (says x ++ flat_map says xs)
        joined card cards own fine there rest = record {
          alive = ap (λ b. cond (not b) (card ∷ live cards) (live cards)) there ∙ ap (λ cs. card ∷ cs) rest.alive;
          fine = ap₂ (λ a b. option_or (option_map (λ kind. record { card = card.number; kind = kind }) a) b) fine rest.fine;
          after = ap section_after (sym (append_assoc before (card ∷ []) cards)) ∙ rest.after;
          placed =
              ap (placings_of problem) (sym (append_assoc before (card ∷ []) cards)) ∙ rest.placed ∙ ap (λ ps. ps ++ flat_map says xs) own
              ∙ append_assoc (placings_of problem before) (says x) (flat_map says xs);
        }

  -- two parts
  pub accepted-then : (before one two : List Card) (p q : List Placing) → AreAccepted before one p → AreAccepted (before ++ one) two q →
      AreAccepted before (one ++ two) (p ++ q)
  accepted-then before one two p q first second = record {
    alive = live-append one two ∙ ap₂ (λ xs ys. xs ++ ys) first.alive second.alive;
    fine = first_faulty-append (basis_card_fault problem lp) before one two ∙ ap₂ option_or first.fine second.fine;
    after = ap section_after (sym (append_assoc before one two)) ∙ second.after;
    placed =
        ap (placings_of problem) (sym (append_assoc before one two)) ∙ second.placed ∙ ap (λ ps. ps ++ q) first.placed
        ∙ append_assoc (placings_of problem before) p q;
  }
