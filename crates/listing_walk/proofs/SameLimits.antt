-- Which limits are there goes by the row types and by the options of a choice, not by its right-hand side. So a basis deck says the same of
-- each linear program that is selected of a problem with the same options.
use Rattle.std.proofs.Common.{◌≡◌, ℕ, ◌-◌, suc, zero, Bool, true, false, not, ◌&&◌, List, [], ◌∷◌, ◌++◌, Option, Some, None, is_none, Result, Ok, map, fold}
use Rattle.std.proofs.Common.{slice_index_or, refl, sym, ap, ap₂, subst, ◌∙◌, if◌then◌else◌, nat_le, true≢false}
use Rattle.std.specs.List.{list_any, enumerate_from}
use Rattle.exact_values.specs.Rational.{ℚ, zero_ℚ}
use Rattle.exact_values.specs.Tests.{lt_ℚ, magnitude}
use Rattle.frac128.specs.declared.Op.TheVariants.{Add, Sub}
use Rattle.card_definitions.specs.Words.{named, ◌⟹◌, first_fault, unless}
use Rattle.card_definitions.specs.Cards.{Card, live}
use Rattle.card_definitions.specs.Fields.{Fixed, Reading, reading_of}
use Rattle.lp_definitions.specs.LinearProgram.{LinearProgram, lower_of, upper_of, variables}
use Rattle.lp_definitions.specs.Basis.{with_status, opening_status_of, opening_at_of, opening_statuses}
use Rattle.lp_definitions.specs.declared.Status.{Status}
use Rattle.lp_definitions.specs.declared.Status.TheVariants.{Bs, Ll, Ul, Fr}
use Rattle.problem_definitions.specs.declared.RowKind.{RowKind}
use Rattle.problem_definitions.specs.declared.RowKind.TheVariants.{N, G, L, E}
use Rattle.problem_definitions.specs.Names.{Name}
use Rattle.problem_definitions.specs.Problem.{Row, Problem, has_group}
use Rattle.deck_definitions.specs.declared.DeckFault.{DeckFault}
use Rattle.deck_definitions.specs.declared.DeckFaultKind.{DeckFaultKind}
use Rattle.deck_definitions.specs.declared.DeckFaultKind.TheVariants.{SectionOrder, UnknownColumn, NamedTwice, NoSuchLimit}
use Rattle.deck_definitions.specs.declared.Section.TheVariants.{Header, Endata}
use Rattle.deck_definitions.specs.Sections.{is_section, is_section_card, section_after, is_section_after}
use Rattle.deck_definitions.specs.Conversion.{section_card_fault, gaps_fault, fault_by}
use Rattle.control_definitions.specs.Program.{SetupOptions}
use Rattle.selection_definitions.specs.declared.SelectionFault.{SelectionFault}
use Rattle.selection_definitions.specs.Choice.{Choice, set_items}
use Rattle.selection_definitions.specs.Limits.{Limits, with_range, row_limits, column_limits}
use Rattle.selection_definitions.specs.Selection.{rhs_of, range_of, program_of_choice, selected}
use Rattle.basis_deck_definitions.specs.declared.Code.{Code}
use Rattle.basis_deck_definitions.specs.Placings.{code_words, Placing, placings_by}
use Rattle.basis_deck_definitions.specs.Reading.{has_limit_of, is_named_in, filled_after, row_fault, placings_of, stands_for, code_fault, by_code}
use Rattle.basis_deck_definitions.specs.Reading.{basis_data_fault, basis_card_fault, basis_reading}
use Rattle.listing_walk.proofs.Selected.{is_program}

-- ---- a row's limits, with one right-hand side or another

ranged_lower : (b : Bool) (x y size : ℚ) →
    is_none ((with_range (if b then Sub else Add) x size).lower) ≡ is_none ((with_range (if b then Sub else Add) y size).lower)
ranged_lower true x y size = refl
ranged_lower false x y size = refl

ranged_upper : (b : Bool) (x y size : ℚ) →
    is_none ((with_range (if b then Sub else Add) x size).upper) ≡ is_none ((with_range (if b then Sub else Add) y size).upper)
ranged_upper true x y size = refl
ranged_upper false x y size = refl

lower_alike : (kind : RowKind) (x y : ℚ) (range : Option ℚ) → is_none ((row_limits kind x range).lower) ≡ is_none ((row_limits kind y range).lower)
lower_alike N x y None = refl
lower_alike G x y None = refl
lower_alike L x y None = refl
lower_alike E x y None = refl
lower_alike N x y (Some range) = refl
lower_alike G x y (Some range) = refl
lower_alike L x y (Some range) = refl
lower_alike E x y (Some range) = ranged_lower (lt_ℚ range zero_ℚ) x y (magnitude range)

upper_alike : (kind : RowKind) (x y : ℚ) (range : Option ℚ) → is_none ((row_limits kind x range).upper) ≡ is_none ((row_limits kind y range).upper)
upper_alike N x y None = refl
upper_alike G x y None = refl
upper_alike L x y None = refl
upper_alike E x y None = refl
upper_alike N x y (Some range) = refl
upper_alike G x y (Some range) = refl
upper_alike L x y (Some range) = refl
upper_alike E x y (Some range) = ranged_upper (lt_ℚ range zero_ℚ) x y (magnitude range)

-- ---- the limits of the variables

module _ {X : Type 0} (side : Limits → Option ℚ) (f g : X → Limits) (alike : (x : X) → is_none (side (f x)) ≡ is_none (side (g x))) (after : List Limits) where
  at_place : (xs : List X) (n : ℕ) →
      is_none (slice_index_or (map side (map f xs ++ after)) n None) ≡ is_none (slice_index_or (map side (map g xs ++ after)) n None)
  at_place [] n = refl
  at_place (x ∷ xs) zero = alike x
  at_place (x ∷ xs) (suc n) = at_place xs n

opening_alike : (low low' high high' : Option ℚ) → is_none low ≡ is_none low' → is_none high ≡ is_none high' →
    opening_status_of low high ≡ opening_status_of low' high'
opening_alike (Some l) (Some l') high high' a b = refl
opening_alike (Some l) None high high' a b = absurd (true≢false (sym a))
opening_alike None (Some l') high high' a b = absurd (true≢false a)
opening_alike None None (Some u) (Some u') a b = refl
opening_alike None None (Some u) None a b = absurd (true≢false (sym b))
opening_alike None None None (Some u') a b = absurd (true≢false b)
opening_alike None None None None a b = refl

module _ (problem : Problem ℕ) (objective other : Option Name) (rhs side : Option Name) (options : SetupOptions) where
  abbrev first : Choice
  first = record { objective = objective; rhs = rhs; options = options }

  abbrev second : Choice
  second = record { objective = other; rhs = side; options = options }

  abbrev p : LinearProgram
  p = program_of_choice problem first

  abbrev q : LinearProgram
  q = program_of_choice problem second

  abbrev limits_by : Choice → ℕ × Row ℕ → Limits
  limits_by choice entry = row_limits entry.1.kind (rhs_of problem choice entry.0) (range_of problem choice entry.0)

  abbrev of_columns : List Limits
  of_columns = map (λ entry. column_limits (set_items problem.bounds options.bound) entry.0) (enumerate_from 1 problem.columns)

  lower_same : (k : ℕ) → is_none (lower_of p k) ≡ is_none (lower_of q k)
  lower_same k =
      at_place (λ (limits : Limits). limits.lower) (limits_by first) (limits_by second)
      (λ entry. lower_alike entry.1.kind (rhs_of problem first entry.0) (rhs_of problem second entry.0) (range_of problem first entry.0))
      of_columns (enumerate_from 1 problem.rows) (k - 1)

  upper_same : (k : ℕ) → is_none (upper_of p k) ≡ is_none (upper_of q k)
  upper_same k =
      at_place (λ (limits : Limits). limits.upper) (limits_by first) (limits_by second)
      (λ entry. upper_alike entry.1.kind (rhs_of problem first entry.0) (rhs_of problem second entry.0) (range_of problem first entry.0))
      of_columns (enumerate_from 1 problem.rows) (k - 1)

  -- ---- what a deck says of them

  limit_at : (k : ℕ) (status : Status) → has_limit_of p (record { variable = k; status = status }) ≡ has_limit_of q (record { variable = k; status = status })
  limit_at k Bs = refl
  limit_at k Ll = ap not (lower_same k)
  limit_at k Ul = ap not (upper_same k)
  limit_at k Fr = ap₂ (λ a b. a && b) (lower_same k) (upper_same k)

  limit_same : has_limit_of p ≡ has_limit_of q
  limit_same = λ i placing. limit_at placing.variable placing.status i

  opens_same : (k : ℕ) → opening_at_of p k ≡ opening_at_of q k
  opens_same k =
      ap (λ (s : Status). if nat_le k p.rows then Bs else s)
      (opening_alike (lower_of p k) (lower_of q k) (upper_of p k) (upper_of q k) (lower_same k) (upper_same k))

  statuses_same : opening_statuses p ≡ opening_statuses q
  statuses_same = λ i. map (λ k. opens_same k i) (variables p.matrix)

  stands_same : (cards : List Card) → stands_for problem p cards ≡ stands_for problem q cards
  unfolding stands_for
  stands_same cards =
      ap (λ (start : List Status). fold (λ s placing. with_status s placing.variable placing.status) start (placings_of problem cards)) statuses_same

  code_same : (before : List Placing) (card : Reading) (code : Option Code) → by_code problem p before card code ≡ by_code problem q before card code
  code_same before card None = refl
  code_same before card (Some code) =
      ap (λ (has : Placing → Bool). first_fault (
      (not (has_group problem.columns card.name1) ⟹ UnknownColumn) ∷
      row_fault problem card code ∷
      (list_any (is_named_in before) (placings_by problem card code) ⟹ NamedTwice) ∷
      (list_any (λ placing. not (has placing)) (placings_by problem card code) ⟹ NoSuchLimit) ∷
      filled_after card code ∷ [])) limit_same

  data_same : (before : List Placing) (card : List ℕ) → basis_data_fault problem p before card ≡ basis_data_fault problem q before card
  data_same before card =
      let read = reading_of Fixed card in
      ap (λ (fault : Option DeckFaultKind). first_fault (gaps_fault card ∷ fault ∷ [])) (code_same before read (named code_words read.kind))

  card_same : (before : List Card) (card : List ℕ) → basis_card_fault problem p before card ≡ basis_card_fault problem q before card
  unfolding basis_card_fault
  card_same before card =
      ap (λ (fault : Option DeckFaultKind). if is_section_card card then section_card_fault
      (λ earlier section. is_section Header earlier && is_section Endata section) (section_after before) card
      else (if is_section_after Header before then fault else Some SectionOrder)) (data_same (placings_of problem before) card)

  reading_same : (deck : List Card) → basis_reading problem p deck ≡ basis_reading problem q deck
  unfolding basis_reading
  reading_same deck = λ i. unless (fault_by (λ before card. card_same before card i) deck) (stands_same (live deck) i)

-- with other names, but the same options
pub read_alike : (problem : Problem ℕ) (c d : Choice) → c.options ≡ d.options → (p q : LinearProgram) → selected problem c ≡ Ok p → selected problem d ≡ Ok q →
    (deck : List Card) →
    basis_reading problem p deck ≡ basis_reading problem q deck
read_alike problem c d same p q is_p is_q deck =
    ap (λ (lp : LinearProgram). basis_reading problem lp deck) (sym (is_program problem c p is_p))
    ∙ reading_same problem c.objective d.objective c.rhs d.rhs c.options deck ∙
    ap (λ (o : SetupOptions). basis_reading problem (program_of_choice problem (record { objective = d.objective; rhs = d.rhs; options = o })) deck) same ∙
    ap (λ (lp : LinearProgram). basis_reading problem lp deck) (is_program problem d q is_q)
