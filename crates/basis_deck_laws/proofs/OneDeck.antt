-- The cards that are written for a basis come back from their text, as one deck under the problem's name.
use Rattle.std.proofs.Common.{◌≡◌, ℕ, suc, ◌+◌, ◌-◌, Bool, true, false, cond, List, [], ◌∷◌, ◌++◌, Some, map, refl, sym, subst}
use Rattle.std.specs.Prelude.{codes, zip}
use Rattle.std.specs.List.{AllByRecursion}
use Rattle.lp_definitions.specs.LinearProgram.{LinearProgram}
use Rattle.lp_definitions.specs.Basis.{status_of}
use Rattle.lp_definitions.specs.declared.Status.{Status}
use Rattle.card_definitions.specs.Cards.{cards_of, numbered_from}
use Rattle.problem_definitions.specs.Names.{name_at}
use Rattle.problem_definitions.specs.Problem.{Problem, row_names, group_names}
use Rattle.problem_definitions.specs.Valid.{IsProblem}
use Rattle.problem_definitions.proofs.Each.{each-append}
use Rattle.deck_definitions.specs.Decks.{decks_of, name_of_deck}
use Rattle.deck_definitions.specs.Written.{name_card, card_text}
use Rattle.basis_deck_laws.proofs.Decks.{GoesOn, data-goes-on, mapped, one-deck-of, called-by}
use Rattle.basis_deck_laws.proofs.Printable.{IsPrintableText}
use Rattle.basis_deck_laws.proofs.Texts.{IsCard, read-back, append-printable, trimmed-card, data-is}
use Rattle.basis_deck_definitions.specs.Placings.{HasNames}
use Rattle.basis_deck_definitions.specs.Writing.{is_up, basic_columns, nonbasic_rows, raised, exchange_card, limit_card, basis_deck}
use Rattle.basis_deck_laws.proofs.Spoken.{row_label, column_label}
use Rattle.basis_deck_laws.proofs.GivesBack.{Ascends, IsBasicColumn, IsNonbasicRow, IsUpColumn, columns_ascend, rows_ascend, raised_ascend, pairs}

module _ (problem : Problem ℕ) (lp : LinearProgram) (s : List Status) where
  abbrev body : List (List ℕ)
  body = map (exchange_card problem lp s) (pairs lp s) ++ map (limit_card problem lp) (raised lp s)

  deck_is : basis_deck problem lp s ≡ name_card problem.name ∷ (body ++ codes "ENDATA" ∷ [])
  unfolding basis_deck
  deck_is = refl

  goes_on : AllByRecursion GoesOn body
  goes_on =
      each-append GoesOn (map (exchange_card problem lp s) (pairs lp s)) (map (limit_card problem lp) (raised lp s))
      (mapped (exchange_card problem lp s)
      (λ pair. data-goes-on (cond (is_up (status_of s pair.1)) (codes "XU") (codes "XL")) (name_at (group_names problem.columns) (pair.0 - lp.rows))
      (name_at (row_names problem) pair.1) []) (pairs lp s))
      (mapped (limit_card problem lp) (λ k. data-goes-on (codes "UL") (name_at (group_names problem.columns) (k - lp.rows)) [] []) (raised lp s))

  pub one_deck : (first : ℕ) → IsProblem problem →
      (decks_of (numbered_from first (basis_deck problem lp s)) ≡ numbered_from first (basis_deck problem lp s) ∷ []) ×
      (name_of_deck (numbered_from first (basis_deck problem lp s)) ≡ Some problem.name)
  one_deck first lawful = (
    subst (λ texts. decks_of (numbered_from first texts) ≡ numbered_from first texts ∷ []) (sym deck_is) (one-deck-of problem.name body goes_on first),
    subst (λ texts. name_of_deck (numbered_from first texts) ≡ Some problem.name) (sym deck_is)
        (called-by problem.name (body ++ codes "ENDATA" ∷ []) first lawful.name),
  )

  code_printable : (up : Bool) → IsPrintableText (cond up (codes "XU") (codes "XL"))
  code_printable true = refl
  code_printable false = refl

  module _ (lawful : IsProblem problem) (names : HasNames problem lp) where
    exchanges_are : (cs rs : List ℕ) (c r : ℕ) → Ascends (IsBasicColumn lp s) c cs → Ascends (IsNonbasicRow lp s) r rs →
        AllByRecursion IsCard (map (exchange_card problem lp s) (zip cs rs))
    exchanges_are [] rs c r hc hr = tt
    exchanges_are (k ∷ cs) [] c r hc hr = tt
    exchanges_are (k ∷ cs) (i ∷ rs) c r hc hr =
        let column = column_label problem lp lawful names k hc.0.has.past hc.0.has.is in
        let row = row_label problem lp lawful names i hr.0.has.row in (
          data-is (cond (is_up (status_of s i)) (codes "XU") (codes "XL")) (name_at (group_names problem.columns) (k - lp.rows))
              (name_at (row_names problem) i) []
              (code_printable (is_up (status_of s i))) column.name_of.printable row.name_of.printable refl,
          exchanges_are cs rs (suc k) (suc i) hc.1 hr.1,
        )

    limits_are : (ks : List ℕ) (c : ℕ) → Ascends (IsUpColumn lp s) c ks → AllByRecursion IsCard (map (limit_card problem lp) ks)
    limits_are [] c h = tt
    limits_are (k ∷ ks) c h =
        let column = column_label problem lp lawful names k h.0.has.past h.0.has.is in
        (data-is (codes "UL") (name_at (group_names problem.columns) (k - lp.rows)) [] [] refl column.name_of.printable refl refl, limits_are ks (suc k) h.1)

    cards_are : AllByRecursion IsCard (name_card problem.name ∷ (body ++ codes "ENDATA" ∷ []))
    cards_are = (
      trimmed-card (codes "NAME          " ++ problem.name) (append-printable (codes "NAME          ") problem.name refl lawful.name.printable),
      each-append IsCard body (codes "ENDATA" ∷ [])
          (each-append IsCard (map (exchange_card problem lp s) (pairs lp s)) (map (limit_card problem lp) (raised lp s))
          (exchanges_are (basic_columns lp s) (nonbasic_rows lp s) (lp.rows + 1) 1 (columns_ascend lp s) (rows_ascend lp s))
          (limits_are (raised lp s) (lp.rows + 1) (raised_ascend lp s)))
          (record { printable = refl; trimmed = refl }, tt),
    )

    pub reads_back : cards_of (card_text (basis_deck problem lp s)) ≡ basis_deck problem lp s
    reads_back =
        subst (λ texts. cards_of (card_text texts) ≡ texts) (sym deck_is) (read-back (name_card problem.name ∷ (body ++ codes "ENDATA" ∷ [])) cards_are)
