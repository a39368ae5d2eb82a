-- An attested listing is true, by the laws of reading and of what is judged right.
use Rattle.std.proofs.Common.{◌≡◌, ℕ, List, [], refl, sym, subst}
use Rattle.listing_definitions.specs.Ending.{Ending, ControlStop, CardStop}
use Rattle.listing_definitions.specs.Listing.{ending_text}
use Rattle.run_definitions.specs.Answer.{card_fault, control_fault}
use Rattle.walk_definitions.specs.Checkers.{Checker}
use Rattle.walk_definitions.specs.Walker.{Attested, Finds, closes}
use Rattle.walk_definitions.specs.Found.{first_walker, of_cards, of_control, of_walk}
use Rattle.walk_laws.specs.Read.{ReadingLaw}
use Rattle.walk_laws.specs.Judged.{JudgedLaws}
use Rattle.walk_laws.specs.Laws.{AttestedLaw}
use Rattle.walk_laws.proofs.Turns.{On, on_closes}
use Rattle.walk_laws.proofs.Whole.{walk_proved}

-- a listing that has an end alone
end_alone : (lines : List ℕ) (ending : Ending) (count : ℕ) → closes (first_walker [] lines) ending ≡ Finds (Attested count) →
    (lines ≡ ending_text ending) × (count ≡ 0)
end_alone lines ending count e =
    let Ended : ℕ → Type 0 = λ n. (lines ≡ ending_text ending) × (n ≡ 0) in
    subst (On (λ v. Unit {0}) Ended) e (on_closes (λ v. Unit {0}) Ended (first_walker [] lines) ending (λ settled text. (text, refl)))

pub attested : (C : Checker) → ReadingLaw C → JudgedLaws C → AttestedLaw C
attested C reading truth bytes lines count (of_cards fault is e) =
    let alone = end_alone lines (CardStop fault) count e in (
      record {
        reports = [];
        cards = [];
        ending = CardStop fault;
        runs = card_fault fault is;
        is_listing = alone.0;
        each = tt;
        unstopped = λ stop. let same = stop.1 in cc same;
      },
      sym alone.1,
    )
attested C reading truth bytes lines count (of_control fault is stops e) =
    let alone = end_alone lines (ControlStop fault) count e in (
      record {
        reports = [];
        cards = [];
        ending = ControlStop fault;
        runs = control_fault fault is stops;
        is_listing = alone.0;
        each = tt;
        unstopped = λ stop. let same = stop.1 in cc same;
      },
      sym alone.1,
    )
attested C reading truth bytes lines count (of_walk program w is_program come e) = walk_proved C reading truth bytes lines program is_program w count come e
