-- The text of the generated deck, from each of its parts on.
use Rattle.std.proofs.Common.{◌≡◌, ℕ, List, [], ◌∷◌, ◌++◌, map, codes, refl, ap, ◌∙◌, sym, append_assoc}
use Rattle.std.specs.List.{flat_map}
use Rattle.std.proofs.lemmas.List.{append-nil}
use Rattle.std.proofs.lemmas.List.Concat.{flat_map-append}
use Rattle.problem_definitions.specs.declared.RowKind.TheVariants.{N, L, G}
use Rattle.problem_definitions.specs.Problem.{plain_row}
use Rattle.deck_definitions.specs.Written.{data_card, row_card, card_text}
use Rattle.deck_definitions.specs.Transport.{up_to, source, destination, item_card, route_cards, program_cards, deck_fields, made_job}
use Rattle.bcd_out.specs.Lines.{line}
use Rattle.generated_job.proofs.Numbered.{cards_then}

abbrev source_cards : ℕ → List (List ℕ)
source_cards n = map (λ i. row_card (plain_row L (source i))) (up_to n)

abbrev destination_cards : ℕ → List (List ℕ)
destination_cards n = map (λ j. row_card (plain_row G (destination j))) (up_to n)

abbrev column_cards : ℕ → List (List ℕ)
column_cards n = flat_map (λ i. flat_map (λ j. route_cards i j) (up_to n)) (up_to n)

abbrev supply_cards : ℕ → List (List ℕ)
supply_cards n = map (λ i. item_card (codes "RHS") (source i) 10) (up_to n)

abbrev demand_cards : ℕ → List (List ℕ)
demand_cards n = map (λ j. item_card (codes "RHS") (destination j) 10) (up_to n)

abbrev pub from_demands : ℕ → List ℕ
from_demands n = card_text (demand_cards n) ++ line (codes "ENDATA")

abbrev pub from_supplies : ℕ → List ℕ
from_supplies n = card_text (supply_cards n) ++ from_demands n

abbrev pub from_rhs : ℕ → List ℕ
from_rhs n = line (codes "RHS") ++ from_supplies n

abbrev pub from_routes : ℕ → List ℕ
from_routes n = card_text (column_cards n) ++ from_rhs n

abbrev pub from_columns : ℕ → List ℕ
from_columns n = line (codes "COLUMNS") ++ from_routes n

abbrev pub from_destinations : ℕ → List ℕ
from_destinations n = card_text (destination_cards n) ++ from_columns n

abbrev pub from_sources : ℕ → List ℕ
from_sources n = card_text (source_cards n) ++ from_destinations n

head_lines : codes "NAME          TRANSP\nROWS\n N  COST\n" ≡ line (codes "NAME          TRANSP") ++
    (line (codes "ROWS") ++ line (row_card (plain_row N (codes "COST"))))
unfolding data_card
head_lines = refl

parts : (n r k c s e : List ℕ) (ls gs cs ss ds : List (List ℕ)) →
    (line n ++ (line r ++ line k)) ++ (card_text ls ++ (card_text gs ++ (line c ++ (card_text cs ++ (line s ++ (card_text ss ++ (card_text ds ++ line e)))))))
    ≡ card_text (n ∷ r ∷ k ∷ (ls ++ gs ++ c ∷ (cs ++ s ∷ (ss ++ ds ++ e ∷ []))))
parts n r k c s e ls gs cs ss ds = simp (flat_map-append, append_assoc, append-nil)

-- the text of the deck
pub deck_text : (n : ℕ) → codes "NAME          TRANSP\nROWS\n N  COST\n" ++ from_sources n ≡ card_text (deck_fields n)
deck_text n =
    ap (λ head. head ++ from_sources n) head_lines
    ∙ parts (codes "NAME          TRANSP") (codes "ROWS") (row_card (plain_row N (codes "COST"))) (codes "COLUMNS") (codes "RHS") (codes "ENDATA")
    (source_cards n) (destination_cards n) (column_cards n) (supply_cards n) (demand_cards n)

-- the text of the job
pub job_text : (n : ℕ) → card_text program_cards ++ card_text (deck_fields n) ≡ made_job n
unfolding made_job
job_text n = sym (cards_then program_cards (deck_fields n))
