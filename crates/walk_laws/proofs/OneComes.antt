-- Of each job and each listing one thing comes.
use Rattle.std.proofs.Common.{◌≡◌, ◌⊎◌, inl, inr, ℕ, zero, suc, ◌+◌, ◌≤◌, ◌<◌, List, [], Option, Some, None, Result, Ok, Err, refl, sym, ap, subst, ◌∙◌, arith}
use Rattle.std.proofs.Math.Nat.{eq-or-lt_of_le}
use Rattle.std.proofs.lemmas.Bool.{cases_lt}
use Rattle.card_definitions.specs.declared.CardFault.{CardFault}
use Rattle.card_definitions.specs.Cards.{Card, cards_of, job_fault}
use Rattle.control_definitions.specs.declared.ControlFault.{ControlFault}
use Rattle.control_definitions.specs.Program.{Program}
use Rattle.control_definitions.specs.Compiled.{compiled}
use Rattle.listing_definitions.specs.Ending.{ControlStop, CardStop}
use Rattle.run_definitions.specs.Answer.{job_decks}
use Rattle.run_definitions.specs.Run.{max_executed}
use Rattle.walk_definitions.specs.Checkers.{Checker}
use Rattle.walk_definitions.specs.Walker.{Walker, Found, WalkTurn, Walks, Finds, closes, turn}
use Rattle.walk_definitions.specs.Found.{first_walker, Reaches, begun, walked, EndsIn, of_cards, of_control, of_walk}
use Rattle.walk_laws.specs.Laws.{OneComesLaw}
use Rattle.walk_laws.proofs.Derivations.{CountsTurn, turn_counts, closes_finds, limit_finds}

-- one turn finds one thing
same_finding : (a b : WalkTurn) (found other : Found) → a ≡ b → a ≡ Finds found → b ≡ Finds other → other ≡ found
same_finding a b found other same first second = let e : Finds other ≡ Finds found = sym second ∙ sym same ∙ first in cc e

module _ (C : Checker) (program : Program) (decks : List (List Card)) (listing : List ℕ) where
  abbrev Arrives : Walker → Type 0
  Arrives w = Reaches C program decks listing w

  -- ---- at most one

  -- how many statements the walk has gone past
  abbrev steps : {w : Walker} → Arrives w → ℕ
  steps begun = 0
  steps (walked before is) = suc (steps before)

  same_turn : (w v next other : Walker) → w ≡ v → turn C program w ≡ Walks next → turn C program v ≡ Walks other → next ≡ other
  same_turn w v next other same first second = let e : Walks next ≡ Walks other = sym first ∙ ap (turn C program) same ∙ second in cc e

  -- after as many statements it is at the same walker
  same_walker : (w v : Walker) (first : Arrives w) (second : Arrives v) → steps first ≡ steps second → w ≡ v
  same_walker _ _ begun begun e = refl
  same_walker _ _ begun (walked before is) e = absurd (omega arith)
  same_walker _ _ (walked before is) begun e = absurd (omega arith)
  same_walker w v (walked {w = a} before is) (walked {w = b} earlier second) e = same_turn a b w v (same_walker a b before earlier (omega (arith, e))) is second

  record WalksOn (w : Walker) : Type 0 where
    next : Walker
    is : turn C program w ≡ Walks next

  -- after fewer it goes on
  walks_on : (w v : Walker) (first : Arrives w) (second : Arrives v) → steps first < steps second → WalksOn w
  walks_on _ _ first begun e = absurd (omega (arith, e))
  walks_on w v first (walked {w = u} before is) e = by (eq-or-lt_of_le {n = steps first} {m = steps before} (omega (arith, e))) (walks_on w u first before)
    where
      by : (steps first ≡ steps before) ⊎ (steps first < steps before) → (steps first < steps before → WalksOn w) → WalksOn w
      by (inl as_many) earlier = record { next = v; is = ap (turn C program) (same_walker w u first before as_many) ∙ is }
      by (inr fewer) earlier = earlier fewer

  -- where a walk finds something it doesn't go on
  ends_here : (w : Walker) (found : Found) → turn C program w ≡ Finds found → WalksOn w → ⊥
  ends_here w found finds on = let e : Finds found ≡ Walks on.next = sym finds ∙ on.is in cc e

  one_found : (w v : Walker) (found other : Found) → Arrives w → Arrives v → turn C program w ≡ Finds found → turn C program v ≡ Finds other → other ≡ found
  one_found w v found other first second finds finds' = by (cases_lt (steps first) (steps second))
    where
      by_more : (steps second ≡ steps first) ⊎ (steps second < steps first) → other ≡ found
      by_more (inl as_many) =
          same_finding (turn C program w) (turn C program v) found other (ap (turn C program) (same_walker w v first second (sym as_many))) finds finds'
      by_more (inr fewer) = absurd (ends_here v other finds' (walks_on v w second first fewer))

      by : (steps first < steps second) ⊎ (steps second ≤ steps first) → other ≡ found
      by (inl fewer) = absurd (ends_here w found finds (walks_on w v first second fewer))
      by (inr no_more) = by_more (eq-or-lt_of_le {n = steps second} {m = steps first} no_more)

  -- ---- at least one

  record FindsSome : Type 0 where
    walker : Walker
    found : Found
    reaches : Arrives walker
    finds : turn C program walker ≡ Finds found

  -- with so many statements left, or fewer
  finds_within : (room : ℕ) (w : Walker) → Arrives w → max_executed ≤ w.state.executed + room → FindsSome
  finds_within zero w reaches left =
      let h = limit_finds C program w (omega (arith, left)) in record { walker = w; found = h.found; reaches = reaches; finds = h.is }
  finds_within (suc room) w reaches left = by (turn C program w) refl (turn_counts C program w) (λ v reaches at. finds_within room v reaches at)
    where
      by : (next : WalkTurn) → turn C program w ≡ next → CountsTurn (w.state.executed + 1) next →
          ((v : Walker) → Arrives v → max_executed ≤ v.state.executed + room → FindsSome) → FindsSome
      by (Finds found) is counts later = record { walker = w; found = found; reaches = reaches; finds = is }
      by (Walks v) is counts later = later v (walked reaches is) (omega (arith, left, counts))

  finds_some : FindsSome
  finds_some = finds_within max_executed (first_walker decks listing) begun (omega arith)

-- ---- jobs

module _ (C : Checker) (bytes lines : List ℕ) where
  two_come : (found other : Found) → EndsIn C bytes lines found → EndsIn C bytes lines other → other ≡ found
  two_come found other (of_cards fault is finds) (of_cards fault' is' finds') =
      let e : Some fault ≡ Some fault' = sym is ∙ is' in
      let same : fault ≡ fault' = cc e in
      same_finding (closes (first_walker [] lines) (CardStop fault)) (closes (first_walker [] lines) (CardStop fault')) found other
      (ap (λ f. closes (first_walker [] lines) (CardStop f)) same) finds finds'
  two_come found other (of_cards fault is finds) (of_control fault' none is' finds') = let e : Some fault ≡ None = sym is ∙ none in absurd (cc e)
  two_come found other (of_cards fault is finds) (of_walk program w is_program reaches finds') =
      let e : Some fault ≡ None = sym is ∙ is_program.is_read in absurd (cc e)
  two_come found other (of_control fault none is finds) (of_cards fault' is' finds') = let e : Some fault' ≡ None = sym is' ∙ none in absurd (cc e)
  two_come found other (of_control fault none is finds) (of_control fault' none' is' finds') =
      let e : ◌≡◌ {A = Result Program ControlFault} (Err fault) (Err fault') = sym is ∙ is' in
      let same : fault ≡ fault' = cc e in
      same_finding (closes (first_walker [] lines) (ControlStop fault)) (closes (first_walker [] lines) (ControlStop fault')) found other
      (ap (λ f. closes (first_walker [] lines) (ControlStop f)) same) finds finds'
  two_come found other (of_control fault none is finds) (of_walk program w is_program reaches finds') =
      let e : ◌≡◌ {A = Result Program ControlFault} (Err fault) (Ok program) = sym is ∙ is_program.is_compiled in absurd (cc e)
  two_come found other (of_walk program w is_program reaches finds) (of_cards fault is finds') =
      let e : Some fault ≡ None = sym is ∙ is_program.is_read in absurd (cc e)
  two_come found other (of_walk program w is_program reaches finds) (of_control fault none is finds') =
      let e : ◌≡◌ {A = Result Program ControlFault} (Err fault) (Ok program) = sym is ∙ is_program.is_compiled in absurd (cc e)
  two_come found other (of_walk program w is_program reaches finds) (of_walk program' w' is_program' reaches' finds') =
      let e : ◌≡◌ {A = Result Program ControlFault} (Ok program') (Ok program) = sym is_program'.is_compiled ∙ is_program.is_compiled in
      let same : program' ≡ program = cc e in
      let moved : Reaches C program (job_decks program bytes) lines w' = subst (λ (x : Program). Reaches C x (job_decks x bytes) lines w') same reaches' in
      let found' : turn C program w' ≡ Finds other = subst (λ (x : Program). turn C x w' ≡ Finds other) same finds' in
      one_found C program (job_decks program bytes) lines w w' found other reaches moved finds found'

  record ComesSo : Type 0 where
    found : Found
    comes : EndsIn C bytes lines found

  one_comes : ComesSo
  one_comes = by_cards (job_fault bytes) refl
    where
      by_program : (r : Result Program ControlFault) → job_fault bytes ≡ None → compiled (cards_of bytes) ≡ r → ComesSo
      by_program (Err fault) none is =
          let h = closes_finds (first_walker [] lines) (ControlStop fault) in record { found = h.found; comes = of_control fault none is h.is }
      by_program (Ok program) none is =
          let h = finds_some C program (job_decks program bytes) lines in
          record { found = h.found; comes = of_walk program h.walker (record { is_read = none; is_compiled = is }) h.reaches h.finds }

      by_cards : (o : Option CardFault) → job_fault bytes ≡ o → ComesSo
      by_cards (Some fault) is = let h = closes_finds (first_walker [] lines) (CardStop fault) in record { found = h.found; comes = of_cards fault is h.is }
      by_cards None is = by_program (compiled (cards_of bytes)) is refl

pub one_comes_laws : (C : Checker) → OneComesLaw C
one_comes_laws C bytes lines =
    let one = one_comes C bytes lines in (one.found, one.comes, λ other comes. two_come C bytes lines one.found other one.comes comes)
