-- The tests of one or two pairs, of which the second sees what the first has done.
use Rattle.std.proofs.Common.{◌≡◌, ℕ, ◌+◌, ◌-◌, Bool, true, false, cond, ◌||◌, List, [], ◌∷◌, ◌++◌, Option, Some, None, length, map, refl, ap, ap₂, sym, ◌∙◌}
use Rattle.std.proofs.Common.{subst, arith}
use Rattle.std.specs.Option.{option_or, option_to_list}
use Rattle.std.proofs.lemmas.List.{length-append, length-map}
use Rattle.std.proofs.lemmas.List.Folds.{list_any-append}
use Rattle.problem_definitions.specs.Names.{Name, same}
use Rattle.problem_definitions.specs.Problem.{Row, Problem, Entry, has_entry}
use Rattle.problem_definitions.proofs.Names.{same_eq}
use Rattle.deck_definitions.specs.declared.DeckFaultKind.{DeckFaultKind}
use Rattle.deck_definitions.specs.declared.Section.{Section}
use Rattle.deck_definitions.specs.declared.Section.TheVariants.{Rows}
use Rattle.deck_definitions.specs.DataCards.{Pair, entry_of}
use Rattle.deck_definitions.specs.Tests.{pairs_fault}
use Rattle.deck_definitions.proofs.Pairs.{pairs_fault-cons}
use Rattle.named_problem.specs.Views.{rows_alone}
use Rattle.revise_definitions.specs.Edits.{put_entry}
use Rattle.revise_definitions.specs.Tests.{puts_fault}
use Rattle.revise_definitions.proofs.Pairs.{puts_fault-cons}
use Rattle.revise_edits.specs.EditTests.{put_test, pair_test}
use Rattle.card_definitions.proofs.FirstFaults.{or_none}

or_turned : (a b : Bool) → (a || (b || false)) ≡ (b || a)
or_turned true true = refl
or_turned true false = refl
or_turned false true = refl
or_turned false false = refl

-- whether an item stands on a row, once an entry is put
put-there : (items : List (Entry Name)) (entry : Entry Name) (row : Name) → has_entry (put_entry items entry) row ≡ (same row entry.row || has_entry items row)
put-there items entry row = by (has_entry items entry.row) refl
  where
    kept : (list : List (Entry Name)) → has_entry (map (λ other. cond (same entry.row other.row) entry other) list) row ≡ has_entry list row
    kept [] = refl
    kept (other ∷ list) = ap₂ (λ a b. a || b) (one (same entry.row other.row) refl) (kept list)
      where
        one : (b : Bool) → same entry.row other.row ≡ b → same row (cond b entry other).row ≡ same row other.row
        one true e = ap (same row) (same_eq entry.row other.row e)
        one false e = refl

    already : (b : Bool) → same row entry.row ≡ b → has_entry items entry.row ≡ true → has_entry items row ≡ (b || has_entry items row)
    already true e there = subst (λ r. has_entry items r ≡ true) (sym (same_eq row entry.row e)) there
    already false e there = refl

    by : (b : Bool) → has_entry items entry.row ≡ b →
        has_entry (cond b (map (λ other. cond (same entry.row other.row) entry other) items) (items ++ entry ∷ [])) row ≡
        (same row entry.row || has_entry items row)
    by true there = kept items ∙ already (same row entry.row) refl there
    by false absent = list_any-append (λ e. same row e.row) items (entry ∷ []) ∙ or_turned (has_entry items row) (same row entry.row)

put-more : (items : List (Entry Name)) (entry : Entry Name) → length (put_entry items entry) - length items ≡ cond (has_entry items entry.row) 0 1
put-more items entry = by (has_entry items entry.row)
  where
    by : (b : Bool) → length (cond b (map (λ other. cond (same entry.row other.row) entry other) items) (items ++ entry ∷ [])) - length items ≡ cond b 0 1
    by true = omega (arith, length-map items (λ other. cond (same entry.row other.row) entry other))
    by false = omega (arith, length-append items (entry ∷ []))

module _ (seen : Problem Name) (section : Section) (items : List (Entry Name)) (count : ℕ) where
  pub puts_one : (pair : Pair) → puts_fault seen section items count (pair ∷ []) ≡ put_test seen section (has_entry items pair.row) count pair
  puts_one pair = puts_fault-cons seen section items count pair [] ∙ or_none (put_test seen section (has_entry items pair.row) count pair)

  pub puts_two : (pair other : Pair) → puts_fault seen section items count (pair ∷ other ∷ [])
      ≡ option_or (put_test seen section (has_entry items pair.row) count pair)
      (put_test seen section (same other.row pair.row || has_entry items other.row) (count + cond (has_entry items pair.row) 0 1) other)
  puts_two pair other =
      puts_fault-cons seen section items count pair (other ∷ [])
      ∙ ap (option_or (put_test seen section (has_entry items pair.row) count pair))
      (puts_fault-cons seen section (put_entry items (entry_of pair)) (count + (length (put_entry items (entry_of pair)) - length items)) other []
      ∙ or_none (put_test seen section (has_entry (put_entry items (entry_of pair)) other.row)
      (count + (length (put_entry items (entry_of pair)) - length items)) other)
      ∙ ap₂ (λ there more. put_test seen section there (count + more) other) (put-there items (entry_of pair) other.row) (put-more items (entry_of pair)))

  -- the fault that was found of two pairs, or of one
  pub puts_found_two : (whole fault more_fault : Option DeckFaultKind) (there second : Bool) (more : ℕ) (pair other : Pair) (pairs : List Pair)
      → whole ≡ option_or fault more_fault
      → fault ≡ put_test seen section there count pair → there ≡ has_entry items pair.row → more_fault ≡ put_test seen section second more other
      → second ≡ (same other.row pair.row || has_entry items other.row) → more ≡ count + cond there 0 1 → pairs ≡ pair ∷ other ∷ []
      → whole ≡ puts_fault seen section items count pairs
  puts_found_two whole fault more_fault there second more pair other pairs w f t o s m p =
      w ∙ ap₂ option_or (f ∙ ap (λ b. put_test seen section b count pair) t)
      (o ∙ ap (λ n. put_test seen section second n other) m ∙ ap₂ (λ a b. put_test seen section a (count + cond b 0 1) other) s t)
      ∙ sym (ap (puts_fault seen section items count) p ∙ puts_two pair other)

  pub puts_found_one : (fault : Option DeckFaultKind) (there : Bool) (pair : Pair) (pairs : List Pair) → fault ≡ put_test seen section there count pair
      → there ≡ has_entry items pair.row → pairs ≡ pair ∷ []
      → fault ≡ puts_fault seen section items count pairs
  puts_found_one fault there pair pairs f t p =
      f ∙ ap (λ b. put_test seen section b count pair) t ∙ sym (ap (puts_fault seen section items count) p ∙ puts_one pair)

module _ (seen : Problem Name) (section : Section) (taken : List (Entry Name)) (count : ℕ) where
  pub pairs_one : (pair : Pair) → pairs_fault seen section taken count (pair ∷ []) ≡ pair_test seen section (has_entry taken pair.row) count pair
  pairs_one pair = pairs_fault-cons seen section taken count pair [] ∙ or_none (pair_test seen section (has_entry taken pair.row) count pair)

  pub pairs_two : (pair other : Pair) → pairs_fault seen section taken count (pair ∷ other ∷ [])
      ≡ option_or (pair_test seen section (has_entry taken pair.row) count pair)
      (pair_test seen section (same other.row pair.row || has_entry taken other.row) (count + 1) other)
  pairs_two pair other =
      pairs_fault-cons seen section taken count pair (other ∷ [])
      ∙ ap (option_or (pair_test seen section (has_entry taken pair.row) count pair))
      (pairs_fault-cons seen section (taken ++ entry_of pair ∷ []) (count + 1) other []
      ∙ or_none (pair_test seen section (has_entry (taken ++ entry_of pair ∷ []) other.row) (count + 1) other)
      ∙ ap (λ there. pair_test seen section there (count + 1) other)
      (list_any-append (λ e. same other.row e.row) taken (entry_of pair ∷ []) ∙ or_turned (has_entry taken other.row) (same other.row pair.row)))

  pub pairs_found_two : (whole fault more_fault : Option DeckFaultKind) (there second : Bool) (pair other : Pair) (pairs : List Pair)
      → whole ≡ option_or fault more_fault
      → fault ≡ pair_test seen section there count pair → there ≡ has_entry taken pair.row → more_fault ≡ pair_test seen section second (count + 1) other
      → second ≡ (same other.row pair.row || has_entry taken other.row) → pairs ≡ pair ∷ other ∷ [] → whole ≡ pairs_fault seen section taken count pairs
  pairs_found_two whole fault more_fault there second pair other pairs w f t o s p =
      w ∙ ap₂ option_or (f ∙ ap (λ b. pair_test seen section b count pair) t) (o ∙ ap (λ b. pair_test seen section b (count + 1) other) s)
      ∙ sym (ap (pairs_fault seen section taken count) p ∙ pairs_two pair other)

  pub pairs_found_one : (fault : Option DeckFaultKind) (there : Bool) (pair : Pair) (pairs : List Pair) → fault ≡ pair_test seen section there count pair
      → there ≡ has_entry taken pair.row → pairs ≡ pair ∷ []
      → fault ≡ pairs_fault seen section taken count pairs
  pairs_found_one fault there pair pairs f t p =
      f ∙ ap (λ b. pair_test seen section b count pair) t ∙ sym (ap (pairs_fault seen section taken count) p ∙ pairs_one pair)

-- parts that replace or are added, of which each is tested by itself
pub put_parts : (rows : List (Row Name)) (one other : Option Pair)
    → puts_fault (rows_alone rows) Rows [] 0 (option_to_list one ++ option_to_list other) ≡ option_or
    (puts_fault (rows_alone rows) Rows [] 0 (option_to_list one)) (puts_fault (rows_alone rows) Rows [] 0 (option_to_list other))
put_parts rows None other = refl
put_parts rows (Some one) None = sym (or_none (puts_fault (rows_alone rows) Rows [] 0 (one ∷ [])))
put_parts rows (Some one) (Some other) =
    puts_two (rows_alone rows) Rows [] 0 one other ∙ sym (ap₂ option_or (puts_one (rows_alone rows) Rows [] 0 one) (puts_one (rows_alone rows) Rows [] 0 other))
