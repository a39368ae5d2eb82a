-- The number of the items under all names.
use Rattle.std.proofs.Common.{◌≡◌, ℕ, zero, suc, ◌+◌, ◌-◌, ◌*◌, ◌≤◌, Bool, true, false, cond, not, List, [], ◌∷◌, Some, length, map, insert, unwrap_or, refl}
use Rattle.std.proofs.Common.{ap, sym, subst, arith}
use Rattle.std.specs.List.{sum_by}
use Rattle.std.specs.Map.{lookup}
use Rattle.std.proofs.lemmas.List.{length-map}
use Rattle.std.proofs.lemmas.List.Sums.{sum_by-cons}
use Rattle.indexmap.specs.IndexMap.{insert_entry, shift_remove_entry}
use Rattle.card_definitions.specs.Words.{is_empty}
use Rattle.problem_definitions.specs.Names.{Name, same}
use Rattle.problem_definitions.specs.Problem.{Group}
use Rattle.problem_definitions.specs.Groups.{filled}
use Rattle.named_problem.specs.Views.{group_at}
use Rattle.named_problem.specs.Views.{AreShort, IsPut, IsCountBefore}

-- the sets without items have none to count
pub total-filled : {X : Type 0} (groups : List (Group X)) → sum_by (λ group. length group.items) (filled groups) ≡ sum_by (λ group. length group.items) groups
total-filled [] = refl
total-filled {X = X} (group ∷ groups) = by group.items (total-filled groups)
  where
    by : (items : List X) → sum_by (λ group. length group.items) (filled groups) ≡ sum_by (λ group. length group.items) groups
        → sum_by (λ group. length group.items) (filled (record { name = group.name; items = items } ∷ groups)) ≡ sum_by (λ group. length group.items)
        (record { name = group.name; items = items } ∷ groups)
    by [] more = omega (arith, more, sum_by-cons (λ group. length group.items) (record { name = group.name; items = [] }) groups)
    by (item ∷ items) more =
        let whole : Group X = record { name = group.name; items = item ∷ items } in
        omega (arith, more, sum_by-cons (λ group. length group.items) whole groups, sum_by-cons (λ group. length group.items) whole (filled groups))

module _ {X : Type 0} where
  abbrev pub total : List (Name × List X) → ℕ
  total es = sum_by (λ group. length group.items) (map group_at es)

  abbrev pub under : Name → List (Name × List X) → List X
  under name es = unwrap_or (lookup (same name) es) []

  cons : (e : Name × List X) (es : List (Name × List X)) → total (e ∷ es) ≡ length e.1 + total es
  cons e es = sum_by-cons (λ group. length group.items) (group_at e) (map group_at es)

  total-put : (name : Name) (v : List X) (es : List (Name × List X)) → total (insert_entry same es name v) + length (under name es) ≡ total es + length v
  total-put name v [] = omega (arith, cons (name, v) [])
  total-put name v (e ∷ es) = by (same name e.0) (total-put name v es)
    where
      by : (b : Bool) → total (insert_entry same es name v) + length (under name es) ≡ total es + length v →
          total (cond b ((e.0, v) ∷ es) (e ∷ insert_entry same es name v)) + length (unwrap_or (cond b (Some e.1) (lookup (same name) es)) []) ≡ total
          (e ∷ es) + length v
      by true more = omega (arith, cons (e.0, v) es, cons e es)
      by false more = omega (arith, cons e (insert_entry same es name v), cons e es, more)

  total-removed : (name : Name) (es : List (Name × List X)) → total (shift_remove_entry (same name) es) + length (under name es) ≡ total es
  total-removed name [] = refl
  total-removed name (e ∷ es) = by (same name e.0) (total-removed name es)
    where
      by : (b : Bool) → total (shift_remove_entry (same name) es) + length (under name es) ≡ total es →
          total (cond b es (e ∷ shift_remove_entry (same name) es)) + length (unwrap_or (cond b (Some e.1) (lookup (same name) es)) []) ≡ total (e ∷ es)
      by true more = omega (arith, cons e es)
      by false more = omega (arith, cons e (shift_remove_entry (same name) es), cons e es, more)

  total-placed : (es : List (Name × List X)) (place : ℕ) (e : Name × List X) → total (insert es place e) ≡ total es + length e.1
  total-placed es zero e = omega (arith, cons e es)
  total-placed [] (suc place) e = omega (arith, cons e [])
  total-placed (d ∷ es) (suc place) e = omega (arith, cons d (insert es place e), cons d es, total-placed es place e)

  -- the count is kept with what is put, taken out or placed
  pub count_removed : (name : Name) (es after : List (Name × List X)) (count before less : ℕ) → count ≡ total es → after ≡ shift_remove_entry (same name) es →
      before ≡ length (under name es) → less ≡ count - before → less ≡ total after
  count_removed name es after count before less c a b l =
      let shrunk : total after ≡ total (shift_remove_entry (same name) es) = ap total a in
      omega (arith, c, b, l, shrunk, total-removed name es)

  pub count_placed : (es after : List (Name × List X)) (place : ℕ) (name : Name) (v : List X) (count more added : ℕ) → count ≡ total es →
      after ≡ insert es place (name, v) → added ≡ length v → more ≡ count + added → more ≡ total after
  count_placed es after place name v count more added c a l m =
      let grown : total after ≡ total (insert es place (name, v)) = ap total a in
      omega (arith, c, l, m, grown, total-placed es place (name, v))

  -- ---- counts of 64 bits

  -- so many groups have so many items at most
  short-total : (groups : List (Group X)) → AreShort groups → sum_by (λ group. length group.items) groups ≤ length groups * 18446744073709551615
  short-total [] are = omega arith
  short-total (group ∷ groups) are = omega (arith, are.0, short-total groups are.1, sum_by-cons (λ group. length group.items) group groups)

  -- a count of 128 bits tells how many items stand under all names
  pub total_fits : (es : List (Name × List X)) (count : ℕ) → AreShort (map group_at es) → count ≡ length es → count ≤ 18446744073709551615 →
      total es ≤ 340282366920938463426481119284349108225
  total_fits es count are counts few = omega (arith, short-total (map group_at es) are, length-map es group_at, counts, few)

  short-put : (name : Name) (v : List X) (es : List (Name × List X)) → length v ≤ 18446744073709551615 → AreShort (map group_at es) →
      AreShort (map group_at (insert_entry same es name v))
  short-put name v [] short are = (short, tt)
  short-put name v (e ∷ es) short are = by (same name e.0) (short-put name v es short are.1)
    where
      by : (b : Bool) → AreShort (map group_at (insert_entry same es name v)) →
          AreShort (map group_at (cond b ((e.0, v) ∷ es) (e ∷ insert_entry same es name v)))
      by true more = (short, are.1)
      by false more = (are.0, more)

  -- the count and its bounds, where items are put under a name
  pub put_kept : (name : Name) (v : List X) (es new : List (Name × List X)) (count before after : ℕ) → count ≡ total es → AreShort (map group_at es) →
      IsPut name v es new before after → IsCountBefore (map group_at new) count before after
  put_kept name v es new count before after counts are is few =
      let grown : total new ≡ total (insert_entry same es name v) = ap total is.0 in
      let was = is.1 in
      let now = is.2 in
      let short : length v ≤ 18446744073709551615 = omega (arith, now, few) in (
        omega (arith, counts, was, now, grown, total-put name v es),
        omega (arith, counts, was, total-removed name es),
        subst (λ list. AreShort (map group_at list)) (sym is.0) (short-put name v es short are),
      )

  short-placed : (es : List (Name × List X)) (place : ℕ) (e : Name × List X) → length e.1 ≤ 18446744073709551615 → AreShort (map group_at es) →
      AreShort (map group_at (insert es place e))
  short-placed es zero e short are = (short, are)
  short-placed [] (suc place) e short are = (short, tt)
  short-placed (d ∷ es) (suc place) e short are = (are.0, short-placed es place e short are.1)

  pub short_placed : (es after : List (Name × List X)) (place : ℕ) (name : Name) (v : List X) (added : ℕ) → AreShort (map group_at es) →
      after ≡ insert es place (name, v) → added ≡ length v → added ≤ 18446744073709551615 → AreShort (map group_at after)
  short_placed es after place name v added are is counts few =
      let short : length v ≤ 18446744073709551615 = omega (arith, counts, few) in
      subst (λ list. AreShort (map group_at list)) (sym is) (short-placed es place (name, v) short are)

  pub short-removed : (name : Name) (es : List (Name × List X)) → AreShort (map group_at es) → AreShort (map group_at (shift_remove_entry (same name) es))
  short-removed name [] are = tt
  short-removed name (e ∷ es) are = by (same name e.0) (short-removed name es are.1)
    where
      by : (b : Bool) → AreShort (map group_at (shift_remove_entry (same name) es)) →
          AreShort (map group_at (cond b es (e ∷ shift_remove_entry (same name) es)))
      by true more = are.1
      by false more = (are.0, more)

  pub short-filled : (groups : List (Group X)) → AreShort groups → AreShort (filled groups)
  short-filled [] are = tt
  short-filled (group ∷ groups) are = by (not (is_empty group.items)) (short-filled groups are.1)
    where
      by : (b : Bool) → AreShort (filled groups) → AreShort (cond b (group ∷ filled groups) (filled groups))
      by true more = (are.0, more)
      by false more = more
