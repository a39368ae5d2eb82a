-- The last row of a table.
use Rattle.std.proofs.Common.{◌≡◌, ◌-◌, suc, false, ◌&&◌, List, [], ◌∷◌, ◌++◌, Option, Some, None, map, length, is_some, unwrap_or, IfSome, refl, ap, subst}
use Rattle.std.proofs.Common.{◌∙◌, arith}
use Rattle.std.specs.List.{last_or, slice_get, IsDistinct, AllByRecursion}
use Rattle.std.specs.Map.{keys_of}
use Rattle.std.specs.Option.{option_map, option_to_list}
use Rattle.card_definitions.specs.Fields.{Reading}
use Rattle.problem_definitions.specs.Names.{Name, same}
use Rattle.problem_definitions.specs.Problem.{has_row}
use Rattle.problem_definitions.proofs.Names.{same_sym}
use Rattle.deck_definitions.specs.DataCards.{is_card_of, goes_on_last}
use Rattle.named_problem.specs.declared.rows.RowBody.{RowBody}
use Rattle.named_problem.specs.Bodies.{row_at}

last_at : (o : Option (Name × RowBody)) (e : Name × RowBody) (es : List (Name × RowBody)) →
    last_or (option_map row_at o) (map row_at (e ∷ es)) ≡ option_map row_at (slice_get (e ∷ es) (length es))
last_at o e [] = refl
last_at o e (next ∷ es) = last_at (Some e) next es

last_is : (es : List (Name × RowBody)) → last_or None (map row_at es) ≡ option_map row_at (slice_get es (length es - 1))
last_is [] = refl
last_is (e ∷ es) = last_at None e es ∙ ap (λ n. option_map row_at (slice_get (e ∷ es) n)) one_less
  where
    one_less : length es ≡ suc (length es) - 1
    one_less = omega arith

-- whether a card goes on with the last row, by what stands last
pub goes_on-at : (es : List (Name × RowBody)) (card : Reading) (o : Option (Name × RowBody)) → slice_get es (length es - 1) ≡ o
    → goes_on_last (map row_at es) card ≡ unwrap_or (option_map (λ e. is_some e.1.parts && is_card_of e.1.kind e.0 card) o) false
goes_on-at es card o at =
    ap (λ last. unwrap_or (option_map (λ row. is_some row.parts && is_card_of row.kind row.name card) last) false) (last_is es ∙ ap (option_map row_at) at)
    ∙ by o
  where
    by : (o : Option (Name × RowBody)) →
        unwrap_or (option_map (λ row. is_some row.parts && is_card_of row.kind row.name card) (option_map row_at o)) false ≡ unwrap_or
        (option_map (λ e. is_some e.1.parts && is_card_of e.1.kind e.0 card) o) false
    by None = refl
    by (Some e) = refl

-- among distinct names, no other row has the name of the last
apart : (first : Name) (es : List (Name × RowBody)) (e : Name × RowBody) → AllByRecursion (λ other. same first other ≡ false) (keys_of (es ++ e ∷ [])) →
    same first e.0 ≡ false
apart first [] e h = h.0
apart first (next ∷ es) e h = apart first es e h.1

pub last_apart : (es : List (Name × RowBody)) (e : Name × RowBody) → IsDistinct same (keys_of (es ++ e ∷ [])) → has_row (map row_at es) e.0 ≡ false
unfolding IsDistinct
last_apart [] e distinct = refl
last_apart (first ∷ es) e distinct = rw (same_sym e.0 first.0, apart first.0 es e distinct.0) (last_apart es e distinct.1)

-- nor has it where the last was taken out
pub popped_apart : (old new : List (Name × RowBody)) (o : Option (Name × RowBody)) → IsDistinct same (keys_of old) → old ≡ new ++ option_to_list o →
    IfSome o (λ row. has_row (map row_at new) row.0 ≡ false)
popped_apart old new None distinct is = tt
popped_apart old new (Some e) distinct is = last_apart new e (subst (λ es. IsDistinct same (keys_of es)) is distinct)
