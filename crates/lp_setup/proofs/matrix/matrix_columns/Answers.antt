use Rattle.std.proofs.Common.{rules, ◌≡◌, ℕ, ◌++◌, ◌∷◌, [], List, Some, false, map, ap, sym, ◌∙◌, arith}
use Rattle.std.specs.Prelude.{Vec}
use Rattle.std.specs.declared.alloc.Global.{Global}
use Rattle.std.specs.List.{slice_get, list_any}
use Rattle.std.specs.Option.{option_map, is_some}
use Rattle.std.proofs.lemmas.List.{map_push}
use Rattle.std.proofs.lemmas.Option.{slice_get-map}
use Rattle.std.proofs.lemmas.Result.{err_from_is_err_and}
use Rattle.lp_definitions.specs.declared.Entry.{Entry}
use Rattle.lp_model.specs.Columns.{entries_of}
use Rattle.problem_definitions.specs.Problem.{Entry as Item, Group}
use Rattle.selection_definitions.specs.Selection.{coefficients}
use Rattle.selection_definitions.proofs.PlainRows.{plain_columns}
use Rattle.lp_setup.proofs.Columns.{columns_step, overflow_of_column, plain_made}
use Rattle.lp_setup.proofs.Lists.{grown, standing}
use Rattle.lp_setup.proofs.matrix.matrix_columns.Goals as goal

pub returns-then-not-has_combination-clause-matrix : goal.returns-then-not-has_combination-clause-matrix
returns-then-not-has_combination-clause-matrix c =
    let plain : list_any (λ row. is_some row.parts) c.args.rows.now ≡ false = sym c.has_combination.ensures ∙ c.if-not-has_combination.true in
    c.in_ok-given.ensures ∙ sym (plain_columns c.args.rows.now c.args.columns.now plain)

pub returns-then-not-has_combination-clause-made : goal.returns-then-not-has_combination-clause-made
returns-then-not-has_combination-clause-made c =
    plain_made c.args.rows.now c.args.columns.now (sym c.has_combination.ensures ∙ c.if-not-has_combination.true)

pub returns-in_err-numbers-clause-overflow : goal.returns-in_err-numbers-clause-overflow
returns-in_err-numbers-clause-overflow c =
    let column : Group (Item ℕ) = c.index-columns-place.result in
    let is_column : slice_get c.args.columns.now c.loop-place.place ≡ Some column =
    standing c.args.columns.now c.loop-place.place column c.loop-place-test.true c.index-columns-place.is in
    let p = err_from_is_err_and c.from_residual-in_err-numbers.result c.from_residual-in_err-numbers.ensures.1 in
    rw (p.1, p.2)
    (overflow_of_column c.args.rows.now c.args.columns.now c.loop-place.place column _ _ is_column (omega arith) c.in_err-numbers.ensures.overflow)

pub loop-place-preserved : goal.loop-place-preserved
loop-place-preserved c =
    let column : Group (Item ℕ) = c.index-columns-place.result in
    let is_column : slice_get c.args.columns.now c.loop-place.place ≡ Some column =
    standing c.args.columns.now c.loop-place.place column c.loop-place-test.true c.index-columns-place.is in
    let numbers : Group (Item ℕ) → List Entry = coefficients c.args.rows.now in
    let entries : Vec Entry Global → List Entry = λ v. v.items in
    let made : Vec Entry Global = c.in_ok-numbers.numbers in
    let pushed : c.push.new.self.items ≡ c.loop-place.matrix.items ++ (made ∷ []) = search rules in
    let next : slice_get (map numbers c.args.columns.now) c.loop-place.place ≡ Some made.items =
    slice_get-map numbers c.args.columns.now c.loop-place.place ∙ ap (option_map numbers) is_column ∙ ap Some (sym c.in_ok-numbers.ensures.numbers) in (
      ap entries_of pushed ∙ map_push entries c.loop-place.matrix.items made
          ∙ grown (map numbers c.args.columns.now) (entries_of c.loop-place.matrix.items) c.loop-place.place made.items c.loop-place.invariant.0 next,
      columns_step c.args.rows.now c.args.columns.now c.loop-place.place column is_column c.in_ok-numbers.ensures.made c.loop-place.invariant.1,
    )
