use Rattle.std.proofs.Common.{rules, ◌≡◌, ℕ, ◌<◌, ◌++◌, ◌∷◌, [], List, Some, map, length, ap, sym, ◌∙◌}
use Rattle.std.specs.Prelude.{Vec}
use Rattle.std.specs.declared.alloc.Global.{Global}
use Rattle.std.specs.List.{slice_get}
use Rattle.std.specs.Option.{option_map}
use Rattle.std.proofs.lemmas.List.{map_push}
use Rattle.std.proofs.lemmas.Option.{slice_get-map}
use Rattle.lp_definitions.specs.declared.Entry.{Entry}
use Rattle.lp_model.specs.Columns.{entries_of}
use Rattle.problem_definitions.specs.Problem.{Entry as Item, Group}
use Rattle.selection_definitions.specs.Selection.{entered}
use Rattle.lp_setup.proofs.Lists.{grown, standing}
use Rattle.lp_setup.proofs.matrix.given_columns.Goals as goal

pub loop-column-preserved : goal.loop-column-preserved
loop-column-preserved c =
    let coefficients : Group (Item ℕ) → List Entry = λ column. entered column.items in
    let entries : Vec Entry Global → List Entry = λ v. v.items in
    let made : Vec Entry Global = c.in_ok-given_numbers.field-0 in
    let pushed : c.push.new.self.items ≡ c.loop-column.matrix.items ++ (made ∷ []) = search rules in
    let below : c.loop-column.column-index < length c.args.columns.now = search rules in
    let next : slice_get (map coefficients c.args.columns.now) c.loop-column.column-index ≡ Some made.items =
    slice_get-map coefficients c.args.columns.now c.loop-column.column-index
    ∙ ap (option_map coefficients) (standing c.args.columns.now c.loop-column.column-index c.column-item.result below c.column-item.is)
    ∙ ap Some (sym c.in_ok-given_numbers.ensures) in
    ap entries_of pushed ∙ map_push entries c.loop-column.matrix.items made
    ∙ grown (map coefficients c.args.columns.now) (entries_of c.loop-column.matrix.items) c.loop-column.column-index made.items c.loop-column.invariant next
