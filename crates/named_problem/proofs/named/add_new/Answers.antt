use Rattle.std.proofs.Common.{◌≡◌, ◌++◌, ◌∷◌, [], None, Some, sym, ap, subst, ◌∙◌}
use Rattle.indexmap.specs.Entry.{map_with_value, entry_map_ref, entry_key, MatchEntry}
use Rattle.indexmap.specs.IndexMap.{get, get_key, ContainsKey}
use Rattle.indexmap.proofs.CallerLemmas.{insert_entry-new}
use Rattle.problem_definitions.specs.Names.{same}
use Rattle.named_problem.proofs.named.add_new.Goals as goal

pub returns-in-Vacant-clause-added : goal.returns-in-Vacant-clause-added
returns-in-Vacant-clause-added g c =
    λ h.
    let none =
    subst (λ e. MatchEntry e (ContainsKey same c.args.values.now c.args.name × (get_key same c.args.values.now c.args.name ≡ Some (entry_key e)))
    (get same c.args.values.now c.args.name ≡ None)) c.in-Vacant.is c.in_ok-values.ensures.found in
    let own = sym (ap (λ e. (entry_map_ref e).ghost_name) (sym c.in-Vacant.is) ∙ c.in_ok-values.ensures.same_map) in
    ap (λ m. m.entries) (c.values-in-Vacant-2-1.given.1 own) ∙ ap (λ e. (map_with_value e c.insert.result.now).entries) (sym c.in-Vacant.is)
    ∙ c.in_ok-values.ensures.update.1 c.insert.result.now ∙ insert_entry-new same c.args.values.now c.args.name c.insert.result.now none
    ∙ ap (λ v. c.args.values.now.entries ++ (c.args.name, v) ∷ []) c.insert.ensures.value
