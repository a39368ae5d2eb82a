-- What is found of a choice, where the problem and the choice are read part by part.
use Rattle.std.proofs.Common.{◌≡◌, ℕ, Bool, List, Option, sym, ◌∙◌}
use Rattle.problem_definitions.specs.Names.{Name}
use Rattle.problem_definitions.specs.Problem.{Row, Entry, Group, Problem}
use Rattle.selection_definitions.specs.Choice.{Choice, objective_of, is_not_free, misses_set, rhs_items, set_items}

module _ (problem : Problem ℕ) (choice : Choice) (rows : List (Row ℕ)) (objective : Option Name) (is_rows : rows ≡ problem.rows)
    (is_objective : objective ≡ choice.objective) where
  pub number_found : (found : Option ℕ) → found ≡ objective_of rows objective → objective_of problem.rows choice.objective ≡ found
  number_found found e = sym (e ∙ (λ i. objective_of (is_rows i) (is_objective i)))

  pub free_found : (test answer : Bool) → test ≡ is_not_free rows objective → test ≡ answer → is_not_free problem.rows choice.objective ≡ answer
  free_found test answer e is = sym (e ∙ (λ i. is_not_free (is_rows i) (is_objective i))) ∙ is

module _ {X : Type 0} (sets read : List (Group X)) (chosen given : Option Name) (is_sets : read ≡ sets) (is_chosen : given ≡ chosen) where
  pub miss_found : (answer : Bool) → misses_set read given ≡ answer → misses_set sets chosen ≡ answer
  miss_found answer e = sym (λ i. misses_set (is_sets i) (is_chosen i)) ∙ e

  pub items_found : (items : List X) → items ≡ set_items read given → items ≡ set_items sets chosen
  items_found items e = e ∙ (λ i. set_items (is_sets i) (is_chosen i))

pub rhs_found : (sets read : List (Group (Entry ℕ))) (chosen given : Option Name) → read ≡ sets → given ≡ chosen → (items : List (Entry ℕ)) →
    items ≡ rhs_items read given → items ≡ rhs_items sets chosen
rhs_found sets read chosen given is_sets is_chosen items e = e ∙ (λ i. rhs_items (is_sets i) (is_chosen i))
