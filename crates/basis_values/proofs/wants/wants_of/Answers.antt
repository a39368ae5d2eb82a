use Rattle.std.proofs.Common.{◌≡◌, ◌++◌, ◌∷◌, [], ◌+◌, ℕ, ◌≤◌, rules, subst, sym}
use Rattle.std.specs.Prelude.{List}
use Rattle.lp_model.specs.Wanted.{wanted_at}
use Rattle.lp_model.specs.declared.wanted.Wanted.{Wanted}
use Rattle.basis_values.specs.Wants.{want_of}
use Rattle.basis_values.proofs.WantLaws.{wants_more}
use Rattle.basis_values.proofs.wants.wants_of.Goals as goal

pub loop-k-preserved : goal.loop-k-preserved
loop-k-preserved c =
    let pushed : c.push.new.self.items ≡ c.loop-k.wants.items ++ (c.want_of.result ∷ []) = search rules in
    record {
      places = search rules;
      each = subst (λ (ws : List Wanted). (j : ℕ) → 1 ≤ j → j ≤ c.loop-k.k + 1 → wanted_at ws j ≡ want_of c.args.lp.now c.args.basis.now j) (sym pushed)
          (wants_more c.args.lp.now c.args.basis.now c.loop-k.wants.items c.loop-k.k c.want_of.result (search rules) c.loop-k.invariant.each c.want_of.ensures);
    }
