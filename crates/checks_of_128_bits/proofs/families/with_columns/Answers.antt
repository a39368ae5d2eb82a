use Rattle.std.proofs.Common.{◌≡◌, ◌<◌, ◌+◌, ◌++◌, ◌∷◌, [], map, ap, ◌∙◌, arith, rules}
use Rattle.lp_definitions.specs.LinearProgram.{LinearProgram, size, numbers_from, lower_of, upper_of}
use Rattle.checks_of_128_bits.specs.Making.{low_at, high_at}
use Rattle.checks_of_128_bits.proofs.Limits.{one_more, column_low, column_high}
use Rattle.checks_of_128_bits.proofs.families.with_columns.Goals as goal

pub loop-j-init : goal.loop-j-init
loop-j-init c = λ shift theta are.
    let p = c.args.lp.now in
    let begins : p.rows ≡ p.rows + 0 = omega arith in
    (are.lower ∙ ap (λ n. map (low_at p shift theta) (numbers_from 1 n)) begins, are.upper ∙ ap (λ n. map (high_at p shift theta) (numbers_from 1 n)) begins)

pub loop-j-preserved : goal.loop-j-preserved
loop-j-preserved c = λ shift theta are.
    let p = c.args.lp.now in
    let before = c.loop-j.invariant shift theta are in
    let rows : c.lp.inside.rows ≡ p.rows = ap (λ (p : LinearProgram). p.rows) c.lp.view_is in
    let k : c.lp.inside.rows + c.loop-j.j + 1 ≡ p.rows + c.loop-j.j + 1 = omega (arith, rows) in
    let more : p.rows < p.rows + c.loop-j.j + 1 = omega arith in
    let next : p.rows + c.loop-j.j + 1 ≡ p.rows + (c.loop-j.j + 1) = omega arith in
    let pushed_low : c.push.new.self.items ≡ c.loop-j.lower.items ++ (c.lower_limit.result ∷ []) = search rules in
    let pushed_high : c.push-in-loop-j.new.self.items ≡ c.loop-j.upper.items ++ (c.upper_limit.result ∷ []) = search rules in (
      pushed_low
          ∙ one_more (low_at p shift theta) c.loop-j.lower.items (p.rows + c.loop-j.j) c.lower_limit.result before.0
          (c.lower_limit.ensures ∙ ap (lower_of p) k ∙ column_low p shift theta (p.rows + c.loop-j.j + 1) more)
          ∙ ap (λ n. map (low_at p shift theta) (numbers_from 1 n)) next,
      pushed_high
          ∙ one_more (high_at p shift theta) c.loop-j.upper.items (p.rows + c.loop-j.j) c.upper_limit.result before.1
          (c.upper_limit.ensures ∙ ap (upper_of p) k ∙ column_high p shift theta (p.rows + c.loop-j.j + 1) more)
          ∙ ap (λ n. map (high_at p shift theta) (numbers_from 1 n)) next,
    )

pub returns : goal.returns
returns c = λ shift theta are.
    let p = c.args.lp.now in
    let before = c.loop-j.invariant shift theta are in
    let cols : c.lp.inside.cols ≡ p.cols = ap (λ (p : LinearProgram). p.cols) c.lp.view_is in
    let all : p.rows + c.loop-j.j ≡ size p.matrix = omega (arith, cols, c.loop-j-test.false, c.loop-j.auto.j-end) in
    record {
      lower = before.0 ∙ ap (λ n. map (low_at p shift theta) (numbers_from 1 n)) all;
      upper = before.1 ∙ ap (λ n. map (high_at p shift theta) (numbers_from 1 n)) all;
    }
