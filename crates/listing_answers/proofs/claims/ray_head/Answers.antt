use Rattle.std.proofs.Common.{Option, Bool, subst, sym}
use Rattle.listing_answers.specs.Words.{IsRayHeadRead}
use Rattle.listing_answers.proofs.Chains.{ray_head_read, ray_head_missing}
use Rattle.listing_answers.proofs.claims.ray_head.Goals as goal

pub returns-in_err-count_after : goal.returns-in_err-count_after
returns-in_err-count_after c =
    subst (λ (r : Option Bool). IsRayHeadRead c.args.cursor.now c.count_after.new.cursor r) (sym c.from_residual.ensures)
    (ray_head_missing c.args.cursor.now c.count_after.new.cursor c.in_err-count_after.ensures)

pub returns : goal.returns
returns c =
    ray_head_read c.in_ok-count_after.field-0 c.args.cursor.now c.count_after.new.cursor c.check_after.new.cursor c.check_after.result
    c.in_ok-count_after.ensures c.check_after.ensures
