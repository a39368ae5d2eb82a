use Rattle.std.proofs.Common.{◌≡◌, ◌+◌, ◌∙◌, sym, ap, subst, true, false}
use Rattle.lp_definitions.specs.LinearProgram.{Matrix, size, value_at}
use Rattle.lp_definitions.specs.Basis.{IsDirectionOf, is_in}
use Rattle.eta_file.specs.Inverse.{IsAppended}
use Rattle.reinversion.proofs.Rebuilding.{some_leaver, rebuilt_more, entered}
use Rattle.reinversion.proofs.Keeping.{stop_kept}
use Rattle.reinversion.proofs.rebuild.enter.Goals as goal

pub returns-in-Err-clause-refused : goal.returns-in-Err-clause-refused
returns-in-Err-clause-refused c =
    rw c.kept.ensures
    (stop_kept c.args.old.now.matrix c.args.old.now.basics 0 c.args.new.now c.requires.rebuilt c.in-Err.stop c.in-Err.ensures.overflow)

pub leaver-p-requires-clause-some : goal.leaver-p-requires-clause-some
leaver-p-requires-clause-some c =
    let basic : is_in c.args.old.now.basics (c.args.old.now.matrix.rows + c.args.c) ≡ true =
    ap (λ m. is_in c.args.old.now.basics (m + c.args.c)) (sym c.rows.ensures) ∙ sym c.is_basic.ensures ∙ c.if-not-is_basic.false in
    let direction : IsDirectionOf c.args.old.now.matrix c.args.new.now.basics (c.args.old.now.matrix.rows + c.args.c) (value_at c.values.result.now) =
    subst (λ (m : Matrix). IsDirectionOf m c.args.new.now.basics (c.args.old.now.matrix.rows + c.args.c)
    (value_at c.values.result.now)) c.requires.rebuilt.same_matrix
    (subst (λ n. IsDirectionOf c.args.new.now.matrix c.args.new.now.basics (n + c.args.c) (value_at c.values.result.now)) c.rows.ensures
    (subst (λ xs. IsDirectionOf c.args.new.now.matrix c.args.new.now.basics (c.rows.result + c.args.c) (value_at xs))
    (sym c.values.ensures) c.in_default.ensures.direction)) in
    some_leaver c.args.old.now.matrix c.args.old.now.basics c.args.c c.args.new.now c.values.result.now c.size-size.ensures.nonsingular c.requires.column
    basic c.requires.rebuilt direction

pub returns-clause-keeps : goal.returns-clause-keeps
returns-clause-keeps c n h =
    let basic : is_in c.args.old.now.basics (c.args.old.now.matrix.rows + c.args.c) ≡ true =
    ap (λ m. is_in c.args.old.now.basics (m + c.args.c)) (sym c.rows.ensures) ∙ sym c.is_basic.ensures ∙ c.if-not-is_basic.false in
    let out : is_in c.args.new.now.basics (c.args.old.now.matrix.rows + c.args.c) ≡ false =
    ap (λ m. is_in c.args.new.now.basics (m + c.args.c)) (sym c.rows.ensures) ∙ sym c.is_basic-2.ensures ∙ c.if-is_basic.false in
    let more : IsAppended c.args.new.now c.leaver-p.result (c.args.old.now.matrix.rows + c.args.c) c.append_along.new.self =
    subst (λ n. IsAppended c.args.new.now c.leaver-p.result (n + c.args.c) c.append_along.new.self) c.rows.ensures c.in_ok-append_along.ensures.ok in
    rebuilt_more c.args.old.now.matrix c.args.old.now.basics c.args.c c.args.new.now c.append_along.new.self c.leaver-p.result c.requires.column basic out
    (c.size-new_size.ensures.nonsingular.counted ∙ ap size c.requires.rebuilt.same_matrix)
    c.leaver-p.ensures.is_row c.leaver-p.ensures.is_basic c.leaver-p.ensures.is_out c.size-new_size.ensures.basics more n h

pub returns-clause-entered : goal.returns-clause-entered
returns-clause-entered c basic =
    let out : is_in c.args.new.now.basics (c.args.old.now.matrix.rows + c.args.c) ≡ false =
    ap (λ m. is_in c.args.new.now.basics (m + c.args.c)) (sym c.rows.ensures) ∙ sym c.is_basic-2.ensures ∙ c.if-is_basic.false in
    let more : IsAppended c.args.new.now c.leaver-p.result (c.args.old.now.matrix.rows + c.args.c) c.append_along.new.self =
    subst (λ n. IsAppended c.args.new.now c.leaver-p.result (n + c.args.c) c.append_along.new.self) c.rows.ensures c.in_ok-append_along.ensures.ok in
    entered c.args.old.now.matrix c.args.old.now.basics c.args.c c.args.new.now c.append_along.new.self c.leaver-p.result c.requires.column basic out
    (c.size-new_size.ensures.nonsingular.counted ∙ ap size c.requires.rebuilt.same_matrix)
    c.leaver-p.ensures.is_row c.leaver-p.ensures.is_basic c.leaver-p.ensures.is_out c.size-new_size.ensures.basics more
