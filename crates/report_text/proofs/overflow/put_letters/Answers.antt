use Rattle.std.proofs.Common.{◌++◌, ◌≡◌, length, arith}
use Rattle.std.specs.List.{flat_map}
use Rattle.std.proofs.lemmas.Result.{err_from_is_err_and}
use Rattle.job_devices.proofs.TextLemmas.{writes_then, writes_more, writes_same}
use Rattle.report_text.specs.Views.{letters_of}
use Rattle.report_text.proofs.Overflows.{letters_in_pieces, no_letters_left}
use Rattle.report_text.proofs.overflow.put_letters.Goals as goal

pub loop-rest-preserved : goal.loop-rest-preserved
loop-rest-preserved g c =
    let f = letters_of g.T.Lettered.letter_of in
    let so_far = c.loop-rest.invariant in (
      so_far.0 ++ flat_map f c.split_at.result.0.now,
      letters_in_pieces f so_far.0
          (flat_map f c.args.items.now) c.loop-rest.rest.now c.split_at.result.0.now c.split_at.result.1.now c.split_at.ensures.by_index.0 so_far.1,
      writes_then so_far.2 c.in_ok-put_piece.ensures,
    )

pub returns-in_err-put_piece : goal.returns-in_err-put_piece
returns-in_err-put_piece g c =
    let f = letters_of g.T.Lettered.letter_of in
    let so_far = c.loop-rest.invariant in
    let p = err_from_is_err_and c.from_residual.result c.from_residual.ensures.1 in
    rw (p.1, p.2)
    (writes_same
    (letters_in_pieces f so_far.0
    (flat_map f c.args.items.now) c.loop-rest.rest.now c.split_at.result.0.now c.split_at.result.1.now c.split_at.ensures.by_index.0 so_far.1)
    (writes_more (flat_map f c.split_at.result.1.now) (writes_then so_far.2 c.in_err-put_piece.ensures)))

pub returns : goal.returns
returns g c =
    let so_far = c.loop-rest.invariant in
    let none : length c.loop-rest.rest.now ≡ 0 = grind (arith, c.loop-rest-test.false, c.is_empty.ensures) in
    writes_same (no_letters_left (letters_of g.T.Lettered.letter_of) so_far.0
    (flat_map (letters_of g.T.Lettered.letter_of) c.args.items.now) c.loop-rest.rest.now none so_far.1) so_far.2
