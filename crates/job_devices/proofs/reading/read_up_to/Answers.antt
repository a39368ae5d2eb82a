use Rattle.std.proofs.Common.{arith, ◌<◌, ◌++◌, take, length, length-append, length-take}
use Rattle.std.proofs.lemmas.Grind.{common_steps}
use Rattle.job_devices.proofs.SourceLemmas.{Consumes-nothing, Consumes-then, kept_at_end, kept_at_limit}
use Rattle.job_devices.proofs.reading.read_up_to.Goals as goal

pub returns-then-count-eq0-clause-bytes : goal.returns-then-count-eq0-clause-bytes
returns-then-count-eq0-clause-bytes g c =
    let read =
    Consumes-nothing _ _ _ c.loop-piece.bytes.items c.read.new.buf c.in-Ok.count c.if-count-eq0.true c.loop-piece.invariant.bytes
    c.in-Ok.ensures.bytes.0 in
    let room : 0 < length c.read.new.buf = grind (arith, common_steps, length-take) in
    (kept_at_end c.args.most _ _ _ read (c.in-Ok.ensures.bytes.1 c.if-count-eq0.true room) c.loop-piece.invariant.short).0

pub returns-then-count-eq0-clause-whole : goal.returns-then-count-eq0-clause-whole
returns-then-count-eq0-clause-whole g c =
    let read =
    Consumes-nothing _ _ _ c.loop-piece.bytes.items c.read.new.buf c.in-Ok.count c.if-count-eq0.true c.loop-piece.invariant.bytes
    c.in-Ok.ensures.bytes.0 in
    let room : 0 < length c.read.new.buf = grind (arith, common_steps, length-take) in
    (kept_at_end c.args.most _ _ _ read (c.in-Ok.ensures.bytes.1 c.if-count-eq0.true room) c.loop-piece.invariant.short).1

pub returns-clause-bytes : goal.returns-clause-bytes
returns-clause-bytes g c = (kept_at_limit c.args.most _ _ _ c.loop-piece.invariant.bytes (omega arith)).0

pub returns-clause-whole : goal.returns-clause-whole
returns-clause-whole g c = (kept_at_limit c.args.most _ _ _ c.loop-piece.invariant.bytes (omega arith)).1

pub returns-then-is_err-clause-no_further : goal.returns-then-is_err-clause-no_further
returns-then-is_err-clause-no_further g c =
    let so_far = c.loop-piece.bytes.items in
    let piece = take c.in-Ok.count c.read.new.buf in (
      so_far ++ piece,
      grind
          (arith, common_steps, length-append, length-take),
      Consumes-then _ _ _ so_far piece c.loop-piece.invariant.bytes c.in-Ok.ensures.bytes.0,
    )
