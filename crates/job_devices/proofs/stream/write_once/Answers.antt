use Rattle.job_devices.proofs.TextLemmas.{prefix_kept}
use Rattle.job_devices.proofs.stream.write_once.Goals as goal

pub returns-in-Err-clause-bytes : goal.returns-in-Err-clause-bytes
returns-in-Err-clause-bytes g c = prefix_kept _ _ _ c.in-Ok.taken c.args.piece.now c.in-Ok.ensures.bytes c.in-Err.ensures.bytes
