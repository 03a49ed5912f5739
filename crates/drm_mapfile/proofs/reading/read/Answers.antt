-- By the laws of the file.
use Rattle.std.proofs.Common.{arith}
use Rattle.drm_mapfile.proofs.MapLaws.{file_found, file_kept}
use Rattle.drm_mapfile.proofs.reading.read.Goals as goal

pub returns-clause-found : goal.returns-clause-found
returns-clause-found c = file_found c.args.bytes.now c.take_file.result (λ i. omega (arith, c.type_inv.bytes i)) c.take_file.ensures

pub returns-clause-again : goal.returns-clause-again
returns-clause-again c = file_kept c.args.bytes.now c.take_file.result c.take_file.ensures
