use Rattle.std.proofs.Common.{◌<◌, arith}
use Rattle.std.proofs.ByRecursion.{All-from_get_or}
use Rattle.taskformat.proofs.Rewriting.{rewriting_keeps_the_bytes}
use Rattle.taskfile.proofs.Answering.{accepted_made}
use Rattle.taskfile.proofs.read.read_task.Goals as goal

pub returns-clause-law : goal.returns-clause-law
returns-clause-law c = rewriting_keeps_the_bytes

pub returns-clause-rewriting_keeps_the_bytes : goal.returns-clause-rewriting_keeps_the_bytes
returns-clause-rewriting_keeps_the_bytes c =
    let file = c.args.file.now in
    let bytes = All-from_get_or (λ b. b < 256) file 0 (λ i _. omega (arith, c.type_inv.file i)) in
    accepted_made _ _ _ c.read_fields.result (λ t e. rewriting_keeps_the_bytes file t bytes e) c.read_fields.ensures
