use Rattle.runs.proofs.Runs.{reference_runs}
use Rattle.answer.proofs.answer.Goals as goal

pub returns : goal.returns
returns c = record { answer = c.reply_to.ensures; reference_runs = reference_runs }
