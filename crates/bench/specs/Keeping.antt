-- What a bench keeps from call to call.
use Rattle.std.specs.Prelude.{◌≡◌, ℕ, ◌<◌, List, length, None, slice_index}
use Rattle.task.specs.Contents.{TaskContents}
use Rattle.task.specs.Tasks.{contents}
use Rattle.ledger.specs.Ledger.{Setting, barred, resilient_at}
use Rattle.bench.specs.declared.setup.Setup.{Setup}

abbrev pub setting_with : TaskContents → ℕ → ℕ → ℕ → Setting
setting_with t room sets life = record { task = t; room = room; sets = sets; life = life }

abbrev pub setting_in : Setup → Setting
setting_in s = setting_with (contents s.task.now) s.room s.sets s.life

-- each point's resilient number is known, where the bench is not barred
abbrev pub Knows : Setting → List ℕ → Type 0
Knows S resilient = barred S ≡ None → (p : ℕ) → p < length S.task.points → slice_index resilient p ≡ resilient_at S.task p
