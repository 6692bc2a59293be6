-- The lines that a replay prints.
use Rattle.std.specs.Prelude.{ℕ, List, [], ◌∷◌, ◌++◌, Ok, Err, codes, decimal, Result}
use Rattle.std.specs.List.{concat}
use Rattle.cache.specs.declared.outcome.Outcome.TheVariants.{Hit, Miss}
use Rattle.ledger.specs.declared.Call.{Call}
use Rattle.ledger.specs.declared.Call.TheVariants.{Step, Finish, Interrupt, Touch, Resume}
use Rattle.ledger.specs.declared.Counts.{Counts}
use Rattle.bench.specs.Faults.{fault_number}
use Rattle.bench.specs.declared.answer.Answer.{Answer}
use Rattle.bench.specs.declared.answer.Answer.TheVariants.{Access, NoAccess, Done}
use Rattle.bench.specs.declared.fault.BenchFault.{BenchFault}

-- a call as the input has it
abbrev pub call_words : Call → List ℕ
call_words (Step q) = codes "step " ++ decimal q
call_words Finish = codes "finish"
call_words Interrupt = codes "interrupt"
call_words (Touch b) = codes "touch " ++ decimal b
call_words Resume = codes "resume"

abbrev pub answer_words : Result Answer BenchFault → List ℕ
answer_words (Ok (Access Hit)) = codes "hit"
answer_words (Ok (Access Miss)) = codes "miss"
answer_words (Ok NoAccess) = codes "none"
answer_words (Ok Done) = codes "ok"
answer_words (Err f) = codes "refused " ++ decimal (fault_number f)

abbrev pub line_with : List ℕ → List ℕ → List ℕ
line_with words said = concat (words ∷ codes ": " ∷ said ∷ codes "\n" ∷ [])

-- a call, and its answer or the number of the refusal
abbrev pub answer_text : Call → Result Answer BenchFault → List ℕ
answer_text call answer = line_with (call_words call) (answer_words answer)

-- the counts so far
abbrev pub counts_text : Counts → List ℕ
counts_text n =
    concat (
    codes "steps " ∷ decimal n.steps
    ∷ codes " interruptions " ∷ decimal n.interruptions
    ∷ codes " loads " ∷ decimal n.loads
    ∷ codes " plain " ∷ decimal n.plain
    ∷ codes " charge " ∷ decimal n.charge
    ∷ codes "\n" ∷ [])
