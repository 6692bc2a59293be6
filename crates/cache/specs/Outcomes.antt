-- What an access answers.
use Rattle.std.specs.Prelude.{Bool, true, false}
use Rattle.cache.specs.declared.outcome.Outcome.{Outcome}
use Rattle.cache.specs.declared.outcome.Outcome.TheVariants as outcomes

-- hit where the block was held
abbrev pub outcome_of : Bool → Outcome
outcome_of true = outcomes.Hit
outcome_of false = outcomes.Miss
