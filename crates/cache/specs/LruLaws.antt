-- The LRU step keeps a row a row, and keeps front parts. Assumes nothing.
use Rattle.recency.specs.Recency.{lru_step}
use Rattle.recency.proofs.Steps.{step_has, step_is_list}
use Rattle.recency.proofs.Prefixes.{empty_prefixes, prefixes_are_row, prefixes_have, prefixes_step}
use Rattle.cache.specs.Policies.{LruVouchesFor, PolicyLaws}

pub lru_laws : PolicyLaws lru_step (λ w. w) LruVouchesFor
lru_laws = record {
  life_within = λ w some few. (some, few);
  step_is_list = λ sets w s b l e h. step_is_list w b l sets s e h;
  step_has = step_has;
  empty = empty_prefixes;
  rows = λ sets w own row h v. prefixes_are_row sets w row own v h;
  held = λ sets w own row some h v b. prefixes_have sets w row own v h some b;
  moves = λ sets w own row some _ h v b. prefixes_step sets w row own v h some b;
}
