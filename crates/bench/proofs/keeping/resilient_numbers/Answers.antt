use Rattle.std.proofs.Common.{◌≡◌, ℕ, ◌<◌, length, get_or, inl, inr, cond, nat_lt, ◌∙◌, arith, rules}
use Rattle.std.proofs.lemmas.Bool.{cases_lt, cond-true, cond-false, lt-ltb, le-ltb}
use Rattle.std.proofs.lemmas.List.{get_or_past}
use Rattle.task.specs.Tasks.{contents}
use Rattle.task.proofs.Drafting.{kept}
use Rattle.tables.specs.Rows.{numbers_at, rows_of, shortest}
use Rattle.cells.proofs.Made.{made_at}
use Rattle.bench.proofs.keeping.resilient_numbers.Goals as goal

pub returns : goal.returns
returns c =
    let t = contents c.args.task.now in
    let rows = rows_of c.args.tables.now in
    let few = (kept t c.args.task.now.draft.legal).points_few in
    let n = length t.points in
    let numbers : ℕ → ℕ = λ k. cond (nat_lt k n) (cond (nat_lt k (shortest rows)) (numbers_at t rows k).resilient 0) 0 in
    let each : (p : ℕ) → p < 128 → get_or c.from_fn.result p 0 ≡ numbers p = λ p small. made_at _ _ 128 numbers (λ i y q small called. search rules) c.from_fn.result p 0 c.from_fn.ensures.items small in
    record {
      room = c.from_fn.ensures.items.long;
      numbers = λ p h. each p (omega (arith, h, few)) ∙ cond-true _ _ _ (lt-ltb p n h) ∙ cond-true _ _ _ (lt-ltb p (shortest rows) (omega (arith, h, c.requires)));
      past = λ p h. elim (cases_lt p 128) [
        | inl small ↦ each p small ∙ cond-false _ _ _ (le-ltb p n h)
        | inr large ↦ get_or_past c.from_fn.result p 0 (omega (arith, c.from_fn.ensures.items.long, large))
      ];
    }
