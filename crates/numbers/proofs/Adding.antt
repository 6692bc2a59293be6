-- The four sums stay small: at most 8 for each cache set, as a legal task has at most 8 ways. Assumes nothing.
use Rattle.std.proofs.Common.{◌≡◌, ℕ, zero, suc, ◌*◌, ◌≤◌, true, false, cond, ltb, sym, subst, arith}
use Rattle.task.specs.Contents.{TaskContents}
use Rattle.numbers.specs.Counts.{sum_below}
use Rattle.numbers.specs.Numbers.{evicting_in, if_evicting, useful_in, reached_in, numbers_below}
use Rattle.numbers.specs.declared.PointNumbers.{PointNumbers}
use Rattle.numbers.specs.declared.view.View.{View}

sum_few : (f : ℕ → ℕ) → ((s : ℕ) → f s ≤ 8) → (n : ℕ) → sum_below f n ≤ n * 8
sum_few f few zero = omega arith
sum_few f few (suc n) = let a = sum_few f few n in let b = few n in omega arith

at_most : (e n : ℕ) → if_evicting e n ≤ n
at_most e n = elim (ltb 0 e) as (λ b. cond b n 0 ≤ n) [ true ↦ omega arith | false ↦ omega arith ]

-- at most 8 for each of n cache sets
pub record Few (n : ℕ) (p : PointNumbers) : Type 0 where
  pub useful : p.useful ≤ n * 8
  pub evicting : p.evicting ≤ n * 8
  pub combined : p.combined ≤ n * 8
  pub resilient : p.resilient ≤ n * 8

pub numbers_few : (t : TaskContents) (v : View) (n : ℕ) → t.ways ≤ 8 → (p : PointNumbers) → p ≡ numbers_below t v n → Few n p
numbers_few t v n ways p so_far =
    let all : Few n (numbers_below t v n) = record {
      useful = sum_few _ (λ s. omega arith) n;
      evicting = sum_few _ (λ s. let m = at_most (evicting_in t s) t.ways in omega arith) n;
      combined = sum_few _ (λ s. let m = at_most (evicting_in t s) (useful_in t v s) in omega arith) n;
      resilient = sum_few _ (λ s. let m = at_most (evicting_in t s) (reached_in t v s) in omega arith) n;
    } in
    subst (Few n) (sym so_far) all
