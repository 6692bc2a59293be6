-- Runs of accesses, and their possible misses. Assumes nothing.
use Rattle.std.proofs.Common.{◌≡◌, ℕ, suc, ◌+◌, ◌<◌, ◌≤◌, true, cond, List, [], ◌∷◌, ◌++◌, length, get_or, take, sym, refl, ap, ◌∙◌, add-zero, add_assoc, zero-add, arith}
use Rattle.std.proofs.lemmas.List.{take_more}
use Rattle.std.proofs.lemmas.Bool.{cond_both}
use Rattle.std.proofs.lemmas.Bool.Decides.{nat_tests}
use Rattle.recency.specs.Blocks.{has}
use Rattle.recency.specs.Rows.{is_row, list_of, row_step, row_run}
use Rattle.recency.specs.Paired.{Paired}
use Rattle.recency.specs.Prefixes.{Prefix}
use Rattle.recency.specs.Misses.{possible_misses}
use Rattle.recency.proofs.Prefixes.{prefixes_have, prefixes_step}
use Rattle.recency.proofs.Rows.{step_is_row}

module _ (sets w : ℕ) where
  -- accesses after others
  pub run_append : (bs cs : List ℕ) (row : List (List ℕ)) → row_run sets w (bs ++ cs) row ≡ row_run sets w cs (row_run sets w bs row)
  run_append [] cs row = refl
  run_append (b ∷ bs) cs row = run_append bs cs (row_step sets w b row)

  -- and their misses
  pub misses_append : (bs cs : List ℕ) (row : List (List ℕ)) → possible_misses sets w (bs ++ cs) row ≡ possible_misses sets w bs row + possible_misses sets w cs (row_run sets w bs row)
  misses_append [] cs row = sym (zero-add _)
  misses_append (b ∷ bs) cs row = ap (λ n. cond (has b (list_of sets b row)) 0 1 + n) (misses_append bs cs (row_step sets w b row)) ∙ sym (add_assoc _ _ _)

  -- the first i + 1 accesses are the first i and one more
  pub run_more : (bs : List ℕ) (i : ℕ) (row : List (List ℕ)) → i < length bs → row_run sets w (take (i + 1) bs) row ≡ row_step sets w (get_or bs i 0) (row_run sets w (take i bs) row)
  run_more bs i row h = ap (λ l. row_run sets w l row) (take_more bs i 0 h) ∙ run_append (take i bs) (get_or bs i 0 ∷ []) row

  -- and so are their misses
  pub misses_more : (bs : List ℕ) (i : ℕ) (row : List (List ℕ)) → i < length bs →
      possible_misses sets w (take (i + 1) bs) row ≡ possible_misses sets w (take i bs) row + cond (has (get_or bs i 0) (list_of sets (get_or bs i 0) (row_run sets w (take i bs) row))) 0 1
  misses_more bs i row h =
      let b = get_or bs i 0 in
      ap (λ l. possible_misses sets w l row) (take_more bs i 0 h)
      ∙ misses_append (take i bs) (b ∷ []) row
      ∙ ap (λ n. possible_misses sets w (take i bs) row + n) (add-zero (cond (has b (list_of sets b (row_run sets w (take i bs) row))) 0 1))

  -- a run keeps a row a row
  pub run_is_row : 1 ≤ sets → (bs : List ℕ) (row : List (List ℕ)) → is_row sets w row ≡ true → is_row sets w (row_run sets w bs row) ≡ true
  run_is_row some [] row h = h
  run_is_row some (b ∷ bs) row h = run_is_row some bs (row_step sets w b row) (step_is_row sets w some b row h)

  -- no more misses than accesses
  pub misses_few : (bs : List ℕ) (row : List (List ℕ)) → possible_misses sets w bs row ≤ length bs
  misses_few [] row = omega arith
  misses_few (b ∷ bs) row = let i = misses_few bs (row_step sets w b row) in cond_both (has b (list_of sets b row)) 0 1 (λ n. n + possible_misses sets w bs (row_step sets w b row) ≤ suc (length bs)) (λ _. omega arith) (λ _. omega arith)

  -- a row of which less is there misses no less
  pub misses_of_prefixes : 1 ≤ sets → (bs : List ℕ) (row own : List (List ℕ)) → Paired Prefix row own → is_row sets w own ≡ true → possible_misses sets w bs own ≤ possible_misses sets w bs row
  misses_of_prefixes some [] row own p h = omega arith
  misses_of_prefixes some (b ∷ bs) row own p h =
      let i = misses_of_prefixes some bs (row_step sets w b row) (row_step sets w b own) (prefixes_step sets w row own p h some b) (step_is_row sets w some b own h) in
      let k = prefixes_have sets w row own p h some b in
      grind (arith, nat_tests)
