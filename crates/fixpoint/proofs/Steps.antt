-- What the definitions of a round say, step by step. Assumes nothing.
use Rattle.std.proofs.Common.{◌≡◌, ℕ, zero, suc, ◌+◌, ◌<◌, Bool, true, false, cond, List, [], ◌∷◌, length, get_or, set, sym, refl, ap, ◌∙◌, add-one, arith, length-set}
use lib.ListN.{length-replicate}
use Rattle.fixpoint.specs.Kinds.{Meaning}
use Rattle.fixpoint.specs.Graph.{is_input, visited_at}
use Rattle.fixpoint.specs.Rounds.{Job, size, advanced, merged_below, merged, visits, round, all_start, after_rounds}

-- shorter words: q is an input of p; the k-th point of a round; the table with the row of p replaced
abbrev pub feeds : {Note : Type 0} → Job Note → ℕ → ℕ → Bool
feeds J p q = is_input J.direction J.points p q

abbrev pub place : {Note : Type 0} → Job Note → ℕ → ℕ
place J k = visited_at J.direction (size J) k

abbrev pub visited : {Row Note : Type 0} → Meaning Row Note → Job Note → List Row → ℕ → List Row
visited M J rows p = set rows p (merged M J rows p)

module _ {Row Note : Type 0} (M : Meaning Row Note) (J : Job Note) where
  pub merged_below_none : (xs : List Row) (p : ℕ) → merged_below M J xs p 0 ≡ M.start
  unfolding merged_below
  merged_below_none xs p = refl

  pub merged_below_more : (xs : List Row) (p k : ℕ) → merged_below M J xs p (suc k) ≡ cond (feeds J p k) (M.merge (merged_below M J xs p k) (advanced M J xs J.notes k)) (merged_below M J xs p k)
  unfolding merged_below
  merged_below_more xs p k = refl

  pub advanced_is : (xs : List Row) (notes : List Note) (q : ℕ) (x : Row) (m : Note) → q < length xs → q < length notes → x ≡ get_or xs q x → m ≡ get_or notes q m → M.advance x m ≡ advanced M J xs notes q
  advanced_is [] notes q x m h k e f = absurd (omega arith)
  advanced_is (r ∷ rs) [] q x m h k e f = absurd (omega arith)
  advanced_is (r ∷ rs) (n ∷ notes) zero x m h k e f = ap (λ y. M.advance y m) e ∙ ap (M.advance r) f
  advanced_is (r ∷ rs) (n ∷ notes) (suc q) x m h k e f = advanced_is rs notes q x m (omega arith) (omega arith) e f

  -- one point more, as the code takes it
  pub merged_below_fed : (xs : List Row) (p q : ℕ) (all new : Row) (b : Bool) → b ≡ feeds J p q → b ≡ true → all ≡ merged_below M J xs p q → new ≡ M.merge all (advanced M J xs J.notes q) → new ≡ merged_below M J xs p (q + 1)
  merged_below_fed xs p q all new b e t i n =
      n ∙ ap (λ a. M.merge a (advanced M J xs J.notes q)) i
      ∙ ap (λ c. cond c (M.merge (merged_below M J xs p q) (advanced M J xs J.notes q)) (merged_below M J xs p q)) (sym t ∙ e)
      ∙ sym (merged_below_more xs p q) ∙ ap (merged_below M J xs p) (sym (add-one q))

  pub merged_below_unfed : (xs : List Row) (p q : ℕ) (all new : Row) (b : Bool) → b ≡ feeds J p q → b ≡ false → all ≡ merged_below M J xs p q → new ≡ all → new ≡ merged_below M J xs p (q + 1)
  merged_below_unfed xs p q all new b e t i n =
      n ∙ i
      ∙ ap (λ c. cond c (M.merge (merged_below M J xs p q) (advanced M J xs J.notes q)) (merged_below M J xs p q)) (sym t ∙ e)
      ∙ sym (merged_below_more xs p q) ∙ ap (merged_below M J xs p) (sym (add-one q))

  pub visits_none : (xs : List Row) → visits M J 0 xs ≡ xs
  unfolding visits
  visits_none xs = refl

  pub visits_more : (xs : List Row) (k : ℕ) → visits M J (suc k) xs ≡ visited M J (visits M J k xs) (place J k)
  unfolding visits
  visits_more xs k = refl

  pub length_visits : (xs : List Row) (k : ℕ) → length (visits M J k xs) ≡ length xs
  unfolding visits
  length_visits xs zero = refl
  length_visits xs (suc k) = length-set (visits M J k xs) (place J k) _ ∙ length_visits xs k

  pub length_after_rounds : (k : ℕ) → length (after_rounds M J k) ≡ size J
  unfolding after_rounds
  length_after_rounds zero = length-replicate (size J) M.start
  length_after_rounds (suc k) = length_visits (after_rounds M J k) (size J) ∙ length_after_rounds k

  pub after_rounds_none : after_rounds M J 0 ≡ all_start M J
  unfolding after_rounds
  after_rounds_none = refl

  pub after_rounds_more : (k : ℕ) → after_rounds M J (suc k) ≡ round M J (after_rounds M J k)
  unfolding after_rounds
  after_rounds_more k = refl
