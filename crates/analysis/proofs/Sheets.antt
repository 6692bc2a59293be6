-- Laws of sheets. Assumes nothing.
use Rattle.std.proofs.Common.{◌≡◌, ℕ, zero, suc, ◌+◌, ◌<◌, ◌≤◌, List, [], ◌∷◌, ◌++◌, length, get_or, take, sym, refl, ap, ◌∙◌, add-one, arith, length-take}
use Rattle.std.proofs.lemmas.List.{get_or-take}
use Rattle.task.specs.Blocks.{access_at, access_index}
use Rattle.task.specs.Contents.{TaskContents}
use Rattle.rowkinds.specs.declared.ages.Ages.{Ages}
use Rattle.conflicts.specs.declared.Conflicts.{Conflicts}
use Rattle.numbers.specs.Numbers.{numbers, view}
use Rattle.numbers.specs.declared.PointNumbers.{PointNumbers}
use Rattle.widest.specs.declared.next_uses.NextUses.{NextUses}
use Rattle.tables.proofs.Settles.{ages_value, conflicts_value, reuses_value, widest_value}
use Rattle.tables.specs.Answers.{AllSettled}
use Rattle.tables.specs.Rows.{Rows, numbers_at, settled_rows, shortest}
use Rattle.tables.specs.Tables.{age_kind, blocks, conflict_kind, next_use_kind, use_note}
use Rattle.tables.specs.declared.Rounds.{Rounds}
use Rattle.analysis.specs.Sheets.{sheet_below, sheet}

pub sheet_none : (t : TaskContents) (rows : Rows) → sheet_below t rows 0 ≡ []
unfolding sheet_below
sheet_none t rows = refl

pub sheet_more : (t : TaskContents) (rows : Rows) (k : ℕ) → sheet_below t rows (k + 1) ≡ sheet_below t rows k ++ (numbers_at t rows k ∷ [])
unfolding sheet_below
sheet_more t rows k = ap (sheet_below t rows) (add-one k)

-- sheets of tables that give each point the same numbers
pub same_sheet : (t : TaskContents) (rows other : Rows) (n : ℕ) → ((p : ℕ) → p < n → numbers_at t rows p ≡ numbers_at t other p) → sheet_below t rows n ≡ sheet_below t other n
unfolding sheet_below
same_sheet t rows other zero h = refl
same_sheet t rows other (suc n) h =
    ap (λ xs. xs ++ (numbers_at t rows n ∷ [])) (same_sheet t rows other n (λ p l. h p (omega arith)))
    ∙ ap (λ x. sheet_below t other n ++ (x ∷ [])) (h n (omega arith))

-- the numbers of a point below n depend on the first n rows only
module _ (t : TaskContents) (rows other : Rows) (n : ℕ) (ages : take n rows.ages ≡ other.ages) (reuses : take n rows.reuses ≡ other.reuses) (conflicts : take n rows.conflicts ≡ other.conflicts) (widest : take n rows.widest ≡ other.widest) where
  row_same : {X : Type 0} (xs ys : List X) (p : ℕ) (d : X) → p < n → take n xs ≡ ys → get_or xs p d ≡ get_or ys p d
  row_same xs ys p d h e = sym (get_or-take n xs p d h) ∙ ap (λ zs. get_or zs p d) e

  pub same_numbers : (p : ℕ) → p < n → numbers_at t rows p ≡ numbers_at t other p
  same_numbers p h =
      let note = access_index (blocks t) (access_at t.points p) in
      let at : Ages → Ages → Conflicts → NextUses → PointNumbers = λ a r c w. numbers t (view a ((age_kind t).advance r note) ((next_use_kind t).advance w (use_note c note))) in
      let a = row_same rows.ages other.ages p (age_kind t).start h ages in
      let r = row_same rows.reuses other.reuses p (age_kind t).start h reuses in
      let c = row_same rows.conflicts other.conflicts p (conflict_kind t).start h conflicts in
      let w = row_same rows.widest other.widest p (next_use_kind t).start h widest in
      λ i. at (a i) (r i) (c i) (w i)

-- settled tables
module _ (t : TaskContents) (before after : Rows) (rounds : Rounds) (all : AllSettled t before after rounds) where
  pub settled_sheet : length (blocks t) ≤ 64 → sheet_below t after (length t.points) ≡ sheet t
  settled_sheet few =
      same_sheet t after (settled_rows t) (length t.points)
      (same_numbers t after (settled_rows t) (length t.points) (ages_value t few before after rounds all) (reuses_value t few before after rounds all) (conflicts_value t few before after rounds all) (widest_value t few before after rounds all))

  long : {X : Type 0} (xs : List X) → length (take (length t.points) xs) ≡ length t.points → length t.points ≤ length xs
  long xs e = let m = length-take (length t.points) xs in omega (arith, m, e)

  -- each has a row for each point
  pub settled_room : length t.points ≤ shortest after
  settled_room =
      let a = long after.ages all.ages.settled.own.long in
      let r = long after.reuses all.reuses.settled.own.long in
      let c = long after.conflicts all.conflicts.settled.own.long in
      let w = long after.widest all.widest.settled.own.long in
      omega (arith, a, r, c, w)
