-- A draft stays legal as points and evicting blocks are added. Assumes nothing.
use Rattle.std.proofs.Common.{◌≡◌, ◌<◌, ◌≤◌, Bool, true, ◌&&◌, leb, List, [], ◌∷◌, ◌++◌, length, refl, ap, ◌∙◌, arith}
use Rattle.std.proofs.lemmas.List.{length_push}
use Rattle.std.proofs.lemmas.Bool.{and_parts, and_from, leb-true, le-leb}
use Rattle.task.specs.Contents.{PointContents, TaskContents, add_point}
use Rattle.task.specs.Blocks.{noted, distinct_blocks}
use Rattle.task.specs.Legal.{is_block, legal_parameters, legal_point, few_points, legal_evicting, few_evicting, legal_draft}
use Rattle.task.specs.Lists.{every, rising}
use Rattle.task.proofs.Noting.{noted_push}

-- what a legal draft keeps
pub record Kept (t : TaskContents) : Type 0 where
  pub parameters : legal_parameters t.sets t.ways t.reload ≡ true
  pub points : every legal_point t.points ≡ true
  pub few : few_points t.points ≡ true
  pub points_few : length t.points ≤ 128
  pub blocks_few : length (distinct_blocks t.points) ≤ 64
  pub evicting : legal_evicting t.evicting ≡ true
  pub blocks : every is_block t.evicting ≡ true
  pub rises : rising t.evicting ≡ true
  pub few_others : few_evicting t.evicting ≡ true
  pub evicting_few : length t.evicting ≤ 64

pub kept : (t : TaskContents) → legal_draft t ≡ true → Kept t
kept t h =
    let a = and_parts _ _ h in
    let b = and_parts _ _ a.1 in
    let c = and_parts _ _ b.0 in
    let d = and_parts _ _ b.1 in
    let n = and_parts _ _ c.1 in
    let e = and_parts _ _ d.0 in
    record {
      parameters = a.0;
      points = c.0;
      few = c.1;
      points_few = leb-true _ _ n.0;
      blocks_few = leb-true _ _ n.1;
      evicting = d.0;
      blocks = e.0;
      rises = e.1;
      few_others = d.1;
      evicting_few = leb-true _ _ d.1;
    }

pub every_push : {X : Type 0} (good : X → Bool) (xs : List X) (x : X) → every good xs ≡ true → good x ≡ true → every good (xs ++ (x ∷ [])) ≡ true
every_push good [] x h k = and_from _ _ k refl
every_push good (y ∷ xs) x h k = let p = and_parts _ _ h in and_from _ _ p.0 (every_push good xs x p.1 k)

pub point_added : (t : TaskContents) (p : PointContents) → legal_draft t ≡ true → legal_point p ≡ true → few_points (t.points ++ (p ∷ [])) ≡ true → legal_draft (add_point t p) ≡ true
point_added t p h l f =
    let k = kept t h in
    and_from _ _ k.parameters (and_from _ _ (and_from _ _ (every_push legal_point t.points p k.points l) f) (and_from _ _ k.evicting k.few_others))

-- the three answers to one point more
module _ (ps : List PointContents) (p : PointContents) where
  noted_length : length (distinct_blocks (ps ++ (p ∷ []))) ≡ length (noted (distinct_blocks ps) p.access)
  noted_length = ap length (noted_push [] ps p)

  -- with room for the point, its block decides
  pub few_by_blocks : length ps < 128 → few_points (ps ++ (p ∷ [])) ≡ leb (length (noted (distinct_blocks ps) p.access)) 64
  few_by_blocks h =
      let l = length_push ps p in
      ap (λ (v : Bool). v && leb (length (distinct_blocks (ps ++ (p ∷ [])))) 64) (le-leb (length (ps ++ (p ∷ []))) 128 (omega arith)) ∙ ap (λ n. leb n 64) noted_length
