use Rattle.std.proofs.Common.{◌≡◌, ℕ, Bool, cond, true, false, leb, List, [], ◌∷◌, ◌++◌, length, vec_items, vec_len, Option, sym, refl, ap, ◌∙◌, arith}
use Rattle.std.proofs.lemmas.List.{length-map, map_push}
use Rattle.std.proofs.lemmas.Bool.{cond-false}
use Rattle.std.proofs.lemmas.Result.{err_from_is_err_and}
use Rattle.task.specs.Contents.{PointContents, TaskContents, task_with}
use Rattle.task.specs.Blocks.{noted, distinct_blocks}
use Rattle.task.specs.Legal.{few_points, legal_draft}
use Rattle.task.specs.Adding.{Verdict, fits, too_many, point_verdict}
use Rattle.task.specs.Meaning.{point_contents, all_contents}
use Rattle.task.specs.Drafts.{draft_contents}
use Rattle.task.specs.declared.draft.TaskDraft.{TaskDraft}
use Rattle.task.specs.declared.point.Point.{Point}
use Rattle.task.proofs.Noting.{noted_push}
use Rattle.task.proofs.Drafting.{kept, point_added, few_by_blocks}
use Rattle.task.proofs.draft.TaskDraft.add_point.Goals as goal

verdict_full : (t : TaskContents) (p : PointContents) → few_points (t.points ++ (p ∷ [])) ≡ false → too_many ≡ point_verdict t p
verdict_full t p h = sym (cond-false _ fits too_many h)

-- as many points in the draft as in what it says
counted : (d : TaskDraft) → length (draft_contents d).points ≡ vec_len d.points
counted d = length-map (vec_items d.points) point_contents ∙ sym d.points.ok.0

-- what was answered of the draft's blocks, said of its points
judged : (d : TaskDraft) (p : Point) (access : Option ℕ) (n : ℕ) (v : Verdict) → access ≡ p.access → n ≡ vec_len d.points → (n ≡ 128 → ⊥) → v ≡ cond (leb (length (noted (vec_items d.blocks) access)) 64) fits too_many
    → v ≡ point_verdict (draft_contents d) (point_contents p)
judged d p access n v e l less h =
    let k = kept (draft_contents d) d.legal in
    let m = counted d in
    let j = k.points_few in
    h
    ∙ ap (λ (a : Option ℕ). cond (leb (length (noted (vec_items d.blocks) a)) 64) fits too_many) e
    ∙ ap (λ (bs : List ℕ). cond (leb (length (noted bs p.access)) 64) fits too_many) d.named
    ∙ sym (ap (λ (b : Bool). cond b fits too_many) (few_by_blocks (draft_contents d).points (point_contents p) (omega arith)))

pub returns-in_err-note_access-clause-verdict : goal.returns-in_err-note_access-clause-verdict
returns-in_err-note_access-clause-verdict c =
    let q = err_from_is_err_and c.from_residual.result c.from_residual.ensures.1 in
    let v = judged c.args.self.now c.args.point _ _ _ c.access.ensures c.len.ensures c.if-len-eq-MAX_POINTS.false c.in_err-note_access.ensures.verdict in
    rw (q.1, q.2) v

few_if_fit : (v : Bool) → fits ≡ cond v fits too_many → v ≡ true
few_if_fit true h = refl
few_if_fit false h = absurd cc

-- what the draft says after the push
pushed : (d : TaskDraft) (p : Point) (points : List Point) → points ≡ vec_items d.points ++ (p ∷ []) → all_contents points ≡ (draft_contents d).points ++ (point_contents p ∷ [])
pushed d p points e = ap all_contents e ∙ map_push point_contents (vec_items d.points) p

abbrev with_points : TaskContents → List PointContents → TaskContents
with_points t ps = task_with t.sets t.ways t.reload ps t.evicting

pub invariant_of-self-2 : goal.invariant_of-self-2
invariant_of-self-2 c =
    let d = c.args.self.now in
    let p = c.args.point in
    let added = pushed d p (vec_items c.push_reserved.new.self) c.push_reserved.ensures.items in
    let ok = few_if_fit _ (judged d p _ _ _ c.access.ensures c.len.ensures c.if-len-eq-MAX_POINTS.false c.in_ok-note_access.ensures.verdict) in
    let more = c.in_ok-note_access.ensures in
    record {
      legal = ap (λ (ps : List PointContents). legal_draft (with_points (draft_contents d) ps)) added ∙ point_added (draft_contents d) (point_contents p) d.legal p.legal ok;
      named = more.ok ∙ ap (noted (vec_items d.blocks)) c.access.ensures ∙ ap (λ (bs : List ℕ). noted bs p.access) d.named
          ∙ sym (noted_push [] (draft_contents d).points (point_contents p)) ∙ sym (ap distinct_blocks added);
      points_room = let e = c.push_reserved.ensures.capacity in let r = d.points_room in omega arith;
      blocks_room = let e = more.capacity in let r = d.blocks_room in omega arith;
      evicting_room = d.evicting_room;
    }
