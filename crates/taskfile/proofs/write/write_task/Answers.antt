use Rattle.std.proofs.Common.{◌≡◌, ℕ, ◌≤◌, true, List, ◌∷◌, length, take, drop, sym, refl, ap, ◌∙◌, arith}
use Rattle.std.specs.List.{flat_map}
use Rattle.std.proofs.lemmas.List.{take_at}
use Rattle.fields.specs.Layout.{field_bytes, header}
use Rattle.task.specs.Contents.{TaskContents}
use Rattle.task.specs.Legal.{legal}
use Rattle.task.specs.Tasks.{contents}
use Rattle.taskformat.specs.Reading.{accepted, meaning}
use Rattle.taskformat.specs.Writing.{header_field, four_bytes, fields_after_header, task_bytes}
use Rattle.taskformat.proofs.Rereading.{rereading_keeps_the_task}
use Rattle.taskfile.specs.Answers.{Filled}
use Rattle.taskfile.proofs.Filling.{filled_as, two_parts}
use Rattle.taskfile.proofs.write.write_task.Goals as goal

-- what was written is read as the task
reread : (t : TaskContents) (before after : List ℕ) (n : ℕ) → legal t ≡ true → Filled (task_bytes t) before after n → meaning (take n after) ≡ accepted t
reread t before after n h f =
    ap meaning (ap (take n) f.1 ∙ take_at (task_bytes t) (drop n before) n (sym f.0)) ∙ rereading_keeps_the_task t h

pub returns-then-out-file_size-clause-law : goal.returns-then-out-file_size-clause-law
returns-then-out-file_size-clause-law c = rereading_keeps_the_task

pub returns : goal.returns
returns c =
    let t = contents c.args.task.now in
    let p = c.parameters.ensures in
    let q = c.parameters.result in
    let h : field_bytes (header (q.sets ∷ (q.ways ∷ four_bytes q.reload))) ≡ field_bytes (header_field t) =
    ap (λ (n : ℕ). field_bytes (header (n ∷ (q.ways ∷ four_bytes q.reload)))) p.sets
    ∙ ap (λ (n : ℕ). field_bytes (header (t.sets ∷ (n ∷ four_bytes q.reload)))) p.ways
    ∙ ap (λ (n : ℕ). field_bytes (header (t.sets ∷ (t.ways ∷ four_bytes n)))) p.reload in
    let fits : length (task_bytes t) ≤ length c.args.out.now = let e = c.file_size.ensures in omega (arith, c.if-out-file_size.false) in
    let all = two_parts (field_bytes (header_field t)) (flat_map field_bytes (fields_after_header t)) (task_bytes t) c.args.out.now c.put_header-at.new.out c.put_fields.new.out c.put_header-at.result c.put_fields.result refl fits
    (filled_as _ _ _ _ _ h c.put_header-at.ensures) c.put_fields.ensures in
    record { answer = all; law = rereading_keeps_the_task; rereading_keeps_the_task = reread t c.args.out.now _ _ p.legal all }
