use Rattle.std.proofs.Common.{◌≡◌, ℕ, take, None, sym, subst, arith, rules}
use Rattle.task.specs.Blocks.{access_at, access_index}
use Rattle.task.specs.Tasks.{contents}
use Rattle.task.proofs.Drafting.{kept}
use Rattle.cells.proofs.Made.{made_first}
use Rattle.tables.specs.Tables.{access_notes, blocks}
use Rattle.tables.proofs.OwnNotes.{access_notes_at, length_access_notes}
use Rattle.tables.proofs.notes.access_notes.Goals as goal

pub returns : goal.returns
returns c =
    let t = contents c.args.task.now in
    let few = (kept t c.args.task.now.draft.legal).points_few in
    let long = length_access_notes t in
    let first = made_first _ _ (λ p. access_index (blocks t) (access_at t.points p)) None 128 (access_notes t) c.from_fn.result (omega arith) (λ p z q l h. search rules)
    (λ p l. sym (access_notes_at t p (omega arith))) c.from_fn.ensures.items in
    record {
      room = c.from_fn.ensures.items.long;
      notes = subst (λ (n : ℕ). take n c.from_fn.result ≡ access_notes t) long first;
    }
