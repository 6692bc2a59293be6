use Rattle.std.proofs.Common.{◌≡◌, ℕ, true, false, List, [], ◌∷◌, ◌++◌, length, Some, vec_items, Option, sym, ap, ◌∙◌, arith}
use Rattle.std.proofs.lemmas.List.{length_push}
use Rattle.std.proofs.lemmas.Bool.{le-leb, lt-leb, cond-true, cond-false}
use Rattle.task.specs.Adding.{fits, too_many}
use Rattle.task.specs.Blocks.{noted}
use Rattle.recency.specs.Blocks.{has}
use Rattle.recency.proofs.Contained.{has_contained}
use Rattle.task.proofs.Noting.{noted_old, noted_new}
use Rattle.task.proofs.draft.methods.note_access.Goals as goal

-- how long the list is with the access noted
old_length : (seen : List ℕ) (b : ℕ) (access : Option ℕ) → access ≡ Some b → has b seen ≡ true → noted seen access ≡ seen
old_length seen b access e h = ap (noted seen) e ∙ noted_old seen b h

new_length : (seen : List ℕ) (b : ℕ) (access : Option ℕ) → access ≡ Some b → has b seen ≡ false → noted seen access ≡ seen ++ (b ∷ [])
new_length seen b access e h = ap (noted seen) e ∙ noted_new seen b h

pub returns-then-contains-clause-verdict : goal.returns-then-contains-clause-verdict
returns-then-contains-clause-verdict c =
    let seen = vec_items c.args.blocks.now in
    let b = c.in-Some.block in
    let h : has b seen ≡ true = sym (ap (has b) c.deref.ensures.value) ∙ sym (has_contained _ b _ c.contains.ensures.cases) ∙ c.if-contains.true in
    let n = c.args.blocks.now.ok.0 in
    sym (cond-true _ fits too_many (le-leb _ 64 (omega (arith, ap length (old_length seen b c.args.access c.in-Some.is h)))))

pub returns-then-contains-clause-ok : goal.returns-then-contains-clause-ok
returns-then-contains-clause-ok c =
    let seen = vec_items c.args.blocks.now in
    let b = c.in-Some.block in
    let h : has b seen ≡ true = sym (ap (has b) c.deref.ensures.value) ∙ sym (has_contained _ b _ c.contains.ensures.cases) ∙ c.if-contains.true in
    sym (old_length seen b c.args.access c.in-Some.is h)

pub returns-then-len-eq-MAX_BLOCKS-clause-verdict : goal.returns-then-len-eq-MAX_BLOCKS-clause-verdict
returns-then-len-eq-MAX_BLOCKS-clause-verdict c =
    let seen = vec_items c.args.blocks.now in
    let b = c.in-Some.block in
    let h : has b seen ≡ false = sym (ap (has b) c.deref.ensures.value) ∙ sym (has_contained _ b _ c.contains.ensures.cases) ∙ c.if-contains.false in
    let e = new_length seen b c.args.access c.in-Some.is h in
    let n = c.args.blocks.now.ok.0 in
    let l = length_push seen b in
    sym (cond-false _ fits too_many (lt-leb _ 64 (omega (arith, ap length e))))

pub returns : goal.returns
returns c =
    let seen = vec_items c.args.blocks.now in
    let b = c.in-Some.block in
    let h : has b seen ≡ false = sym (ap (has b) c.deref.ensures.value) ∙ sym (has_contained _ b _ c.contains.ensures.cases) ∙ c.if-contains.false in
    let e = new_length seen b c.args.access c.in-Some.is h in
    let n = c.args.blocks.now.ok.0 in
    let l = length_push seen b in
    record { verdict = sym (cond-true _ fits too_many (le-leb _ 64 (omega (arith, ap length e)))); ok = c.push_reserved.ensures.items ∙ sym e; err = tt; capacity = c.push_reserved.ensures.capacity }
