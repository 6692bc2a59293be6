-- What a reader knows between two fields. Assumes nothing.
use Rattle.std.proofs.Common.{◌≡◌, ℕ, zero, suc, ◌+◌, ◌-◌, ◌≤◌, true, List, [], ◌∷◌, length, get_or, sym, ap, ◌∙◌, arith}
use Rattle.std.proofs.lemmas.Bool.{cond-true}
use Rattle.fields.specs.Layout.{FieldContents, header, FieldAt, field, fault, field_at, body_length}
use Rattle.fields.proofs.Lengths.{field_lengths}
use Rattle.task.specs.Contents.{TaskContents}
use Rattle.task.specs.Legal.{legal_parameters}
use Rattle.taskformat.specs.Reading.{refused, fields_layer, task_layer, taken, ended, wrong, step, closed, reading, meaning, header_of, number_at}
use Rattle.taskformat.proofs.Steps.{after_step, after_field, after_first}

-- what is left to read gives what the whole file gives
pub record Sofar (file : List ℕ) (place : ℕ) (rest : List ℕ) (t : TaskContents) : Type 0 where
  pub left : ℕ
  pub enough : length rest ≤ left
  pub same : reading left place rest t ≡ meaning file
  pub adds : place + length rest ≡ length file

-- the header was read
pub started : (file body after : List ℕ) (at : ℕ) → field_at 0 file ≡ field (header body) at after → legal_parameters (get_or body 0 0) (get_or body 1 0) (number_at body 2) ≡ true → length body ≡ 6
    → Sofar file 9 after (header_of body)
started file body after at e h l =
    let n = field_lengths 0 file (header body) at after e in
    let m = n.1 in
    record {
      left = length after;
      enough = omega arith;
      same = sym (cond-true _ _ (refused task_layer 5 0) h) ∙ sym (ap after_first e);
      adds = omega arith;
    }

module _ (file : List ℕ) (place : ℕ) (rest : List ℕ) (t : TaskContents) (s : Sofar file place rest t) where
  unrolled : (x : FieldAt) → field_at place rest ≡ x → (n : ℕ) × (length rest ≤ suc n) × (after_field n place t x ≡ meaning file)
  unrolled x e = by s.left rest s.enough s.same e
    where
      by : (n : ℕ) (bs : List ℕ) → length bs ≤ n → reading n place bs t ≡ meaning file → field_at place bs ≡ x → (n : ℕ) × (length bs ≤ suc n) × (after_field n place t x ≡ meaning file)
      by zero [] h q f = (0, omega arith, ap (after_field 0 place t) (sym f) ∙ q)
      by zero (b ∷ bs) h q f = absurd (omega arith)
      by (suc n) bs h q f = (n, h, ap (after_field n place t) (sym f) ∙ q)

  pub faulted : (k at : ℕ) → field_at place rest ≡ fault k at → meaning file ≡ refused fields_layer k at
  faulted k at e = sym (unrolled (fault k at) e).2

  -- a field was found, and made a step
  module _ (f : FieldContents) (at : ℕ) (after : List ℕ) (e : field_at place rest ≡ field f at after) where
    pub lengths : (3 + body_length f + length after ≡ length rest) × (place + (length rest - length after) ≡ place + (3 + body_length f))
    lengths = let n = (field_lengths place rest f at after e).1 in (n, omega arith)

    pub refused_here : (k : ℕ) → step t f ≡ wrong k → meaning file ≡ refused task_layer k place
    refused_here k q = let u = unrolled (field f at after) e in sym u.2 ∙ ap (after_step u.0 place t f after) q

    pub ended_here : step t f ≡ ended → meaning file ≡ closed (place + 3) after t
    ended_here q = let u = unrolled (field f at after) e in sym u.2 ∙ ap (after_step u.0 place t f after) q

    pub taken_here : (u : TaskContents) → step t f ≡ taken u → Sofar file (place + (length rest - length after)) after u
    taken_here u q =
        let r = unrolled (field f at after) e in
        let n = lengths.0 in
        let a = s.adds in
        let m = r.1 in
        record {
          left = r.0;
          enough = omega arith;
          same = ap (λ k. reading r.0 k after u) lengths.1 ∙ sym (ap (after_step r.0 place t f after) q) ∙ r.2;
          adds = omega arith;
        }
