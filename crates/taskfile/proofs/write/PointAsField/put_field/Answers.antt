use Rattle.std.proofs.Common.{◌≡◌, ℕ, ◌+◌, ◌/◌, ◌%◌, ◌≤◌, List, ◌∷◌, ◌++◌, length, take, Some, None, Option, ap, ◌∙◌, arith, length-append, length-take}
use Rattle.fields.specs.Layout.{with_head}
use Rattle.taskformat.specs.Writing.{access_bytes}
use Rattle.taskfile.proofs.Filling.{two_parts}
use Rattle.taskfile.proofs.write.PointAsField.put_field.Goals as goal

abbrev front : Option ℕ → ℕ → List ℕ
front access n = 2 ∷ (0 ∷ ((length (access_bytes access) + n) ∷ access_bytes access))

-- the head of a point's field holds a length below 256
fronted : (access : Option ℕ) (successors : List ℕ) → length (access_bytes access) ≤ 5 → length successors ≤ 4 → front access (length successors) ++ successors ≡ with_head 2 (access_bytes access ++ successors)
fronted access successors h k =
    let l = length-append (access_bytes access) successors in
    let n = length (access_bytes access ++ successors) in
    let hi : 0 ≡ n / 256 = omega arith in
    let lo : length (access_bytes access) + length successors ≡ n % 256 = omega arith in
    cc

access_short : (access : Option ℕ) → length (access_bytes access) ≤ 5
access_short None = omega arith
access_short (Some b) = omega arith

pub returns : goal.returns
returns c =
    let p = c.args.self.now in
    let successors = c.successors-successors.result.now in
    let access = c.access.result in
    let before = c.args.out.now in
    let four : length successors ≤ 4 = let e = ap length c.successors-successors.ensures in let l = length-take p.count p.successors in let f = p.few in omega arith in
    let same : front access (length successors) ++ successors ≡ with_head 2 (access_bytes p.access ++ take p.count p.successors) =
    fronted access successors (access_short access) four
    ∙ ap (λ (a : Option ℕ). with_head 2 (access_bytes a ++ successors)) c.access.ensures
    ∙ ap (λ (ss : List ℕ). with_head 2 (access_bytes p.access ++ ss)) c.successors-successors.ensures in
    two_parts (front access (length successors)) successors _ before c.put_access-at.new.out c.put.new.out c.put_access-at.result c.put.result same c.requires c.put_access-at.ensures c.put.ensures
