use Rattle.std.proofs.Common.{◌≡◌, ℕ, true, false, arith, rules}
use Rattle.std.proofs.lemmas.Bool.{and_from, le-leb}
use Rattle.cache.specs.Sizes.{legal_sets}
use Rattle.cache.proofs.Sizes.{made_within}
use Rattle.plru.specs.Tree.{is_tree}
use Rattle.plru.specs.Lines.{fit_empty, new_made_unrefused, new_refused, states_empty}
use Rattle.plru.proofs.plru.Plru.new.Goals as goal

pub returns-in_err-check_size : goal.returns-in_err-check_size
returns-in_err-check_size c = let refused = c.in_err-check_size.ensures is_tree (λ fits post. search rules) in search (rules, new_refused)

-- the sets that `check_size` lets through are those that `can_have_sets` names
pub prove-unreachable-requires : goal.prove-unreachable-requires
prove-unreachable-requires c =
    let k = made_within is_tree c.args.sets c.args.ways (c.in_ok-check_size.ensures is_tree (λ fits post. search rules)) in
    let legal : legal_sets c.args.sets ≡ true = and_from _ _ (le-leb 1 c.args.sets k.0) (le-leb c.args.sets 64 k.1) in
    let not : false ≡ legal_sets c.args.sets = c.if-prove.ensures in
    let z : ◌≡◌ {A = ℕ} 0 1 = cc in
    omega arith

pub invariant_of-result : goal.invariant_of-result
invariant_of-result c = record { size = (made_within is_tree c.args.sets c.args.ways (c.in_ok-check_size.ensures is_tree (λ fits post. search rules))).2 }

pub invariant_of-result-2 : goal.invariant_of-result-2
invariant_of-result-2 c =
    let k = made_within is_tree c.args.sets c.args.ways (c.in_ok-check_size.ensures is_tree (λ fits post. search rules)) in
    let lines = c.empty_lines.ensures in
    record { some = k.0; few = k.1; room = lines.room; fits = fit_empty c.args.ways _ lines.empty }

pub returns : goal.returns
returns c =
    let made = c.in_ok-check_size.ensures is_tree (λ fits post. search rules) in
    let few = (made_within is_tree c.args.sets c.args.ways made).1 in
    let room = c.empty_lines.ensures.room in
    new_made_unrefused c.args.sets c.args.ways _ made (states_empty c.args.sets _ (omega arith) c.empty_lines.ensures.empty)
