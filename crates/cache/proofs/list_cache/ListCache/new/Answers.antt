use Rattle.std.proofs.Common.{refl, rules}
use Rattle.cache.specs.Sizes.{legal_ways}
use Rattle.cache.proofs.Sizes.{size_within}
use Rattle.cache.proofs.Tables.{new_row, new_is_row}
use Rattle.cache.proofs.list_cache.ListCache.new.Goals as goal

pub returns-in_err-check_size : goal.returns-in_err-check_size
returns-in_err-check_size g c = let refused = c.in_err-check_size.ensures legal_ways (λ fits post. search rules) in search rules

pub invariant_of-result : goal.invariant_of-result
invariant_of-result g c =
    let made = c.in_ok-check_size.ensures legal_ways (λ fits post. search rules) in
    let k = size_within c.args.sets c.args.ways made in
    let lists = c.empty_lists.ensures in
    record { room = lists.room; some_sets = k.0; few_sets = k.1; some_ways = k.2; few_ways = k.3; row = new_is_row c.args.sets c.args.ways _ made lists.room lists.empty }

pub returns : goal.returns
returns g c =
    let made = c.in_ok-check_size.ensures legal_ways (λ fits post. search rules) in
    let lists = c.empty_lists.ensures in
    (made, refl, refl, new_row c.args.sets c.args.ways _ made lists.room lists.empty)
