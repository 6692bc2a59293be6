use Rattle.std.proofs.Common.{◌≡◌, ℕ, List, get_or, Some, None, Option, sym, ap, ◌∙◌, Bor}
use Rattle.std.specs.Option.{option_flatten, option_map}
use Rattle.std.specs.Slice.{IsGetResult}
use Rattle.std.proofs.lemmas.List.{get_or_default, get_or_past}
use Rattle.std.proofs.lemmas.Bool.{ltb-true, ltb-false}
use Rattle.conflicts.proofs.Conflicts.set.Goals as goal

-- what `get` finds, copied and flattened
found : {X : Type 0} (xs : List (Option X)) (p : ℕ) (r : Option (Bor (Option X))) → IsGetResult xs p p r → option_flatten (option_map (λ x. x.now) r) ≡ get_or xs p None
found xs p None h = sym (get_or_past xs p None (ltb-false _ _ (sym h.0)))
found xs p (Some x) h = h.1 ∙ get_or_default xs p x.now None (ltb-true _ _ (sym h.0))

pub returns : goal.returns
returns c =
    c.flatten.ensures ∙ ap option_flatten c.copied.ensures
    ∙ found c.args.self.now.conflicts c.args.block c.get.result c.get.ensures.lookup
