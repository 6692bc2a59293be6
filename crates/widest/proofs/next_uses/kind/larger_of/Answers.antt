use Rattle.std.proofs.Common.{◌≡◌, ℕ, ◌<◌, ◌≤◌, Bool, true, false, cond, eqb, ltb, max, nat_cmp, Some, None, Option, refl, ap, ◌∙◌, arith}
use Rattle.std.proofs.lemmas.Bool.{ltb-true, ltb-false}
use Rattle.std.specs.Option.{option_cmp}
use Rattle.std.specs.Ordering.{is_lt, ord_max}
use Rattle.std.specs.declared.cmp.Ordering.TheVariants.{Less, Equal, Greater}
use Rattle.widest.specs.NextUses.{larger}
use Rattle.widest.proofs.next_uses.kind.larger_of.Goals as goal

larger_by : (j k : ℕ) (less same : Bool) → (less ≡ true → k < j) → (less ≡ false → j ≤ k) → cond (is_lt (cond less Less (cond same Equal Greater))) (Some j) (Some k) ≡ Some (max j k)
larger_by j k true same t f = let l = t refl in ap Some (omega arith)
larger_by j k false true t f = let l = f refl in ap Some (omega arith)
larger_by j k false false t f = let l = f refl in ap Some (omega arith)

is_larger : (a b : Option ℕ) → ord_max (option_cmp nat_cmp) a b ≡ larger a b
is_larger None None = refl
is_larger None (Some k) = refl
is_larger (Some j) None = refl
is_larger (Some j) (Some k) = larger_by j k (ltb k j) (eqb k j) (ltb-true k j) (ltb-false k j)

pub returns : goal.returns
returns c = c.max.ensures ∙ is_larger c.args.a c.args.b
