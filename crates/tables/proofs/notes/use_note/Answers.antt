use Rattle.std.proofs.Common.{◌≡◌, ℕ, Some, None, Option, refl, ap, ◌∙◌, rules}
use Rattle.std.specs.Option.{option_map}
use Rattle.blocksets.specs.Members.{size}
use Rattle.blocksets.specs.declared.BlockSet.{BlockSet}
use Rattle.widest.specs.declared.next_uses.NextUse.{NextUse}
use Rattle.tables.specs.Tables.{size_of}
use Rattle.tables.proofs.notes.use_note.Goals as goal

sized : (x : Option BlockSet) → option_map size x ≡ size_of x
sized None = refl
sized (Some s) = refl

abbrev noted : ℕ → Option ℕ → Option NextUse
noted b n = Some (record { block = b; conflicts = n })

pub returns : goal.returns
returns c =
    let e : c.map-conflicts.result ≡ option_map size c.set.result = search rules in
    rw c.in_ok-block.was (ap (λ (n : Option ℕ). noted c.in_ok-block.block n) (e ∙ sized c.set.result ∙ ap size_of c.set.ensures))
