use Rattle.std.proofs.Common.{rules, ◌≡◌, ℕ, Bool, not, List, length, sym, ap, ◌∙◌}
use borrow.Author.Tests.{tests}
use Rattle.std.proofs.lemmas.List.{length-map}
use Rattle.std.proofs.lemmas.Iterator.{YieldsList-from_slice}
use Rattle.std.proofs.lemmas.Iterator.Adapters.{position_from-zero}
use Rattle.std.proofs.lemmas.Iterator.Search.{position_from_yields_List}
use Rattle.task.specs.Contents.{PointContents}
use Rattle.task.specs.Legal.{closed_point, first_open}
use Rattle.task.specs.Lists.{first_from}
use Rattle.task.specs.Meaning.{point_contents, all_contents}
use Rattle.task.specs.declared.point.Point.{Point}
use Rattle.task.proofs.Chains.{position_first, first_map}
use Rattle.task.proofs.task.finish.lowest_open.Goals as goal

abbrev is_open : ℕ → PointContents → Bool
is_open n p = not (closed_point n p)

-- the points are searched as what they say would be
as_contents : (points : List Point) → first_from 0 (λ p. is_open (length points) (point_contents p)) points ≡ first_open (all_contents points)
as_contents points =
    first_map point_contents (is_open (length points)) 0 points
    ∙ ap (λ n. first_from 0 (is_open n) (all_contents points)) (sym (length-map points point_contents))

pub returns : goal.returns
returns c =
    let xs = c.args.points.now in
    position_from_yields_List (λ p. is_open (length xs) (point_contents p)) _ _ _ c.position.ensures.ran (YieldsList-from_slice xs cc) (λ x b q k. search (rules, tests))
    ∙ position_from-zero (λ p. is_open (length xs) (point_contents p)) xs
    ∙ position_first (λ p. is_open (length xs) (point_contents p)) 0 xs
    ∙ as_contents xs
