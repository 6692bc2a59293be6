-- Points and evicting blocks that keep the limits of a task keep them up to any of them.
use Rattle.std.proofs.Common.{◌≡◌, ℕ, ◌≤◌, Bool, true, List, [], ◌∷◌, ◌++◌, length, Some, None, Option, refl, arith, length-append}
use Rattle.std.proofs.lemmas.List.{length_push}
use Rattle.std.proofs.lemmas.Bool.Decides.{nat_tests}
use Rattle.task.specs.Contents.{PointContents}
use Rattle.task.specs.Blocks.{noted, noted_all}
use Rattle.task.specs.Legal.{is_block, legal_evicting, few_points, few_evicting}
use Rattle.task.specs.Lists.{every, rising}

every_front : {X : Type 0} (good : X → Bool) (xs ys : List X) → every good (xs ++ ys) ≡ true → every good xs ≡ true
every_front good [] ys h = refl
every_front good (x ∷ xs) ys h = let i = every_front good xs ys in grind arith

rising_front : (xs ys : List ℕ) → rising (xs ++ ys) ≡ true → rising xs ≡ true
rising_front [] ys h = refl
rising_front (x ∷ []) ys h = refl
rising_front (x ∷ y ∷ xs) ys h = let i = rising_front (y ∷ xs) ys in grind arith

pub legal_evicting_front : (xs ys : List ℕ) → legal_evicting (xs ++ ys) ≡ true → legal_evicting xs ≡ true
legal_evicting_front xs ys h = let i = every_front is_block xs ys in let j = rising_front xs ys in grind arith

pub few_evicting_front : (xs ys : List ℕ) → few_evicting (xs ++ ys) ≡ true → few_evicting xs ≡ true
few_evicting_front xs ys h = let l = length-append xs ys in grind (arith, nat_tests)

noted_grows : (seen : List ℕ) (o : Option ℕ) → length seen ≤ length (noted seen o)
noted_grows seen None = omega arith
noted_grows seen (Some b) = let l = length_push seen b in grind arith

noted_all_grows : (seen : List ℕ) (ps : List PointContents) → length seen ≤ length (noted_all seen ps)
noted_all_grows seen [] = omega arith
noted_all_grows seen (p ∷ ps) = omega (arith, noted_grows seen p.access, noted_all_grows (noted seen p.access) ps)

-- more points access as many distinct blocks, or more
noted_front : (seen : List ℕ) (ps qs : List PointContents) → length (noted_all seen ps) ≤ length (noted_all seen (ps ++ qs))
noted_front seen [] qs = noted_all_grows seen qs
noted_front seen (p ∷ ps) qs = noted_front (noted seen p.access) ps qs

pub few_points_front : (ps qs : List PointContents) → few_points (ps ++ qs) ≡ true → few_points ps ≡ true
few_points_front ps qs h = let l = length-append ps qs in let m = noted_front [] ps qs in grind (arith, nat_tests)
