-- The distinct blocks of points are just those that the points access, each once. Assumes nothing.
use Rattle.std.proofs.Common.{◌≡◌, ℕ, zero, suc, ◌<◌, ◌≤◌, Bool, true, false, not, ◌||◌, eqb, List, [], ◌∷◌, ◌++◌, length, get_or, Some, None, Option, sym, refl, ap, ◌∙◌, arith}
use Rattle.std.proofs.lemmas.Bool.{and_parts, and_from, eqb-true, not_from_false}
use Rattle.std.proofs.lemmas.Bool.Decides.{nat_tests}
use Rattle.task.specs.Contents.{PointContents}
use Rattle.task.specs.Blocks.{noted, noted_all, distinct_blocks, is_access, accessed, access_at, ListsEachAccessOnce}
use Rattle.recency.specs.Blocks.{has, distinct}
use Rattle.task.proofs.Noting.{noted_old, noted_new}

or_assoc : (x y z : Bool) → ((x || y) || z) ≡ (x || (y || z))
or_assoc true y z = refl
or_assoc false y z = refl

or_false : (x : Bool) → (x || false) ≡ x
or_false true = refl
or_false false = refl

has_push : (b y : ℕ) (xs : List ℕ) → has b (xs ++ (y ∷ [])) ≡ (has b xs || eqb b y)
has_push b y [] = or_false (eqb b y)
has_push b y (x ∷ xs) = ap (λ (v : Bool). eqb b x || v) (has_push b y xs) ∙ sym (or_assoc (eqb b x) (has b xs) (eqb b y))

again_more : (b x y : ℕ) (seen : List ℕ) (v : Bool) → eqb x y ≡ v → (has x seen ≡ true → has b seen ≡ (has b seen || eqb b x)) → has x (y ∷ seen) ≡ true → has b (y ∷ seen) ≡ (has b (y ∷ seen) || eqb b x)
again_more b x y seen true k more h = let e = eqb-true x y k in grind (arith, nat_tests)
again_more b x y seen false k more h =
    ap (λ (v : Bool). eqb b y || v) (more (sym (ap (λ (v : Bool). v || has x seen) k) ∙ h)) ∙ sym (or_assoc (eqb b y) (has b seen) (eqb b x))

-- one that is there already adds nothing
again : (b x : ℕ) (seen : List ℕ) → has x seen ≡ true → has b seen ≡ (has b seen || eqb b x)
again b x [] h = absurd (let z : ◌≡◌ {A = ℕ} 0 1 = cc in omega arith)
again b x (y ∷ seen) h = again_more b x y seen (eqb x y) refl (again b x seen) h

apart : (x y : ℕ) (xs : List ℕ) → has x xs ≡ false → has y (x ∷ xs) ≡ false → has x (xs ++ (y ∷ [])) ≡ false
apart x y xs h k = has_push x y xs ∙ grind (arith, nat_tests)

distinct_push : (y : ℕ) (xs : List ℕ) → distinct xs ≡ true → has y xs ≡ false → distinct (xs ++ (y ∷ [])) ≡ true
distinct_push y [] h k = refl
distinct_push y (x ∷ xs) h k =
    let p = and_parts (not (has x xs)) (distinct xs) h in
    and_from _ _ (not_from_false _ (apart x y xs (grind arith) k)) (distinct_push y xs p.1 (grind (arith, nat_tests)))

noted_once : (seen : List ℕ) (access : Option ℕ) → distinct seen ≡ true → distinct (noted seen access) ≡ true
noted_once seen None h = h
noted_once seen (Some b) h = by (has b seen) refl
  where
    by : (v : Bool) → has b seen ≡ v → distinct (noted seen (Some b)) ≡ true
    by true k = ap distinct (noted_old seen b k) ∙ h
    by false k = ap distinct (noted_new seen b k) ∙ distinct_push b seen h k

noted_has : (b : ℕ) (seen : List ℕ) (access : Option ℕ) → has b (noted seen access) ≡ (has b seen || is_access b access)
noted_has b seen None = sym (or_false (has b seen))
noted_has b seen (Some x) = by (has x seen) refl
  where
    by : (v : Bool) → has x seen ≡ v → has b (noted seen (Some x)) ≡ (has b seen || eqb b x)
    by true k = ap (has b) (noted_old seen x k) ∙ again b x seen k
    by false k = ap (has b) (noted_new seen x k) ∙ has_push b x seen

all_once : (seen : List ℕ) (ps : List PointContents) → distinct seen ≡ true → distinct (noted_all seen ps) ≡ true
all_once seen [] h = h
all_once seen (p ∷ ps) h = all_once (noted seen p.access) ps (noted_once seen p.access h)

all_has : (b : ℕ) (seen : List ℕ) (ps : List PointContents) → has b (noted_all seen ps) ≡ (has b seen || accessed b ps)
all_has b seen [] = sym (or_false (has b seen))
all_has b seen (p ∷ ps) =
    all_has b (noted seen p.access) ps
    ∙ ap (λ (v : Bool). v || accessed b ps) (noted_has b seen p.access)
    ∙ or_assoc (has b seen) (is_access b p.access) (accessed b ps)

pub lists_each_access_once : (ps : List PointContents) → ListsEachAccessOnce ps (distinct_blocks ps)
lists_each_access_once ps = record { once = all_once [] ps refl; exactly = λ b. all_has b [] ps }

-- what a point accesses, by its place
pub access_past : (ps : List PointContents) (k : ℕ) → length ps ≤ k → access_at ps k ≡ None
access_past [] k h = refl
access_past (p ∷ ps) zero h = absurd (omega arith)
access_past (p ∷ ps) (suc k) h = access_past ps k (omega arith)

pub access_here : (ps : List PointContents) (k : ℕ) (d : PointContents) → k < length ps → access_at ps k ≡ (get_or ps k d).access
access_here [] k d h = absurd (omega arith)
access_here (p ∷ ps) zero d h = refl
access_here (p ∷ ps) (suc k) d h = access_here ps k d (omega arith)
