-- What ages and conflict sets say of the lists at a point that a walk reaches. Assumes nothing.
use Rattle.std.proofs.Common.{◌≡◌, ℕ, suc, ◌≤◌, Bool, true, false, cond, eqb, ◌⊎◌, List, [], ◌∷◌, ◌++◌, length, Some, None, filter, Option, sym, refl, ap, ◌∙◌, subst, inl, inr, ⊎_elim, arith}
use Rattle.std.proofs.lemmas.Bool.{cases_Bool, cases_eq, or_cases, or_left, or_right, eq-eqb, ne_eqb, eqb-true, eqb-false}
use Rattle.std.proofs.lemmas.Bool.Decides.{nat_tests}
use Rattle.recency.specs.Blocks.{has, set_of}
use Rattle.recency.specs.Recency.{without, front}
use Rattle.recency.proofs.Steps.{without_length}
use Rattle.recency.proofs.Fronts.{without_none}
use Rattle.soundness.specs.Flows.{Flow, Findings, SettledAlongEdges, Fits, Included, aged, conflicted, joins}
use Rattle.soundness.proofs.Moved.{place, In, Within, Distinct, moved, in_none, in_moved, in_moved_first, in_moved_old, in_moved_other, moved_within, front_moved, front_within, place_lower, distinct_moved}

-- blocks of two lists, one after the other
pub in_left : (y : ℕ) (xs ys : List ℕ) → In y xs → In y (xs ++ ys)
in_left y [] ys h = in_none y h
in_left y (x ∷ xs) ys h = let ih = in_left y xs ys in grind (arith, nat_tests)

pub in_right : (y : ℕ) (xs ys : List ℕ) → In y ys → In y (xs ++ ys)
in_right y [] ys h = h
in_right y (x ∷ xs) ys h = or_right (eqb y x) (has y (xs ++ ys)) (in_right y xs ys h)

in_append : (y : ℕ) (xs ys : List ℕ) → In y (xs ++ ys) → In y xs ⊎ In y ys
in_append y [] ys h = inr h
in_append y (x ∷ xs) ys h =
    ⊎_elim
    (λ (e : eqb y x ≡ true). inl (or_left (eqb y x) (has y xs) e))
    (λ (e : In y (xs ++ ys)). ⊎_elim (λ (i : In y xs). inl (or_right (eqb y x) (has y xs) i)) (λ (i : In y ys). inr i) (in_append y xs ys e))
    (or_cases (eqb y x) (has y (xs ++ ys)) h)

-- a block that passes the test is kept
pub in_kept : (test : ℕ → Bool) (y : ℕ) (xs : List ℕ) → In y xs → test y ≡ true → In y (filter test xs)
in_kept test y [] h t = h
in_kept test y (x ∷ xs) h t =
    ⊎_elim
    (λ (e : eqb y x ≡ true).
    let z : test x ≡ true = ap test (sym (eqb-true y x e)) ∙ t in rw z (or_left (eqb y x) (has y (filter test xs)) e))
    (λ (e : In y xs). go (test x) (in_kept test y xs e t))
    (or_cases (eqb y x) (has y xs) h) where
      go : (b : Bool) → In y (filter test xs) → In y (cond b (x ∷ filter test xs) (filter test xs))
      go true i = or_right (eqb y x) (has y (filter test xs)) i
      go false i = i

-- ages that are at most the places in a list stay so when a block is moved to its front
pub aged_moved : (sets ways a : ℕ) (row : ℕ → ℕ) (l : List ℕ) → ((x : ℕ) → In x l → row x ≤ place x l) →
    (x : ℕ) → In x (moved a l) → aged sets ways (Some a) row x ≤ place x (moved a l)
aged_moved sets ways a row l h x i = ⊎_elim same other (cases_eq x a) where
  same : x ≡ a → aged sets ways (Some a) row x ≤ place x (moved a l)
  same e = rw (eq-eqb x a e) (omega arith)

  other : (x ≡ a → ⊥) → aged sets ways (Some a) row x ≤ place x (moved a l)
  other n =
      let is : place x (moved a l) ≡ suc (length (without a (front x l))) = ap length (front_moved x a l n) in
      let g = h x (in_moved_other x a l n i) in
      ⊎_elim
      (λ (b : In a (front x l)).
      let c = without_length a (front x l) b in
      let d = place_lower a x l b in
      let f = h a (front_within x l a b) in
      rw is (grind (arith, nat_tests)))
      (λ (b : has a (front x l) ≡ false). let c = ap length (without_none a (front x l) b) in rw is (grind (arith, nat_tests)))
      (cases_Bool (has a (front x l)))

-- the access of a block of another set changes nothing
pub aged_other : (sets ways a : ℕ) (row : ℕ → ℕ) (x : ℕ) → (set_of sets x ≡ set_of sets a → ⊥) → aged sets ways (Some a) row x ≡ row x
aged_other sets ways a row x n = rw (ne_eqb x a (λ e. n (ap (set_of sets) e)), ne_eqb (set_of sets x) (set_of sets a) n)

included_trans : (xs : List ℕ) (o q : Option (List ℕ)) → Included (Some xs) o → Included o q → Included (Some xs) q
included_trans xs None q h k = absurd h
included_trans xs (Some ys) None h k = k
included_trans xs (Some ys) (Some zs) h k = λ y i. k y (h y i)

-- conflict sets that include what stands in front of each block stay so when a block is moved to the front
conflicted_moved : (sets a : ℕ) (row : ℕ → Option (List ℕ)) (l : List ℕ) → ((x : ℕ) → In x l → set_of sets x ≡ set_of sets a) →
    ((x : ℕ) → In x l → Included (Some (front x l)) (row x)) →
    (x : ℕ) → In x (moved a l) → Included (Some (front x (moved a l))) (conflicted sets (Some a) row x)
conflicted_moved sets a row l own h x i = ⊎_elim same other (cases_eq x a) where
  same : x ≡ a → Included (Some (front x (moved a l))) (conflicted sets (Some a) row x)
  same e = rw (eq-eqb x a e) (λ y z. z)

  add : (o : Option (List ℕ)) → Included (Some (front x l)) o → Included (Some (moved a (front x l))) (joins true a o)
  add None k = k
  add (Some ys) k =
      moved_within a (front x l) (a ∷ ys) (λ y z. or_right (eqb y a) (has y ys) (k y z)) (or_left (eqb a a) (has a ys) (eq-eqb a a refl))

  other : (x ≡ a → ⊥) → Included (Some (front x (moved a l))) (conflicted sets (Some a) row x)
  other n =
      let old : In x l = in_moved_other x a l n i in
      let near : eqb (set_of sets x) (set_of sets a) ≡ true = eq-eqb (set_of sets x) (set_of sets a) (own x old) in
      subst (λ f. Included (Some f) (conflicted sets (Some a) row x)) (sym (front_moved x a l n)) (rw (ne_eqb x a n, near) (add (row x) (h x old)))

joins_far : (a : ℕ) (o : Option (List ℕ)) → joins false a o ≡ o
joins_far a None = refl
joins_far a (Some xs) = refl

conflicted_other : (sets a : ℕ) (row : ℕ → Option (List ℕ)) (x : ℕ) → (set_of sets x ≡ set_of sets a → ⊥) → conflicted sets (Some a) row x ≡ row x
conflicted_other sets a row x n = rw (ne_eqb x a (λ e. n (ap (set_of sets) e)), ne_eqb (set_of sets x) (set_of sets a) n) (joins_far a (row x))

-- x is in the second list, behind nothing but what it is behind in the first and some others
abbrev pub Near : List ℕ → ℕ → List ℕ → List ℕ → Type 0
Near others x l m = In x m × Within (front x m) (front x l ++ others)

-- it stays so when a block is moved to the front of both
pub near_moved : (others : List ℕ) (a : ℕ) (l m : List ℕ) (x : ℕ) → (In x l → Near others x l m) →
    In x (moved a l) → Near others x (moved a l) (moved a m)
near_moved others a l m x h i = ⊎_elim same other (cases_eq x a) where
  same : x ≡ a → Near others x (moved a l) (moved a m)
  same e = (subst (λ v. In v (moved a m)) (sym e) (in_moved_first a m), rw (eq-eqb x a e) (λ y z. in_none y z))

  other : (x ≡ a → ⊥) → Near others x (moved a l) (moved a m)
  other n =
      let was = h (in_moved_other x a l n i) in
      let here = moved a (front x l) in
      let behind : Within (front x m) (here ++ others) =
      λ y z. ⊎_elim
      (λ (u : In y (front x l)). in_left y here others (in_moved_old y a (front x l) u))
      (λ (u : In y others). in_right y here others u)
      (in_append y (front x l) others (was.1 y z)) in (
        in_moved_old x a m was.0,
        rw (front_moved x a m n, front_moved x a l n) (moved_within a (front x m) (here ++ others) behind (in_left a here others (in_moved_first a (front x l)))),
      )

-- and when one of the others is moved to the front of the second
near_touched : (others : List ℕ) (b : ℕ) (l m : List ℕ) (x : ℕ) → In b others → Near others x l m → Near others x l (moved b m)
near_touched others b l m x e h = ⊎_elim same other (cases_eq x b) where
  same : x ≡ b → Near others x l (moved b m)
  same e = (subst (λ v. In v (moved b m)) (sym e) (in_moved_first b m), rw (eq-eqb x b e) (λ y z. in_none y z))

  other : (x ≡ b → ⊥) → Near others x l (moved b m)
  other n = (
    in_moved_old x b m h.0,
    rw (front_moved x b m n) (moved_within b (front x m) (front x l ++ others) h.1 (in_right b (front x l) others e)),
  )

-- the list of set s after an access, or none
abbrev pub stepped : ℕ → ℕ → Option ℕ → List ℕ → List ℕ
stepped sets s None l = l
stepped sets s (Some a) l = cond (eqb (set_of sets a) s) (moved a l) l

-- the evicting blocks of a set
abbrev pub evicting_of : Flow → ℕ → List ℕ
evicting_of F s = filter (λ b. eqb (set_of F.sets b) s) F.evicting

-- the lists of set s at point p, l moved by the walk alone and m by every access
pub record Good (F : Flow) (N : Findings) (p s : ℕ) (l m : List ℕ) : Type 0 where
  pub plain_distinct : Distinct l
  pub real_distinct : Distinct m
  pub own : (x : ℕ) → In x l → (set_of F.sets x ≡ s) × In x F.blocks
  pub ages : (x : ℕ) → In x l → N.age p x ≤ place x l
  pub conflicts : (x : ℕ) → In x l → Included (Some (front x l)) (N.conflicts p x)
  pub real : (x : ℕ) → In x l → Near (evicting_of F s) x l m

-- a step along an edge
pub good_step : (F : Flow) (N : Findings) → Fits F → SettledAlongEdges F N →
    (p q s : ℕ) (l m : List ℕ) → has q (F.successors p) ≡ true → Good F N p s l m →
    Good F N q s (stepped F.sets s (F.access p) l) (stepped F.sets s (F.access p) m)
good_step F N fits settled p q s l m edge g = go (F.access p) refl (settled.ages p q edge) (settled.conflicting p q edge) where
  included : (x : ℕ) (f : List ℕ) (o : Option (List ℕ)) → Included (Some f) o → Included o (N.conflicts q x) → Included (Some f) (N.conflicts q x)
  included x f o = included_trans f o (N.conflicts q x)

  go : (o : Option ℕ) → F.access p ≡ o →
      ((x : ℕ) → In x F.blocks → N.age q x ≤ aged F.sets F.ways o (N.age p) x) →
      ((x : ℕ) → In x F.blocks → Included (conflicted F.sets o (N.conflicts p) x) (N.conflicts q x)) →
      Good F N q s (stepped F.sets s o l) (stepped F.sets s o m)
  go None e older cs = record {
    plain_distinct = g.plain_distinct;
    real_distinct = g.real_distinct;
    own = g.own;
    ages = λ x i. omega (arith, older x (g.own x i).1, g.ages x i);
    conflicts = λ x i. included x (front x l) (N.conflicts p x) (g.conflicts x i) (cs x (g.own x i).1);
    real = g.real;
  }
  go (Some a) e older cs = at (eqb (set_of F.sets a) s) refl where
    at : (t : Bool) → eqb (set_of F.sets a) s ≡ t → Good F N q s (cond t (moved a l) l) (cond t (moved a m) m)
    at true t =
        let here : set_of F.sets a ≡ s = eqb-true (set_of F.sets a) s t in
        let own : (x : ℕ) → In x (moved a l) → (set_of F.sets x ≡ s) × In x F.blocks =
        λ x i. ⊎_elim
        (λ (z : x ≡ a). (ap (set_of F.sets) z ∙ here, subst (λ v. In v F.blocks) (sym z) (fits.own p a e)))
        (λ (z : In x l). g.own x z)
        (in_moved x a l i) in
        record {
          plain_distinct = distinct_moved a l g.plain_distinct;
          real_distinct = distinct_moved a m g.real_distinct;
          own = own;
          ages = λ x i. omega (arith, older x (own x i).1, aged_moved F.sets F.ways a (N.age p) l g.ages x i);
          conflicts = λ x i. included x (front x (moved a l)) (conflicted F.sets (Some a) (N.conflicts p) x)
              (conflicted_moved F.sets a (N.conflicts p) l (λ y z. (g.own y z).0 ∙ sym here) g.conflicts x i) (cs x (own x i).1);
          real = λ x i. near_moved (evicting_of F s) a l m x (g.real x) i;
        }
    at false t =
        let far : (x : ℕ) → In x l → set_of F.sets x ≡ set_of F.sets a → ⊥ = λ x i z. eqb-false (set_of F.sets a) s t (sym z ∙ (g.own x i).0) in
        record {
          plain_distinct = g.plain_distinct;
          real_distinct = g.real_distinct;
          own = g.own;
          ages = λ x i. omega (arith, older x (g.own x i).1, g.ages x i, aged_other F.sets F.ways a (N.age p) x (far x i));
          conflicts = λ x i. included x (front x l) (conflicted F.sets (Some a) (N.conflicts p) x)
              (subst (λ o. Included (Some (front x l)) o) (sym (conflicted_other F.sets a (N.conflicts p) x (far x i))) (g.conflicts x i)) (cs x (g.own x i).1);
          real = g.real;
        }

-- the touch of an evicting block
pub good_touch : (F : Flow) (N : Findings) (p s b : ℕ) (l m : List ℕ) → In b F.evicting → Good F N p s l m → Good F N p s l (stepped F.sets s (Some b) m)
good_touch F N p s b l m e g = at (eqb (set_of F.sets b) s) refl where
  at : (t : Bool) → eqb (set_of F.sets b) s ≡ t → Good F N p s l (cond t (moved b m) m)
  at true t = record {
    plain_distinct = g.plain_distinct;
    real_distinct = distinct_moved b m g.real_distinct;
    own = g.own;
    ages = g.ages;
    conflicts = g.conflicts;
    real = λ x i. near_touched (evicting_of F s) b l m x (in_kept (λ y. eqb (set_of F.sets y) s) b F.evicting e t) (g.real x i);
  }
  at false t = g
