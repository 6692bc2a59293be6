-- What reuse distance and widest next use say of a block that will be loaded again, at each point before. Assumes nothing.
use Rattle.std.proofs.Common.{◌≡◌, ℕ, ◌+◌, ◌<◌, ◌≤◌, Bool, true, false, cond, not, ◌&&◌, eqb, List, [], ◌∷◌, ◌++◌, length, get_or, take, Some, None, Option, sym, refl, ap, ◌∙◌, subst, ⊎_elim, mod-lt, arith, length-append}
use Rattle.std.proofs.lemmas.List.{get_or-set_same, get_or-set_other, length-set}
use Rattle.std.proofs.lemmas.Bool.{cases_eq, cases_lt, or_left, and_parts, eq-eqb, ne_eqb, eqb-true, eqb-false, both_ways, not-true}
use Rattle.std.proofs.lemmas.Bool.Decides.{nat_tests}
use Rattle.recency.specs.Blocks.{has, set_of}
use Rattle.recency.specs.Recency.{lru_step, front}
use Rattle.recency.specs.Rows.{list_of}
use Rattle.soundness.specs.Flows.{Flow, Findings, SettledAlongEdges, Fits, Included, AtMost, counted, evictors, reuse_at, widest_at}
use Rattle.soundness.specs.Runs.{Event, Mode, step, finish, interrupt, touch, resume, walking, interrupted, ended, row_moved, Honest, Allowed}
use Rattle.soundness.proofs.Moved.{place, In, Within, Distinct, moved, in_none, in_moved, in_moved_first, in_moved_old, moved_within, front_moved, distinct_moved, front_distinct, distinct_length, take_in, in_take, step_take}
use Rattle.soundness.proofs.Walks.{Good, stepped, evicting_of, good_step, good_touch, aged_moved, aged_other}

-- the list of set s in a row is the front part of a list without limit
pub record Shows (F : Flow) (s : ℕ) (row : List (List ℕ)) (m : List ℕ) : Type 0 where
  pub many : length row ≡ F.sets
  pub part : get_or row s [] ≡ take F.ways m

pub shows_moved : (F : Flow) → Fits F → (o : Option ℕ) (s : ℕ) (row : List (List ℕ)) (m : List ℕ) → Shows F s row m →
    Shows F s (row_moved F o row) (stepped F.sets s o m)
shows_moved F fits None s row m h = h
shows_moved F fits (Some a) s row m h = at (eqb (set_of F.sets a) s) refl where
  at : (t : Bool) → eqb (set_of F.sets a) s ≡ t → Shows F s (row_moved F (Some a) row) (cond t (moved a m) m)
  at true t =
      let new = lru_step F.ways a (list_of F.sets a row) in
      let here : set_of F.sets a ≡ s = eqb-true (set_of F.sets a) s t in
      let low : set_of F.sets a < length row = omega (arith, mod-lt a fits.some_set, h.many) in
      record {
        many = length-set row (set_of F.sets a) new ∙ h.many;
        part = ap (λ i. get_or (row_moved F (Some a) row) i []) (sym here)
            ∙ get_or-set_same row (set_of F.sets a) new [] low
            ∙ ap (λ i. lru_step F.ways a (get_or row i [])) here
            ∙ ap (lru_step F.ways a) h.part
            ∙ step_take F.ways a m fits.some_way;
      }
  at false t =
      let new = lru_step F.ways a (list_of F.sets a row) in
      record {
        many = length-set row (set_of F.sets a) new ∙ h.many;
        part = get_or-set_other row (set_of F.sets a) s new [] (λ e. eqb-false (set_of F.sets a) s t (sym e)) ∙ h.part;
      }

-- an access of b has b in its plain list and misses; of any other access, the rest tells
abbrev pub again : ℕ → ℕ → Option ℕ → Bool → List ℕ → Bool → Bool
again ways b None hit l rest = rest
again ways b (Some a) hit l rest = cond (eqb b a) (has b (take ways l) && not hit) rest

-- the next access of b by the walk, if it comes, has b in its plain list and misses; l is the plain list of set s without limit
abbrev pub repeats : Flow → ℕ → ℕ → ℕ → List ℕ → List Event → Bool
repeats F s b p l [] = false
repeats F s b p l (step hit q ∷ es) = again F.ways b (F.access p) hit l (repeats F s b q (stepped F.sets s (F.access p) l) es)
repeats F s b p l (finish hit ∷ es) = again F.ways b (F.access p) hit l false
repeats F s b p l (interrupt ∷ es) = repeats F s b p l es
repeats F s b p l (touch a ∷ es) = repeats F s b p l es
repeats F s b p l (resume ∷ es) = repeats F s b p l es

-- b is used again behind the blocks `between`: those in front of b in l, and those that come before b from point p on, are among them
pub record Reused (F : Flow) (N : Findings) (p s b : ℕ) (l : List ℕ) : Type 0 where
  pub between : List ℕ
  pub coming : List ℕ
  pub short : length between < F.ways
  pub over : F.ways ≤ length between + evictors F s
  pub before : Within (front b l) between
  pub wide : AtMost (Some (length between)) (widest_at F N p b)
  pub comes : In b coming
  pub apart : Distinct coming
  pub ahead : Within (front b coming) between
  pub near : (x : ℕ) → In x coming → (set_of F.sets x ≡ s) × In x F.blocks
  pub reuses : (x : ℕ) → In x coming → reuse_at F N p x ≤ place x coming

at_most_trans : (n : ℕ) (o q : Option ℕ) → AtMost (Some n) o → AtMost o q → AtMost (Some n) q
at_most_trans n None q h k = absurd h
at_most_trans n (Some m) None h k = k
at_most_trans n (Some m) (Some r) h k = omega arith

wide_here : (xs : List ℕ) (o : Option (List ℕ)) → Distinct xs → Included (Some xs) o → AtMost (Some (length xs)) (counted o)
wide_here xs None d h = h
wide_here xs (Some ys) d h = distinct_length xs ys d h

in_one : (x b : ℕ) → In x (b ∷ []) → x ≡ b
in_one x b h = grind (arith, nat_tests)

-- nothing is no block
pub none_some : (b : ℕ) → None ≡ Some b → ⊥
none_some b e = let z : ◌≡◌ {A = ℕ} 0 1 = cc in absurd (omega arith)

-- a block of the real list is a hit
pub honest_hit : (F : Flow) (s b : ℕ) (row : List (List ℕ)) (m : List ℕ) (hit : Bool) → set_of F.sets b ≡ s → Shows F s row m →
    Honest F (Some b) hit row → In b (take F.ways m) → hit ≡ true
honest_hit F s b row m hit its_set sh h i = h (ap (λ v. has b (get_or row v [])) its_set ∙ ap (has b) sh.part ∙ i)

module _ (F : Flow) (N : Findings) where
  -- at the access that is loaded again
  reused_here : (p s b : ℕ) (l m : List ℕ) → Good F N p s l m → set_of F.sets b ≡ s → F.access p ≡ Some b →
      In b (take F.ways l) → (In b (take F.ways m) → ⊥) → Reused F N p s b l
  reused_here p s b l m g its_set reads i miss =
      let there = take_in F.ways b l i in
      let real = g.real b there.0 in
      let far : F.ways ≤ place b m =
      ⊎_elim
      (λ (z : place b m < F.ways). absurd (miss (in_take F.ways b m real.0 z)))
      (λ (z : F.ways ≤ place b m). z)
      (cases_lt (place b m) F.ways) in
      let few = distinct_length (front b m) (front b l ++ evicting_of F s) (front_distinct b m g.real_distinct) real.1 in
      let long = length-append (front b l) (evicting_of F s) in
      let on : eqb b b ≡ true = eq-eqb b b refl in
      record {
        between = front b l;
        coming = b ∷ [];
        short = there.1;
        over = omega arith;
        before = λ y z. z;
        wide = rw (reads, on) (wide_here (front b l) (N.conflicts p b) (front_distinct b l g.plain_distinct) (g.conflicts b there.0));
        comes = or_left (eqb b b) false on;
        apart = refl;
        ahead = rw on (λ y z. in_none y z);
        near = λ x z. let e = in_one x b z in (ap (set_of F.sets) e ∙ its_set, subst (λ v. In v F.blocks) (sym e) (g.own b there.0).1);
        reuses = λ x z. rw (reads, eq-eqb x b (in_one x b z)) (omega arith);
      }

  module _ (fits : Fits F) (settled : SettledAlongEdges F N) where
    -- across an access of another block, or none
    reused_pass : (p q s b : ℕ) (l : List ℕ) → has q (F.successors p) ≡ true → (o : Option ℕ) → F.access p ≡ o → (o ≡ Some b → ⊥) →
        Reused F N q s b (stepped F.sets s o l) → Reused F N p s b l
    reused_pass p q s b l edge None reads n r = record {
      between = r.between;
      coming = r.coming;
      short = r.short;
      over = r.over;
      before = r.before;
      wide = rw reads (at_most_trans (length r.between) (widest_at F N q b) (N.widest p b) r.wide (settled.widening p q edge b (r.near b r.comes).1));
      comes = r.comes;
      apart = r.apart;
      ahead = r.ahead;
      near = r.near;
      reuses = λ x i. rw reads (omega (arith, settled.reuses p q edge x (r.near x i).1, r.reuses x i));
    }
    reused_pass p q s b l edge (Some a) reads n r = go (eqb (set_of F.sets a) s) refl r where
      off : b ≡ a → ⊥
      off e = n (ap {B = Option ℕ} Some (sym e))

      wide : (w : ℕ) → In b F.blocks → AtMost (Some w) (widest_at F N q b) → AtMost (Some w) (widest_at F N p b)
      wide w i h = rw (reads, ne_eqb b a off) (at_most_trans w (widest_at F N q b) (N.widest p b) h (settled.widening p q edge b i))

      go : (t : Bool) → eqb (set_of F.sets a) s ≡ t → Reused F N q s b (cond t (moved a l) l) → Reused F N p s b l
      go true t r =
          let within : Within (moved a (front b l)) r.between = subst (λ f. Within f r.between) (front_moved b a l off) r.before in
          record {
            between = r.between;
            coming = moved a r.coming;
            short = r.short;
            over = r.over;
            before = λ y z. within y (in_moved_old y a (front b l) z);
            wide = wide (length r.between) (r.near b r.comes).1 r.wide;
            comes = in_moved_old b a r.coming r.comes;
            apart = distinct_moved a r.coming r.apart;
            ahead = rw (front_moved b a r.coming off) (moved_within a (front b r.coming) r.between r.ahead (within a (in_moved_first a (front b l))));
            near = λ x i. ⊎_elim
                (λ (e : x ≡ a). (ap (set_of F.sets) e ∙ eqb-true (set_of F.sets a) s t, subst (λ v. In v F.blocks) (sym e) (fits.own p a reads)))
                (λ (i : In x r.coming). r.near x i)
                (in_moved x a r.coming i);
            reuses = λ x i. rw reads (aged_moved F.sets F.ways a (N.reuse p) r.coming
                (λ y z. omega (arith, settled.reuses p q edge y (r.near y z).1, r.reuses y z)) x i);
          }
      go false t r = record {
        between = r.between;
        coming = r.coming;
        short = r.short;
        over = r.over;
        before = r.before;
        wide = wide (length r.between) (r.near b r.comes).1 r.wide;
        comes = r.comes;
        apart = r.apart;
        ahead = r.ahead;
        near = r.near;
        reuses = λ x i.
            let same = aged_other F.sets F.ways a (N.reuse p) x (λ e. eqb-false (set_of F.sets a) s t (sym e ∙ (r.near x i).0)) in
            rw reads (omega (arith, same, settled.reuses p q edge x (r.near x i).1, r.reuses x i));
      }

  -- at an access of b
  at_same : (p s b : ℕ) (row : List (List ℕ)) (l m : List ℕ) (hit : Bool) → set_of F.sets b ≡ s → Shows F s row m → Good F N p s l m →
      F.access p ≡ Some b → Honest F (Some b) hit row → (has b (take F.ways l) && not hit) ≡ true → Reused F N p s b l
  at_same p s b row l m hit its_set sh g reads h rep =
      let both = and_parts (has b (take F.ways l)) (not hit) rep in
      reused_here p s b l m g its_set reads both.0 (λ i. both_ways hit (not-true hit both.1) (honest_hit F s b row m hit its_set sh h i))

  at_access : Fits F → SettledAlongEdges F N → (p q s b : ℕ) (row : List (List ℕ)) (l m : List ℕ) (hit : Bool) → has q (F.successors p) ≡ true →
      set_of F.sets b ≡ s → Shows F s row m → Good F N p s l m → (o : Option ℕ) → F.access p ≡ o → Honest F o hit row →
      (rest : Bool) → (rest ≡ true → Reused F N q s b (stepped F.sets s o l)) → again F.ways b o hit l rest ≡ true → Reused F N p s b l
  at_access fits settled p q s b row l m hit edge its_set sh g None reads h rest ih rep =
      reused_pass fits settled p q s b l edge None reads (none_some b) (ih rep)
  at_access fits settled p q s b row l m hit edge its_set sh g (Some a) reads h rest ih rep = ⊎_elim same other (cases_eq b a) where
    same : b ≡ a → Reused F N p s b l
    same e =
        at_same p s b row l m hit its_set sh g (reads ∙ ap {B = Option ℕ} Some (sym e)) (subst (λ v. Honest F (Some v) hit row) (sym e) h) (rw (eq-eqb b a e) at rep)

    other : (b ≡ a → ⊥) → Reused F N p s b l
    other n = reused_pass fits settled p q s b l edge (Some a) reads (λ e. n (cc)) (ih (rw (ne_eqb b a n) at rep))

  at_end : (p s b : ℕ) (row : List (List ℕ)) (l m : List ℕ) (hit : Bool) → set_of F.sets b ≡ s → Shows F s row m → Good F N p s l m →
      (o : Option ℕ) → F.access p ≡ o → Honest F o hit row → again F.ways b o hit l false ≡ true → Reused F N p s b l
  at_end p s b row l m hit its_set sh g None reads h rep = absurd (both_ways false refl rep)
  at_end p s b row l m hit its_set sh g (Some a) reads h rep = ⊎_elim same other (cases_eq b a) where
    same : b ≡ a → Reused F N p s b l
    same e =
        at_same p s b row l m hit its_set sh g (reads ∙ ap {B = Option ℕ} Some (sym e)) (subst (λ v. Honest F (Some v) hit row) (sym e) h) (rw (eq-eqb b a e) at rep)

    other : (b ≡ a → ⊥) → Reused F N p s b l
    other n = absurd (both_ways false refl (rw (ne_eqb b a n) at rep))

in_stepped : (sets s : ℕ) (o : Option ℕ) (x : ℕ) (l : List ℕ) → In x l → In x (stepped sets s o l)
in_stepped sets s None x l i = i
in_stepped sets s (Some a) x l i = go (eqb (set_of sets a) s) where
  go : (t : Bool) → In x (cond t (moved a l) l)
  go true = in_moved_old x a l i
  go false = i

-- a block that will be loaded again is reused, at each point before
module _ (F : Flow) (N : Findings) (fits : Fits F) (settled : SettledAlongEdges F N) (s b : ℕ) (its_set : set_of F.sets b ≡ s) where
  pub reused : (es : List Event) (mode : Mode) (p : ℕ) (row : List (List ℕ)) (l m : List ℕ) → Shows F s row m → Good F N p s l m → In b l →
      Allowed F mode p row es → repeats F s b p l es ≡ true → Reused F N p s b l
  reused [] mode p row l m sh g i ob rep = absurd (both_ways false refl rep)
  reused (step hit q ∷ es) walking p row l m sh g i ob rep =
      let o = F.access p in
      let plain = stepped F.sets s o l in
      at_access F N fits settled p q s b row l m hit ob.0 its_set sh g o refl ob.1 (repeats F s b q plain es)
      (λ r. reused es walking q (row_moved F o row) plain (stepped F.sets s o m) (shows_moved F fits o s row m sh)
      (good_step F N fits settled p q s l m ob.0 g) (in_stepped F.sets s o b l i) ob.2 r)
      rep
  reused (step hit q ∷ es) interrupted p row l m sh g i ob rep = absurd ob
  reused (step hit q ∷ es) ended p row l m sh g i ob rep = absurd ob
  reused (finish hit ∷ es) walking p row l m sh g i ob rep = at_end F N p s b row l m hit its_set sh g (F.access p) refl ob.0 rep
  reused (finish hit ∷ es) interrupted p row l m sh g i ob rep = absurd ob
  reused (finish hit ∷ es) ended p row l m sh g i ob rep = absurd ob
  reused (interrupt ∷ es) walking p row l m sh g i ob rep = reused es interrupted p row l m sh g i ob rep
  reused (interrupt ∷ es) interrupted p row l m sh g i ob rep = absurd ob
  reused (interrupt ∷ es) ended p row l m sh g i ob rep = absurd ob
  reused (touch a ∷ es) walking p row l m sh g i ob rep = absurd ob
  reused (touch a ∷ es) interrupted p row l m sh g i ob rep =
      reused es interrupted p (row_moved F (Some a) row) l (stepped F.sets s (Some a) m) (shows_moved F fits (Some a) s row m sh)
      (good_touch F N p s a l m ob.0 g) i ob.1 rep
  reused (touch a ∷ es) ended p row l m sh g i ob rep = absurd ob
  reused (resume ∷ es) walking p row l m sh g i ob rep = absurd ob
  reused (resume ∷ es) interrupted p row l m sh g i ob rep = reused es walking p row l m sh g i ob rep
  reused (resume ∷ es) ended p row l m sh g i ob rep = absurd ob
