-- Loads are at most plain loads plus charge. Assumes nothing.
use Rattle.std.proofs.Common.{◌≡◌, ℕ, zero, suc, ◌+◌, ◌<◌, ◌≤◌, Bool, true, false, cond, eqb, ◌⊎◌, List, [], ◌∷◌, ◌++◌, length, get_or, take, Some, None, Option, sym, refl, ap, ◌∙◌, subst, inl, inr, ⊎_elim, mod-lt, arith, length-append}
use lib.ListN.{length-replicate}
use Rattle.std.proofs.lemmas.Bool.{cases_eq, eq-eqb, ne_eqb, both_ways, and_from}
use Rattle.recency.specs.Blocks.{has, set_of}
use Rattle.recency.specs.Recency.{without, front}
use Rattle.recency.specs.Rows.{list_of, empty_row}
use Rattle.recency.proofs.Steps.{has_without, without_length}
use Rattle.soundness.specs.Flows.{Flow, Findings, SettledAlongEdges, Fits}
use Rattle.soundness.specs.Runs.{Event, Mode, step, finish, interrupt, touch, resume, walking, interrupted, ended, row_moved, Honest, Allowed, load, plain_load, loads, plain_loads, charge, LoadsBounded}
use Rattle.soundness.proofs.Moved.{place, In, Distinct, moved, in_none, in_moved_first, in_moved_other, front_distinct, distinct_length, take_in, in_take}
use Rattle.soundness.proofs.Walks.{Near, near_moved, Good, stepped, good_step, good_touch, in_left}
use Rattle.soundness.proofs.Reuses.{Shows, shows_moved, again, repeats, reused, honest_hit, none_some}
use Rattle.soundness.proofs.Marks.{marks_below, few_marks, marked}

-- b stands in both lists behind the same blocks, or a repeated load of it is covered by a mark
abbrev pub Covered : Bool → ℕ → List ℕ → List ℕ → List ℕ → Type 0
Covered again b l m M = Near [] b l m ⊎ (again ≡ true → In b M)

near_hit : (ways b : ℕ) (l m : List ℕ) → Distinct m → Near [] b l m → place b l < ways → In b (take ways m)
near_hit ways b l m d n h =
    let few = distinct_length (front b m) (front b l ++ []) (front_distinct b m d) n.1 in
    in_take ways b m n.0 (omega (arith, few, length-append (front b l) []))

near_first : (sets a b : ℕ) (l m : List ℕ) → b ≡ a → Near [] b (stepped sets (set_of sets b) (Some a) l) (stepped sets (set_of sets b) (Some a) m)
near_first sets a b l m e =
    rw (eq-eqb (set_of sets a) (set_of sets b) (ap (set_of sets) (sym e)))
    (subst (λ v. In v (moved a m)) (sym e) (in_moved_first a m), rw (eq-eqb b a e) (λ y z. z))

module _ (F : Flow) where
  -- the list of the set of b
  abbrev at_set : (ℕ → List ℕ) → ℕ → List ℕ
  at_set P b = P (set_of F.sets b)

  -- an access pays for a load that is no plain load with a mark of its block; the marks of other blocks stay
  abbrev Paid : Bool → Option ℕ → List (List ℕ) → List ℕ → Type 0
  Paid hit o plain M = (M' : List ℕ) × (load o hit + length M' ≤ plain_load F o plain + length M) × ((b : ℕ) → (o ≡ Some b → ⊥) → In b M → In b M')

  pay : (hit : Bool) (real plain : List (List ℕ)) (P Q : ℕ → List ℕ) (M : List ℕ) (rest : ℕ → Bool) →
      ((s : ℕ) → Shows F s real (Q s)) → ((s : ℕ) → Shows F s plain (P s)) → ((s : ℕ) → Distinct (Q s)) → (o : Option ℕ) → Honest F o hit real →
      ((b : ℕ) → In b (at_set P b) → Covered (again F.ways b o hit (at_set P b) (rest b)) b (at_set P b) (at_set Q b) M) → Paid hit o plain M
  pay hit real plain P Q M rest sr sp d None h cov = (M, omega arith, λ b n i. i)
  pay true real plain P Q M rest sr sp d (Some a) h cov = (M, omega arith, λ b n i. i)
  pay false real plain P Q M rest sr sp d (Some a) h cov = go (has a (list_of F.sets a plain)) refl where
    go : (t : Bool) → has a (list_of F.sets a plain) ≡ t →
        (M' : List ℕ) × (1 + length M' ≤ cond t 0 1 + length M) × ((b : ℕ) → (Some a ≡ Some b → ⊥) → In b M → In b M')
    go false e = (M, omega arith, λ b n i. i)
    go true e =
        let s = set_of F.sets a in
        let there : In a (take F.ways (P s)) = sym (ap (has a) (sp s).part) ∙ e in
        let parts = take_in F.ways a (P s) there in
        let mark : In a M =
        ⊎_elim
        (λ (n : Near [] a (at_set P a) (at_set Q a)).
        absurd (both_ways false refl (honest_hit F s a real (Q s) false refl (sr s) h (near_hit F.ways a (P s) (Q s) (d s) n parts.1))))
        (λ (f : again F.ways a (Some a) false (at_set P a) (rest a) ≡ true → In a M).
        f (rw (eq-eqb a a refl) (and_from (has a (take F.ways (at_set P a))) true there refl)))
        (cov a parts.0) in
        (without a M, omega (arith, without_length a M mark), λ b n i. has_without a b M (λ z. n (ap {B = Option ℕ} Some (sym z))) ∙ i)

  -- what is covered before an access is covered after it
  covers : (hit rest : Bool) (M M' : List ℕ) (o : Option ℕ) (b : ℕ) (l m : List ℕ) →
      (In b l → Covered (again F.ways b o hit l rest) b l m M) → ((o ≡ Some b → ⊥) → In b M → In b M') →
      In b (stepped F.sets (set_of F.sets b) o l) →
      Covered rest b (stepped F.sets (set_of F.sets b) o l) (stepped F.sets (set_of F.sets b) o m) M'
  covers hit rest M M' None b l m cov keep i =
      ⊎_elim (λ (n : Near [] b l m). inl n) (λ (f : rest ≡ true → In b M). inr (λ r. keep (none_some b) (f r))) (cov i)
  covers hit rest M M' (Some a) b l m cov keep i = ⊎_elim same other (cases_eq b a) where
    same : b ≡ a → Covered rest b (stepped F.sets (set_of F.sets b) (Some a) l) (stepped F.sets (set_of F.sets b) (Some a) m) M'
    same e = inl (near_first F.sets a b l m e)

    other : (b ≡ a → ⊥) → Covered rest b (stepped F.sets (set_of F.sets b) (Some a) l) (stepped F.sets (set_of F.sets b) (Some a) m) M'
    other n = go (eqb (set_of F.sets a) (set_of F.sets b)) i where
      off : eqb b a ≡ false
      off = ne_eqb b a n

      covered : In b l → Near [] b l m ⊎ (rest ≡ true → In b M')
      covered z =
          ⊎_elim
          (λ (y : Near [] b l m). inl y)
          (λ (f : again F.ways b (Some a) hit l rest ≡ true → In b M). inr (λ r. keep (λ e. n (cc)) (f (rw off r))))
          (cov z)

      go : (t : Bool) → In b (cond t (moved a l) l) → Covered rest b (cond t (moved a l) l) (cond t (moved a m) m) M'
      go true z =
          ⊎_elim
          (λ (y : Near [] b l m). inl (near_moved [] a l m b (λ _. y) z))
          (λ (f : rest ≡ true → In b M'). inr f)
          (covered (in_moved_other b a l n z))
      go false z = covered z

  -- while interrupted, every repeated load is covered by a mark
  abbrev Marked : Mode → ℕ → (ℕ → List ℕ) → (ℕ → List ℕ) → List ℕ → List Event → Type 0
  Marked walking p P Q M es =
      (b : ℕ) → In b (at_set P b) → Covered (repeats F (set_of F.sets b) b p (at_set P b) es) b (at_set P b) (at_set Q b) M
  Marked interrupted p P Q M es = (b : ℕ) → In b (at_set P b) → repeats F (set_of F.sets b) b p (at_set P b) es ≡ true → In b M
  Marked ended p P Q M es = Unit {0}

  ended_none : (p : ℕ) (row : List (List ℕ)) (es : List Event) → Allowed F ended p row es → loads F p es ≡ 0
  ended_none p row [] ob = refl
  ended_none p row (step hit q ∷ es) ob = absurd ob
  ended_none p row (finish hit ∷ es) ob = absurd ob
  ended_none p row (interrupt ∷ es) ob = absurd ob
  ended_none p row (touch b ∷ es) ob = absurd ob
  ended_none p row (resume ∷ es) ob = absurd ob

module _ (F : Flow) (N : Findings) (fits : Fits F) (settled : SettledAlongEdges F N) where
  -- from any moment on, with the lists of each set without limit, P moved by the walk alone and Q by every access, and the marks M
  bounded : (es : List Event) (mode : Mode) (p : ℕ) (real plain : List (List ℕ)) (P Q : ℕ → List ℕ) (M : List ℕ) →
      ((s : ℕ) → Shows F s real (Q s)) → ((s : ℕ) → Shows F s plain (P s)) → ((s : ℕ) → Good F N p s (P s) (Q s)) →
      Allowed F mode p real es → Marked F mode p P Q M es → loads F p es ≤ plain_loads F p plain es + charge F N p es + length M
  bounded [] mode p real plain P Q M sr sp g ob mk = omega arith
  bounded (step hit q ∷ es) walking p real plain P Q M sr sp g ob mk =
      let o = F.access p in
      let P' : ℕ → List ℕ = λ s. stepped F.sets s o (P s) in
      let Q' : ℕ → List ℕ = λ s. stepped F.sets s o (Q s) in
      let rest : ℕ → Bool = λ b. repeats F (set_of F.sets b) b q (at_set F P' b) es in
      let paid = pay F hit real plain P Q M rest sr sp (λ s. (g s).real_distinct) o ob.1 mk in
      let next = bounded es walking q (row_moved F o real) (row_moved F o plain) P' Q' paid.0
      (λ s. shows_moved F fits o s real (Q s) (sr s))
      (λ s. shows_moved F fits o s plain (P s) (sp s))
      (λ s. good_step F N fits settled p q s (P s) (Q s) ob.0 (g s))
      ob.2
      (λ b i. covers F hit (rest b) M paid.0 o b (at_set F P b) (at_set F Q b) (mk b) (paid.2 b) i) in
      omega (arith, paid.1, next)
  bounded (step hit q ∷ es) interrupted p real plain P Q M sr sp g ob mk = absurd ob
  bounded (step hit q ∷ es) ended p real plain P Q M sr sp g ob mk = absurd ob
  bounded (finish hit ∷ es) walking p real plain P Q M sr sp g ob mk =
      let paid = pay F hit real plain P Q M (λ b. false) sr sp (λ s. (g s).real_distinct) (F.access p) ob.0 mk in
      omega (arith, paid.1, ended_none F p (row_moved F (F.access p) real) es ob.1)
  bounded (finish hit ∷ es) interrupted p real plain P Q M sr sp g ob mk = absurd ob
  bounded (finish hit ∷ es) ended p real plain P Q M sr sp g ob mk = absurd ob
  bounded (interrupt ∷ es) walking p real plain P Q M sr sp g ob mk =
      let new = marks_below F N p P F.sets in
      let next = bounded es interrupted p real plain P Q (new ++ M) sr sp g ob
      (λ b i r.
      let s = set_of F.sets b in
      let again = reused F N fits settled s b refl es interrupted p real (P s) (Q s) (sr s) (g s) i ob r in
      in_left b new M (marked F N p P s b (Q s) (mod-lt b fits.some_set) refl (g s) i again)) in
      omega (arith, next, length-append new M, few_marks F N p P Q g F.sets)
  bounded (interrupt ∷ es) interrupted p real plain P Q M sr sp g ob mk = absurd ob
  bounded (interrupt ∷ es) ended p real plain P Q M sr sp g ob mk = absurd ob
  bounded (touch a ∷ es) walking p real plain P Q M sr sp g ob mk = absurd ob
  bounded (touch a ∷ es) interrupted p real plain P Q M sr sp g ob mk =
      bounded es interrupted p (row_moved F (Some a) real) plain P (λ s. stepped F.sets s (Some a) (Q s)) M
      (λ s. shows_moved F fits (Some a) s real (Q s) (sr s)) sp (λ s. good_touch F N p s a (P s) (Q s) ob.0 (g s)) ob.1 mk
  bounded (touch a ∷ es) ended p real plain P Q M sr sp g ob mk = absurd ob
  bounded (resume ∷ es) walking p real plain P Q M sr sp g ob mk = absurd ob
  bounded (resume ∷ es) interrupted p real plain P Q M sr sp g ob mk = bounded es walking p real plain P Q M sr sp g ob (λ b i. inr (mk b i))
  bounded (resume ∷ es) ended p real plain P Q M sr sp g ob mk = absurd ob

empty_part : (n s : ℕ) → get_or (empty_row n) s [] ≡ []
empty_part zero s = refl
empty_part (suc n) zero = refl
empty_part (suc n) (suc s) = empty_part n s

take_none : (k : ℕ) → take {A = ℕ} k [] ≡ []
take_none zero = refl
take_none (suc k) = refl

pub loads_bounded : LoadsBounded
loads_bounded F N fits settled es ob =
    let shows : (s : ℕ) → Shows F s (empty_row F.sets) [] =
    λ s. record { many = length-replicate F.sets []; part = empty_part F.sets s ∙ sym (take_none F.ways) } in
    let good : (s : ℕ) → Good F N 0 s [] [] =
    λ s. record {
      plain_distinct = refl;
      real_distinct = refl;
      own = λ x i. in_none x i;
      ages = λ x i. in_none x i;
      conflicts = λ x i. in_none x i;
      real = λ x i. in_none x i;
    } in
    let all = bounded F N fits settled es walking 0 (empty_row F.sets) (empty_row F.sets) (λ s. []) (λ s. []) [] shows shows good ob (λ b i. in_none b i) in
    omega arith
