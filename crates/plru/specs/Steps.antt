-- A set vouches for each list again once the list has moved as an LRU list would. Assumes nothing.
use Rattle.std.specs.Prelude.{◌≡◌, ℕ, zero, suc, ◌+◌, ◌/◌, ◌%◌, ◌^◌, ◌<◌, ◌≤◌, true, false, ltb, List, [], ◌∷◌, ◌++◌, length, take, ◌≢◌, nat_lt, slice_set, refl}
use Rattle.std.proofs.Common.{sym, ap, subst, ◌∙◌, ⊎_elim, arith, mod-lt, length-append, length-set}
use Rattle.std.proofs.lemmas.Bool.{cases_Bool, cases_eq, both_ways, ltb-true, ltb-false, cond_both}
use Rattle.std.proofs.lemmas.Bool.Decides.{nat_tests}
use Rattle.recency.specs.Blocks.{has, distinct}
use Rattle.recency.specs.Recency.{without, lru_step, front}
use Rattle.recency.proofs.Steps.{has_without}
use Rattle.plru.specs.Tree.{is_tree, levels, bit_at, touched, led_to, victim}
use Rattle.plru.specs.Sets.{SetState, index_of, plru_step}
use Rattle.plru.specs.Guards.{place_of, Threatens, Parted, Witnessed, Guards}
use Rattle.plru.specs.Lists as Lists
use Rattle.plru.specs.Bits.{bit_turned, bit_stays, led_threatens, victim_place, victim_within, up_last}

-- LRU steps, seen from a block that is not the accessed one
module _ (w b x : ℕ) (l : List ℕ) (n : x ≡ b → ⊥) (h : has x (lru_step (suc w) b l) ≡ true) where
  pub step_listed : has x l ≡ true
  step_listed =
      ⊎_elim
      (λ (e : has b l ≡ true). let k : has x (b ∷ without b l) ≡ true = rw e at h in let r = has_without b x l n in grind (arith, nat_tests))
      (λ (e : has b l ≡ false). let k : has x (b ∷ take w l) ≡ true = rw e at h in let r = Lists.take_of w x l in grind (arith, nat_tests))
      (cases_Bool (has b l))

  -- the accessed block stands in front of it
  pub step_front : has b (front x (lru_step (suc w) b l)) ≡ true
  step_front = cond_both (has b l) (b ∷ without b l) (b ∷ take w l) (λ m. has b (front x m) ≡ true) (λ _. grind (arith, nat_tests)) (λ _. grind (arith, nat_tests))

  -- and so does what stood there
  pub step_keeps_front : (y : ℕ) → (y ≢ b) → has y (front x l) ≡ true → has y (front x (lru_step (suc w) b l)) ≡ true
  step_keeps_front y m k =
      ⊎_elim
      (λ (e : has b l ≡ true). rw e (let r = Lists.front_without x y b l n m k in grind (arith, nat_tests)))
      (λ (e : has b l ≡ false). rw e (let i : has x (b ∷ take w l) ≡ true = rw e at h in let r = Lists.front_take w x y l in grind (arith, nat_tests)))
      (cases_Bool (has b l))

  -- where the accessed block is new, fewer than w blocks stood in front of it
  pub step_new_short : has b l ≡ false → length (front x l) < w
  step_new_short e = let i : has x (b ∷ take w l) ≡ true = rw e at h in let j : has x (take w l) ≡ true = grind (arith, nat_tests) in Lists.front_short w x l j

module _ (ways : ℕ) (size : is_tree ways ≡ true) where
  -- distinct threats have distinct witnesses, so that a block all of whose bits name its half has a block in front of it for each
  witnesses : (s : SetState) (l : List ℕ) (x : ℕ) → Witnessed ways s l x → (m : ℕ) → m ≤ levels ways → ((k : ℕ) → k < m → Threatens s.bits (place_of ways x s) k) →
      (ws : List ℕ) × (length ws ≡ m) × (distinct ws ≡ true) × ((y : ℕ) → has y ws ≡ true → (has y (front x l) ≡ true) × (place_of ways x s / 2 ^ m ≡ place_of ways y s / 2 ^ m))
  witnesses s l x g zero h t = ([], refl, refl, λ y k. absurd (both_ways false refl k))
  witnesses s l x g (suc m) h t =
      let r = witnesses s l x g m (omega arith) (λ k i. t k (omega arith)) in
      let w = g m (omega arith) (t m (omega arith)) in
      let y = w.0 in
      let ws = r.0 in
      let new : has y ws ≡ false =
      ⊎_elim
      (λ (e : has y ws ≡ true). absurd (w.2.1 (r.3 y e).1))
      (λ (e : has y ws ≡ false). e)
      (cases_Bool (has y ws)) in (
        y ∷ ws,
        (let e = r.1 in omega arith),
        Lists.distinct_more y ws new r.2,
        λ z k.
            ⊎_elim
            (λ (e : z ≡ y). (ap (λ v. has v (front x l)) e ∙ w.1, w.2.0 ∙ ap (λ v. place_of ways v s / 2 ^ suc m) (sym e)))
            (λ (e : z ≡ y → ⊥).
            let i = r.3 z (Lists.has_rest z y ws e k) in
            (i.0, up_last (place_of ways x s) m ∙ ap (λ n. n / 2) i.1 ∙ sym (up_last (place_of ways z s) m)))
            (cases_eq z y),
      )

  -- a listed block in the way that the bits lead to has a block in front of it for each level
  pub victim_last : (s : SetState) (l : List ℕ) (x : ℕ) → Witnessed ways s l x → index_of x s.blocks ≡ victim ways s.bits → levels ways ≤ length (front x l)
  victim_last s l x g e =
      let p : place_of ways x s ≡ led_to s.bits (levels ways) = ap (λ i. ways + i) e ∙ victim_place ways size s.bits in
      let r = witnesses s l x g (levels ways) (omega arith) (λ k h. subst (λ q. Threatens s.bits q k) (sym p) (led_threatens s.bits (levels ways) k h)) in
      let f = Lists.distinct_fit r.0 (front x l) r.2 (λ y h. (r.3 y h).0) in
      let n = r.1 in
      omega arith

  -- what an access does to a set, whichever way the block goes to
  module _ (s t : SetState) (b : ℕ) (l : List ℕ)
      (few : length s.blocks ≤ ways)
      (g : Guards ways s l)
      (held : has b t.blocks ≡ true)
      (within : index_of b t.blocks < ways)
      (turned : t.bits ≡ touched ways (index_of b t.blocks) s.bits)
      (was : has b l ≡ true → index_of b s.blocks ≡ index_of b t.blocks)
      (others : (x : ℕ) → (x ≢ b) → has x (lru_step (suc (levels ways)) b l) ≡ true → (has x t.blocks ≡ true) × (index_of x t.blocks ≡ index_of x s.blocks)) where
    step_witnessed_new : Witnessed ways t (lru_step (suc (levels ways)) b l) b
    step_witnessed_new k h e =
        let r = bit_turned ways size (index_of b t.blocks) (index_of b t.blocks) k within within h s.bits refl in
        let q : bit_at (touched ways (index_of b t.blocks) s.bits) (place_of ways b t / 2 ^ suc k) ≡ place_of ways b t / 2 ^ k % 2 = subst (λ v. bit_at v (place_of ways b t / 2 ^ suc k) ≡ place_of ways b t / 2 ^ k % 2) turned e in
        absurd (let u : place_of ways b t / 2 ^ k % 2 < 2 = mod-lt (place_of ways b t / 2 ^ k) (omega arith) in let v = sym q ∙ r in omega arith)

    module _ (x : ℕ) (n : x ≡ b → ⊥) (h : has x (lru_step (suc (levels ways)) b l) ≡ true) where
      same_place : place_of ways x t ≡ place_of ways x s
      same_place = ap (λ i. ways + i) (others x n h).1

      step_within : index_of x t.blocks < ways
      step_within = let o = (others x n h).1 in let w = Lists.index_within x s.blocks (g x (step_listed (levels ways) b x l n h)).0 in omega arith

      -- below the place where the paths part the bits and their witnesses stay; there the block itself is the witness
      step_witnessed : Witnessed ways t (lru_step (suc (levels ways)) b l) x
      step_witnessed k i e =
          let way = index_of b t.blocks in
          let other = index_of x t.blocks in
          let bit : bit_at (touched ways way s.bits) ((ways + other) / 2 ^ suc k) ≡ (ways + other) / 2 ^ k % 2 = subst (λ v. bit_at v ((ways + other) / 2 ^ suc k) ≡ (ways + other) / 2 ^ k % 2) turned e in
          ⊎_elim
          (λ (above : (ways + other) / 2 ^ suc k ≡ (ways + way) / 2 ^ suc k).
          let away = bit_turned ways size way other k within step_within i s.bits above in
          let u : (ways + way) / 2 ^ k % 2 < 2 = mod-lt ((ways + way) / 2 ^ k) (omega arith) in
          (b, step_front (levels ways) b x l n h, (above, λ same. let v = sym bit ∙ away in let z = ap (λ m. m % 2) same in omega arith)))
          (λ (beside : (ways + other) / 2 ^ suc k ≡ (ways + way) / 2 ^ suc k → ⊥).
          let stays = bit_stays ways size way other k within step_within i s.bits beside in
          let threat : Threatens s.bits (place_of ways x s) k = subst (λ p. Threatens s.bits p k) same_place (sym stays ∙ bit) in
          let w = (g x (step_listed (levels ways) b x l n h)).1 k i threat in
          let y = w.0 in
          let new : y ≡ b → ⊥ = λ is. beside (ap (λ p. p / 2 ^ suc k) same_place ∙ w.2.0 ∙ ap (λ v. (ways + index_of v s.blocks) / 2 ^ suc k) is ∙ ap (λ v. (ways + v) / 2 ^ suc k) (was (subst (λ v. has v l ≡ true) is (Lists.front_has x y l w.1)))) in
          let before = step_keeps_front (levels ways) b x l n h y new w.1 in
          let q : place_of ways y s ≡ place_of ways y t = ap (λ v. ways + v) (sym (others y new (Lists.front_has x y (lru_step (suc (levels ways)) b l) before)).1) in
          (y, before, subst (λ p. Parted p (place_of ways y t) k) (sym same_place) (subst (λ p. Parted (place_of ways x s) p k) q w.2)))
          (cases_eq ((ways + other) / 2 ^ suc k) ((ways + way) / 2 ^ suc k))

    pub moved_guards : Guards ways t (lru_step (suc (levels ways)) b l)
    moved_guards x h =
        ⊎_elim
        (λ (e : x ≡ b). subst (λ v. (has v t.blocks ≡ true) × Witnessed ways t (lru_step (suc (levels ways)) b l) v) (sym e) (held, step_witnessed_new))
        (λ (n : x ≡ b → ⊥). ((others x n h).0, step_witnessed x n h))
        (cases_eq x b)

  -- the three ways of an access
  module _ (s : SetState) (b : ℕ) (l : List ℕ) (few : length s.blocks ≤ ways) (g : Guards ways s l) where
    abbrev Next : List ℕ → ℕ → Type 0
    Next blocks way = Guards ways (record { blocks = blocks; bits = touched ways way s.bits }) (lru_step (suc (levels ways)) b l)

    unlisted : has b s.blocks ≡ false → has b l ≡ false
    unlisted h =
        ⊎_elim
        (λ (e : has b l ≡ true). absurd (both_ways _ h (g b e).0))
        (λ (e : has b l ≡ false). e)
        (cases_Bool (has b l))

    hit : has b s.blocks ≡ true → Next s.blocks (index_of b s.blocks)
    hit h = moved_guards s (record { blocks = s.blocks; bits = touched ways (index_of b s.blocks) s.bits }) b l few g h (let i = Lists.index_within b s.blocks h in omega arith) refl (λ _. refl) (λ x n k. ((g x (step_listed (levels ways) b x l n k)).0, refl))

    filled : has b s.blocks ≡ false → length s.blocks < ways → Next (s.blocks ++ (b ∷ [])) (length s.blocks)
    filled h i =
        let e = Lists.index_end b s.blocks h in
        moved_guards s (record { blocks = s.blocks ++ (b ∷ []); bits = touched ways (length s.blocks) s.bits }) b l few g
        (Lists.has_end b s.blocks) (omega arith)
        (ap (λ v. touched ways v s.bits) (sym e))
        (λ k. absurd (both_ways _ (unlisted h) k))
        (λ x n k. let o = (g x (step_listed (levels ways) b x l n k)).0 in (Lists.has_append x s.blocks (b ∷ []) o, Lists.index_append x s.blocks (b ∷ []) o))

    evicted : has b s.blocks ≡ false → ways ≤ length s.blocks → Next (slice_set s.blocks (victim ways s.bits) b) (victim ways s.bits)
    evicted h i =
        let v = victim ways s.bits in
        let j = victim_within ways size s.bits in
        let m : v < length s.blocks = omega arith in
        let e = Lists.index_set_new b s.blocks v h m in
        moved_guards s (record { blocks = slice_set s.blocks v b; bits = touched ways v s.bits }) b l few g
        (Lists.has_set_new b s.blocks v m) (omega arith)
        (ap (λ w. touched ways w s.bits) (sym e))
        (λ k. absurd (both_ways _ (unlisted h) k))
        (λ x n k.
        let o = g x (step_listed (levels ways) b x l n k) in
        let stays : index_of x s.blocks ≡ v → ⊥ = λ is. (let r = victim_last s l x o.1 is in let q = step_new_short (levels ways) b x l n k (unlisted h) in omega arith) in
        (Lists.has_set x b s.blocks v stays o.0, Lists.index_set x b s.blocks v n stays))

    pub step_guards : Guards ways (plru_step ways b s) (lru_step (suc (levels ways)) b l)
    step_guards =
        ⊎_elim
        (λ (h : has b s.blocks ≡ true). rw h (hit h))
        (λ (h : has b s.blocks ≡ false).
        ⊎_elim
        (λ (r : ltb (length s.blocks) ways ≡ true). rw (h, r) (filled h (ltb-true _ _ r)))
        (λ (r : ltb (length s.blocks) ways ≡ false). rw (h, r) (evicted h (ltb-false _ _ r)))
        (cases_Bool (nat_lt (length s.blocks) ways)))
        (cases_Bool (has b s.blocks))

  -- filled ways stay within the tree
  pub step_few : (s : SetState) (b : ℕ) → length s.blocks ≤ ways → length (plru_step ways b s).blocks ≤ ways
  step_few s b few =
      cond_both (has b s.blocks) _ _ (λ l. length l ≤ ways)
      (λ _. few)
      (λ _. cond_both (nat_lt (length s.blocks) ways) _ _ (λ l. length l ≤ ways)
      (λ r. let i = ltb-true _ _ r in simp length-append (omega arith))
      (λ _. simp length-set (omega arith)))

  -- the block of an access is held after it
  pub step_held : (s : SetState) (b : ℕ) → has b (plru_step ways b s).blocks ≡ true
  step_held s b =
      cond_both (has b s.blocks) _ _ (λ l. has b l ≡ true)
      (λ h. h)
      (λ _. cond_both (nat_lt (length s.blocks) ways) _ _ (λ l. has b l ≡ true)
      (λ r. Lists.has_end b s.blocks)
      (λ r. let i = ltb-false _ _ r in let j = victim_within ways size s.bits in Lists.has_set_new b s.blocks (victim ways s.bits) (omega arith)))
