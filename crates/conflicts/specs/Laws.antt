-- The laws of conflict sets. Assumes nothing.
use Rattle.std.specs.Prelude.{◌≡◌, ℕ, ◌^◌, ◌<◌, ◌≤◌, Bool, true, false, cond, ◌⊎◌, List, Some, None, Option, ◌==◌, ◌≢◌, bit_or, nat_lt, slice_index, refl}
use lib.Pointwise.{pointwise}
use Rattle.std.specs.Option.{option_eq}
use Rattle.std.proofs.lemmas.Bool.Decides.{Decides-eqb}
use Rattle.cells.proofs.Matching.{matches_by}
use Rattle.std.proofs.Common.{Decides, eqb, sym, ap, ◌∙◌, inl, inr, arith}
use Rattle.std.proofs.lemmas.Bool.{cond_both, eqb-true, eqb-false}
use Rattle.fixpoint.specs.Kinds.{Laws}
use Rattle.cells.specs.Cells.{CellLaws, OwnRow, EachAtOrBefore, each}
use Rattle.cells.proofs.Lists.{length_each}
use Rattle.cells.proofs.Rows.{own_each, before_each}
use Rattle.cells.proofs.RowLaws.{rows_laws}
use Rattle.cells.proofs.Tells.{rows_tell}
use Rattle.fixpoint.proofs.Always.{RankTells}
use Rattle.rowkinds.specs.Ages.{OwnAccess}
use Rattle.blocksets.specs.declared.BlockSet.{BlockSet}
use Rattle.blocksets.specs.Members.{Holds, Within, with_block, no_blocks}
use Rattle.blocksets.specs.Digits.{Has}
use Rattle.blocksets.proofs.Digits.{has_or, or_has_left, or_has_right, has_pow, digit_zero, within_ones, within_same, ones_lacking}
use Rattle.conflicts.specs.Conflicts.{Included, union_of, extended, conflict_after, OwnConflict, conflict_rank, conflict_cell, conflict_list, conflicts_row, conflicts_after, conflicts_meaning}
use Rattle.conflicts.specs.declared.Conflicts.{Conflicts}

-- what is in a set with b added
in_with : (s : BlockSet) (b j : ℕ) → Holds (with_block s b) j → Holds s j ⊎ (j ≡ b)
in_with s b j =
    cond_both (nat_lt b 64) (bit_or s.mask (2 ^ b)) s.mask (λ (m : ℕ). Has m j → Holds s j ⊎ (j ≡ b))
    (λ e h. elim (has_or s.mask (2 ^ b) j h) [ inl a ↦ inl a | inr a ↦ inr (has_pow b j a) ])
    (λ e h. inl h)

with_within : (s t : BlockSet) (b : ℕ) → Within s t → Within (with_block s b) (with_block t b)
with_within s t b u =
    elim (nat_lt b 64) as (λ v. (j : ℕ) → Has (cond v (bit_or s.mask (2 ^ b)) s.mask) j → Has (cond v (bit_or t.mask (2 ^ b)) t.mask) j) [
      | true ↦ λ j h. elim (has_or s.mask (2 ^ b) j h) [ inl a ↦ or_has_left t.mask (2 ^ b) j (u j a) | inr a ↦ or_has_right t.mask (2 ^ b) j a ]
      | false ↦ u
    ]

module _ (n : ℕ) (sets : List ℕ) where
  own_union : (i : ℕ) (x y : Option BlockSet) → OwnConflict n sets i x → OwnConflict n sets i y → OwnConflict n sets i (union_of x y)
  own_union i None y h k = k
  own_union i (Some s) None h k = h
  own_union i (Some s) (Some t) h k = (h.0, λ j p. elim (has_or s.mask t.mask j p) [ inl a ↦ h.1 j a | inr a ↦ k.1 j a ])

  reflexive : (x : Option BlockSet) → Included x x
  reflexive None = tt
  reflexive (Some s) = λ j h. h

  transitive : (x y z : Option BlockSet) → Included x y → Included y z → Included x z
  transitive None y z u v = tt
  transitive (Some s) None z u v = absurd u
  transitive (Some s) (Some t) None u v = v
  transitive (Some s) (Some t) (Some r) u v = λ j h. v j (u j h)

  left : (x y : Option BlockSet) → Included x (union_of x y)
  left None y = tt
  left (Some s) None = λ j h. h
  left (Some s) (Some t) = λ j h. or_has_left s.mask t.mask j h

  right : (x y : Option BlockSet) → Included y (union_of x y)
  right None y = reflexive y
  right (Some s) None = tt
  right (Some s) (Some t) = λ j h. or_has_right s.mask t.mask j h

  least : (x y z : Option BlockSet) → Included x z → Included y z → Included (union_of x y) z
  least None y z u v = v
  least (Some s) None z u v = u
  least (Some s) (Some t) None u v = u
  least (Some s) (Some t) (Some r) u v = λ j h. elim (has_or s.mask t.mask j h) [ inl a ↦ u j a | inr a ↦ v j a ]

  rises : (x y : Option BlockSet) → Included x y → conflict_rank x ≤ conflict_rank y
  rises None y u = omega arith
  rises (Some s) None u = absurd u
  rises (Some s) (Some t) u = let r = within_ones s.mask t.mask u in omega arith

  same : (x y : Option BlockSet) → Included x y → conflict_rank y ≤ conflict_rank x → x ≡ y
  same None None u h = refl
  same None (Some t) u h = absurd (omega arith)
  same (Some s) None u h = absurd u
  same (Some s) (Some t) u h =
      let of_mask : ℕ → Option BlockSet = λ m. Some (record { mask = m }) in
      ap of_mask (within_same s.mask t.mask u (omega arith))

  bound : (i : ℕ) (x : Option BlockSet) → OwnConflict n sets i x → conflict_rank x ≤ n
  bound i None h = omega arith
  bound i (Some s) h = let r = ones_lacking n s.mask i (λ j p. (h.1 j p).0) h.0 (λ p. (h.1 i p).1 refl) in omega arith

  past : (i : ℕ) (x : Option BlockSet) → OwnConflict n sets i x → n ≤ i → conflict_rank x ≡ 0
  past i None h l = refl
  past i (Some s) h l = absurd (let k = h.0 in omega arith)

  conflict_laws : CellLaws (conflict_cell n sets)
  conflict_laws = record {
    start_own = λ i. tt;
    merge_own = own_union;
    reflexive = reflexive;
    transitive = transitive;
    start_least = λ i x h. tt;
    merge_left = left;
    merge_right = right;
    merge_least = least;
    rank_keeps_order = rises;
    rank_same = λ i x y h k u l. same x y u l;
    rank_within = bound;
    rank_past = past;
  }

  extended_own : (b i : ℕ) → b < n → (i ≢ b) → (t : Bool) → t ≡ (slice_index sets i == slice_index sets b) → (x : Option BlockSet) → OwnConflict n sets i x → OwnConflict n sets i (extended t b x)
  extended_own b i l ne true e None h = tt
  extended_own b i l ne true e (Some s) h = (
    h.0,
    λ j p. elim (in_with s b j p) [
      | inl a ↦ h.1 j a
      | inr a ↦ (omega arith, λ q. ne (sym q ∙ a), ap (λ (k : ℕ). slice_index sets k) a ∙ sym (eqb-true (slice_index sets i) (slice_index sets b) (sym e)))
    ],
  )
  extended_own b i l ne false e x h = h

  after_own : (b i : ℕ) (x : Option BlockSet) → b < n → OwnConflict n sets i x → OwnConflict n sets i (conflict_after sets b i x)
  after_own b i x l h =
      cond_both (i == b) _ _ (OwnConflict n sets i)
      (λ e. (let q = eqb-true i b e in omega arith, λ j p. absurd (let z = digit_zero j in omega arith)))
      (λ e. extended_own b i l (eqb-false i b e) (slice_index sets i == slice_index sets b) refl x h)

  extended_keeps : (t : Bool) (b : ℕ) (x y : Option BlockSet) → Included x y → Included (extended t b x) (extended t b y)
  extended_keeps true b None y u = tt
  extended_keeps true b (Some s) None u = u
  extended_keeps true b (Some s) (Some t) u = with_within s t b u
  extended_keeps false b x y u = u

  after_keeps : (b i : ℕ) (x y : Option BlockSet) → Included x y → Included (conflict_after sets b i x) (conflict_after sets b i y)
  after_keeps b i x y u =
      elim (i == b) as (λ v. Included (cond v (Some no_blocks) (extended (slice_index sets i == slice_index sets b) b x)) (cond v (Some no_blocks) (extended (slice_index sets i == slice_index sets b) b y))) [
        | true ↦ λ j h. h
        | false ↦ extended_keeps (slice_index sets i == slice_index sets b) b x y u
      ]

  owns : (r : Conflicts) (m : Option ℕ) → OwnAccess n m → OwnRow (conflict_cell n sets) 64 (conflict_list r) → OwnRow (conflict_cell n sets) 64 (conflict_list (conflicts_after n sets r m))
  owns r None f h = h
  owns r (Some b) f h =
      let g = conflict_after sets b in
      elim (nat_lt b n) as (λ v. OwnRow (conflict_cell n sets) 64 (conflict_list (cond v (conflicts_row (each g 0 r.conflicts)) r))) [
        | true ↦ (length_each g 0 r.conflicts ∙ h.0, own_each (conflict_cell n sets) conflict_laws g (λ i x k. after_own b i x f k) 0 r.conflicts h.1)
        | false ↦ h
      ]

  keeps : (p q : Conflicts) (m : Option ℕ) → OwnAccess n m → OwnRow (conflict_cell n sets) 64 (conflict_list p) → OwnRow (conflict_cell n sets) 64 (conflict_list q) → EachAtOrBefore (conflict_cell n sets) (conflict_list p) (conflict_list q)
      → EachAtOrBefore (conflict_cell n sets) (conflict_list (conflicts_after n sets p m)) (conflict_list (conflicts_after n sets q m))
  keeps p q None f h k u = u
  keeps p q (Some b) f h k u =
      let g = conflict_after sets b in
      elim (nat_lt b n) as (λ v. EachAtOrBefore (conflict_cell n sets) (conflict_list (cond v (conflicts_row (each g 0 p.conflicts)) p)) (conflict_list (cond v (conflicts_row (each g 0 q.conflicts)) q))) [
        | true ↦ before_each (conflict_cell n sets) conflict_laws g g (λ i x y s t v. after_keeps b i x y v) 0 p.conflicts q.conflicts h.1 k.1 u
        | false ↦ u
      ]

pub conflicts_laws : (n : ℕ) (sets : List ℕ) → Laws (conflicts_meaning n sets)
conflicts_laws n sets = rows_laws (conflict_cell n sets) (conflict_laws n sets) 64 conflict_list conflicts_row (OwnAccess n) (conflicts_after n sets) (λ xs. refl) (λ r. refl) (owns n sets) (keeps n sets)

pub conflicts_tell : (n : ℕ) (sets : List ℕ) → RankTells (conflicts_meaning n sets)
conflicts_tell n sets = rows_tell (conflict_cell n sets) (conflict_laws n sets) 64 conflict_list conflicts_row (OwnAccess n) (conflicts_after n sets) (λ r. refl)

sets_match : (s t : BlockSet) → Decides (eqb s.mask t.mask) (s ≡ t)
sets_match s t =
    let of_mask : ℕ → BlockSet = λ m. record { mask = m } in
    let d = Decides-eqb s.mask t.mask in
    (λ e. ap of_mask (d.0 e), λ e. d.1 (ap (λ (u : BlockSet). u.mask) e))

-- rows are equal where their conflict sets are
pub conflicts_equality : (a b : Conflicts) → Decides (pointwise (option_eq (λ (s t : BlockSet). eqb s.mask t.mask)) a.conflicts b.conflicts) (a ≡ b)
conflicts_equality a b =
    let d = matches_by (λ s t. eqb s.mask t.mask) sets_match a.conflicts b.conflicts _ refl in
    (λ t. ap conflicts_row (d.0 t), λ e. d.1 (ap conflict_list e))
