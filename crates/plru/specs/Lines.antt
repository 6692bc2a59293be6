-- The lines of the code and the sets that they stand for. Assumes nothing.
use Rattle.std.specs.Prelude.{◌≡◌, ℕ, zero, suc, ◌%◌, ◌<◌, ◌≤◌, true, ◌&&◌, List, [], ◌∷◌, map, length, get_or, take, set, replicate, All, Some, None, Ok, Err, Option, Result, nat_le, slice_index_or, slice_set, refl}
use Rattle.std.proofs.Common.{sym, ap, ◌∙◌, arith, length-take}
use Rattle.std.proofs.Math.Seq.{take-set-lt}
use Rattle.std.proofs.lemmas.List.{map-set, get_or-take, get_or-map, length-map}
use Rattle.std.proofs.lemmas.Bool.{and_parts, and_from, leb-true, le-leb, cond-true}
use Rattle.plru.specs.declared.set.PlruSet.{PlruSet}
use Rattle.cache.specs.Outcomes.{outcome_of}
use Rattle.cache.specs.Sizes.{refusal}
use Rattle.cache.specs.declared.fault.CacheFault.{CacheFault}
use Rattle.cache.specs.declared.fault.CacheFault.TheVariants as faults
use Rattle.recency.specs.Blocks.{has}
use Rattle.plru.specs.Tree.{is_tree}
use Rattle.plru.specs.Sets.{SetState, empty_set, plru_step}
use Rattle.plru.specs.Caches.{CacheState, cache_step, holds_block, new_cache, unless_refused}
use Rattle.plru.specs.Meaning.{state_of, all_fit}
use Rattle.plru.specs.Steps.{step_few}

-- the filled ways of a set of the code
abbrev pub filled : PlruSet → ℕ
filled s = length (state_of s).blocks

pub count_is : (s : PlruSet) → length (state_of s).blocks ≡ filled s
count_is s = refl

pub fit_at : (ways : ℕ) (lines : List PlruSet) (i : ℕ) (d : PlruSet) → i < length lines → all_fit ways lines ≡ true → filled (get_or lines i d) ≤ ways
fit_at ways [] i d h f = absurd (omega arith)
fit_at ways (s ∷ lines) zero d h f = leb-true _ _ (and_parts (nat_le (filled s) ways) (all_fit ways lines) f).0
fit_at ways (s ∷ lines) (suc i) d h f = fit_at ways lines i d (omega arith) (and_parts (nat_le (filled s) ways) (all_fit ways lines) f).1

pub fit_set : (ways : ℕ) (lines : List PlruSet) (i : ℕ) (s : PlruSet) → filled s ≤ ways → all_fit ways lines ≡ true → all_fit ways (slice_set lines i s) ≡ true
fit_set ways [] i s h f = f
fit_set ways (t ∷ lines) zero s h f = and_from _ _ (le-leb _ _ h) (and_parts (nat_le (filled t) ways) (all_fit ways lines) f).1
fit_set ways (t ∷ lines) (suc i) s h f = let p = and_parts (nat_le (filled t) ways) (all_fit ways lines) f in and_from _ _ p.0 (fit_set ways lines i s h p.1)

pub fit_replicate : (ways n : ℕ) (s : PlruSet) → filled s ≤ ways → all_fit ways (replicate n s) ≡ true
fit_replicate ways zero s h = refl
fit_replicate ways (suc n) s h = and_from _ _ (le-leb _ _ h) (fit_replicate ways n s h)

map_replicate : (n : ℕ) (s : PlruSet) → map state_of (replicate n s) ≡ replicate n (state_of s)
map_replicate zero s = refl
map_replicate (suc n) s = ap {B = List SetState} (λ r. state_of s ∷ r) (map_replicate n s)

pub fit_all : (ways : ℕ) (lines : List PlruSet) → All (λ line. filled line ≤ ways) lines → all_fit ways lines ≡ true
fit_all ways [] few = refl
fit_all ways (s ∷ lines) few = and_from _ _ (le-leb _ _ (few 0 s (omega arith))) (fit_all ways lines (λ k d lt. few (suc k) d (omega arith)))

-- a set that holds nothing fits any tree
pub fit_empty : (ways : ℕ) (lines : List PlruSet) → All (λ line. state_of line ≡ empty_set) lines → all_fit ways lines ≡ true
fit_empty ways lines none = fit_all ways lines (λ k d lt. let n = ap (λ (s : SetState). length s.blocks) (none k d lt) in omega arith)

abbrev pub states : ℕ → List PlruSet → List SetState
states n lines = take n (map state_of lines)

module _ (n : ℕ) (lines : List PlruSet) (room : n ≤ length lines) where
  pub states_length : length (states n lines) ≡ n
  states_length = simp (length-take, length-map) (omega arith)

  pub state_at : (i : ℕ) (d : PlruSet) → i < n → slice_index_or (states n lines) i empty_set ≡ state_of (slice_index_or lines i d)
  state_at i d h = get_or-take n (map state_of lines) i empty_set h ∙ get_or-map state_of lines i d empty_set (omega arith)

  pub states_set : (i : ℕ) (s : PlruSet) → i < n → states n (slice_set lines i s) ≡ slice_set (states n lines) i (state_of s)
  states_set i s h = ap (take n) (map-set state_of lines i s) ∙ take-set-lt n (map state_of lines) i (state_of s) h

-- no set has more filled ways than the cache has ways
pub few_at : (n : ℕ) (lines : List PlruSet) (ways i : ℕ) → n ≤ length lines → i < n → all_fit ways lines ≡ true → length (get_or (states n lines) i empty_set).blocks ≤ ways
few_at n [] ways i room h f = absurd (omega arith)
few_at n (d ∷ lines) ways i room h f =
    let e = ap (λ (s : SetState). length s.blocks) (state_at n (d ∷ lines) room i d h) in
    let k = fit_at ways (d ∷ lines) i d (omega arith) f in
    omega arith

-- a line that an access has changed stays within the ways
pub line_fits : (ways b : ℕ) (s t : PlruSet) → is_tree ways ≡ true → filled s ≤ ways → state_of t ≡ plru_step ways b (state_of s) → filled t ≤ ways
line_fits ways b s t size h e =
    let m = ap (λ (k : SetState). length k.blocks) e in
    let r = step_few ways size (state_of s) b h in
    omega arith

-- an access changes one line
module _ (sets ways b : ℕ) (lines : List PlruSet) (d t : PlruSet) (room : sets ≤ length lines) (within : b % sets < sets) (e : state_of t ≡ plru_step ways b (state_of (slice_index_or lines (b % sets) d))) where
  abbrev own : CacheState
  own = record { sets = sets; ways = ways; states = states sets lines }

  pub load_moves : record { sets = sets; ways = ways; states = states sets (slice_set lines (b % sets) t) } ≡ cache_step b own
  load_moves =
      ap {B = CacheState} (λ ss. record { sets = sets; ways = ways; states = ss })
      (states_set sets lines room (b % sets) t within ∙ ap (set (states sets lines) (b % sets)) (e ∙ ap (plru_step ways b) (sym (state_at sets lines room (b % sets) d within))))

  pub load_meets : outcome_of (has b (state_of (slice_index_or lines (b % sets) d)).blocks) ≡ outcome_of (holds_block own b)
  load_meets = ap (λ (s : SetState). outcome_of (has b s.blocks)) (sym (state_at sets lines room (b % sets) d within))

-- a new cache
pub empty_count : (s : PlruSet) → state_of s ≡ empty_set → filled s ≡ 0
empty_count s e = sym (count_is s) ∙ ap (λ (k : SetState). length k.blocks) e

pub states_empty : (n : ℕ) (lines : List PlruSet) → n ≤ length lines → All (λ line. state_of line ≡ empty_set) lines → states n lines ≡ replicate n empty_set
states_empty zero lines h none = refl
states_empty (suc n) [] h none = absurd (omega arith)
states_empty (suc n) (s ∷ lines) h none =
    let first : state_of s ≡ empty_set = none 0 s (omega arith) in
    rw (first, states_empty n lines (omega arith) (λ k d lt. none (suc k) d (omega arith))) refl

pub new_made_unrefused : (sets ways : ℕ) (ss : List SetState) → refusal is_tree sets ways ≡ None → ss ≡ replicate sets empty_set → ◌≡◌ {A = Result CacheState CacheFault} (Ok (record { sets = sets; ways = ways; states = ss })) (new_cache sets ways)
new_made_unrefused sets ways ss fine e =
    ap {B = Result CacheState CacheFault} (λ v. Ok (record { sets = sets; ways = ways; states = v })) e
    ∙ sym (ap (λ (o : Option CacheFault). unless_refused o (record { sets = sets; ways = ways; states = replicate sets empty_set })) fine)

-- the same of a size in its bounds
pub new_made : (sets ways : ℕ) (ss : List SetState) → 1 ≤ sets → sets ≤ 64 → is_tree ways ≡ true → ss ≡ replicate sets empty_set → ◌≡◌ {A = Result CacheState CacheFault} (Ok (record { sets = sets; ways = ways; states = ss })) (new_cache sets ways)
new_made sets ways ss h k t =
    let fine : refusal is_tree sets ways ≡ None =
    cond-true (nat_le 1 sets && nat_le sets 64) _ (Some faults.Sets) (and_from _ _ (le-leb 1 sets h) (le-leb sets 64 k)) ∙ cond-true (is_tree ways) None (Some faults.Ways) t in
    new_made_unrefused sets ways ss fine

pub new_refused : (sets ways : ℕ) (fault : CacheFault) → refusal is_tree sets ways ≡ Some fault → ◌≡◌ {A = Result CacheState CacheFault} (Err fault) (new_cache sets ways)
new_refused sets ways fault e = sym (ap (λ (o : Option CacheFault). unless_refused o (record { sets = sets; ways = ways; states = replicate sets empty_set })) e)
