-- A buffer that is written from the front, part by part. Assumes nothing.
use Rattle.std.proofs.Common.{◌≡◌, ℕ, ◌+◌, ◌-◌, ◌*◌, ◌<◌, ◌≤◌, List, [], ◌∷◌, ◌++◌, map, length, get_or, take, drop, sym, refl, ap, ◌∙◌, subst, append_assoc, append-nil, arith, length-append, length-drop}
use borrow.Rule.Slice.PartMut.{put_mid, post_of}
use Rattle.std.specs.List.{flat_map}
use Rattle.std.proofs.lemmas.List.Concat.{flat_map-append}
use Rattle.std.proofs.lemmas.List.Folds.{flat_map-map, length-flat_map-take}
use Rattle.std.proofs.lemmas.List.{take_at, drop_at, drop-drop, drop_all, take_rest, take_more, flat_map_more}
use Rattle.fields.specs.Layout.{FieldContents, field_bytes, end}
use Rattle.task.specs.Contents.{PointContents, TaskContents}
use Rattle.task.specs.Meaning.{all_contents}
use Rattle.task.specs.declared.point.Point.{Point}
use Rattle.taskformat.specs.Writing.{point_field, evicting_field, last_fields, task_bytes}
use Rattle.taskfile.specs.Answers.{Filled}
use Rattle.taskfile.proofs.PointBytes.{points_bytes, bytes_of_contents}

pub filled_within : (xs before after : List ℕ) (n : ℕ) → Filled xs before after n → n ≤ length after
filled_within xs before after n f = let l = ap length f.1 ∙ length-append xs (drop n before) in let e = f.0 in omega arith

-- room for ys behind xs stays where it was
pub filled_room : (xs before after : List ℕ) (n m : ℕ) → Filled xs before after n → length xs + m ≤ length before → n + m ≤ length after
filled_room xs before after n m f h =
    let l = ap length f.1 ∙ length-append xs (drop n before) in
    let d = length-drop n before in
    let e = f.0 in
    omega arith

-- the bytes may be said in another way
pub filled_as : (xs ys before after : List ℕ) (n : ℕ) → xs ≡ ys → Filled xs before after n → Filled ys before after n
filled_as xs ys before after n e f = subst (λ (zs : List ℕ). Filled zs before after n) e f

-- more bytes were written to what follows those at the front
pub filled_more : (at m : ℕ) (xs ys before mid new : List ℕ) → Filled xs before mid at → at + m ≤ length mid → Filled ys (take (length mid - at) (drop at mid)) new m
    → Filled (xs ++ ys) before (put_mid at (length mid - at) mid new) (at + m)
filled_more at m xs ys before mid new f h g =
    let past : post_of at (length mid - at) mid ≡ [] = drop_all (length mid - at) (drop at mid) (let l = length-drop at mid in omega arith) in
    let front : take at mid ≡ xs = ap (take at) f.1 ∙ take_at xs (drop at before) at (sym f.0) in
    let back : drop at mid ≡ drop at before = ap (drop at) f.1 ∙ drop_at xs (drop at before) at (sym f.0) in
    let fresh : new ≡ ys ++ drop (at + m) before = g.1 ∙ ap (λ zs. ys ++ drop m zs) (take_rest mid at ∙ back) ∙ ap (λ zs. ys ++ zs) (drop-drop m at before) in
    let n = length-append xs ys in
    let a = f.0 in
    let b = g.0 in (
      omega arith,
      ap (λ zs. take at mid ++ (new ++ zs)) past ∙ ap (λ zs. take at mid ++ zs) (append-nil new ∙ fresh)
          ∙ ap (λ zs. zs ++ (ys ++ drop (at + m) before)) front ∙ sym (append_assoc xs ys (drop (at + m) before)),
    )

module _ {X : Type 0} (bytes : X → List ℕ) where
  pub joined_next : (xs : List X) (i : ℕ) (d : X) → i < length xs → flat_map bytes (take (i + 1) xs) ≡ flat_map bytes (take i xs) ++ bytes (get_or xs i d)
  joined_next xs i d h = ap (flat_map bytes) (take_more xs i d h) ∙ sym (flat_map_more bytes [] (take i xs) (get_or xs i d))

-- a loop that writes the bytes of each of xs in turn
module _ {X : Type 0} (bytes : X → List ℕ) (xs : List X) (i : ℕ) (d : X) (at : ℕ) (out was : List ℕ) (more : i < length xs)
    (filled : Filled (flat_map bytes (take i xs)) was out at) (kept : length out ≡ length was) (fits : length (flat_map bytes xs) ≤ length was) where
  pub next_fits : at + length (bytes (get_or xs i d)) ≤ length out
  next_fits = let w = length-flat_map-take bytes xs i d more in let a = filled.0 in omega arith

  -- and so behind the first
  pub next_fits_behind : length (bytes (get_or xs i d)) ≤ length (take (length out - at) (drop at out))
  next_fits_behind = let n = next_fits in let t = ap length (take_rest out at) in let l = length-drop at out in omega arith

  pub next_filled : (m : ℕ) (new : List ℕ) → Filled (bytes (get_or xs i d)) (take (length out - at) (drop at out)) new m
      → Filled (flat_map bytes (take (i + 1) xs)) was (put_mid at (length out - at) out new) (at + m) × (at + m ≤ length (put_mid at (length out - at) out new))
  next_filled m new g =
      let n = next_fits in
      let e = g.0 in
      let f = filled_as _ _ was _ _ (sym (joined_next bytes xs i d more)) (filled_more at m (flat_map bytes (take i xs)) (bytes (get_or xs i d)) was out new filled (omega arith) g) in
      (f, filled_within _ was _ _ f)

abbrev pub evicting_bytes : List ℕ → List ℕ
evicting_bytes bs = flat_map (λ b. field_bytes (evicting_field b)) bs

pub evicting_length : (bs : List ℕ) → length (evicting_bytes bs) ≡ 7 * length bs
evicting_length [] = refl
evicting_length (b ∷ bs) = let i = evicting_length bs in let l = length-append (field_bytes (evicting_field b)) (evicting_bytes bs) in omega arith

pub last_bytes : (bs : List ℕ) → evicting_bytes bs ++ (4 ∷ 0 ∷ 0 ∷ []) ≡ flat_map field_bytes (last_fields bs)
last_bytes bs = sym (flat_map-append field_bytes (map evicting_field bs) (end ∷ []) ∙ ap (λ zs. zs ++ (4 ∷ 0 ∷ 0 ∷ [])) (flat_map-map field_bytes evicting_field bs))

-- the points as the code has them, and the fields after them
pub points_first : (shown : List Point) (ps : List PointContents) (fs : List FieldContents) → all_contents shown ≡ ps
    → points_bytes shown ++ flat_map field_bytes fs ≡ flat_map field_bytes (map point_field ps ++ fs)
points_first shown ps fs e =
    sym (flat_map-append field_bytes (map point_field ps) fs
    ∙ ap (λ (qs : List PointContents). flat_map field_bytes (map point_field qs) ++ flat_map field_bytes fs) (sym e)
    ∙ ap (λ zs. zs ++ flat_map field_bytes fs) (bytes_of_contents shown))

pub whole_length : (shown : List Point) (t : TaskContents) → all_contents shown ≡ t.points → 9 + length (points_bytes shown) + 7 * length t.evicting + 3 ≡ length (task_bytes t)
whole_length shown t e =
    let a = ap length (points_first shown t.points (last_fields t.evicting) e) in
    let b = length-append (points_bytes shown) (flat_map field_bytes (last_fields t.evicting)) in
    let c = ap length (last_bytes t.evicting) in
    let d = length-append (evicting_bytes t.evicting) (4 ∷ 0 ∷ 0 ∷ []) in
    let n = evicting_length t.evicting in
    omega arith

-- two parts, one behind the other, where there is room for both
pub two_parts : (xs ys zs before mid new : List ℕ) (at m : ℕ) → xs ++ ys ≡ zs → length zs ≤ length before → Filled xs before mid at → Filled ys (take (length mid - at) (drop at mid)) new m
    → Filled zs before (put_mid at (length mid - at) mid new) (at + m)
two_parts xs ys zs before mid new at m e h f g =
    let l = ap length e in
    let n = length-append xs ys in
    let r = filled_room xs before mid at (length ys) f (omega arith) in
    let b = g.0 in
    filled_as _ _ before _ _ e (filled_more at m xs ys before mid new f (omega arith) g)

pub first_fits : (xs ys zs before : List ℕ) → xs ++ ys ≡ zs → length zs ≤ length before → length xs ≤ length before
first_fits xs ys zs before e h = let l = ap length e in let n = length-append xs ys in omega arith

pub second_fits : (xs ys zs before mid : List ℕ) (at : ℕ) → xs ++ ys ≡ zs → length zs ≤ length before → Filled xs before mid at → length ys ≤ length (take (length mid - at) (drop at mid))
second_fits xs ys zs before mid at e h f =
    let l = ap length e in
    let n = length-append xs ys in
    let r = filled_room xs before mid at (length ys) f (omega arith) in
    let t = ap length (take_rest mid at) in
    let d = length-drop at mid in
    omega arith
