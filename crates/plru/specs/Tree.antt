-- The tree over the ways of a set. Place 1 is the root, place p has the halves 2p and 2p + 1, and way i stands at place ways + i.
-- A bit for each inner place names the half where the next eviction goes: 0 for the left one, 1 for the right one.
use Rattle.std.specs.Prelude.{ℕ, zero, suc, ◌+◌, ◌-◌, ◌*◌, ◌/◌, ◌%◌, ◌^◌, Bool, cond, ◌||◌, ◌==◌, bit_and, bit_or}

abbrev pub is_tree : ℕ → Bool
is_tree ways = ways == 2 || (ways == 4 || ways == 8)

-- the inner places above a way
abbrev pub levels : ℕ → ℕ
levels ways = cond (ways == 2) 1 (cond (ways == 4) 2 3)

abbrev pub bit_at : ℕ → ℕ → ℕ
bit_at bits place = bits / 2 ^ place % 2

-- the bits of the nearest inner places above a place, so many of them
abbrev pub mask_above : ℕ → ℕ → ℕ
mask_above zero place = 0
mask_above (suc m) place = 2 ^ (place / 2) + mask_above m (place / 2)

-- the same bits, each naming the half without the place
abbrev pub value_above : ℕ → ℕ → ℕ
value_above zero place = 0
value_above (suc m) place = cond (place % 2 == 0) (2 ^ (place / 2)) 0 + value_above m (place / 2)

abbrev pub path_mask : ℕ → ℕ → ℕ
path_mask ways way = mask_above (levels ways) (ways + way)

abbrev pub path_value : ℕ → ℕ → ℕ
path_value ways way = value_above (levels ways) (ways + way)

-- after an access of a way each bit above it names the half without it
abbrev pub touched : ℕ → ℕ → ℕ → ℕ
touched ways way bits = bit_or (bit_and bits (255 - path_mask ways way)) (path_value ways way)

-- where the bits lead from the root, so many levels down
abbrev pub led_to : ℕ → ℕ → ℕ
led_to bits zero = 1
led_to bits (suc m) = 2 * led_to bits m + bit_at bits (led_to bits m)

-- the way that the bits lead to
abbrev pub victim : ℕ → ℕ → ℕ
victim ways bits = led_to bits (levels ways) - ways
