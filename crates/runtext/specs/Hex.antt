-- Bytes written in hexadecimal.
use Rattle.std.specs.Prelude.{ℕ, ◌+◌, ◌-◌, ◌*◌, cond, List, [], ◌∷◌, Some, None, Option, ◌==◌}
use Rattle.std.specs.Int.{is_in_range}

-- the value of a hexadecimal digit, lower or upper case
abbrev pub digit_of : ℕ → Option ℕ
digit_of c =
    cond (is_in_range 48 57 c) (Some (c - 48))
    (cond (is_in_range 97 102 c) (Some (c - 87))
    (cond (is_in_range 65 70 c) (Some (c - 55)) None))

-- one more in front, where there are both
abbrev pub before : Option ℕ → Option (List ℕ) → Option (List ℕ)
before None xs = None
before (Some x) None = None
before (Some x) (Some xs) = Some (x ∷ xs)

-- the values of the digits of a text; blanks are passed over, and with any other byte there are none
abbrev pub digits_of : List ℕ → Option (List ℕ)
digits_of [] = Some []
digits_of (c ∷ cs) = cond (c == 32) (digits_of cs) (before (digit_of c) (digits_of cs))

-- a byte for each pair; none of an odd number of digits
abbrev pub paired : List ℕ → Option (List ℕ)
paired [] = Some []
paired (high ∷ []) = None
paired (high ∷ low ∷ ds) = before (Some (16 * high + low)) (paired ds)

abbrev pub paired_in : Option (List ℕ) → Option (List ℕ)
paired_in None = None
paired_in (Some ds) = paired ds

abbrev pub hex_bytes : List ℕ → Option (List ℕ)
hex_bytes text = paired_in (digits_of text)
