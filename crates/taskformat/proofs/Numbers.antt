-- A number of 32 bits and its four bytes give each other back.
use Rattle.std.proofs.Common.{◌≡◌, ℕ, ◌+◌, ◌*◌, ◌/◌, ◌%◌, ◌^◌, ◌<◌, ◌≤◌, List, [], ◌∷◌, ◌++◌, length, drop, append-nil, arith}
use Rattle.std.specs.List.{AllByRecursion}
use Rattle.std.proofs.lemmas.List.{drop_all}
use Rattle.taskformat.specs.Writing.{four_bytes}
use Rattle.taskformat.specs.Reading.{number_at}

-- numbers of one byte each
abbrev pub Bytes : List ℕ → Type 0
Bytes bytes = AllByRecursion (λ b. b < 256) bytes

-- the number that its bytes are read as
pub number_back : (n : ℕ) → n < 2 ^ 32 → number_at (four_bytes n) 0 ≡ n
number_back n h = let top : n / 16777216 % 256 ≡ n / 16777216 = omega arith in omega arith

-- the bytes that a number was read from, and those after them
pub bytes_back : (bytes : List ℕ) → Bytes bytes → 4 ≤ length bytes → four_bytes (number_at bytes 0) ++ drop 4 bytes ≡ bytes
bytes_back [] h l = absurd (omega arith)
bytes_back (a ∷ []) h l = absurd (omega arith)
bytes_back (a ∷ b ∷ []) h l = absurd (omega arith)
bytes_back (a ∷ b ∷ c ∷ []) h l = absurd (omega arith)
bytes_back (a ∷ b ∷ c ∷ d ∷ rest) h l =
    let n = a * 16777216 + b * 65536 + c * 256 + d in
    let ea : n / 16777216 % 256 ≡ a = omega arith in
    let eb : n / 65536 % 256 ≡ b = omega arith in
    let ec : n / 256 % 256 ≡ c = omega arith in
    let ed : n % 256 ≡ d = omega arith in
    cc

-- the same of four bytes with none after them
pub four_back : (bytes : List ℕ) → Bytes bytes → length bytes ≡ 4 → four_bytes (number_at bytes 0) ≡ bytes
four_back bytes h l = cc (drop_all 4 bytes (omega arith), bytes_back bytes h (omega arith), append-nil (four_bytes (number_at bytes 0)))
