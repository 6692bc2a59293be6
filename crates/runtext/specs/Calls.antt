-- What the lines of a run say.
use Rattle.std.specs.Prelude.{ℕ, ◌^◌, Bool, true, cond, ◌&&◌, ◌||◌, List, [], ◌∷◌, length, Some, None, codes, Option, ◌==◌, nat_lt, slice_index}
use Rattle.std.specs.Str.Parse.{digits_value}
use Rattle.std.specs.Str.{all_ascii_digits, bytes_eq}
use Rattle.ledger.specs.declared.Call.{Call}
use Rattle.ledger.specs.declared.Call.TheVariants.{Step, Finish, Interrupt, Touch, Resume}
use Rattle.runtext.specs.declared.calls.RunLine.{RunLine}
use Rattle.runtext.specs.declared.calls.RunLine.TheVariants as lines

-- the number of one or more decimal digits, below 2 ^ bits
abbrev pub number_of : ℕ → List ℕ → Option ℕ
number_of bits ds = cond (all_ascii_digits ds && (nat_lt 0 (length ds) && nat_lt (digits_value 10 ds) (2 ^ bits))) (Some (digits_value 10 ds)) None

-- what follows the word at the front of a line
abbrev pub after_word : List ℕ → List ℕ → Option (List ℕ)
after_word [] line = Some line
after_word (w ∷ ws) [] = None
after_word (w ∷ ws) (c ∷ cs) = cond (w == c) (after_word ws cs) None

abbrev pub step_with : Option ℕ → Option Call
step_with None = None
step_with (Some q) = Some (Step q)

abbrev pub touch_with : Option ℕ → Option Call
touch_with None = None
touch_with (Some b) = Some (Touch b)

-- a call of one word
abbrev pub word_call : List ℕ → Option Call
word_call line =
    cond (bytes_eq line (codes "finish")) (Some Finish)
    (cond (bytes_eq line (codes "interrupt")) (Some Interrupt)
    (cond (bytes_eq line (codes "resume")) (Some Resume) None))

abbrev pub touch_or_word : List ℕ → Option (List ℕ) → Option Call
touch_or_word line (Some ds) = touch_with (number_of 32 ds)
touch_or_word line None = word_call line

abbrev pub step_or_other : List ℕ → Option (List ℕ) → Option Call
step_or_other line (Some ds) = step_with (number_of 64 ds)
step_or_other line None = touch_or_word line (after_word (codes "touch ") line)

-- `step N`, `touch B`, `finish`, `interrupt` or `resume`
abbrev pub call_of : List ℕ → Option Call
call_of line = step_or_other line (after_word (codes "step ") line)

abbrev pub all_blank : List ℕ → Bool
all_blank [] = true
all_blank (c ∷ cs) = c == 32 && all_blank cs

abbrev pub called : Option Call → Option RunLine
called None = None
called (Some call) = Some (lines.Call call)

-- nothing on a blank line or a comment, `read`, or a call; none where the line is not understood
abbrev pub line_of : List ℕ → Option RunLine
line_of line =
    cond (slice_index line 0 == 35 || all_blank line) (Some lines.Nothing)
    (cond (bytes_eq line (codes "read")) (Some lines.Read) (called (call_of line)))
