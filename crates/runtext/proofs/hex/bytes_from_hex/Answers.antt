use Rattle.std.proofs.Common.{◌≡◌, ℕ, ◌+◌, ◌<◌, List, get_or, vec_items, Option, sym, ap, ◌∙◌, arith, rules}
use Rattle.std.specs.Char.{digit_value}
use Rattle.std.specs.Option.{SomeIff}
use Rattle.runtext.specs.Hex.{digit_of}
use Rattle.runtext.proofs.HexSteps.{Reads, blank_more, digit_read, digit_small, first_more, half_ends, held_small, other_ends, second_more, whole_ends}
use Rattle.runtext.proofs.hex.bytes_from_hex.Goals as goal
use Rattle.runtext.proofs.hex.bytes_from_hex.Goals.{in-None, in-Some-high+in_ok-push-in-Some-high}

reads_as : (text bs bs' : List ℕ) (held held' : Option ℕ) (i : ℕ) → bs' ≡ bs → held' ≡ held → Reads text bs held i → Reads text bs' held' i
reads_as text bs bs' held held' i b h so_far = rw (b, h) so_far

-- what was answered on a byte as a character, however the byte was handed on
read : (c b char : ℕ) (r : Option ℕ) → char ≡ b → SomeIff r (digit_value char < 16) (digit_value char) → b ≡ c → r ≡ digit_of c
read c b char r e h same = digit_read char r h ∙ ap digit_of (e ∙ same)

pub loop-c-preserved-then-c-eq32 : goal.loop-c-preserved-then-c-eq32
loop-c-preserved-then-c-eq32 c =
    blank_more c.args.hex.now _ c.loop-c.c-index _ c.loop-c.invariant c.loop-c-test.true c.if-c-eq32.true

pub overflow_add-first : goal.overflow_add-first
overflow_add-first c =
    let first : c.in-Some-high.first < 16 = held_small c.args.hex.now _ c.loop-c.c-index _ c.loop-c.invariant _ c.in-Some-high.is in
    let digit : c.in-Some.digit < 16 = digit_small (get_or c.args.hex.now c.loop-c.c-index 0) _ (sym (read (get_or c.args.hex.now c.loop-c.c-index 0) _ _ _ c.from.ensures c.to_digit.ensures.value (search rules)) ∙ c.in-Some.is) in
    omega arith

pub loop-c-preserved : goal.loop-c-preserved
loop-c-preserved c =
    let text = c.args.hex.now in
    let i = c.loop-c.c-index in
    let bytes = vec_items c.loop-c.bytes in
    let is = sym (read (get_or c.args.hex.now c.loop-c.c-index 0) _ _ _ c.from.ensures c.to_digit.ensures.value (search rules)) ∙ c.in-Some.is in
    elim c.match-high.branch [
      | in-None w ↦
          reads_as text bytes _ _ _ (i + 1) (ap vec_items w.bytes-is) w.high-is
          (first_more text bytes i _ c.loop-c.invariant c.in-Some.digit c.loop-c-test.true c.if-c-eq32.false is w.in-None.is)
      | in-Some-high+in_ok-push-in-Some-high w ↦
          reads_as text _ _ _ _ (i + 1) (ap vec_items w.bytes-is ∙ w.in_ok-push-in-Some-high.ensures.items) w.high-is
          (second_more text bytes i _ c.loop-c.invariant w.in-Some-high.first c.in-Some.digit c.loop-c-test.true c.if-c-eq32.false is w.in-Some-high.is)
    ]

pub returns-in_default : goal.returns-in_default
returns-in_default c =
    other_ends c.args.hex.now _ c.loop-c.c-index _ c.loop-c.invariant c.loop-c-test.true c.if-c-eq32.false (sym (read (get_or c.args.hex.now c.loop-c.c-index 0) _ _ _ c.from.ensures c.to_digit.ensures.value (search rules)) ∙ c.in_default.is)

pub returns-in-None-high : goal.returns-in-None-high
returns-in-None-high c =
    whole_ends c.args.hex.now _ c.loop-c.c-index _ c.loop-c.invariant c.loop-c-test.false c.in-None-high.is

pub returns-in-Some-high-2 : goal.returns-in-Some-high-2
returns-in-Some-high-2 c =
    half_ends c.args.hex.now _ c.loop-c.c-index _ c.loop-c.invariant _ c.loop-c-test.false c.in-Some-high-2.is
