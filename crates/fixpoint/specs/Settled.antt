-- What a settled table is.
use Rattle.std.specs.Prelude.{◌≡◌, ℕ, suc, ◌+◌, ◌*◌, ◌<◌, ◌≤◌, true, List, length, ◌≢◌, slice_index_or}
use Rattle.std.specs.List.{AllByRecursion}
use Rattle.fixpoint.specs.Kinds.{Meaning}
use Rattle.fixpoint.specs.Graph.{is_input}
use Rattle.fixpoint.specs.Rounds.{Job, size, advanced, merged, after_rounds}

module _ {Row Note : Type 0} (M : Meaning Row Note) (J : Job Note) where
  -- a table of own rows, one for each point
  pub record OwnTable (rows : List Row) : Type 0 where
    pub long : length rows ≡ size J
    pub own : AllByRecursion M.own_row rows

  -- the rules: at each point the row is the merge over its inputs
  abbrev pub MeetsTheRules : List Row → Type 0
  MeetsTheRules rows = (p : ℕ) → p < size J → slice_index_or rows p M.start ≡ merged M J rows p

  -- the same in the words of the order: at each point the row is at or beyond the advanced row of every input, and at or
  -- before every own row that is
  pub record JoinsItsInputs (rows : List Row) (p : ℕ) : Type 0 where
    pub beyond : (q : ℕ) → q < size J → is_input J.direction J.points p q ≡ true → M.at_or_before (advanced M J rows J.notes q) (slice_index_or rows p M.start)
    pub least : (c : Row) → M.own_row c → ((q : ℕ) → q < size J → is_input J.direction J.points p q ≡ true → M.at_or_before (advanced M J rows J.notes q) c) → M.at_or_before (slice_index_or rows p M.start) c

  -- the settled table: what as many rounds give as settling may take
  unfoldable pub settled_table : List Row
  settled_table = after_rounds M J (size J * M.height + 1)

  -- settled after so many rounds: the last round changed nothing and every earlier one changed something; the rounds are
  -- at most points x height + 1; the table is an own table that meets the rules; and at each point every other own
  -- table that meets the rules has a row at or beyond the settled one
  pub record Settled (rounds : ℕ) (rows : List Row) : Type 0 where
    pub some : 1 ≤ rounds
    pub last_idle : (k : ℕ) → suc k ≡ rounds → after_rounds M J (suc k) ≡ after_rounds M J k
    pub earlier_not : (k : ℕ) → suc k < rounds → after_rounds M J (suc k) ≢ after_rounds M J k
    pub few : rounds ≤ size J * M.height + 1
    pub own : OwnTable rows
    pub meets : MeetsTheRules rows
    pub joins : (p : ℕ) → p < size J → JoinsItsInputs rows p
    pub least : (other : List Row) → OwnTable other → MeetsTheRules other → (p : ℕ) → p < size J → M.at_or_before (slice_index_or rows p M.start) (slice_index_or other p M.start)
