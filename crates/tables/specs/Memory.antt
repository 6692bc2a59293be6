-- Memory for tables, and what it holds at first.
use Rattle.std.specs.Prelude.{ℕ, replicate}
use Rattle.task.specs.Contents.{TaskContents}
use Rattle.tables.specs.Rows.{Rows, rows_with}
use Rattle.tables.specs.Tables.{age_kind, conflict_kind, next_use_kind}
use Rattle.tables.specs.declared.memory.TableMemory.{TableMemory}

abbrev pub rows_in : {n : ℕ} → TableMemory n → Rows
rows_in m = rows_with m.ages m.reuses m.conflicts m.widest

-- n rows in each table, each the start row of its kind
abbrev pub start_rows : TaskContents → ℕ → Rows
start_rows t n =
    rows_with (replicate n (age_kind t).start) (replicate n (age_kind t).start) (replicate n (conflict_kind t).start) (replicate n (next_use_kind t).start)
