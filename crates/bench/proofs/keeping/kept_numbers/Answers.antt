use Rattle.std.proofs.Common.{◌≡◌, ℕ, refl, sym, subst, arith}
use Rattle.task.specs.Tasks.{contents}
use Rattle.tables.specs.Rows.{rows_of}
use Rattle.bench.specs.Benches.{BuiltWhere}
use Rattle.bench.specs.Keeping.{setting_in}
use Rattle.bench.proofs.Barring.{open_room}
use Rattle.bench.proofs.keeping.kept_numbers.Goals as goal

pub settled_numbers-requires : goal.settled_numbers-requires
settled_numbers-requires c =
    let free = c.in-Ok.ensures in
    omega (arith, c.requires, open_room (setting_in c.args.setup.now) (cc))

pub returns-in-Ok : goal.returns-in-Ok
returns-in-Ok c =
    let e = c.settled_numbers.ensures in
    record {
      room = e.room;
      knows = λ _. e.numbers;
      tables = subst (λ o. BuiltWhere o (contents c.args.setup.now.task.now) (rows_of c.args.tables.now) (rows_of c.settled_numbers.new.tables)) (sym c.in-Ok.ensures) e.settled;
      lent = e.lent;
    }

pub returns-in-Err : goal.returns-in-Err
returns-in-Err c = record {
  room = refl;
  knows = λ free. let barred = c.in-Err.ensures in let z : ◌≡◌ {A = ℕ} 0 1 = cc in absurd (omega arith);
  tables = subst (λ o. BuiltWhere o (contents c.args.setup.now.task.now) (rows_of c.args.tables.now) (rows_of c.args.tables.now)) (sym c.in-Err.ensures) refl;
  lent = record { ages = refl; reuses = refl; conflicts = refl; widest = refl };
}
