use Rattle.std.proofs.Common.{◌++◌, map, drop, ap, ◌∙◌, arith}
use Rattle.std.proofs.lemmas.Bool.{leb-true, leb-false}
use Rattle.std.proofs.lemmas.List.{length-take-le}
use Rattle.std.specs.List.{range_with_len}
use Rattle.floors.specs.Floors.{row_in}
use Rattle.floors.proofs.Files.{count_few}
use Rattle.floor_reader.proofs.ReadLaws.{exact_refused, exact_short, exact_read}
use Rattle.floor_reader.proofs.reading.read_floor.Goals as goal

pub returns-in_err-floor-clause-exact : goal.returns-in_err-floor-clause-exact
returns-in_err-floor-clause-exact c = exact_refused c.args.bytes.now c.args.table.now _ _ c.from_residual.ensures.0 c.in_err-floor.ensures

pub returns-in_err-check-clause-exact : goal.returns-in_err-check-clause-exact
returns-in_err-check-clause-exact c =
    let e = c.in_ok-floor.ensures in
    let short = leb-false _ _ c.in_err-check.ensures.0 in
    exact_short c.args.bytes.now c.args.table.now _ c.from_residual-in_err-check.ensures.0 (omega (arith, e.1.0.1))

pub returns-clause-exact : goal.returns-clause-exact
returns-clause-exact c =
    let e = c.in_ok-floor.ensures in
    let held = length-take-le c.in_ok-floor.floor.count c.args.table.now (leb-true _ _ c.in_ok-check.ensures) in
    exact_read c.args.bytes.now c.args.table.now _ _ e.1.1 e.1.0.0 e.1.0.1 (ap (λ l. l ++ drop c.in_ok-floor.floor.count c.args.table.now) (c.fill.ensures ∙ ap (λ n. map (row_in c.args.bytes.now) (range_with_len 0 n)) held))

pub fill-requires-clause-few : goal.fill-requires-clause-few
fill-requires-clause-few c =
    let held = length-take-le c.in_ok-floor.floor.count c.args.table.now (leb-true _ _ c.in_ok-check.ensures) in
    let few = count_few c.args.bytes.now c.in_ok-floor.ensures.0 in
    rw (held, c.in_ok-floor.ensures.1.0.1) few.0

pub fill-requires-clause-there : goal.fill-requires-clause-there
fill-requires-clause-there c =
    let held = length-take-le c.in_ok-floor.floor.count c.args.table.now (leb-true _ _ c.in_ok-check.ensures) in
    let few = count_few c.args.bytes.now c.in_ok-floor.ensures.0 in
    rw (held, c.in_ok-floor.ensures.1.0.1) few.1
