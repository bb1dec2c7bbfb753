use Rattle.std.proofs.Common.{◌≡◌, ◌+◌, ◌-◌, ◌*◌, ◌/◌, length, get_or, None, sym, refl, ap, ◌∙◌, zero-add, arith}
use Rattle.std.proofs.lemmas.Bool.{eqb-true, eqb-false, leb-true, leb-false}
use Rattle.std.proofs.lemmas.Result.{err_from_is_err_and}
use Rattle.refusals.specs.Answers.{or_else}
use Rattle.floors.specs.Blocks.{first_among, plate_at}
use Rattle.floors.specs.Floors.{refused_in, fixture_count}
use Rattle.floors.proofs.Firsts.{first_among_more}
use Rattle.floors.proofs.Files.{Right, length_fault, floor_fault_at, floor_blocks, plate_count}
use Rattle.floor_reader.proofs.ReadLaws.{first_long, other_long, first_refused, other_refused, first_is, other_is, written}
use Rattle.floor_reader.proofs.reading.check_floor.Goals as goal

pub returns-in_default : goal.returns-in_default
returns-in_default c = length_fault c.args.bytes.now (λ r. omega arith)

pub returns-in_err-check : goal.returns-in_err-check
returns-in_err-check c =
    let p = err_from_is_err_and c.from_residual.result c.from_residual.ensures.1 in
    let long = leb-false _ _ c.in_err-check.ensures.0 in
    rw (p.1, p.2, c.in_err-check.ensures.1) (length_fault c.args.bytes.now (λ r. omega arith))

pub returns-in_err-check-2 : goal.returns-in_err-check-2
returns-in_err-check-2 c =
    let p = err_from_is_err_and c.from_residual-in_err-check-2.result c.from_residual-in_err-check-2.ensures.1 in
    rw (p.1, p.2, c.in_err-check-2.ensures.1)
    (length_fault c.args.bytes.now (λ r. eqb-false _ 0 (sym c.is_empty.ensures ∙ c.in_err-check-2.ensures.0) (omega arith)))

pub invariant_of-first : goal.invariant_of-first
invariant_of-first c =
    let e = c.as_chunks.ensures in
    let few = leb-true _ _ c.in_ok-check.ensures in
    record { whole = first_long c.args.bytes.now c.as_chunks.result.0.now e.front e.front_len (omega arith); inside = omega arith; few = omega arith }

pub returns-in_err-plate : goal.returns-in_err-plate
returns-in_err-plate c =
    let p = err_from_is_err_and c.from_residual-in_err-plate.result c.from_residual-in_err-plate.ensures.1 in
    let e = c.as_chunks.ensures in
    let none = eqb-true (length c.as_chunks.result.1.now) 0 (sym c.is_empty.ensures ∙ c.in_ok-check-2.ensures) in
    let right : Right c.args.bytes.now = (omega arith, omega arith, omega arith) in
    rw (p.1, p.2)
    (floor_fault_at c.args.bytes.now right 0 _ refl (first_refused c.args.bytes.now c.as_chunks.result.0.now e.front e.front_len (omega arith) ∙ c.in_err-plate.ensures) (omega arith))

pub loop-before-init : goal.loop-before-init
loop-before-init c =
    let e = c.as_chunks.ensures in
    let none = eqb-true (length c.as_chunks.result.1.now) 0 (sym c.is_empty.ensures ∙ c.in_ok-check-2.ensures) in
    let right : Right c.args.bytes.now = (omega arith, omega arith, omega arith) in
    let fine = first_refused c.args.bytes.now c.as_chunks.result.0.now e.front e.front_len (omega arith) ∙ c.in_ok-plate.ensures.0 in
    record { fine = ap (λ o. or_else o None) fine; counted = sym (plate_count c.args.bytes.now right fine) ∙ sym (zero-add _) }

pub invariant_of-block : goal.invariant_of-block
invariant_of-block c =
    let e = c.as_chunks.ensures in
    record { whole = other_long c.args.bytes.now c.as_chunks.result.0.now e.front e.front_len c.loop-before.before (omega arith); inside = omega arith; few = omega arith }

pub returns-in_err-count : goal.returns-in_err-count
returns-in_err-count c =
    let p = err_from_is_err_and c.from_residual-in_err-count.result c.from_residual-in_err-count.ensures.1 in
    let e = c.as_chunks.ensures in
    let none = eqb-true (length c.as_chunks.result.1.now) 0 (sym c.is_empty.ensures ∙ c.in_ok-check-2.ensures) in
    let right : Right c.args.bytes.now = (omega arith, omega arith, omega arith) in
    let k = c.loop-before.before in
    rw (p.1, p.2)
    (floor_fault_at c.args.bytes.now right (k + 1) _ c.loop-before.invariant.fine (other_refused c.args.bytes.now c.as_chunks.result.0.now e.front e.front_len k (omega arith) ∙ c.in_err-count.ensures) (omega arith))

pub loop-before-preserved : goal.loop-before-preserved
loop-before-preserved c =
    let e = c.as_chunks.ensures in
    let k = c.loop-before.before in
    let count = c.in_ok-count.ensures in
    let i : k + 1 - 1 ≡ k = omega arith in
    record {
      fine = first_among_more (refused_in c.args.bytes.now) (k + 1) c.loop-before.invariant.fine (other_refused c.args.bytes.now c.as_chunks.result.0.now e.front e.front_len k (omega arith) ∙ count.0);
      counted = rw i (ap (λ n. 13 * k + n) (count.1.0 ∙ ap (λ b. get_or b 1 0) (other_is c.args.bytes.now c.as_chunks.result.0.now e.front e.front_len k (omega arith))));
    }

pub returns : goal.returns
unfolding fixture_count
returns c =
    let bytes = c.args.bytes.now in
    let e = c.as_chunks.ensures in
    let k = c.loop-before.before in
    let none = eqb-true (length c.as_chunks.result.1.now) 0 (sym c.is_empty.ensures ∙ c.in_ok-check-2.ensures) in
    let right : Right bytes = (omega arith, omega arith, omega arith) in
    let n : k + 1 ≡ length bytes / 512 = omega arith in
    let fine = floor_blocks bytes right ∙ sym (ap (first_among (refused_in bytes) 0) n) ∙ c.loop-before.invariant.fine in
    let two : k - 1 ≡ length bytes / 512 - 2 = omega arith in
    let one : k ≡ length bytes / 512 - 1 = omega arith in (
      fine,
      (
        (
          c.in_ok-plate.ensures.1 ∙ ap (λ b. plate_at b 8) (first_is bytes c.as_chunks.result.0.now e.front e.front_len (omega arith)),
          c.loop-before.invariant.counted ∙ rw (two, one),
        ),
        written bytes (λ i. (c.type_inv.bytes i).fits) fine,
      ),
    )
