use Rattle.std.proofs.Common.{rules, length-set, ◌∷◌, [], ◌++◌, take, sym, ap, ◌∙◌, arith, w64, SFits}
use Rattle.std.proofs.lemmas.Int.{to_z-of_z}
use Rattle.std.proofs.lemmas.List.{take_more_set}
use Rattle.numerals.proofs.Words.{read_more, no_number, too_few, too_many, all_read, no_word, first_word}
use Rattle.numerals.proofs.reading.numbers.Goals as goal

pub loop-value-preserved : goal.loop-value-preserved
loop-value-preserved g c =
    let before = c.loop-value.invariant.0 in
    let word = c.in_ok-next.field-0.now in
    let z = c.in_ok-value.field-0 in
    let first = first_word _ word _ before.utf8 c.in_ok-next.ensures.steps in
    let parsed = sym c.number.ensures ∙ c.in_ok-value.was in
    let fits : SFits w64 z = search rules in
    let items = c.loop-value.value-items in
    let k = c.loop-value.value-index in (
      read_more before word _ z _ first parsed (take_more_set items k _ (omega arith) ∙ ap (λ x. take k items ++ (x ∷ [])) (to_z-of_z w64 z fits)),
      length-set items k _ ∙ c.loop-value.invariant.1,
    )

pub returns-in_err-next : goal.returns-in_err-next
returns-in_err-next g c =
    let before = c.loop-value.invariant.0 in
    c.from_residual.ensures ∙ sym (too_few before g.row.N (no_word _ before.utf8 c.in_err-next.ensures.steps.1) (omega arith))

pub returns-in_err-value : goal.returns-in_err-value
returns-in_err-value g c =
    let before = c.loop-value.invariant.0 in
    let word = c.in_ok-next.field-0.now in
    let first = first_word _ word _ before.utf8 c.in_ok-next.ensures.steps in
    let parsed = sym c.number.ensures ∙ c.in_err-value.was in
    c.from_residual-in_err-value.ensures ∙ sym (no_number before word _ g.row.N first parsed)

pub returns-in-None : goal.returns-in-None
returns-in-None g c =
    let before = c.loop-value.invariant.0 in
    sym (all_read before g.row.N (no_word _ before.utf8 c.in-None.ensures.steps.1) (omega arith) c.loop-value.invariant.1)

pub returns-in-Some : goal.returns-in-Some
returns-in-Some g c =
    let before = c.loop-value.invariant.0 in
    sym (too_many before c.in-Some.field-0.now _ g.row.N (first_word _ c.in-Some.field-0.now _ before.utf8 c.in-Some.ensures.steps) (omega arith))
