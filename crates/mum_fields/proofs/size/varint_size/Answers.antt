use Rattle.mum_fields.proofs.Common.{◌≡◌, ◌+◌, ◌%◌, ◌≤◌, ◌++◌, ◌∷◌, [], length, refl, ◌∙◌, arith, length-append}
use Rattle.mum_fields.proofs.{Spellings.Rest-whole, Spellings.Rest-more, Sizes.rest-few, Sizes.rest-last}
use Rattle.mum_fields.proofs.size.varint_size.Goals as goal

pub loop-rest-init : goal.loop-rest-init
loop-rest-init c = ([], refl, Rest-whole c.args.number [] (omega arith))

pub overflow_add-size : goal.overflow_add-size
overflow_add-size c =
    let i = c.loop-rest.invariant in
    let few = rest-few c.loop-rest.rest c.args.number i.0 i.2 in
    omega (arith, i.1)

pub loop-rest-preserved : goal.loop-rest-preserved
loop-rest-preserved c =
    let i = c.loop-rest.invariant in
    let byte = c.loop-rest.rest % 128 + 128 in
    (i.0 ++ byte ∷ [], omega (arith, i.1, length-append i.0 (byte ∷ [])), Rest-more c.loop-rest.rest i.0 _ c.loop-rest-test.true i.2)

pub returns-clause-size : goal.returns-clause-size
returns-clause-size c =
    let i = c.loop-rest.invariant in
    i.1 ∙ rest-last c.loop-rest.rest c.args.number i.0 c.loop-rest-test.false i.2

pub returns-clause-few : goal.returns-clause-few
returns-clause-few c =
    let i = c.loop-rest.invariant in
    let few = rest-few c.loop-rest.rest c.args.number i.0 i.2 in
    omega (arith, i.1)
