use Rattle.mum_fields.proofs.Common.{◌++◌, ◌∷◌, [], ◌+◌, ◌%◌, sym, ap, ◌∙◌, append_assoc, arith, append-nil}
use Rattle.mum_fields.proofs.Spellings.{Rest-whole, Rest-more}
use Rattle.mum_fields.proofs.varint.push_varint.Goals as goal

pub loop-rest-init : goal.loop-rest-init
loop-rest-init c = record { rest = Rest-whole c.args.number c.args.out.now.items (omega arith); part = ([], sym (append-nil c.args.out.now.items)) }

pub loop-rest-preserved : goal.loop-rest-preserved
loop-rest-preserved c =
    let out = c.loop-rest.out.items in
    let byte = c.loop-rest.rest % 128 + 128 in
    let part = c.loop-rest.invariant.part in
    rw c.in_ok-push.ensures.items (record {
      rest = Rest-more c.loop-rest.rest out _ c.loop-rest-test.true c.loop-rest.invariant.rest;
      part = (part.0 ++ byte ∷ [], ap (λ x. x ++ byte ∷ []) part.1 ∙ append_assoc c.args.out.now.items part.0 (byte ∷ []));
    })
