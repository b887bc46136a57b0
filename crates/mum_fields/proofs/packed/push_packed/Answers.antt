use Rattle.mum_fields.proofs.Common.{◌≡◌, ◌++◌, ◌∷◌, [], length, map, refl, sym, ap, ◌∙◌, append_assoc, append-nil, err_from_is_err_and, packed, ended, first}
use Rattle.mum_fields.proofs.Walks.{front-of}
use Rattle.mum_fields.proofs.packed.push_packed.Goals as goal

pub loop-number-init : goal.loop-number-init
loop-number-init g c = record { items = refl; fault = refl; part = ([], sym (append-nil _)) }

pub returns-in_err-number-clause-fault : goal.returns-in_err-number-clause-fault
returns-in_err-number-clause-fault g c =
    let p = err_from_is_err_and c.from_residual.result c.from_residual.ensures.1 in
    rw (p.1, p.2) (sym c.loop-number.invariant.fault ∙ ap (λ w. w.fault) c.in_err-number.ensures.takes)

pub returns-in_err-number-clause-err : goal.returns-in_err-number-clause-err
returns-in_err-number-clause-err g c =
    let p = err_from_is_err_and c.from_residual.result c.from_residual.ensures.1 in
    rw (p.1, p.2) (rw append-nil at (sym (ap (λ w. c.loop-number.numbers ++ map g.N.VarintType.value_of w.items) c.in_err-number.ensures.takes) ∙ c.loop-number.invariant.items))

pub loop-number-smaller : goal.loop-number-smaller
loop-number-smaller g c = rw c.in-Some.is at c.in_ok-number.ensures.shorter

pub loop-number-preserved : goal.loop-number-preserved
loop-number-preserved g c =
    let takes : packed c.loop-number.packed ≡ first c.in-Some.number (packed c.next_number.new.self) = rw c.in-Some.is at c.in_ok-number.ensures.takes in
    let part = c.loop-number.invariant.part in
    let value = g.N.VarintType.value_of in
    rw c.in_ok-push.ensures.ok (record {
      items = rw (append_assoc, c.from_varint.ensures) (sym (ap (λ w. c.loop-number.numbers ++ map value w.items) takes) ∙ c.loop-number.invariant.items);
      fault = sym (ap (λ w. w.fault) takes) ∙ c.loop-number.invariant.fault;
      part = (part.0 ++ c.from_varint.result ∷ [], ap (λ x. x ++ c.from_varint.result ∷ []) part.1 ∙ append_assoc c.args.numbers.now part.0 (c.from_varint.result ∷ []));
    })

pub returns-in_err-push-clause-err : goal.returns-in_err-push-clause-err
returns-in_err-push-clause-err g c =
    let p = err_from_is_err_and c.from_residual-in_err-push.result c.from_residual-in_err-push.ensures.1 in
    let part = c.loop-number.invariant.part in
    rw (p.1, p.2, c.in_err-push.ensures.err) (length part.0, front-of c.args.numbers.now part.0 _ _ c.loop-number.numbers part.1 c.loop-number.invariant.items)

pub returns-clause-ok : goal.returns-clause-ok
returns-clause-ok g c =
    let ends : packed c.loop-number.packed ≡ ended = rw c.in_default.is at c.in_ok-number.ensures.takes in
    rw (ends, append-nil) at c.loop-number.invariant.items

pub returns-clause-whole : goal.returns-clause-whole
returns-clause-whole g c =
    let ends : packed c.loop-number.packed ≡ ended = rw c.in_default.is at c.in_ok-number.ensures.takes in
    sym c.loop-number.invariant.fault ∙ ap (λ w. w.fault) ends
