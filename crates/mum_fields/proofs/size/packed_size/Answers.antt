use Rattle.mum_fields.proofs.Common.{◌≡◌, ◌+◌, ◌-◌, ◌^◌, ◌++◌, ◌∷◌, [], map, min, refl, sym, ap, ◌∙◌, arith, err_from_is_err_and, packed, ended, first, size, scalar_number, value_of, each_number, varint_item}
use Rattle.mum_fields.proofs.{Outlines.answered-fault, Outlines.answered-whole, Sizes.size-append, Sizes.sum-more}
use Rattle.mum_fields.proofs.size.packed_size.Goals as goal

pub loop-varint-init : goal.loop-varint-init
loop-varint-init c = record { items = omega arith; fault = refl; few = omega arith }

pub loop-varint-smaller : goal.loop-varint-smaller
loop-varint-smaller c = rw c.in-Some.is at c.in_ok-varint.ensures.shorter

pub loop-varint-preserved : goal.loop-varint-preserved
loop-varint-preserved c =
    let takes : packed c.loop-varint.numbers ≡ first c.in-Some.varint (packed c.next_number.new.self) = rw c.in-Some.is at c.in_ok-varint.ensures.takes in
    let spell = scalar_number c.args.scalar in
    let value = value_of c.args.scalar in
    let item = varint_item c.args.number (spell (value c.in-Some.varint)) in
    let others = each_number spell c.args.number (map value (packed c.next_number.new.self).items) in
    let one : c.number_size.result ≡ size (item ∷ []) = c.number_size.ensures ∙ ap (λ n. size (varint_item c.args.number n ∷ [])) c.number.ensures in
    let before = ap (λ w. min (c.loop-varint.total + size (each_number spell c.args.number (map value w.items))) (2 ^ 64 - 1)) takes in
    record {
      items = sum-more c.loop-varint.total (size (item ∷ [])) (size others) _ c.saturating_add-total.result (size (item ∷ others)) (c.saturating_add-total.ensures ∙ ap (λ n. min (c.loop-varint.total + n) (2 ^ 64 - 1)) one) (size-append (item ∷ []) others) (sym before ∙ c.loop-varint.invariant.items);
      fault = sym (ap (λ w. w.fault) takes) ∙ c.loop-varint.invariant.fault;
      few = omega (arith, c.saturating_add-total.ensures);
    }

pub returns-in_err-varint : goal.returns-in_err-varint
returns-in_err-varint c =
    let p = err_from_is_err_and c.from_residual.result c.from_residual.ensures.1 in
    rw (p.1, p.2) (answered-fault (packed c.args.numbers).fault _ _ (sym c.loop-varint.invariant.fault ∙ ap (λ w. w.fault) c.in_err-varint.ensures.takes))

pub returns : goal.returns
returns c =
    let ends : packed c.loop-varint.numbers ≡ ended = rw c.in_default.is at c.in_ok-varint.ensures.takes in
    let whole = rw ends at c.loop-varint.invariant.items in
    answered-whole (packed c.args.numbers).fault _ _ (sym c.loop-varint.invariant.fault ∙ ap (λ w. w.fault) ends) (omega (arith, whole, c.loop-varint.invariant.few))
