use Rattle.mum_users.proofs.Common.{◌*◌, ◌/◌, ◌%◌, ◌^◌, ap, refl, bit_or, MaskRow}
use Rattle.mum_users.proofs.{MaskRows.put_before, MaskRows.put_over, MaskSets.below_128}
use Rattle.mum_users.proofs.masks.set_slot.Goals as goal

pub returns-then-is_at-clause-items : goal.returns-then-is_at-clause-items
returns-then-is_at-clause-items c =
    rw (c.replace_mask.ensures.items, c.bit_of.ensures) (
    put_over c.args.channel (c.args.slot.0 / 128) c.args.rows.now.items c.as_slice.result.now c.as_slice-2.result.now c.place_of-place.result
    c.as_slice.ensures.value c.as_slice-2.ensures.value c.place_of-place.ensures.place
    (λ m. bit_or m (1 * 2 ^ (c.args.slot.0 % 128) % 2 ^ 128)) c.index.result.now c.index.result.now.mask
    (c.if-is_at.ensures.within refl) c.if-is_at.ensures.same (ap (λ (row : MaskRow). row.mask) c.index.ensures))

pub returns-clause-items : goal.returns-clause-items
returns-clause-items c =
    rw (c.in-Ok.ensures.items, c.bit_of-mask.ensures) (
    put_before c.args.channel (c.args.slot.0 / 128) c.args.rows.now.items c.as_slice.result.now c.as_slice-2.result.now c.place_of-place.result
    c.as_slice.ensures.value c.as_slice-2.ensures.value c.place_of-place.ensures.place
    c.requires.rise c.if-is_at.ensures.same (c.args.slot.0 % 128) (below_128 c.args.slot.0))
