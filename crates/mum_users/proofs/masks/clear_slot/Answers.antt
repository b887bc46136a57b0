use Rattle.mum_users.proofs.Common.{◌*◌, ◌/◌, ◌%◌, ◌^◌, ap, refl, bit_not, bit_and, w128, MaskRow}
use Rattle.mum_users.proofs.MaskRows.{put_none, put_over}
use Rattle.mum_users.proofs.masks.clear_slot.Goals as goal

pub returns-then-not-is_at-clause-items : goal.returns-then-not-is_at-clause-items
returns-then-not-is_at-clause-items c =
    put_none c.args.channel (c.args.slot.0 / 128) c.args.rows.now.items c.as_slice.result.now c.as_slice-2.result.now c.place_of-place.result
    c.as_slice.ensures.value c.as_slice-2.ensures.value c.place_of-place.ensures.place
    c.requires c.if-not-is_at.ensures.same (bit_not w128 (1 * 2 ^ (c.args.slot.0 % 128) % 2 ^ 128))

pub returns-clause-items : goal.returns-clause-items
returns-clause-items c =
    rw (c.replace_mask.ensures.items, c.bit_of.ensures) (
    put_over c.args.channel (c.args.slot.0 / 128) c.args.rows.now.items c.as_slice.result.now c.as_slice-2.result.now c.place_of-place.result
    c.as_slice.ensures.value c.as_slice-2.ensures.value c.place_of-place.ensures.place
    (λ m. bit_and m (bit_not w128 (1 * 2 ^ (c.args.slot.0 % 128) % 2 ^ 128))) c.index.result.now c.index.result.now.mask
    (c.if-not-is_at.ensures.within refl) c.if-not-is_at.ensures.same (ap (λ (row : MaskRow). row.mask) c.index.ensures))
