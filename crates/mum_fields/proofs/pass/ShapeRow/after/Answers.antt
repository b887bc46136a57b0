use Rattle.mum_fields.proofs.Common.{◌≡◌, sym, ap, ◌∙◌, err_from_is_err_and, entry_of, Single, Many, slot_of, is_sound, number_of}
use Rattle.mum_fields.proofs.{Kept.inside-room, Outlines.grows-as, Outlines.grows-block, Outlines.grows-block_fault, Outlines.grows-no_block}
use Rattle.mum_fields.proofs.pass.ShapeRow.after.Goals as goal

pub outline_block-requires-clause-room : goal.outline_block-requires-clause-room
outline_block-requires-clause-room c = inside-room c.in-Blocks.blocks.inside.now c.in-Blocks.blocks.number (sym (ap (λ s. is_sound (slot_of s)) c.in-Blocks.is) ∙ c.requires.sound)

pub returns-in-Field : goal.returns-in-Field
returns-in-Field c = grows-as (slot_of c.args.self.now) (Single c.in-Field.field) c.args.before (entry_of c.args.placed.now) c.after.result (ap slot_of c.in-Field.is) c.after.ensures

pub returns-in_err-part-in-Block : goal.returns-in_err-part-in-Block
returns-in_err-part-in-Block c =
    let p = err_from_is_err_and c.from_residual.result c.from_residual.ensures.1 in
    let blocks = c.in-Blocks.blocks in
    let inside = blocks.inside.now in
    rw (p.1, p.2) (grows-as (slot_of c.args.self.now) (Many inside blocks.number) c.args.before (entry_of c.args.placed.now) _ (ap slot_of c.in-Blocks.is)
    (grows-block_fault inside blocks.number c.args.placed.now.field.number c.args.placed.now.at c.args.before c.args.placed.now.field.value c.in-Block.block _ c.in-Block.is c.in_err-part-in-Block.ensures))

pub returns-in_ok-part-in-Block : goal.returns-in_ok-part-in-Block
returns-in_ok-part-in-Block c =
    let blocks = c.in-Blocks.blocks in
    let inside = blocks.inside.now in
    let part = c.in_ok-part-in-Block.part in
    let own : c.args.placed.now.field.number ≡ blocks.number = c.requires.own ∙ ap (λ s. number_of (slot_of s)) c.in-Blocks.is in
    rw c.lesser.ensures (grows-as (slot_of c.args.self.now) (Many inside blocks.number) c.args.before (entry_of c.args.placed.now) _ (ap slot_of c.in-Blocks.is)
    (grows-block inside blocks.number c.args.placed.now.field.number c.args.placed.now.at c.block_size-more.result c.saturating_add.result c.args.before part c.args.placed.now.field.value c.in-Block.block c.in-Block.is own c.in_ok-part-in-Block.ensures c.block_size-more.ensures c.saturating_add.ensures))

pub returns-in_default : goal.returns-in_default
returns-in_default c =
    let blocks = c.in-Blocks.blocks in
    let own : c.args.placed.now.field.number ≡ blocks.number = c.requires.own ∙ ap (λ s. number_of (slot_of s)) c.in-Blocks.is in
    grows-as (slot_of c.args.self.now) (Many blocks.inside.now blocks.number) c.args.before (entry_of c.args.placed.now) _ (ap slot_of c.in-Blocks.is)
    (grows-no_block blocks.inside.now blocks.number c.args.placed.now.field.number c.args.placed.now.at c.args.before c.args.placed.now.field.value own c.in_default.not-Block)
