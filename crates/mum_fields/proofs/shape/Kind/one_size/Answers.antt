use Rattle.mum_fields.proofs.Common.{◌≡◌, ◌∷◌, [], ap, ◌∙◌, size, varint_item}
use Rattle.mum_fields.proofs.Outlines.{one-number, one-no_number, one-text, one-no_text, one-raw, one-no_raw}
use Rattle.mum_fields.proofs.shape.Kind.one_size.Goals as goal

pub returns-in-Varint : goal.returns-in-Varint
returns-in-Varint c =
    one-number c.args.self c.in-Number.scalar c.args.number c.args.placed.now.field.number c.args.placed.now.at c.in-Varint.varint _ c.args.placed.now.field.value c.in-Number.is c.in-Varint.is
    (c.number_size.ensures ∙ ap (λ n. size (varint_item c.args.number n ∷ [])) c.number.ensures)

pub returns-in_default : goal.returns-in_default
returns-in_default c = one-no_number c.args.self c.in-Number.scalar c.args.number c.args.placed.now.field.number c.args.placed.now.at c.args.placed.now.field.value c.in-Number.is c.in_default.not-Varint

pub returns-in_ok-read_text-in-Block : goal.returns-in_ok-read_text-in-Block
returns-in_ok-read_text-in-Block c =
    one-text c.args.self c.args.number c.args.placed.now.field.number c.args.placed.now.at _ c.args.placed.now.field.value c.in-Block.block c.in-Utf8.is c.in-Block.is c.in_ok-read_text-in-Block.ensures.rule c.bytes_size.ensures

pub returns-in_default-value : goal.returns-in_default-value
returns-in_default-value c = one-no_text c.args.self c.args.number c.args.placed.now.field.number c.args.placed.now.at c.args.placed.now.field.value c.in-Utf8.is c.in_default-value.not-Block

pub returns-in-Block-value : goal.returns-in-Block-value
returns-in-Block-value c =
    one-raw c.args.self c.args.number c.args.placed.now.field.number c.args.placed.now.at _ c.args.placed.now.field.value c.in-Block-value.block c.in-Raw.is c.in-Block-value.is c.bytes_size-in-Block-value.ensures

pub returns-in_default-value-2 : goal.returns-in_default-value-2
returns-in_default-value-2 c = one-no_raw c.args.self c.args.number c.args.placed.now.field.number c.args.placed.now.at c.args.placed.now.field.value c.in-Raw.is c.in_default-value-2.not-Block
