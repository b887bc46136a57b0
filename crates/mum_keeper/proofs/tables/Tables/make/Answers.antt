use Rattle.mum_keeper.proofs.Common.{List, subst, sym, Pair, KeptChannel, KeptRows, AreInOrder, without_link}
use Rattle.mum_keeper.proofs.Ordering.{linked_in_order, made_in_order, put_in_order}
use Rattle.mum_keeper.specs.declared.change.Change.TheVariants as changes
use Rattle.mum_keeper.proofs.tables.Tables.make.Goals as goal

pub invariant_of-self-in-Put : goal.invariant_of-self-in-Put
invariant_of-self-in-Put c =
    put_in_order c.in_ok-share-in-Put.field-0 (record { channels = c.self.inside.channels.items; links = c.self.inside.links.items })
    c.put_row.new.rows.items c.put_row.result c.self.invariant c.put_row.ensures.ok c.put_row.ensures.err

pub invariant_of-self-in-Drop : goal.invariant_of-self-in-Drop
invariant_of-self-in-Drop c =
    let rows : KeptRows = record { channels = c.self.inside.channels.items; links = c.self.inside.links.items } in
    subst (λ (channels : List KeptChannel). AreInOrder (record rows { channels = channels })) (sym c.drop_channel.ensures)
    (made_in_order (changes.Drop c.in-Drop.id) rows c.self.invariant)

pub invariant_of-self-in-Link : goal.invariant_of-self-in-Link
invariant_of-self-in-Link c =
    linked_in_order c.in-Link.one c.in-Link.other c.link_of.result (record { channels = c.self.inside.channels.items; links = c.self.inside.links.items })
    c.put_row-in-Link.new.rows.items c.put_row-in-Link.result c.self.invariant c.link_of.ensures c.put_row-in-Link.ensures.ok c.put_row-in-Link.ensures.err

pub invariant_of-self-in-Unlink : goal.invariant_of-self-in-Unlink
invariant_of-self-in-Unlink c =
    let rows : KeptRows = record { channels = c.self.inside.channels.items; links = c.self.inside.links.items } in
    subst (λ (links : List Pair). AreInOrder (record rows { links = links })) (sym c.drop_link.ensures)
    (subst (λ (pair : Pair). AreInOrder (record rows { links = without_link pair rows.links })) (sym c.link_of-in-Unlink.ensures)
    (made_in_order (changes.Unlink c.in-Unlink.one c.in-Unlink.other) rows c.self.invariant))
