use Rattle.mum_bans.proofs.Common.{◌∙◌, layout, parts, fields-counted, ban_entry}
use Rattle.mum_bans.proofs.ban_entry.BanEntryMessage.length.Goals as goal

pub returns : goal.returns
returns c =
    c.total.ensures
    ∙ fields-counted (layout ban_entry) (parts ban_entry c.args.self.now)
    _ c.new.ensures
    _ c.octets.ensures
    _ c.number.ensures
    _ c.text.ensures
    _ c.text-2.ensures
    _ c.text-3.ensures
    _ c.number-2.ensures
