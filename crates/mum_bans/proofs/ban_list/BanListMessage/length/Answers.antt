use Rattle.mum_bans.proofs.Common.{◌∙◌, layout, parts, fields-counted, ban_list}
use Rattle.mum_bans.proofs.ban_list.BanListMessage.length.Goals as goal

pub returns : goal.returns
returns c =
    c.total.ensures
    ∙ fields-counted (layout ban_list) (parts ban_list c.args.self.now)
    _ c.new.ensures
    _ c.each_message.ensures
    _ c.number.ensures
