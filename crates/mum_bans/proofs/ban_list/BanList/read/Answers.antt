use Rattle.mum_bans.proofs.Common.{◌∙◌}
use Rattle.mum_bans.proofs.Reading.{list_read, surveyed_list}
use Rattle.mum_bans.proofs.ban_list.BanList.read.Goals as goal

pub decode_surveyed-requires : goal.decode_surveyed-requires
decode_surveyed-requires c = surveyed_list c.args.payload.now ∙ c.requires

pub returns : goal.returns
returns c = list_read c.args.payload.now _ c.in_ok-decode_surveyed.ensures
