use Rattle.mum_bans.proofs.Common.{is_ok, ap, ◌∙◌}
use Rattle.mum_bans.proofs.Reading.{surveyed_list}
use Rattle.mum_bans.proofs.ban_list.BanList.is_list.Goals as goal

pub returns : goal.returns
returns c = c.is_ok.ensures.value ∙ ap is_ok c.survey.ensures ∙ surveyed_list c.args.payload.now
