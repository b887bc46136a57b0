use Rattle.mum_config.proofs.Common.{ap, ◌∙◌, unwrap_or}
use Rattle.mum_config.proofs.link.Met.count.Goals as goal

pub returns : goal.returns
returns c = c.unwrap_or.ensures ∙ ap (λ kept. unwrap_or kept 0) c.depth_in.ensures ∙ c.requires c.args.channel
