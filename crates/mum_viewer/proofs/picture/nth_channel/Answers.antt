use Rattle.mum_viewer.proofs.Common.{ap, ◌∙◌, option_map, Row}
use Rattle.mum_viewer.proofs.Rows.{row_at_index}
use Rattle.mum_viewer.proofs.picture.nth_channel.Goals as goal

pub returns-in-Some : goal.returns-in-Some
returns-in-Some c =
    c.channel.ensures ∙ ap (option_map (λ (row : Row). row.channel)) (row_at_index c.args.tree.now.channels c.args.index c.in-Some.id c.requires c.in-Some.ensures)
