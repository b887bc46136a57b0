use Rattle.mum_control.proofs.Boxes.{emptied_at}
use Rattle.mum_control.proofs.post.empty_at.Goals as goal

pub returns : goal.returns
returns g c =
    emptied_at c.args.posts.now.items c.args.place c.in-Some.post.now c.empty.new.self c.requires c.in-Some.ensures.value c.empty.ensures
