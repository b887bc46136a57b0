use Rattle.mum_control.proofs.Boxes.{offered_at}
use Rattle.mum_control.proofs.post.offer_at.Goals as goal

pub returns : goal.returns
returns g c =
    offered_at c.args.posts.now.items c.args.place c.in-Some.post.now c.offer.new.self c.args.parcel c.offer.result c.requires c.in-Some.ensures.value c.offer.ensures
