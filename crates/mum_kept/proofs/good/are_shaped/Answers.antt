use Rattle.mum_kept.proofs.Whole.{not_few, not_rising, not_rooted, shaped}
use Rattle.mum_kept.proofs.good.are_shaped.Goals as goal

pub returns-then-count-gt-PLACES : goal.returns-then-count-gt-PLACES
returns-then-count-gt-PLACES c = not_few c.args.channels.now c.if-count-gt-PLACES.true

pub returns-then-not-rise : goal.returns-then-not-rise
returns-then-not-rise c = not_rising c.args.channels.now c.rise.result c.rise.ensures c.if-not-rise.true

pub returns-then-not-has_root : goal.returns-then-not-has_root
returns-then-not-has_root c = not_rooted c.args.channels.now c.has_root.result c.has_root.ensures c.if-not-has_root.true

pub returns : goal.returns
returns c =
    shaped c.args.channels.now c.rise.result c.has_root.result c.are_sound.result c.if-count-gt-PLACES.false c.rise.ensures c.if-not-rise.false c.has_root.ensures c.if-not-has_root.false c.are_sound.ensures
