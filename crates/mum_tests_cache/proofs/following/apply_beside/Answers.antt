use Rattle.mum_tests_cache.proofs.Followed.{followed}
use Rattle.mum_tests_cache.proofs.following.apply_beside.Goals as goal

pub returns-clause-sound : goal.returns-clause-sound
returns-clause-sound c =
    followed c.args.state.now c.apply.new.self c.args.edit.now c.args.perms.now c.apply.result c.requires.proper c.requires.fits
    c.apply.ensures.ok c.apply.ensures.err c.requires.sound
