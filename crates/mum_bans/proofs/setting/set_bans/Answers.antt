use Rattle.mum_bans.proofs.Common.{◌∷◌, [], ◌++◌, ap, ◌∙◌, arith, Ban, set_ban, is_sound_entry}
use Rattle.mum_bans.proofs.Lists.{mapped_at, passes_at}
use Rattle.mum_bans.proofs.setting.set_bans.Goals as goal

pub set_ban-requires : goal.set_ban-requires
set_ban-requires c = passes_at is_sound_entry c.args.entries.now c.loop-entry.entry-index c.entry-item.result c.loop-entry-test.true c.entry-item.is c.requires.sound

pub loop-entry-preserved : goal.loop-entry-preserved
loop-entry-preserved c =
    let is = c.in_ok-set_ban.ensures ∙ ap (set_ban c.args.bans.now c.args.moment) c.entry-item.is in
    record {
      bans = mapped_at (set_ban c.args.bans.now c.args.moment) c.args.entries.now c.loop-entry.entry-index c.entry-item.result c.loop-entry.set.items _ c.loop-entry-test.true c.loop-entry.invariant.bans
          (c.push_reserved.ensures.items ∙ ap (λ (ban : Ban). c.loop-entry.set.items ++ ban ∷ []) is);
      filled = omega arith;
      room = c.push_reserved.ensures.capacity ∙ c.loop-entry.invariant.room;
    }
