use Rattle.mum_state.proofs.Staged.{clear_at, close_at, count_at, hear_at, hear_roster, stages_are}
use Rattle.mum_state.proofs.parts.Parts.apply.Goals as goal

pub hear-requires : goal.hear-requires
hear-requires c = record {
  proper = hear_roster c.args.self.now c.args.edit.now c.requires.proper c.requires.fits c.renewed_by-renewed.result c.set.new.self c.in_ok-set.ensures.ok;
  inside = hear_at c.args.self.now c.args.edit.now c.requires.proper c.requires.fits c.renewed_by-renewed.result c.set.new.self c.in_ok-set.ensures.ok;
}

pub clear_by-requires : goal.clear_by-requires
clear_by-requires c =
    clear_at c.args.self.now c.args.edit.now c.requires.proper c.requires.fits c.renewed_by-renewed.result c.set.new.self c.in_ok-set.ensures.ok c.hear.new.self c.hear.ensures

pub close-closed-requires : goal.close-closed-requires
close-closed-requires c =
    close_at c.args.self.now c.args.edit.now c.requires.proper c.requires.fits c.renewed_by-renewed.result c.set.new.self c.in_ok-set.ensures.ok c.hear.new.self c.hear.ensures
    c.clear_by.new.self c.clear_by.ensures c.left_by-left.result c.left_by-left.ensures

pub count-requires : goal.count-requires
count-requires c =
    let room =
    count_at c.args.self.now c.args.edit.now c.requires.proper c.requires.fits c.renewed_by-renewed.result c.set.new.self c.in_ok-set.ensures.ok c.hear.new.self c.hear.ensures
    c.clear_by.new.self c.clear_by.ensures c.left_by-left.result c.left_by-left.ensures c.close-closed.new.self c.close-closed.ensures.closed in
    record { revision = room.revision; policy = room.policy; routing = room.routing; slots = room.slots; whole = room.whole }

pub returns-clause-ok : goal.returns-clause-ok
returns-clause-ok c =
    stages_are c.args.self.now c.args.edit.now c.requires.proper c.requires.fits c.renewed_by-renewed.result c.set.new.self c.in_ok-set.ensures.ok c.hear.new.self c.hear.ensures
    c.clear_by.new.self c.clear_by.ensures c.left_by-left.result c.left_by-left.ensures c.close-closed.new.self c.close-closed.ensures.closed
    c.close-closed.result c.count.new.self c.close-closed.ensures.is_closed c.count.ensures c.renewed_by-renewed.ensures
