use Rattle.mum_users.proofs.Common.{◌∙◌, SLOTS}
use Rattle.mum_users.proofs.Numbers.{no_row, row_in_slot}
use Rattle.mum_users.proofs.sessions.index_of.Goals as goal

pub returns-in-None : goal.returns-in-None
returns-in-None c = no_row c.args.session c.args.users.now c.args.slots.now c.requires.numbered c.in-None.ensures

pub returns-in-Some : goal.returns-in-Some
returns-in-Some c =
    c.place_of.ensures ∙ row_in_slot SLOTS c.args.session c.in-Some.slot c.args.users.now c.args.slots.now c.requires.rise c.requires.numbered c.in-Some.ensures
