use Rattle.mum_state.proofs.Common.{◌≡◌, ◌∙◌, true, ap, subst, option_map, change_of, fault_of_remove, Edit, fits, channel_edit, StateValue}
use Rattle.mum_state.proofs.{Marking.making_fits, Marking.removal_fits, OfSession.channel_fits}
use Rattle.mum_state.proofs.parts.Parts.set_channels.Goals as goal

pub edit_channel-requires : goal.edit_channel-requires
edit_channel-requires c =
    channel_fits c.args.self.now c.args.edit.now c.in-EditChannel.id (change_of c.in-Some.change) c.requires.fits
    (ap (λ (e : Edit). option_map (λ channel. channel.channel) (channel_edit e)) c.in-EditChannel.is) c.in-Some.ensures

pub make_channel-requires-clause-above : goal.make_channel-requires-clause-above
make_channel-requires-clause-above c =
    let made = c.in-MakeChannel in
    (making_fits c.args.self.now made.id made.parent made.name made.temporary made.info made.maker (subst (λ (e : Edit). fits c.args.self.now e ≡ true) made.is c.requires.fits)).0

pub make_channel-requires-clause-allowed : goal.make_channel-requires-clause-allowed
make_channel-requires-clause-allowed c =
    let made = c.in-MakeChannel in
    (making_fits c.args.self.now made.id made.parent made.name made.temporary made.info made.maker (subst (λ (e : Edit). fits c.args.self.now e ≡ true) made.is c.requires.fits)).1

pub remove_channels-requires : goal.remove_channels-requires
remove_channels-requires c =
    ap (λ (state : StateValue). fault_of_remove state.tree c.in-RemoveChannel.id) c.move_up.ensures
    ∙ removal_fits c.args.self.now c.in-RemoveChannel.id c.in-RemoveChannel.actor (subst (λ (e : Edit). fits c.args.self.now e ≡ true) c.in-RemoveChannel.is c.requires.fits)
