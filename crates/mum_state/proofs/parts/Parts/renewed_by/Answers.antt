use Rattle.mum_state.proofs.Common.{◌≡◌, ◌∙◌, ◌==◌, ◌&&◌, true, ap, sym, subst, list_any, option_map, SLOTS, is_below, TreeState, User, SlotsRise, slots_below_greatest, Edit, renews, fits, session_edit, StateValue}
use Rattle.mum_state.proofs.Renewing.{renews_joined, renews_maker, renews_nobody, renews_removed, renews_tokens, renews_user}
use Rattle.mum_state.proofs.parts.Parts.renewed_by.Goals as goal

pub returns-then-not-may_renew : goal.returns-then-not-may_renew
returns-then-not-may_renew c = λ slot. renews_nobody c.args.self.now c.args.edit.now c.requires.proper (sym c.if-not-may_renew.ensures) slot

pub returns-in-Join : goal.returns-in-Join
returns-in-Join c = λ slot.
    renews_joined c.args.self.now c.in-Join.session c.in-Join.slot c.in-Join.name c.in-Join.account c.in-Join.tokens c.requires.proper
    (subst (λ (e : Edit). fits c.args.self.now e ≡ true) c.in-Join.is c.requires.fits) slot
    ∙ ap (λ (e : Edit). renews c.args.self.now e slot) (sym c.in-Join.is)

pub returns-in-SetTokens : goal.returns-in-SetTokens
returns-in-SetTokens c = λ slot.
    c.slot_of.ensures slot
    ∙ renews_tokens c.args.self.now c.in-SetTokens.session c.in-SetTokens.tokens c.requires.proper slot
    ∙ ap (λ (e : Edit). renews c.args.self.now e slot) (sym c.in-SetTokens.is)

pub returns-in-SetUser : goal.returns-in-SetUser
returns-in-SetUser c = λ slot.
    c.slot_entering.ensures slot
    ∙ renews_user c.args.self.now c.args.edit.now c.in-SetUser.session c.in-SetUser.channel
    (ap (λ (e : Edit). option_map (λ user. user.session) (session_edit e)) c.in-SetUser.is)
    (ap (λ (e : Edit). option_map (λ user. user.change.channel) (session_edit e)) c.in-SetUser.is) c.requires.proper slot

pub returns-in-MakeChannel : goal.returns-in-MakeChannel
returns-in-MakeChannel c = λ slot.
    c.slot_of_maker.ensures slot
    ∙ renews_maker c.args.self.now c.in-MakeChannel.id c.in-MakeChannel.parent c.in-MakeChannel.name c.in-MakeChannel.temporary c.in-MakeChannel.info c.in-MakeChannel.maker c.requires.proper
    (subst (λ (e : Edit). fits c.args.self.now e ≡ true) c.in-MakeChannel.is c.requires.fits) slot
    ∙ ap (λ (e : Edit). renews c.args.self.now e slot) (sym c.in-MakeChannel.is)

pub slots_below-requires : goal.slots_below-requires
slots_below-requires c =
    subst (SlotsRise SLOTS 0) (sym c.users.ensures)
    (subst (λ (s : StateValue). SlotsRise SLOTS 0 s.roster.sessions) (sym c.self.view_is) (slots_below_greatest c.args.self.now.roster c.requires.proper.roster))

pub returns-in-RemoveChannel : goal.returns-in-RemoveChannel
returns-in-RemoveChannel c = λ slot.
    c.slots_below.ensures slot
    ∙ ap (λ (t : TreeState). list_any (λ (user : User). (user.slot.0 == slot) && is_below t.channels c.in-RemoveChannel.id user.channel) c.users.result.now) c.tree.ensures.tree
    ∙ ap (list_any (λ (user : User). (user.slot.0 == slot) && is_below c.self.inside.channels.tree.channels c.in-RemoveChannel.id user.channel)) c.users.ensures
    ∙ ap (λ (s : StateValue). list_any (λ (user : User). (user.slot.0 == slot) && is_below s.tree.channels c.in-RemoveChannel.id user.channel) s.roster.sessions) c.self.view_is
    ∙ renews_removed c.args.self.now c.in-RemoveChannel.id c.in-RemoveChannel.actor c.requires.proper
    (subst (λ (e : Edit). fits c.args.self.now e ≡ true) c.in-RemoveChannel.is c.requires.fits) slot
    ∙ ap (λ (e : Edit). renews c.args.self.now e slot) (sym c.in-RemoveChannel.is)
