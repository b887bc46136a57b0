use Rattle.mum_state.proofs.Common.{◌∙◌, ◌&&◌, true, ap, sym, is_none, option_map_or, fault_of_edit, edit_fault, is_context, Edit, gives_right_numbers, holds_of_given, sets_properly, channel_change, user_change, is_name, is_text}
use Rattle.mum_state.proofs.parts.Parts.is_allowed.Goals as goal

pub returns-in-EditChannel : goal.returns-in-EditChannel
returns-in-EditChannel c =
    c.may_change_channel.ensures
    ∙ ap (λ (e : Edit). option_map_or (λ change. is_none (fault_of_edit c.args.self.now.tree c.in-EditChannel.id change)) (channel_change e) true
    && holds_of_given is_name c.in-EditChannel.name && holds_of_given is_text c.in-EditChannel.description) c.in-EditChannel.is
    ∙ ap (λ (e : Edit). gives_right_numbers c.args.self.now e && sets_properly c.args.self.now e) (sym c.in-EditChannel.is)

pub returns-in-SetUser : goal.returns-in-SetUser
returns-in-SetUser c =
    c.may_change_user.ensures
    ∙ ap (λ (e : Edit). option_map_or (λ change. is_none (edit_fault c.args.self.now.roster c.in-SetUser.session change)) (user_change e) true
    && holds_of_given is_text c.in-SetUser.comment && holds_of_given is_context c.in-SetUser.context) c.in-SetUser.is
    ∙ ap (λ (e : Edit). gives_right_numbers c.args.self.now e && sets_properly c.args.self.now e) (sym c.in-SetUser.is)
