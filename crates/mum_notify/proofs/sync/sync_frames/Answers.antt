use Rattle.mum_notify.proofs.Common.{◌∙◌, [], ◌∷◌, ◌++◌, ℕ, List, ap, map, RosterState, User, channel_frame, codecs_frame, sync_frame, user_frame, version_frame, all_links_told, server_codecs, server_version, tree_told, welcome_told, user_told}
use Rattle.mum_notify.proofs.{Sent.all_synced, Within.all_sound}
use Rattle.mum_notify.proofs.sync.sync_frames.Goals as goal

pub tell_users-requires : goal.tell_users-requires
tell_users-requires c = all_sound c.args.state.now _ _ c.roster-roster.ensures.proper c.roster-roster.ensures.roster c.users.ensures

pub returns : goal.returns
returns c =
    let state = c.args.state.now in
    all_synced (version_frame server_version) (codecs_frame server_codecs) (sync_frame (welcome_told state c.args.user.now))
    (map channel_frame (tree_told state.tree)) (map channel_frame (all_links_told state.tree)) (map (λ other. user_frame (user_told state.roster other)) state.roster.sessions)
    c.new-frames.result.items c.push.new.self.items c.push-2.new.self.items c.tell_tree.new.frames.items c.tell_users.new.frames.items c.push-3.new.self.items
    c.new-frames.ensures.items
    (c.in_ok-push.ensures.items ∙ ap (λ (frame : List ℕ). c.new-frames.result.items ++ frame ∷ []) c.in_ok-frame_of_version.ensures)
    (c.in_ok-push-2.ensures.items ∙ ap (λ (frame : List ℕ). c.push.new.self.items ++ frame ∷ []) (c.in_ok-codecs_frame.ensures ∙ ap codecs_frame c.server_codecs.ensures))
    c.in_ok-tell_tree.ensures
    (c.in_ok-tell_users.ensures ∙ ap (λ (users : List User). c.tell_tree.new.frames.items ++ map (λ other. user_frame (user_told state.roster other)) users) (c.users.ensures ∙ ap (λ (roster : RosterState). roster.sessions) c.roster-roster.ensures.roster))
    (c.in_ok-push-3.ensures.items ∙ ap (λ (frame : List ℕ). c.tell_users.new.frames.items ++ frame ∷ []) c.in_ok-frame_of_welcome.ensures)
