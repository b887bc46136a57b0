-- The values of a message that was made of values are these.
use Rattle.mum_heard.proofs.Common.{◌≡◌, List, [], ◌∷◌, map, refl, ap, ◌∙◌, Values, layout, parts, acl, acl_group, acl_line, permission_query, target_block, text_message, voice_target, acl_group_of, acl_line_of, acl_of, acl_with, permission_query_of, target_block_of, text_message_of, voice_target_of, voice_target_with, authenticate, channel_remove, channel_state, user_remove, user_state, authenticate_of, channel_remove_of, channel_state_of, user_remove_of, user_state_of}

pub authenticate_parts : (values : Values (layout authenticate)) → parts authenticate (authenticate_of values) ≡ values
unfolding authenticate_of
authenticate_parts values = refl

pub channel_remove_parts : (values : Values (layout channel_remove)) → parts channel_remove (channel_remove_of values) ≡ values
unfolding channel_remove_of
channel_remove_parts values = refl

pub channel_state_parts : (values : Values (layout channel_state)) → parts channel_state (channel_state_of values) ≡ values
unfolding channel_state_of
channel_state_parts values = refl

pub user_remove_parts : (values : Values (layout user_remove)) → parts user_remove (user_remove_of values) ≡ values
unfolding user_remove_of
user_remove_parts values = refl

pub user_state_parts : (values : Values (layout user_state)) → parts user_state (user_state_of values) ≡ values
unfolding user_state_of
user_state_parts values = refl

pub text_message_parts : (values : Values (layout text_message)) → parts text_message (text_message_of values) ≡ values
unfolding text_message_of
text_message_parts values = refl

pub permission_query_parts : (values : Values (layout permission_query)) → parts permission_query (permission_query_of values) ≡ values
unfolding permission_query_of
permission_query_parts values = refl

-- ---- messages of blocks

groups_parts : (groups : List (Values (layout acl_group))) → map (parts acl_group) (map acl_group_of groups) ≡ groups
unfolding acl_group_of
groups_parts [] = refl
groups_parts (group ∷ groups) = ap (λ (xs : List (Values (layout acl_group))). group ∷ xs) (groups_parts groups)

lines_parts : (lines : List (Values (layout acl_line))) → map (parts acl_line) (map acl_line_of lines) ≡ lines
unfolding acl_line_of
lines_parts [] = refl
lines_parts (line ∷ lines) = ap (λ (xs : List (Values (layout acl_line))). line ∷ xs) (lines_parts lines)

pub acl_parts : (values : Values (layout acl)) → parts acl (acl_of values) ≡ values
unfolding acl_of acl_with
acl_parts values =
    let with_both : List (Values (layout acl_group)) → List (Values (layout acl_line)) → Values (layout acl) = λ groups lines. (values.0, (values.1.0, (groups, (lines, values.1.1.1.1)))) in
    ap (λ (groups : List (Values (layout acl_group))). with_both groups (map (parts acl_line) (map acl_line_of values.1.1.1.0))) (groups_parts values.1.1.0)
    ∙ ap (λ (lines : List (Values (layout acl_line))). with_both values.1.1.0 lines) (lines_parts values.1.1.1.0)

targets_parts : (targets : List (Values (layout target_block))) → map (parts target_block) (map target_block_of targets) ≡ targets
unfolding target_block_of
targets_parts [] = refl
targets_parts (target ∷ targets) = ap (λ (xs : List (Values (layout target_block))). target ∷ xs) (targets_parts targets)

pub voice_target_parts : (values : Values (layout voice_target)) → parts voice_target (voice_target_of values) ≡ values
unfolding voice_target_of voice_target_with
voice_target_parts values =
    let with_targets : List (Values (layout target_block)) → Values (layout voice_target) = λ targets. (values.0, (targets, values.1.1)) in
    ap with_targets (targets_parts values.1.0)
