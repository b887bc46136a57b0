-- Which edits are of a channel and of a session, and by which parts, worked out.
use Rattle.mum_state.proofs.Common.{◌≡◌, ℕ, Bool, true, false, List, [], ◌∷◌, ◌++◌, codes, map, replicate, Option, Some, None, is_some, refl, pos, Change, same_channel, plain, channel, channels, session, to_channel, unchanged, Edit, EditChannel, SetServer, SetUser, Text, by_parts, channel_change, channel_edit, session_edit, user_change}
use Rattle.mum_state.proofs.Scenes.{add_account, edit, join, kick, leave, make, remove, set_limits, set_policy, set_target, set_tokens, set_user}

-- one edit of each kind, in the order of their declaration
abbrev of_each_kind : List Edit
of_each_kind =
    SetServer [] 0 None ∷ set_limits 1 1 ∷ add_account 7 [] ∷ join 1 0 [] ∷ leave 1 ∷ kick 1 2 ∷ make 1 0 [] ∷ edit 1 same_channel
    ∷ remove 1 1 ∷ set_user 1 unchanged ∷ set_tokens 1 [] ∷ set_target 1 1 [] ∷ set_policy 0 plain ∷ Text (session 1) [] [] [] [] ∷ []

-- the answer that an edit has by its kind
abbrev answer_of : Edit → ℕ
answer_of edit = by_parts (λ channel. 1) (λ user. 2) 0 edit

-- a change of every part of a channel
abbrev all_of_channel : Change
all_of_channel = record {
  name = Some (codes "name");
  parent = Some (channel 3);
  description = Some (codes "description");
  position = Some (pos 4);
  max_users = Some 5;
  links_add = channels (6 ∷ []);
  links_remove = channels (7 ∷ []);
}

-- ---- which edit is one of a channel, and which one of a session

pub record KindsByParts : Type 0 where
  pub one_is_of_a_channel : map (λ one. is_some (channel_edit one)) of_each_kind ≡ replicate 7 false ++ true ∷ replicate 6 false
  pub and_changes_it : map (λ one. is_some (channel_change one)) of_each_kind ≡ replicate 7 false ++ true ∷ replicate 6 false
  pub one_is_of_a_session : map (λ one. is_some (session_edit one)) of_each_kind ≡ replicate 9 false ++ true ∷ replicate 4 false
  pub and_changes_that : map (λ one. is_some (user_change one)) of_each_kind ≡ replicate 9 false ++ true ∷ replicate 4 false
  pub each_has_its_answer : map answer_of of_each_kind ≡ replicate 7 0 ++ 1 ∷ 0 ∷ 2 ∷ replicate 4 0

pub kinds_by_parts : KindsByParts
kinds_by_parts = record {
  one_is_of_a_channel = refl;
  and_changes_it = refl;
  one_is_of_a_session = refl;
  and_changes_that = refl;
  each_has_its_answer = refl;
}

-- ---- the parts of each

pub record EditsByParts : Type 0 where
  pub of_a_channel :
      let one = EditChannel (channel 1) (Some (session 2)) (Some (codes "name")) (Some (channel 3)) (Some (codes "description")) (Some (pos 4)) (Some 5)
      (channels (6 ∷ [])) (channels (7 ∷ [])) in
      (channel_edit one ≡ Some (record { channel = channel 1; actor = Some (session 2); change = all_of_channel })) × (channel_change one ≡ Some all_of_channel)
  pub of_a_channel_by_a_configuration : channel_edit (edit 1 same_channel) ≡ Some (record { channel = channel 1; actor = None; change = same_channel })
  pub of_a_session : (mute deaf priority self_mute self_deaf recording : Option Bool)
      → session_edit (
      SetUser (session 1) (session 2) (Some (channel 3)) mute deaf true priority self_mute self_deaf recording (Some (codes "comment")) (Some (codes "context"))
      (channels (4 ∷ [])) (channels (5 ∷ []))
      ) ≡ Some (record {
        session = session 1;
        actor = session 2;
        change = record {
          channel = Some (channel 3);
          flags = record {
            mute = mute;
            deaf = deaf;
            suppress = None;
            self_mute = self_mute;
            self_deaf = self_deaf;
            priority = priority;
            recording = recording;
          };
          comment = Some (codes "comment");
          context = Some (codes "context");
          listen = channels (4 ∷ []);
          unlisten = channels (5 ∷ []);
        };
        clear_suppress = true;
      })
  pub of_a_session_by_itself :
      let one = set_user 1 (to_channel 2) in
      (session_edit one ≡ Some (record { session = session 1; actor = session 1; change = to_channel 2; clear_suppress = false })) × (user_change one ≡ Some (to_channel 2))

pub edits_by_parts : EditsByParts
edits_by_parts = record {
  of_a_channel = (refl, refl);
  of_a_channel_by_a_configuration = refl;
  of_a_session = λ mute deaf priority self_mute self_deaf recording. refl;
  of_a_session_by_itself = (refl, refl);
}
