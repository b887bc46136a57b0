-- What is read of a payload is its message, or it is none.
use Rattle.mum_kept.proofs.Common.{◌≡◌, ℕ, false, List, Option, Some, None, Result, Ok, Err, ap, ◌∙◌, option_map_or, ChannelId, Values, decoded, layout, parts, MessageFault, Acl, acl, acl_back, open_policy, policy_asked, holds_policy, is_answer_of, message_if_decoded, message_in, policy_in}

pub read : (payload : List ℕ) (message : Acl) → decoded acl payload ≡ Ok (parts acl message) → message_in payload ≡ Some message
read payload message is =
    ap (λ (r : Result (Values (layout acl)) MessageFault). message_if_decoded r) is ∙ ap (λ (m : Acl). Some m) (acl_back message)

pub not_read : (payload : List ℕ) (fault : MessageFault) → decoded acl payload ≡ Err fault → message_in payload ≡ None
not_read payload fault is = ap (λ (r : Result (Values (layout acl)) MessageFault). message_if_decoded r) is

pub held : (id : ChannelId) (payload : List ℕ) (message : Acl) → decoded acl payload ≡ Ok (parts acl message) → holds_policy id payload ≡ is_answer_of id message
held id payload message is = ap (λ (o : Option Acl). option_map_or (is_answer_of id) o false) (read payload message is)

pub not_held : (id : ChannelId) (payload : List ℕ) (fault : MessageFault) → decoded acl payload ≡ Err fault → holds_policy id payload ≡ false
not_held id payload fault is = ap (λ (o : Option Acl). option_map_or (is_answer_of id) o false) (not_read payload fault is)

pub policy_read : (payload : List ℕ) (message : Acl) → decoded acl payload ≡ Ok (parts acl message) → policy_in payload ≡ policy_asked message
policy_read payload message is = ap (λ (o : Option Acl). option_map_or policy_asked o open_policy) (read payload message is)

pub no_policy : (payload : List ℕ) (fault : MessageFault) → decoded acl payload ≡ Err fault → policy_in payload ≡ open_policy
no_policy payload fault is = ap (λ (o : Option Acl). option_map_or policy_asked o open_policy) (not_read payload fault is)
