-- A view of a state: one JSON object (RFC 8259) without white space, the keys of each object in the order of their bytes,
-- and a line feed.
use Rattle.std.specs.Prelude.{ℕ, List, [], ◌∷◌, ◌++◌, map, codes, Option, Some, None}
use Rattle.serde_json.specs.Data.{Data, null, boolean, number, string, array, object, unsigned, member, no_members}
use Rattle.serde_json.specs.{View.items_of, Written.compact_text}
use Rattle.mum_base.specs.declared.number.{AccountId.AccountId, ChannelId.ChannelId}
use Rattle.mum_state.specs.State.{StateValue}
use Rattle.mum_viewer.specs.Picture.{picture_of}
use Rattle.mum_viewer.specs.declared.picture.{Picture.Picture, ShownChannel.ShownChannel, ShownUser.ShownUser}

-- a number that is not negative
abbrev pub whole : ℕ → Data
whole n = number (unsigned n)

-- a list of values
abbrev pub list : List Data → Data
list values = array (items_of values)

-- a list of channels by their numbers
abbrev pub channel_numbers : List ChannelId → Data
channel_numbers ids = list (map (λ id. whole id.0) ids)

-- the number of a channel, or null
abbrev pub channel_or_null : Option ChannelId → Data
channel_or_null None = null
channel_or_null (Some id) = whole id.0

-- the number of an account, or null
abbrev pub account_or_null : Option AccountId → Data
account_or_null None = null
account_or_null (Some id) = whole id.0

abbrev pub channel_object : ShownChannel → Data
channel_object channel =
    object (member (codes "id") (whole channel.id.0)
    (member (codes "links") (channel_numbers channel.links)
    (member (codes "name") (string channel.name)
    (member (codes "parent") (channel_or_null channel.parent)
    (member (codes "temporary") (boolean channel.temporary)
    no_members)))))

abbrev pub user_object : ShownUser → Data
user_object user =
    object (member (codes "account") (account_or_null user.account)
    (member (codes "channel") (whole user.channel.0)
    (member (codes "deaf") (boolean user.deaf)
    (member (codes "listens") (channel_numbers user.listens)
    (member (codes "mute") (boolean user.mute)
    (member (codes "name") (string user.name)
    (member (codes "session") (whole user.session.0)
    no_members)))))))

abbrev pub picture_object : Picture → Data
picture_object picture =
    object (member (codes "channels") (list (map channel_object picture.channels))
    (member (codes "revision") (whole picture.revision)
    (member (codes "users") (list (map user_object picture.users))
    no_members)))

-- the object as text, and a line feed
abbrev pub picture_text : Picture → List ℕ
picture_text picture = compact_text (picture_object picture) ++ 10 ∷ []

-- the view of a state
abbrev pub view_text : StateValue → List ℕ
view_text state = picture_text (picture_of state)
