-- Who hears a packet, with what the copy of each needs.
use Rattle.std.specs.Prelude.{ℕ, ◌<◌, Bool, false, List, Option}
use Rattle.std.specs.{List.filter_map, Option.option_map, Option.option_map_or, Str.bytes_eq}
use Rattle.mum_base.specs.declared.number.{SessionId.SessionId, TheConstants.SLOTS}
use Rattle.mum_users.specs.declared.user.User.{User}
use Rattle.mum_users.specs.Sessions.{session_of}
use Rattle.mum_voice.specs.Packet.{Parts, copy}
use Rattle.mum_state.specs.State.{StateValue}
use Rattle.mum_route.specs.declared.hearer.Hearer.{Hearer}
use Rattle.mum_route.specs.Route.{Member, route}

-- the speaker, if there is one, and this session are in the same context of their plugins
abbrev pub shares : Option User → User → Bool
shares speaker user = option_map_or (λ own. bytes_eq own.context user.context) speaker false

-- a member of a route in its slot, beside this speaker; whoever hears is there
abbrev pub hearer_of : StateValue → SessionId → Member → Option Hearer
hearer_of state speaker member = option_map
    (λ user. record {
      session = member.0;
      slot = user.slot;
      context = member.1;
      same = shares
          (session_of state.roster speaker) user;
    })
    (session_of state.roster member.0)

-- these members of a route of the speaker, each in its slot
abbrev pub hearers_of : StateValue → SessionId → List Member → List Hearer
hearers_of state speaker members = filter_map (hearer_of state speaker) members

-- who hears what a session says to a target, each in its slot
abbrev pub hearers_at : StateValue → SessionId → ℕ → List Hearer
hearers_at state speaker target = hearers_of state speaker (route state speaker target)

-- the copy of a packet for one who hears it: the speaker and the context are set, and the position comes along where the
-- two are in the same context of their plugins
abbrev pub copy_for : SessionId → Parts → Hearer → List ℕ
copy_for speaker packet hearer = copy packet speaker.0 hearer.context hearer.same

-- the member of the route that it is
abbrev pub member_of : Hearer → Member
member_of hearer = (hearer.session, hearer.context)

-- a slot that there is, and the number of a context
pub record IsInRange (hearer : Hearer) : Type 0 where
  pub slot : hearer.slot.0 < SLOTS
  pub context : hearer.context < 4
