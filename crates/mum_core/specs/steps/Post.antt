-- The first pending notice goes to the posts of its slot, where these have room. Else it is dropped, and its session
-- leaves.
use Rattle.std.specs.Prelude.{ℕ, Bool, true, false, List, [], ◌∷◌, ◌++◌, length, drop, Option, Some, None, is_none, nat_lt, slice_get, codes, decimal, if◌then◌else◌}
use Rattle.mum_base.specs.declared.number.TheConstants.{POST_CAPACITY}
use Rattle.mum_notify.specs.declared.notice.Notice.{Notice}
use Rattle.mum_core.specs.{Case.Case, Connection.lagging}
use Rattle.mum_core.specs.Core.{CoreState, at_posts, at_session, posts_at, up}

-- the notice that is posted next, if one is pending
abbrev pub next_notice : CoreState → Option Notice
next_notice core = slice_get core.pending 0

abbrev pub forbids : CoreState → List Case
forbids core = record { stands = is_none (next_notice core); given = 0; against = core.posted } ∷ []

abbrev pub has_room : CoreState → ℕ → Bool
has_room core slot = nat_lt (length (posts_at core slot)) POST_CAPACITY

-- the posts of a slot after a notice found room in them, or none: it goes to their back
abbrev pub put : Bool → Notice → List Notice → List Notice
put true next posts = posts ++ next ∷ []
put false next posts = posts

-- the notice goes to the back of the posts of its slot, or its session leaves
abbrev pub puts : CoreState → Option Notice → CoreState
puts core None = core
puts core (Some next) =
    if has_room core next.slot.0
    then at_posts next.slot.0 (λ posts. put true next posts) core
    else at_session next.to lagging core

-- it is no longer pending, and is counted
abbrev pub does : CoreState → CoreState
does core = puts (record core { pending = drop 1 core.pending; posted = up core.posted }) (next_notice core)

abbrev pub line_of : CoreState → Option Notice → List (List ℕ)
line_of core None = []
line_of core (Some next) = (if has_room core next.slot.0 then codes "posted" else codes "lagged") ∷ decimal next.to.0 ∷ []

abbrev pub lines : CoreState → List (List (List ℕ))
lines core = line_of core (next_notice core) ∷ []
