-- A notice that finds the posts of its slot full.
use Rattle.mum_core.proofs.Common.{◌≡◌, ◌∙◌, ◌++◌, ◌∷◌, [], ℕ, Bool, false, cond, List, Option, Some, None, sym, ap, drop, map, if◌then◌else◌, is_none, length, nat_lt, slice_get, slice_index_or, Notice, Connection, POST_CAPACITY, first_that_stands, is_of, lagging, CoreState, at_posts, at_session, up, forbids, has_room, puts}
use Rattle.mum_core.specs.steps.Post.{does}

-- the posts at the place of a slot have no room
pub found_full : (core : CoreState) (posts : List (List Notice)) (place slot : ℕ) (room : Bool) → posts ≡ core.posts → place ≡ slot
    → room ≡ nat_lt (length (slice_index_or posts place [])) POST_CAPACITY → room ≡ false → has_room core slot ≡ false
found_full core posts place slot room same here is full =
    sym (ap (λ (all : List (List Notice)). nat_lt (length (slice_index_or all slot [])) POST_CAPACITY) same)
    ∙ (sym (ap (λ (n : ℕ). nat_lt (length (slice_index_or posts n [])) POST_CAPACITY) here) ∙ (sym is ∙ full))

pub lags : (core new : CoreState) (next : Notice) (connections : List Connection) → slice_get core.pending 0 ≡ Some next → has_room core next.slot.0 ≡ false
    → connections ≡ map (λ one. if is_of next.to one then lagging one else one) core.connections
    → new ≡ record core { connections = connections; pending = drop 1 core.pending; posted = up core.posted }
    → (first_that_stands (forbids core) ≡ None) × (new ≡ does core)
lags core new next connections first full lagged is =
    let counted : CoreState = record core { pending = drop 1 core.pending; posted = up core.posted } in (
      ap (λ (o : Option Notice). first_that_stands (record { stands = is_none o; given = 0; against = core.posted } ∷ [])) first,
      is
          ∙ ap (λ (all : List Connection). record core { connections = all; pending = drop 1 core.pending; posted = up core.posted }) lagged
          ∙ sym (ap (λ (b : Bool). cond b (at_posts next.slot.0 (λ posts. posts ++ next ∷ []) counted) (at_session next.to lagging counted)) full)
          ∙ sym (ap (puts counted) first),
    )
