-- Other limits of sessions and of channels.
use Rattle.mum_state.proofs.Common.{◌≡◌, ◌≤◌, ◌<◌, ℕ, ◌&&◌, ◌↔◌, true, arith, leb, All-weaker, and_from, and_parts, le-leb, leb-true, PLACES, SLOTS, Row, IsProperTree, TreeState, IsProper-limited, SetLimits, fits, IsProper, with_limits, StateValue}
use Rattle.mum_state.proofs.Fitting.{fit_parts}

-- limits that a state may have: neither is below that of before, nor above the greatest
pub record AreLimits (state : StateValue) (sessions channels : ℕ) : Type 0 where
  pub sessions_rise : state.roster.limit ≤ sessions
  pub few_sessions : sessions ≤ SLOTS
  pub channels_rise : state.tree.limit ≤ channels
  pub few_channels : channels ≤ PLACES

are_limits : (state : StateValue) (sessions channels : ℕ) → (leb state.roster.limit sessions && leb state.tree.limit channels) ≡ true
    → (leb sessions SLOTS && leb channels PLACES) ≡ true → AreLimits state sessions channels
are_limits state sessions channels right within =
    let up = and_parts (leb state.roster.limit sessions) (leb state.tree.limit channels) right in
    let most = and_parts (leb sessions SLOTS) (leb channels PLACES) within in
    record {
      sessions_rise = leb-true state.roster.limit sessions up.0;
      few_sessions = leb-true sessions SLOTS most.0;
      channels_rise = leb-true state.tree.limit channels up.1;
      few_channels = leb-true channels PLACES most.1;
    }

pub limits_fit : (state : StateValue) (sessions channels : ℕ) → fits state (SetLimits sessions channels) ≡ true → AreLimits state sessions channels
limits_fit state sessions channels fit =
    let parts = fit_parts state (SetLimits sessions channels) fit in
    are_limits state sessions channels parts.numbers parts.sets

-- a higher limit takes no channel away
tree_raised : (tree : TreeState) (limit : ℕ) → tree.limit ≤ limit → limit ≤ PLACES → IsProperTree tree → IsProperTree (record tree { limit = limit })
tree_raised tree limit up few proper = record {
  rise = proper.rise;
  root = proper.root;
  lead = proper.lead;
  apart = proper.apart;
  lasting = proper.lasting;
  places_fit = All-weaker (λ (row : Row). row.place < tree.limit) (λ (row : Row). row.place < limit) (λ row places_fit. omega (arith, up)) tree.channels proper.places_fit;
  places_apart = proper.places_apart;
  few = omega (arith, up, proper.few);
  known = proper.known;
  joined = proper.joined;
  limited = few;
}

-- limits that do not fall are within the greatest exactly where the state stays proper with them
pub limits_both_ways : (state : StateValue) (sessions channels : ℕ) → IsProper state → (leb state.roster.limit sessions && leb state.tree.limit channels) ≡ true
    → ((leb sessions SLOTS && leb channels PLACES) ≡ true) ↔ IsProper (with_limits state sessions channels)
limits_both_ways state sessions channels proper right = (
  λ within.
      let are = are_limits state sessions channels right within in
      record {
        welcome = proper.welcome;
        names = proper.names;
        accounts = proper.accounts;
        few_accounts = proper.few_accounts;
        short_names = proper.short_names;
        tree = tree_raised state.tree channels are.channels_rise are.few_channels proper.tree;
        channels = proper.channels;
        policies = proper.policies;
        sound_policies = proper.sound_policies;
        roster = IsProper-limited state.roster sessions are.sessions_rise are.few_sessions proper.roster;
        users = proper.users;
        inside = proper.inside;
        listening = proper.listening;
        counts = proper.counts;
      },
  λ after. and_from (leb sessions SLOTS) (leb channels PLACES) (le-leb sessions SLOTS after.roster.limit_fits) (le-leb channels PLACES after.tree.limited),
)
