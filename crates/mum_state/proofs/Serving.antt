-- Other settings of the server.
use Rattle.mum_state.proofs.Common.{◌≡◌, ◌↔◌, true, Server, IsProper, is_text, StateValue}

-- its welcome is a text exactly where the state stays proper with it
pub servers_both_ways : (state : StateValue) (server : Server) → IsProper state → (is_text server.welcome ≡ true) ↔ IsProper (record state { server = server })
servers_both_ways state server proper = (
  λ text. record {
    welcome = text;
    names = proper.names;
    accounts = proper.accounts;
    few_accounts = proper.few_accounts;
    short_names = proper.short_names;
    tree = proper.tree;
    channels = proper.channels;
    policies = proper.policies;
    sound_policies = proper.sound_policies;
    roster = proper.roster;
    users = proper.users;
    inside = proper.inside;
    listening = proper.listening;
    counts = proper.counts;
  },
  λ after. after.welcome,
)
