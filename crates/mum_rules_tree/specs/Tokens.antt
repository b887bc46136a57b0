-- Access tokens that count while one message is decided.
use Rattle.std.specs.Prelude.{ℕ, ◌-◌, not, List, ◌++◌, filter, length, take}
use Rattle.mum_users.specs.declared.user.TheConstants.{TOKENS}
use Rattle.mum_users.specs.State.{is_long_token}

-- a session's own tokens, and then as many of those for this once as it may still have; one that is too long is none
abbrev pub tokens_for_once : List (List ℕ) → List (List ℕ) → List (List ℕ)
tokens_for_once own added = own ++ take (TOKENS - length own) (filter (λ token. not (is_long_token token)) added)
