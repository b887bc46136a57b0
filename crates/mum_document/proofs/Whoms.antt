-- Whom an entry speaks of, as it is read.
use Rattle.mum_document.proofs.Common.{◌≡◌, ℕ, List, Option, None, Some, option_map, refl, ap, ◌∙◌, codes, option_map_or, Data, get, Whom, Account, Group, text_at, account_of, whom_of, number_of}

account_found : (found : Option Data) (n : ℕ) (other : Whom) → Some n ≡ option_map number_of found → Account (record { 0 = n }) ≡ option_map_or (λ account. Account (account_of account)) found other
account_found None n other is = absurd (cc)
account_found (Some value) n other is = let same : n ≡ number_of value = cc in ap (λ k. Account (record { 0 = k })) same

pub account_whom : (value : Data) (n : ℕ) → Some n ≡ option_map number_of (get (codes "account") value) → Account (record { 0 = n }) ≡ whom_of value
account_whom value n is = account_found (get (codes "account") value) n _ is

group_found : (found : Option Data) (other : Whom) → None ≡ option_map number_of found → other ≡ option_map_or (λ account. Account (account_of account)) found other
group_found None other is = refl
group_found (Some value) other is = absurd (cc)

pub group_whom : (value : Data) (name : List ℕ) → None ≡ option_map number_of (get (codes "account") value) → name ≡ text_at (codes "group") value → Group name ≡ whom_of value
group_whom value name is named = ap Group named ∙ group_found (get (codes "account") value) _ is
