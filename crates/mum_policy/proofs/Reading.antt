-- One prefix of a group name more is read.
use Rattle.mum_policy.proofs.Common.{◌≡◌, ◌≢◌, ◌∙◌, ℕ, Bool, true, List, [], ◌∷◌, codes, length, refl, ap, arith, bytes_eq, ne_eqb, bytes_eq-Decides, ChannelId, Actor, PolicyMap, meets, member, Understood, asked_by, meaning, understood_after}

abbrev pub read : Bool → Bool → List ℕ → Understood
read negated at_acl name = record { negated = negated; at_acl = at_acl; asks = asked_by name }

pub read_negation : (negated at_acl : Bool) (name rest : List ℕ) (byte : ℕ) → name ≡ byte ∷ rest → byte ≡ 33
    → understood_after true at_acl rest ≡ understood_after negated at_acl name
unfolding understood_after
read_negation negated at_acl name rest byte whole is = rw (whole, is) refl

pub read_at_acl : (negated at_acl : Bool) (name rest : List ℕ) (byte : ℕ) → name ≡ byte ∷ rest → byte ≡ 126
    → understood_after negated true rest ≡ understood_after negated at_acl name
unfolding understood_after
read_at_acl negated at_acl name rest byte whole is = rw (whole, is) refl

pub read_no_prefix : (negated at_acl : Bool) (name rest : List ℕ) (byte : ℕ) → name ≡ byte ∷ rest → byte ≢ 33 → byte ≢ 126
    → read negated at_acl name ≡ understood_after negated at_acl name
unfolding understood_after
read_no_prefix negated at_acl name rest byte whole bang tilde = rw (whole, ne_eqb byte 33 bang, ne_eqb byte 126 tilde) refl

pub read_end : (negated at_acl : Bool) (name : List ℕ) → length name ≡ 0 → read negated at_acl name ≡ understood_after negated at_acl name
unfolding understood_after
read_end negated at_acl [] e = refl
read_end negated at_acl (byte ∷ rest) e = absurd (omega arith)

-- ---- a name without a prefix that everybody is in

all_is_everybody : (policies : PolicyMap) (path : List ChannelId) (acl_at : ℕ) (who : Actor) → member policies path acl_at (codes "all") who ≡ true
unfolding member meets understood_after asked_by meaning
all_is_everybody policies path acl_at who = refl

pub everybody_is_member : (policies : PolicyMap) (path : List ChannelId) (acl_at : ℕ) (name : List ℕ) (who : Actor) → bytes_eq name (codes "all") ≡ true
    → member policies path acl_at name who ≡ true
everybody_is_member policies path acl_at name who is =
    ap (λ (bytes : List ℕ). member policies path acl_at bytes who) ((bytes_eq-Decides name (codes "all")).0 is) ∙ all_is_everybody policies path acl_at who
