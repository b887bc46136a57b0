-- Worked facts of kept rows, worked out by hand.
use Rattle.mum_kept.proofs.Common.{◌≡◌, ℕ, false, List, [], ◌∷◌, codes, Some, None, refl, arith, decimal_digit, ChannelId, messages, acl_group_of, acl_line_of, acl_of, acl_with, upward, plain_info, Edit, EditChannel, MakeChannel, SetAcl, empty_state, open_policy, link, make, make_temporary, state, family, KeptChannel, KeptRows, kept, first_unused, prefix, rebuild}

abbrev channel : ℕ → ChannelId
channel number = record { 0 = number }

-- a channel of this number, under a parent, of this name, and with the payload of an open policy
abbrev plain : ℕ → ℕ → List ℕ → KeptChannel
plain number parent name = record {
  id = channel number;
  parent = channel parent;
  name = name;
  info = plain_info;
  policy = 8 ∷ number ∷ 16 ∷ 1 ∷ [];
}

-- what is rebuilt and kept, and which payloads hold a policy: a line `unfolding worked` opens all that these compute with
unfoldable worked : List ℕ
unfolding messages acl_of acl_with acl_group_of acl_line_of upward family prefix first_unused state
worked = []

-- ---- what is kept

-- Channel 3 with channel 5 under it, and a temporary channel 7. Links join 3 and 5, and 3 and 7.
abbrev with_a_temporary_channel : List Edit
with_a_temporary_channel = make 3 0 (codes "a") ∷ make 5 3 (codes "b") ∷ make_temporary None 7 0 (codes "t") ∷ link 5 3 ∷ link 3 7 ∷ []

pub record AreKept : Type 0 where
  pub of_an_empty_server : kept empty_state ≡ record { channels = plain 0 0 (codes "Root") ∷ []; links = [] }
  pub no_temporary_channel_and_none_of_its_links :
      kept (state with_a_temporary_channel)
      ≡ record {
        channels = plain 0 0 (codes "Root") ∷ plain 3 0 (codes "a") ∷ plain 5 3 (codes "b") ∷ [];
        links = (channel 3, channel 5) ∷ [];
      }

pub are_kept : AreKept
unfolding worked
are_kept = record { of_an_empty_server = refl; no_temporary_channel_and_none_of_its_links = refl }

-- ---- rebuilding

-- Channel 1 is under channel 2, which is under the root, and they are linked.
abbrev three_channels : KeptRows
three_channels = record {
  channels = plain 0 0 (codes "Root") ∷ plain 1 2 (codes "a") ∷ plain 2 0 (codes "b") ∷ [];
  links = (channel 1, channel 2) ∷ [];
}

abbrev made : ℕ → List ℕ → Edit
made number name = MakeChannel (channel number) (channel 0) name false plain_info None

abbrev open_for_all : ℕ → Edit
open_for_all number = SetAcl (channel number) None open_policy

pub record AreRebuilt : Type 0 where
  pub a_parent_of_a_greater_number_and_a_link :
      rebuild three_channels
      ≡ made 1 (codes "aaa1") ∷ made 2 (codes "aaa2")
      ∷ EditChannel (channel 2) None (Some (codes "b")) None None None None [] []
      ∷ EditChannel (channel 1) None (Some (codes "a")) (Some (channel 2)) None None None [] []
      ∷ EditChannel (channel 1) None None None None None None (channel 2 ∷ []) []
      ∷ open_for_all 0 ∷ open_for_all 1 ∷ open_for_all 2 ∷ []

pub are_rebuilt : AreRebuilt
unfolding worked
are_rebuilt = record { a_parent_of_a_greater_number_and_a_link = rw (decimal_digit 1 (omega arith), decimal_digit 2 (omega arith)) refl }
