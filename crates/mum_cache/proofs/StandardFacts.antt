-- When what is kept of a permission is taken, worked out on small states.
use Rattle.mum_cache.proofs.Common.{◌≡◌, ℕ, ◌*◌, Bool, true, false, List, [], ◌∷◌, ◌++◌, codes, replicate, Option, Some, refl, SLOTS, SPEAK, visits, visits_along, denies, everybody, one, only_here, plain, those_in, channel, session, Edit, counts_in, enter, join, link, make, move, rights_in, set_policy, state, PermEntry, answers, kept_at, no_perm, perm_entry, visits_at}

-- how many entries of access control lists are read for session 1 in a channel, where this is kept
abbrev read : List Edit → ℕ → List PermEntry → ℕ
read edits asked kept = visits_at (state edits) (session 1) (channel asked) kept

-- whether what is kept for session 1 in a channel is taken
abbrev is_taken : List Edit → ℕ → List PermEntry → Bool
is_taken edits asked kept = answers (state edits) (session 1) (channel asked) (kept_at (state edits) (session 1) (channel asked) kept)

-- what is kept, once session 1 in slot 0 was asked for at channel 1, which is at place 1, or at 2, which is at place 2
abbrev first_kept : List Edit → ℕ → List PermEntry
first_kept edits value = replicate SLOTS no_perm ++ perm_entry (state edits) (session 1) (channel 1) (record { 0 = value }) ∷ []

abbrev second_kept : List Edit → ℕ → List PermEntry
second_kept edits value = replicate (2 * SLOTS) no_perm ++ perm_entry (state edits) (session 1) (channel 2) (record { 0 = value }) ∷ []

abbrev denied : ℕ → List ℕ → Edit
denied id name = set_policy id (one (only_here (denies (those_in name) SPEAK)))

-- sessions 1, 2 and 3 in channels 1, 2 and 3 below the root, 1 linked to 2 and 2 to 3; nobody may speak in 2
abbrev linked : List Edit
linked =
    join 1 0 (codes "ann") ∷ join 2 1 (codes "bob") ∷ join 3 2 (codes "cat") ∷ make 1 0 (codes "A") ∷ make 2 0 (codes "B") ∷ make 3 0 (codes "C")
    ∷ link 1 2 ∷ link 2 3 ∷ enter 1 1 ∷ enter 2 2 ∷ enter 3 3 ∷ denied 2 (codes "all") ∷ []

-- session 1 in the root; who is in channel 1 may not speak there
abbrev guarded : List Edit
guarded = join 1 0 (codes "ann") ∷ make 1 0 (codes "A") ∷ denied 1 (codes "in") ∷ []

-- session 1 in channel 4 beside 1, 2 below 1 and 3 below that; whose channel is below 1 may not speak in 2
abbrev nested : List Edit
nested =
    join 1 0 (codes "ann") ∷ make 1 0 (codes "A") ∷ make 2 1 (codes "B") ∷ make 3 2 (codes "C") ∷ make 4 0 (codes "D") ∷ enter 1 4
    ∷ denied 2 (codes "sub,-1") ∷ []

pub record IsTakenWhileItStands : Type 0 where
  pub until_a_policy_is_set :
      let later = linked ++ set_policy 2 plain ∷ [] in
      (rights_in linked 1 2 ≡ Some 0xB06) × (read linked 2 [] ≡ 1) × (read linked 2 (second_kept linked 0xB06) ≡ 0)
      × (is_taken later 2 (second_kept linked 0xB06) ≡ false) × (rights_in later 1 2 ≡ Some 0xB0E)
  pub until_the_session_enters_another_channel :
      let later = guarded ++ enter 1 1 ∷ [] in
      (rights_in guarded 1 1 ≡ Some 0xB0E) × (is_taken guarded 1 (first_kept guarded 0xB0E) ≡ true)
      × ((counts_in later).1 ≡ (counts_in guarded).1) × (is_taken later 1 (first_kept guarded 0xB0E) ≡ false) × (rights_in later 1 1 ≡ Some 0xB06)
  pub until_its_channel_is_moved :
      let later = nested ++ move 4 1 ∷ [] in
      (rights_in nested 1 2 ≡ Some 0xB0E) × (is_taken nested 2 (second_kept nested 0xB0E) ≡ true)
      × (is_taken later 2 (second_kept nested 0xB0E) ≡ false) × (rights_in later 1 2 ≡ Some 0xB06)

pub is_taken_while_it_stands : IsTakenWhileItStands
unfolding state visits visits_along
is_taken_while_it_stands = record {
  until_a_policy_is_set = (refl, refl, refl, refl, refl);
  until_the_session_enters_another_channel = (refl, refl, refl, refl, refl);
  until_its_channel_is_moved = (refl, refl, refl, refl);
}
