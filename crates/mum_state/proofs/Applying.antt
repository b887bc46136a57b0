-- The stages of an edit, as the code takes them, leave what the edit leaves.
use Rattle.mum_state.proofs.Common.{◌≡◌, ℕ, zero, suc, ◌+◌, ◌<◌, ◌≤◌, ◌==◌, ◌&&◌, ◌||◌, not, Bool, true, false, cond, List, [], ◌∷◌, get_or, map, refl, sym, ap, ◌∙◌, arith, Option, Some, None, All, list_any, eq-eqb, ne_eqb, ChannelId, User, SlotsRise, Edit, MakeChannel, Renewed, applied, counts_after, raised_slots, raised_where, renews, empties, has_member, is_emptied, without_emptied, fits, counted, is_left_empty, left_by, with_left_closed, changes_paths, changes_routes, is_of_configuration, sets_policy, IsProper, heard_again, is_renewed_slot, set_by, Counts, StateValue, heard_anew, is_renewed, is_set_anew, with_clearing, with_suppression}
use Rattle.mum_state.proofs.{Keeping.fit_proper, Leftover.IsClosed, Leftover.alone_heard, Leftover.closed_by, Leftover.left_alone, Members.any_agree, Members.map_agree, Members.or_false, Suppressed.heard, Suppressed.heard_after, Suppressed.heard_members, Suppressed.heard_proper, Suppressed.silent_after, Suppressed.with_heard}

-- ---- slots are of one session each

slots_above : (limit low : ℕ) (users : List User) → SlotsRise limit low users → All (λ user. low ≤ user.slot.0) users
slots_above limit low [] rise k d within = absurd (omega arith)
slots_above limit low (user ∷ users) rise zero d within = rise.0
slots_above limit low (user ∷ users) rise (suc k) d within =
    let above : user.slot.0 + 1 ≤ (get_or users k d).slot.0 = slots_above limit (user.slot.0 + 1) users rise.1 k d (omega arith) in
    let here : low ≤ user.slot.0 = rise.0 in
    omega arith

none_at : (t : User → Bool) (slot low : ℕ) (users : List User) → slot < low → All (λ user. low ≤ user.slot.0) users → list_any (λ user. (user.slot.0 == slot) && t user) users ≡ false
none_at t slot low [] under above = refl
none_at t slot low (user ∷ users) under above =
    let here : low ≤ user.slot.0 = above 0 user (omega arith) in
    ap (λ b. (b && t user) || list_any (λ one. (one.slot.0 == slot) && t one) users) (ne_eqb user.slot.0 slot (λ same. omega arith))
    ∙ none_at t slot low users under (λ k d within. above (suc k) d (omega arith))

-- what is asked of whoever is in a session's slot is asked of the session
slot_alone : (t : User → Bool) (limit low : ℕ) (users : List User) → SlotsRise limit low users → All (λ user. list_any (λ one. (one.slot.0 == user.slot.0) && t one) users ≡ t user) users
slot_alone t limit low [] rise k d within = absurd (omega arith)
slot_alone t limit low (first ∷ users) rise zero d within =
    ap (λ b. (b && t first) || list_any (λ one. (one.slot.0 == first.slot.0) && t one) users) (eq-eqb first.slot.0 first.slot.0 refl)
    ∙ ap (λ b. t first || b) (none_at t first.slot.0 (first.slot.0 + 1) users (omega arith) (slots_above limit (first.slot.0 + 1) users rise.1))
    ∙ or_false (t first)
slot_alone t limit low (first ∷ users) rise (suc k) d within =
    let user : User = get_or users k d in
    let above : first.slot.0 + 1 ≤ user.slot.0 = slots_above limit (first.slot.0 + 1) users rise.1 k d (omega arith) in
    ap (λ b. (b && t first) || list_any (λ one. (one.slot.0 == user.slot.0) && t one) users) (ne_eqb first.slot.0 user.slot.0 (λ same. omega arith))
    ∙ slot_alone t limit (first.slot.0 + 1) users rise.1 k d (omega arith)

-- ---- counts

raised_agree : (p q : ℕ → Bool) → ((slot : ℕ) → p slot ≡ q slot) → (slot : ℕ) (counts : List ℕ) → raised_slots p slot counts ≡ raised_slots q slot counts
raised_agree p q same slot [] = refl
raised_agree p q same slot (count ∷ counts) =
    ap (λ (b : Bool). raised_where b count ∷ raised_slots p (slot + 1) counts) (same slot)
    ∙ ap (λ (later : List ℕ). raised_where (q slot) count ∷ later) (raised_agree p q same (slot + 1) counts)

pub counts_set : (state : StateValue) (edit : Edit) → (set_by state edit).counts ≡ state.counts
counts_set state (MakeChannel id parent name true info (Some maker)) = refl
counts_set state (MakeChannel id parent name false info (Some maker)) = refl
counts_set state (MakeChannel id parent name temporary info None) = refl
counts_set state edit = refl

module _ (state : StateValue) (edit : Edit) (proper : IsProper state) (fit : fits state edit ≡ true) (renewed : Renewed) (same : (slot : ℕ) → is_renewed_slot renewed slot ≡ renews state edit slot) where
  was : List User
  was = state.roster.sessions

  abbrev set : StateValue
  set = set_by state edit

  abbrev silent : User → Bool
  silent = silent_after state edit set

  abbrev left : Option ChannelId
  left = left_by state edit

  set_proper : IsProper set
  set_proper = (fit_proper state edit proper fit).0

  -- those in renewed slots are those who are renewed
  heard_same : heard_again renewed (sets_policy edit) set ≡ with_suppression state edit set
  heard_same =
      ap (λ (users : List User). record set { roster = record set.roster { sessions = users } })
      (map_agree (λ user. cond (is_renewed_slot renewed user.slot.0 || sets_policy edit) (heard_anew set user) user) (λ user. cond (is_set_anew state.roster.sessions edit user) (heard_anew set user) user) set.roster.sessions
      (λ k d within.
      let user : User = get_or set.roster.sessions k d in
      ap (λ (b : Bool). cond (b || sets_policy edit) (heard_anew set user) user)
      (same user.slot.0 ∙ slot_alone (is_renewed state.roster.sessions edit) set.roster.limit 0 set.roster.sessions set_proper.roster.slots k d within)))

  kept_proper : IsProper (with_heard silent set)
  kept_proper = heard_proper silent set set_proper

  closing : IsClosed state (with_heard silent set) left
  closing =
      closed_by state (with_heard silent set) left kept_proper
      (alone_heard silent state.roster.sessions set.roster.sessions set.tree.channels left (left_alone state edit proper))

  emptied_same : empties state (with_heard silent set) ≡ empties state set
  emptied_same =
      any_agree (is_emptied state.roster.sessions (map (heard silent) set.roster.sessions)) (is_emptied state.roster.sessions set.roster.sessions) set.tree.channels
      (λ k d within.
      let row = get_or set.tree.channels k d in
      ap (λ b. row.channel.temporary && has_member state.roster.sessions row.channel.id && not b) (heard_members silent set.roster.sessions row.channel.id))

  counts_same : counted edit renewed (is_left_empty left (with_heard silent set)) set.counts ≡ counts_after state edit
  counts_same =
      ap (counted edit renewed (is_left_empty left (with_heard silent set))) (counts_set state edit)
      ∙ ap (λ (closed : Bool). counted edit renewed closed state.counts) (sym closing.is_empty ∙ emptied_same)
      ∙ ap (λ (slots : List ℕ). record {
        revision = raised_where (not (is_of_configuration edit)) state.counts.revision;
        policy = raised_where (changes_paths edit || empties state set) state.counts.policy;
        routing = raised_where (changes_routes edit) state.counts.routing;
        slots = slots;
      }) (raised_agree (is_renewed_slot renewed) (renews state edit) same 0 state.counts.slots)

  -- the state after the stages
  abbrev after_stages : StateValue → StateValue
  after_stages heard_state = record (with_left_closed left heard_state) { counts = counted edit renewed (is_left_empty left heard_state) (with_left_closed left heard_state).counts }

  pub applied_is : after_stages (with_clearing edit (heard_again renewed (sets_policy edit) set)) ≡ applied state edit
  applied_is =
      ap (λ (s : StateValue). after_stages (with_clearing edit s)) heard_same
      ∙ ap after_stages (heard_after state edit set)
      ∙ ap (λ (s : StateValue). record s { counts = counted edit renewed (is_left_empty left (with_heard silent set)) s.counts }) (sym closing.closed)
      ∙ ap (λ (counts : Counts). record (without_emptied state (with_heard silent set)) { counts = counts }) counts_same
      ∙ ap (λ (s : StateValue). record (without_emptied state s) { counts = counts_after state edit }) (sym (heard_after state edit set))
