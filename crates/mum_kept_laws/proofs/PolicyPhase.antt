-- The edits that set policies fit one after the other, and then each channel has its own.
use Rattle.mum_kept_laws.proofs.Common.{◌≡◌, ℕ, suc, ◌+◌, ◌<◌, ◌==◌, ◌&&◌, Bool, true, false, not, cond, List, [], ◌∷◌, length, map, Option, Some, None, is_some, refl, sym, ap, subst, ◌∙◌, arith, unwrap_or, AllPairs, find, list_all, list_any, option_map, option_map_or, and_parts, eq-eqb, eqb-true, false≢true, ne_eqb, ChannelId, Acl, ChannelPolicy, Row, is_there, number, TreeState, AllPairs-tail, Edit, applied, IsProper, is_sound_policy, set_policy, with_policy, PolicyRow, StateValue, open_policy, policy_of, Each, any_map, each_from_all, each_so, found_passes, some_found, policy_asked, IsBare, Leads, leads, less_left, one_there, KeptChannel, has_known_bits, holds_policy, is_about, is_answer_of, message_in, policy_in, policy_edit}
use Rattle.mum_kept_laws.proofs.Passing.{Passes, nothing_passes, one_passes, weaker}

-- ---- a policy that is kept is sound

pub kept_sound : (id : ChannelId) (payload : List ℕ) → holds_policy id payload ≡ true → is_sound_policy (policy_in payload) ≡ true
kept_sound id payload holds = by_message (message_in payload) holds
  where
    by_message : (found : Option Acl) → option_map_or (is_answer_of id) found false ≡ true → is_sound_policy (option_map_or policy_asked found open_policy) ≡ true
    by_message None none = absurd (false≢true none)
    by_message (Some message) is =
        (and_parts (is_about id message && not (unwrap_or message.query false) && list_all has_known_bits message.acls) (is_sound_policy (policy_asked message)) is).1

-- ---- one policy is set

abbrev pub is_of : ChannelId → PolicyRow → Bool
is_of id row = row.channel.0 == id.0

found_through : (id channel : ChannelId) (policy : ChannelPolicy) (rows : List PolicyRow) → find (is_of id) (with_policy channel policy rows) ≡ option_map (set_policy channel policy) (find (is_of id) rows)
found_through id channel policy [] = refl
found_through id channel policy (row ∷ rows) =
    ap (λ (b : Bool). cond b (Some (set_policy channel policy row)) (find (is_of id) (with_policy channel policy rows))) (same (row.channel.0 == channel.0))
    ∙ step (is_of id row) (found_through id channel policy rows)
  where
    same : (b : Bool) → is_of id (cond b (record row { policy = policy }) row) ≡ is_of id row
    same true = refl
    same false = refl

    step : (b : Bool) → find (is_of id) (with_policy channel policy rows) ≡ option_map (set_policy channel policy) (find (is_of id) rows)
        → cond b (Some (set_policy channel policy row)) (find (is_of id) (with_policy channel policy rows)) ≡ option_map (set_policy channel policy) (cond b (Some row) (find (is_of id) rows))
    step true rest = refl
    step false rest = rest

abbrev pub policy_among : List PolicyRow → ChannelId → Option ChannelPolicy
policy_among rows id = option_map (λ (row : PolicyRow). row.policy) (find (is_of id) rows)

set_own : (channel : ChannelId) (policy : ChannelPolicy) (rows : List PolicyRow) → is_some (find (is_of channel) rows) ≡ true → policy_among (with_policy channel policy rows) channel ≡ Some policy
set_own channel policy rows there =
    ap (λ (o : Option PolicyRow). option_map (λ (row : PolicyRow). row.policy) o) (found_through channel channel policy rows)
    ∙ by_row (find (is_of channel) rows) refl there
  where
    by_row : (found : Option PolicyRow) → find (is_of channel) rows ≡ found → is_some found ≡ true → option_map (λ (row : PolicyRow). row.policy) (option_map (set_policy channel policy) found) ≡ Some policy
    by_row None is there = absurd (false≢true there)
    by_row (Some row) is there = ap (λ (b : Bool). Some (cond b (record row { policy = policy }) row).policy) (found_passes (is_of channel) rows row is)

set_other : (id channel : ChannelId) (policy : ChannelPolicy) (rows : List PolicyRow) → (channel.0 == id.0) ≡ false → policy_among (with_policy channel policy rows) id ≡ policy_among rows id
set_other id channel policy rows differ =
    ap (λ (o : Option PolicyRow). option_map (λ (row : PolicyRow). row.policy) o) (found_through id channel policy rows)
    ∙ by_row (find (is_of id) rows) refl
  where
    by_row : (found : Option PolicyRow) → find (is_of id) rows ≡ found → option_map (λ (row : PolicyRow). row.policy) (option_map (set_policy channel policy) found) ≡ option_map (λ (row : PolicyRow). row.policy) found
    by_row None is = refl
    by_row (Some row) is =
        let own : row.channel.0 ≡ id.0 = eqb-true row.channel.0 id.0 (found_passes (is_of id) rows row is) in
        ap (λ (b : Bool). Some (cond b (record row { policy = policy }) row).policy)
        (ne_eqb row.channel.0 channel.0 (λ (e : row.channel.0 ≡ channel.0). false≢true (sym differ ∙ eq-eqb channel.0 id.0 (sym e ∙ own))))

-- each channel that is there has a policy
pub policy_there : (state : StateValue) (id : ChannelId) → IsProper state → is_there state.tree.channels id ≡ true → is_some (find (is_of id) state.policies) ≡ true
policy_there state id proper there =
    some_found (is_of id) state.policies
    ∙ sym (any_map (λ (one : ChannelId). one.0 == id.0) (is_of id) (λ (row : PolicyRow). row.channel) (λ row. refl) state.policies)
    ∙ ap (list_any (λ (one : ChannelId). one.0 == id.0)) proper.policies
    ∙ any_map (λ (one : ChannelId). one.0 == id.0) (λ (row : Row). number row == id.0) (λ (row : Row). row.channel.id) (λ row. refl) state.tree.channels
    ∙ sym (some_found (λ (row : Row). number row == id.0) state.tree.channels)
    ∙ there

-- ---- all of them

-- these channels have their policies, and no other one got another
pub record AreSet (channels : List KeptChannel) (state later : StateValue) : Type 0 where
  pub tree : later.tree ≡ state.tree
  pub own : Each (λ channel. policy_of later channel.id ≡ Some (policy_in channel.policy)) channels
  pub others : (id : ChannelId) → Each (λ channel. (channel.id.0 == id.0) ≡ false) channels → policy_of later id ≡ policy_of state id

-- a channel that can have its policy set
pub record IsToSet (tree : TreeState) (channel : KeptChannel) : Type 0 where
  pub there : is_there tree.channels channel.id ≡ true
  pub sound : is_sound_policy (policy_in channel.policy) ≡ true

module _ (left : ℕ) (channel : KeptChannel) (state : StateValue) (bare : IsBare (suc left) state) (can : IsToSet state.tree channel) where
  policy_led : Leads left state (policy_edit channel)
  policy_led = leads left state (policy_edit channel) refl bare (one_there (is_there state.tree.channels channel.id) can.there) refl can.sound

  policy_tree : (applied state (policy_edit channel)).tree ≡ state.tree
  policy_tree = ap (λ (s : StateValue). s.tree) policy_led.is

  policies_are : (applied state (policy_edit channel)).policies ≡ with_policy channel.id (policy_in channel.policy) state.policies
  policies_are = ap (λ (s : StateValue). s.policies) policy_led.is

  policy_own : policy_of (applied state (policy_edit channel)) channel.id ≡ Some (policy_in channel.policy)
  policy_own =
      ap (λ (rows : List PolicyRow). policy_among rows channel.id) policies_are
      ∙ set_own channel.id (policy_in channel.policy) state.policies (policy_there state channel.id bare.proper can.there)

  policy_other : (id : ChannelId) → (channel.id.0 == id.0) ≡ false → policy_of (applied state (policy_edit channel)) id ≡ policy_of state id
  policy_other id differ =
      ap (λ (rows : List PolicyRow). policy_among rows id) policies_are
      ∙ set_other id channel.id (policy_in channel.policy) state.policies differ

-- the numbers rise, so each channel is another one
above_differs : (channel : KeptChannel) (channels : List KeptChannel) → AllPairs (λ one later. one.id.0 < later.id.0) (channel ∷ channels) → Each (λ later. (later.id.0 == channel.id.0) ≡ false) channels
above_differs channel channels rise =
    each_so (λ later. channel.id.0 < later.id.0) (λ later. (later.id.0 == channel.id.0) ≡ false)
    (λ later above. ne_eqb later.id.0 channel.id.0 (λ (e : later.id.0 ≡ channel.id.0). absurd (omega arith))) channels
    (each_from_all (λ later. channel.id.0 < later.id.0) channels (λ k d within. rise 0 (suc k) d (omega arith) (omega arith)))

pub policies_pass : (channels : List KeptChannel) (state : StateValue) (left : ℕ) → IsBare (length channels + left) state → AllPairs (λ one later. one.id.0 < later.id.0) channels → Each (IsToSet state.tree) channels
    → Passes left state (map policy_edit channels) (AreSet channels state)
policies_pass [] state left bare rise can =
    nothing_passes left state (AreSet [] state) (less_left (0 + left) left state (omega arith) bare) (record { tree = refl; own = tt; others = λ id all. refl })
policies_pass (channel ∷ channels) state left bare rise can =
    let more : ℕ = length channels + left in
    let enough : IsBare (suc more) state = less_left (suc (length channels) + left) (suc more) state (omega arith) bare in
    let edit : Edit = policy_edit channel in
    let now : StateValue = applied state edit in
    let tree : now.tree ≡ state.tree = policy_tree more channel state enough can.0 in
    one_passes left more state edit (map policy_edit channels) (AreSet (channel ∷ channels) state) (policy_led more channel state enough can.0)
    (weaker left now (map policy_edit channels) (AreSet channels now) (AreSet (channel ∷ channels) state)
    (λ later bare_later set. record {
      tree = set.tree ∙ tree;
      own = (set.others channel.id (above_differs channel channels rise) ∙ policy_own more channel state enough can.0, set.own);
      others = λ id all. set.others id all.1 ∙ policy_other more channel state enough can.0 id all.0;
    })
    (policies_pass channels now left (policy_led more channel state enough can.0).bare (AllPairs-tail (λ one later. one.id.0 < later.id.0) channel channels rise)
    (subst (λ (t : TreeState). Each (IsToSet t) channels) (sym tree) can.1)))
