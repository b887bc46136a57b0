-- The first limits fit, and the settings and the accounts of a configuration after them leave the channels as they are.
use Rattle.mum_kept_laws.proofs.Common.{◌≡◌, ℕ, suc, ◌&&◌, ◌||◌, Bool, true, false, not, cond, List, [], ◌∷◌, refl, ap, ◌∙◌, arith, list_any, and_parts, false≢true, Row, TreeState, root_alone, User, Edit, AddAccount, SetServer, all_fit, applied, raised_where, empties, has_member, is_emptied, fits, gives_right_numbers, is_countable, sets_properly, is_of_configuration, names_there, set_by, StateValue, empty_state, Each, FitAfterLimits, is_beside_channels, settings_and_accounts, IsBare, Leads, empty_bare, leads, first_limits}
use Rattle.mum_kept_laws.proofs.Passing.{Passes, nothing_passes, one_passes, weaker}

-- ---- a setting or an account

none_emptied : (before users : List User) (rows : List Row) → before ≡ [] → list_any (is_emptied before users) rows ≡ false
none_emptied (user ∷ before) users rows nobody = absurd (cc)
none_emptied [] users [] nobody = refl
none_emptied [] users (row ∷ rows) nobody =
    ap (λ (b : Bool). b || list_any (is_emptied [] users) rows) (never row.channel.temporary (not (has_member users row.channel.id)))
    ∙ none_emptied [] users rows refl
  where
    never : (a b : Bool) → (a && false && b) ≡ false
    never true b = refl
    never false b = refl

-- what the edit leaves: as many edits can be counted as before
record Beside (left : ℕ) (state : StateValue) (edit : Edit) : Type 0 where
  led : Leads left state edit
  bare : IsBare (suc left) (applied state edit)
  tree : (applied state edit).tree ≡ state.tree

module _ (left : ℕ) (state : StateValue) (edit : Edit) (bare : IsBare (suc left) state) (fit : fits state edit ≡ true) (of_configuration : is_of_configuration edit ≡ true) where
  led_by_fit : Leads left state edit
  led_by_fit =
      let three = and_parts (names_there state edit && gives_right_numbers state edit && sets_properly state edit) (is_countable state edit) fit in
      let two = and_parts (names_there state edit && gives_right_numbers state edit) (sets_properly state edit) three.0 in
      let one = and_parts (names_there state edit) (gives_right_numbers state edit) two.0 in
      leads left state edit of_configuration bare one.0 one.1 two.1

  not_emptied : empties state (set_by state edit) ≡ false
  not_emptied = none_emptied state.roster.sessions (set_by state edit).roster.sessions (set_by state edit).tree.channels bare.nobody

beside : (left : ℕ) (state : StateValue) (edit : Edit) → IsBare (suc left) state → is_beside_channels edit ≡ true → fits state edit ≡ true → Beside left state edit
beside left state (SetServer welcome bandwidth password) bare is fit =
    let edit : Edit = SetServer welcome bandwidth password in
    let led : Leads left state edit = led_by_fit left state edit bare fit refl in
    record {
      led = led;
      bare = record {
        proper = led.bare.proper;
        nobody = led.bare.nobody;
        policy = omega (arith, bare.policy, ap (λ (s : StateValue). s.counts.policy) led.is ∙ ap (λ (b : Bool). raised_where b state.counts.policy) (not_emptied left state edit bare fit refl));
        routing = omega (arith, bare.routing, ap (λ (s : StateValue). s.counts.routing) led.is);
      };
      tree = ap (λ (s : StateValue). s.tree) led.is;
    }
beside left state (AddAccount account name digest) bare is fit =
    let edit : Edit = AddAccount account name digest in
    let led : Leads left state edit = led_by_fit left state edit bare fit refl in
    record {
      led = led;
      bare = record {
        proper = led.bare.proper;
        nobody = led.bare.nobody;
        policy = omega (arith, bare.policy, ap (λ (s : StateValue). s.counts.policy) led.is ∙ ap (λ (b : Bool). raised_where b state.counts.policy) (not_emptied left state edit bare fit refl));
        routing = omega (arith, bare.routing, ap (λ (s : StateValue). s.counts.routing) led.is);
      };
      tree = ap (λ (s : StateValue). s.tree) led.is;
    }
beside left state edit bare is fit = absurd (false≢true is)

beside_pass : (edits : List Edit) (state : StateValue) (left : ℕ) → Each (λ edit. is_beside_channels edit ≡ true) edits → IsBare (suc left) state → all_fit state edits ≡ true
    → Passes (suc left) state edits (λ later. later.tree ≡ state.tree)
beside_pass [] state left all bare fit = nothing_passes (suc left) state (λ later. later.tree ≡ state.tree) bare refl
beside_pass (edit ∷ edits) state left all bare fit =
    let parts = and_parts (fits state edit) (all_fit (applied state edit) edits) fit in
    let one : Beside left state edit = beside left state edit bare all.0 parts.0 in
    one_passes (suc left) left state edit edits (λ later. later.tree ≡ state.tree) one.led
    (weaker (suc left) (applied state edit) edits (λ later. later.tree ≡ (applied state edit).tree) (λ later. later.tree ≡ state.tree) (λ later bare_later same. same ∙ one.tree)
    (beside_pass edits (applied state edit) left all.1 one.bare parts.1))

all_beside : (edits : List Edit) → Each (λ edit. is_beside_channels edit ≡ true) (settings_and_accounts edits)
all_beside [] = tt
all_beside (edit ∷ edits) = step (is_beside_channels edit) refl (all_beside edits)
  where
    step : (b : Bool) → is_beside_channels edit ≡ b → Each (λ one. is_beside_channels one ≡ true) (settings_and_accounts edits) → Each (λ one. is_beside_channels one ≡ true) (cond b (edit ∷ settings_and_accounts edits) (settings_and_accounts edits))
    step true on rest = (on, rest)
    step false off rest = rest

-- ---- the first limits

-- the root alone, and as many channels as there may be
abbrev pub first_tree : TreeState
first_tree = record root_alone { limit = 2048 }

limits_led : Leads 1000000 empty_state first_limits
limits_led = leads 1000000 empty_state first_limits refl (empty_bare 1000001 (omega arith)) refl refl refl

pub opening_pass : (configuration : List Edit) → FitAfterLimits (settings_and_accounts configuration) → Passes 1000000 empty_state (first_limits ∷ settings_and_accounts configuration) (λ later. later.tree ≡ first_tree)
opening_pass configuration fit_after =
    let start : StateValue = applied empty_state first_limits in
    let tree : start.tree ≡ first_tree = ap (λ (s : StateValue). s.tree) limits_led.is in
    one_passes 1000000 1000000 empty_state first_limits (settings_and_accounts configuration) (λ later. later.tree ≡ first_tree) limits_led
    (weaker 1000000 start (settings_and_accounts configuration) (λ later. later.tree ≡ start.tree) (λ later. later.tree ≡ first_tree) (λ later bare_later same. same ∙ tree)
    (beside_pass (settings_and_accounts configuration) start 999999 (all_beside configuration) limits_led.bare (fit_after 512 2048 limits_led.fit)))
