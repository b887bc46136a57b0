-- To what edits lead that fit one after the other, from a state in which nobody is.
use Rattle.mum_config_laws.proofs.Common.{◌≡◌, ℕ, suc, ◌&&◌, true, List, ◌∷◌, sym, subst, and_parts, Edit, all_fit, led_to, applied, fits, gives_right_numbers, is_countable, sets_properly, is_of_configuration, names_there, StateValue, IsBare, Leads, leads}

-- where the edits fit, this holds of the state to which they lead
abbrev pub Goes : (StateValue → Type 0) → StateValue → List Edit → Type 0
Goes Q state edits = all_fit state edits ≡ true → Q (led_to state edits)

pub led_by_fit : (left : ℕ) (state : StateValue) (edit : Edit) → is_of_configuration edit ≡ true → IsBare (suc left) state → fits state edit ≡ true → Leads left state edit
led_by_fit left state edit of_configuration bare fit =
    let three = and_parts (names_there state edit && gives_right_numbers state edit && sets_properly state edit) (is_countable state edit) fit in
    let two = and_parts (names_there state edit && gives_right_numbers state edit) (sets_properly state edit) three.0 in
    let one = and_parts (names_there state edit) (gives_right_numbers state edit) two.0 in
    leads left state edit of_configuration bare one.0 one.1 two.1

-- one edit, and then the others
pub one_goes : (Q : StateValue → Type 0) (left : ℕ) (state : StateValue) (edit : Edit) (rest : List Edit) → is_of_configuration edit ≡ true → IsBare (suc left) state
    → (Leads left state edit → Goes Q (applied state edit) rest) → Goes Q state (edit ∷ rest)
one_goes Q left state edit rest of_configuration bare on fit =
    let parts = and_parts (fits state edit) (all_fit (applied state edit) rest) fit in
    on (led_by_fit left state edit of_configuration bare parts.0) parts.1

-- the edits, however they are put together
pub goes_same : (Q : StateValue → Type 0) (state : StateValue) (edits others : List Edit) → edits ≡ others → Goes Q state others → Goes Q state edits
goes_same Q state edits others same goes = subst (Goes Q state) (sym same) goes
