-- What is done in each case of a round, and the round.
use Rattle.mum_exercise.proofs.Common.{◌≡◌, ℕ, ◌+◌, ◌<◌, ◌≤◌, true, false, refl, arith, lt-ltb, le-ltb, ne_eqb, nat_lt, ◌==◌, ChannelId, Lcg, drawn_below, drawn_act, drawn_round, Act, Talk, Enter, Link, SetSelfMute, Listen, Aim}

pub talks : (case target : ℕ) (before after : Lcg) → case < 10 → (target, after) ≡ drawn_below 2 before → (Talk target, after) ≡ drawn_act case before
unfolding drawn_act
talks case target before after h drawn =
    let test : nat_lt case 10 ≡ true = lt-ltb case 10 h in
    rw (test, ← drawn) refl

pub enters : (case : ℕ) (channel : ChannelId) (before after : Lcg) → 10 ≤ case → case < 12 → (channel.0, after) ≡ drawn_below 8 before → (Enter channel, after) ≡ drawn_act case before
unfolding drawn_act
enters case channel before after least h drawn =
    let above : nat_lt case 10 ≡ false = le-ltb case 10 least in
    let test : nat_lt case 12 ≡ true = lt-ltb case 12 h in
    rw (above, test, ← drawn) refl

pub links : (case : ℕ) (channel : ChannelId) (before after : Lcg) → case ≡ 12 → (channel.0, after) ≡ drawn_below 8 before → (Link channel, after) ≡ drawn_act case before
unfolding drawn_act
links case channel before after is drawn = rw (is, ← drawn) refl

pub mutes : (case side : ℕ) (before after : Lcg) → case ≡ 13 → (side, after) ≡ drawn_below 2 before → (SetSelfMute (side == 1), after) ≡ drawn_act case before
unfolding drawn_act
mutes case side before after is drawn = rw (is, ← drawn) refl

pub listens : (case : ℕ) (channel : ChannelId) (before after : Lcg) → case ≡ 14 → (channel.0, after) ≡ drawn_below 8 before → (Listen channel, after) ≡ drawn_act case before
unfolding drawn_act
listens case channel before after is drawn = rw (is, ← drawn) refl

pub aims : (case : ℕ) (channel : ChannelId) (before after : Lcg) → 14 < case → (channel.0, after) ≡ drawn_below 8 before → (Aim channel, after) ≡ drawn_act case before
unfolding drawn_act
aims case channel before after h drawn =
    let no_talk : nat_lt case 10 ≡ false = le-ltb case 10 (omega arith) in
    let no_enter : nat_lt case 12 ≡ false = le-ltb case 12 (omega arith) in
    let no_link : (case == 12) ≡ false = ne_eqb case 12 (λ is. omega arith) in
    let no_mute : (case == 13) ≡ false = ne_eqb case 13 (λ is. omega arith) in
    let no_listen : (case == 14) ≡ false = ne_eqb case 14 (λ is. omega arith) in
    rw (no_talk, no_enter, no_link, no_mute, no_listen, ← drawn) refl

-- the case, then who, then what the case needs
pub round_drawn : (case who : ℕ) (act : Act) (first second third last : Lcg) → (case, second) ≡ drawn_below 16 first → (who, third) ≡ drawn_below 16 second
    → (act, last) ≡ drawn_act case third → (record { connection = 1 + who; act = act }, last) ≡ drawn_round first
unfolding drawn_round
round_drawn case who act first second third last a b c = rw (← a, ← b, ← c) refl
