-- What an exercise draws: each draw is one word of the generator, modulo a number.
use Rattle.std.specs.Prelude.{ℕ, ◌+◌, ◌%◌, ◌==◌, nat_lt, if◌then◌else◌}
use Rattle.rand_pcg.specs.{Lcg.Lcg, Lcg.increment_of, Lcg.started, Pcg.multiplier_64, Pcg.pcg32}
use Rattle.mum_exercise.specs.declared.draws.{Act.Act, Round.Round}
use Rattle.mum_exercise.specs.declared.draws.Act.TheVariants.{Talk, Enter, Link, SetSelfMute, Listen, Aim}

-- a draw below n, and the generator after it
unfoldable pub drawn_below : ℕ → Lcg → ℕ × Lcg
drawn_below n g = ((pcg32 g).0 % n, (pcg32 g).1)

-- what is done in a case of 0 to 15, by a draw: talk in 10 of 16, enter in 2, and one each to link with
-- the root, to mute itself or no longer, to listen, and to aim at a channel
unfoldable pub drawn_act : ℕ → Lcg → Act × Lcg
drawn_act case g =
    let channel = drawn_below 8 g in
    let side = drawn_below 2 g in
    if nat_lt case 10 then (Talk side.0, side.1)
    else if nat_lt case 12 then (Enter (record { 0 = channel.0 }), channel.1)
    else if case == 12 then (Link (record { 0 = channel.0 }), channel.1)
    else if case == 13 then (SetSelfMute (side.0 == 1), side.1)
    else if case == 14 then (Listen (record { 0 = channel.0 }), channel.1)
    else (Aim (record { 0 = channel.0 }), channel.1)

-- the generator of a seed, on the stream 0
abbrev pub seeded : ℕ → Lcg
seeded seed = started 64 multiplier_64 seed (increment_of 64 0)

-- a round: its case is drawn first, then who of the connections 1 to 16, then what the case needs
unfoldable pub drawn_round : Lcg → Round × Lcg
drawn_round g =
    let case = drawn_below 16 g in
    let who = drawn_below 16 case.1 in
    let act = drawn_act case.0 who.1 in
    (record { connection = 1 + who.0; act = act.0 }, act.1)
