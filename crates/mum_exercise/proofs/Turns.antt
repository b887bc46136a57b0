-- The users of an exercise come one after the other, and so do its rounds.
use Rattle.mum_exercise.proofs.Common.{◌≡◌, ℕ, suc, ◌+◌, ◌<◌, ◌%◌, Bool, true, false, List, [], ◌∷◌, ◌++◌, refl, sym, ap, ◌∙◌, subst, add-one, arith, if◌then◌else◌, nat_lt, ◌==◌, ChannelId, Lcg, pcg32, drawn_act, drawn_below, drawn_round, Open, login_frame, line_of_words, Totals, CourseValue, account_words, acted, commanded, joined, joins, numbers_words, played, progress, taken, worker_of, Act, Talk, Enter, Link, SetSelfMute, Listen, Aim, Round, Tally}

-- ---- users

joined_suc : (k : ℕ) → joins (suc k) (joined k) ≡ joined (suc k)
unfolding joined
joined_suc k = refl

-- one user more
pub joins_more : (k : ℕ) (course last : CourseValue) → course ≡ joined k → last ≡ joins (k + 1) course → last ≡ joined (k + 1)
joins_more k course last is next = next ∙ ap (joins (k + 1)) is ∙ subst (λ (n : ℕ). joins n (joined k) ≡ joined n) (sym (add-one k)) (joined_suc k)

-- a user who comes, from its connection to the last notice of its login
pub joins_by : (number worker : ℕ) (bytes : List ℕ) (course opened last : CourseValue) → opened ≡ taken course (Open number worker) → worker ≡ worker_of number → bytes ≡ login_frame number
    → last ≡ commanded number bytes opened → last ≡ joins number course
joins_by number worker bytes course opened last opens at frame is =
    is ∙ ap (λ (b : List ℕ). commanded number b opened) frame ∙ ap (commanded number (login_frame number)) (opens ∙ ap (λ (w : ℕ). taken course (Open number w)) at)

-- ---- rounds

-- a round in which a command is asked for
pub asks_as : (number : ℕ) (round : Round) (act : Act) (bytes asked : List ℕ) (course last : CourseValue) → round.act ≡ act → bytes ≡ asked
    → commanded round.connection asked course ≡ acted number round.connection act course → last ≡ commanded round.connection bytes course → last ≡ played number round course
asks_as number round act bytes asked course last acts frame same is =
    is ∙ ap (λ (b : List ℕ). commanded round.connection b course) frame ∙ same ∙ ap (λ (a : Act). acted number round.connection a course) (sym acts)

pub progress_suc : (seed k : ℕ) (course last : CourseValue) (round : Round) (before after : Lcg) → course ≡ (progress seed k).course → before ≡ (progress seed k).draws
    → (round, after) ≡ drawn_round before → last ≡ played (suc k) round course → (last ≡ (progress seed (suc k)).course) × (after ≡ (progress seed (suc k)).draws)
unfolding progress
progress_suc seed k course last round before after is drawn_is drawn plays =
    let now : (round, after) ≡ drawn_round (progress seed k).draws = drawn ∙ ap drawn_round drawn_is in
    let who : round ≡ (drawn_round (progress seed k).draws).0 = ap (λ (p : Round × Lcg). p.0) now in (
      plays ∙ ap (played (suc k) round) is ∙ ap (λ (r : Round). played (suc k) r (progress seed k).course) who,
      ap (λ (p : Round × Lcg). p.1) now,
    )

-- one round more
pub plays_more : (seed k : ℕ) (course last : CourseValue) (round : Round) (before after : Lcg) → course ≡ (progress seed k).course → before ≡ (progress seed k).draws
    → (round, after) ≡ drawn_round before → last ≡ played (k + 1) round course → (last ≡ (progress seed (k + 1)).course) × (after ≡ (progress seed (k + 1)).draws)
plays_more seed k course last round before after is drawn_is drawn plays =
    subst (λ (n : ℕ). last ≡ played n round course → (last ≡ (progress seed n).course) × (after ≡ (progress seed n).draws)) (sym (add-one k))
    (progress_suc seed k course last round before after is drawn_is drawn) plays

-- ---- targets

abbrev pub chosen : Bool → Bool → Bool → Bool → Bool → ℕ → ChannelId → Bool → Lcg → Lcg → Act × Lcg
chosen a b c d e side channel muted one other =
    if a then (Talk side, one) else if b then (Enter channel, other) else if c then (Link channel, other) else if d then (SetSelfMute muted, one) else if e then (Listen channel, other) else (Aim channel, other)

low_by : (a b c d e : Bool) (side target : ℕ) (channel : ChannelId) (muted : Bool) (one other : Lcg) → side < 2 → (chosen a b c d e side channel muted one other).0 ≡ Talk target → target < 2
low_by true b c d e side target channel muted one other low is = let same : side ≡ target = cc in omega arith
low_by false true c d e side target channel muted one other low is = absurd cc
low_by false false true d e side target channel muted one other low is = absurd cc
low_by false false false true e side target channel muted one other low is = absurd cc
low_by false false false false true side target channel muted one other low is = absurd cc
low_by false false false false false side target channel muted one other low is = absurd cc

act_low : (case target : ℕ) (g : Lcg) → (drawn_act case g).0 ≡ Talk target → target < 2
unfolding drawn_act drawn_below
act_low case target g is =
    low_by (nat_lt case 10) (nat_lt case 12) (case == 12) (case == 13) (case == 14) ((pcg32 g).0 % 2) target (record { 0 = (pcg32 g).0 % 8 }) (((pcg32 g).0 % 2) == 1) (pcg32 g).1 (pcg32 g).1 (omega arith) is

-- a round that speaks has target 0 or 1
pub round_low : (round : Round) (before after : Lcg) → (round, after) ≡ drawn_round before → (target : ℕ) → round.act ≡ Talk target → target < 2
unfolding drawn_round
round_low round before after drawn target talks =
    let second : Lcg = (drawn_below 16 before).1 in
    let third : Lcg = (drawn_below 16 second).1 in
    act_low (drawn_below 16 before).0 target third (sym (ap (λ (p : Round × Lcg). p.0.act) drawn) ∙ talks)

-- ---- the line

pub accounts : (seed rounds : ℕ) (tally : Tally) (totals : Totals) (course : CourseValue) → tally ≡ course.tally → totals ≡ course.core.totals
    → line_of_words (numbers_words seed rounds tally totals) ++ 10 ∷ [] ≡ line_of_words (account_words seed rounds course) ++ 10 ∷ []
accounts seed rounds tally totals course counts sums =
    ap (λ (t : Tally). line_of_words (numbers_words seed rounds t totals) ++ 10 ∷ []) counts
    ∙ ap (λ (t : Totals). line_of_words (numbers_words seed rounds course.tally t) ++ 10 ∷ []) sums
