-- A denial names the first need that is not met.
use Rattle.mum_limits_laws.proofs.Common.{◌≡◌, ◌≢◌, ℕ, ◌==◌, ◌||◌, not, Bool, true, false, cond, List, [], ◌∷◌, Option, Some, None, refl, sym, ap, subst, ◌∙◌, ⊤, find, unwrap_or, All, cons_option, filter_map, option_map, option_map_or, false≢true, All-cons, All-nil, none-some, same_Some, ChannelId, DenyType, Reason, Perm, holds, is_there, User, actor_with, granted_to, StateValue, Verdict, Accepted, Answer, Ignored, Lacks, Refused, Rejected, channel, given_unless, Need, first_lack, is_met, is_open, lack_of, way, Lack, told, IsFirst, Tells, tells_eq, tells_off, tells_so, IsDeniedFor, MayNotWith}

-- a need that is asked for and not met
abbrev pub unmet : StateValue → Option Need → Bool
unmet state None = false
unmet state (Some wanted) = not (is_met state wanted)

-- what is missing, by the causes of the needs
abbrev pub Answers : {Cause : Type 0} → (Cause → Option Need) → (Cause → Type 0) → List Cause → Option Lack → Type 0
Answers asks Applies order None = All (λ cause. Applies cause → ⊥) order
Answers {Cause} asks Applies order (Some lack) = (cause : Cause) × IsFirst Applies order cause × ((wanted : Need) × (asks cause ≡ Some wanted) × (lack_of wanted ≡ lack))

later : {Cause : Type 0} (asks : Cause → Option Need) (Applies : Cause → Type 0) (cause : Cause) (order : List Cause) (answer : Option Lack) → (Applies cause → ⊥) → Answers asks Applies order answer
    → Answers asks Applies (cause ∷ order) answer
later asks Applies cause order None never rest = All-cons (λ one. Applies one → ⊥) cause order never rest
later asks Applies cause order (Some lack) never rest = (
  rest.0,
  record {
    earlier = cause ∷ rest.1.earlier;
    later = rest.1.later;
    whole = ap (λ (list : List _). cause ∷ list) rest.1.whole;
    applies = rest.1.applies;
    none_earlier = All-cons (λ one. Applies one → ⊥) cause rest.1.earlier never rest.1.none_earlier;
  },
  rest.2,
)

pub wanted_first : (state : StateValue) {Cause : Type 0} (asks : Cause → Option Need) (Applies : Cause → Type 0) (order : List Cause) → ((cause : Cause) → Tells (unmet state (asks cause)) (Applies cause))
    → Answers asks Applies order (first_lack state (filter_map asks order))
wanted_first state asks Applies [] tells = All-nil (λ one. Applies one → ⊥)
wanted_first state {Cause} asks Applies (cause ∷ order) tells = step (asks cause) refl (tells cause) (wanted_first state asks Applies order tells)
  where
    others : List Need
    others = filter_map asks order

    met : (wanted : Need) → asks cause ≡ Some wanted → (b : Bool) → Tells (not b) (Applies cause) → Answers asks Applies order (first_lack state others)
        → Answers asks Applies (cause ∷ order) (option_map lack_of (cond (not b) (Some wanted) (find (λ (one : Need). not (is_met state one)) others)))
    met wanted is true tells_it rest = later asks Applies cause order (first_lack state others) (tells_it.not_so refl) rest
    met wanted is false tells_it rest = (
      cause,
      record { earlier = []; later = order; whole = refl; applies = tells_it.so refl; none_earlier = All-nil (λ one. Applies one → ⊥) },
      (wanted, is, refl),
    )

    step : (o : Option Need) → asks cause ≡ o → Tells (unmet state o) (Applies cause) → Answers asks Applies order (first_lack state others)
        → Answers asks Applies (cause ∷ order) (first_lack state (cons_option o others))
    step None is tells_it rest = later asks Applies cause order (first_lack state others) (tells_it.not_so refl) rest
    step (Some wanted) is tells_it rest = met wanted is (is_met state wanted) tells_it rest

-- what a command comes to where nothing is against it
abbrev pub IsOutcome : Verdict → Type 0
IsOutcome (Lacks perm id) = ⊥
IsOutcome (Refused kind) = ⊥
IsOutcome other = ⊤

-- each need names its permission and its place
abbrev pub AreNamed : {Cause : Type 0} → (Cause → Option Need) → (Cause → ℕ) → (Cause → ℕ) → (Cause → Type 0) → Type 0
AreNamed {Cause} asks permission place Applies =
    (cause : Cause) (wanted : Need) → asks cause ≡ Some wanted → Applies cause → (wanted.first.perm.0 ≡ permission cause) × (wanted.first.channel.0 ≡ place cause)

denied : {Cause : Type 0} (asks : Cause → Option Need) (permission place : Cause → ℕ) (Applies : Cause → Type 0) (order : List Cause) → AreNamed asks permission place Applies
    → (reason : Option Reason) (lack : Option Lack) (kind : Option DenyType) (rest : Verdict) → IsOutcome rest → Answers asks Applies order lack
    → IsDeniedFor permission place Applies order (told reason lack kind rest)
denied asks permission place Applies order named (Some reason) lack kind rest ends answers = tt
denied asks permission place Applies order named None (Some lack) kind rest ends answers =
    let names = named answers.0 answers.2.0 answers.2.1 answers.1.applies in
    (answers.0, sym (ap (λ (one : Lack). one.perm.0) answers.2.2) ∙ names.0, sym (ap (λ (one : Lack). one.channel.0) answers.2.2) ∙ names.1, answers.1)
denied asks permission place Applies order named None None (Some kind) rest ends answers = answers
denied asks permission place Applies order named None None None (Accepted edit) ends answers = answers
denied asks permission place Applies order named None None None (Answer frame) ends answers = answers
denied asks permission place Applies order named None None None (Ignored why) ends answers = tt
denied asks permission place Applies order named None None None (Rejected why) ends answers = tt
denied asks permission place Applies order named None None None (Lacks perm id) ends answers = absurd ends
denied asks permission place Applies order named None None None (Refused why) ends answers = absurd ends

-- the needs of a command are those of its causes
pub denied_lem : (state : StateValue) {Cause : Type 0} (asks : Cause → Option Need) (permission place : Cause → ℕ) (Applies : Cause → Type 0) (order : List Cause) (needs : List Need)
    → needs ≡ filter_map asks order → ((cause : Cause) → Tells (unmet state (asks cause)) (Applies cause)) → AreNamed asks permission place Applies
    → (reason : Option Reason) (kind : Option DenyType) (rest : Verdict) → IsOutcome rest → IsDeniedFor permission place Applies order (told reason (first_lack state needs) kind rest)
denied_lem state asks permission place Applies order needs are tells named reason kind rest ends =
    denied asks permission place Applies order named reason (first_lack state needs) kind rest ends
    (subst (λ (list : List Need). Answers asks Applies order (first_lack state list)) (sym are) (wanted_first state asks Applies order tells))

-- ---- whether a need is met

pub lacks : (state : StateValue) (user : User) (tokens : List (List ℕ)) (perm : Perm) (id : ChannelId)
    → Tells (not (is_open state (way (actor_with state.tree user tokens) perm id))) (MayNotWith state user tokens perm.0 id.0)
unfolding is_open
lacks state user tokens perm id = step (is_there state.tree.channels id)
  where
    step : (there : Bool) → Tells (not (option_map_or (λ held. holds held perm.0) (cond there (Some (granted_to state (actor_with state.tree user tokens) id)) None) false))
        (there ≡ true → holds (granted_to state (actor_with state.tree user tokens) id) perm.0 ≡ false)
    step true =
        tells_so (not (holds (granted_to state (actor_with state.tree user tokens) id) perm.0))
        (λ (off : holds (granted_to state (actor_with state.tree user tokens) id) perm.0 ≡ false). λ (there : true ≡ true). off)
        (λ (off : true ≡ true → holds (granted_to state (actor_with state.tree user tokens) id) perm.0 ≡ false). off refl)
        (tells_off (holds (granted_to state (actor_with state.tree user tokens) id) perm.0))
    step false = record { so = λ _ there. absurd (false≢true there); not_so = λ is _. false≢true (sym is) }

pub one_way : {Fact : Type 0} (a : Bool) → Tells (not a) Fact → Tells (not (a || false)) Fact
one_way true tells = tells
one_way false tells = tells

pub two_ways : {One Other : Type 0} (a b : Bool) → Tells (not a) One → Tells (not b) Other → Tells (not (a || (b || false))) (One × Other)
two_ways true b one other = record { so = λ is. absurd (false≢true is); not_so = λ _ both. one.not_so refl both.0 }
two_ways false true one other = record { so = λ is. absurd (false≢true is); not_so = λ _ both. other.not_so refl both.1 }
two_ways false false one other = record { so = λ _. (one.so refl, other.so refl); not_so = λ is _. false≢true (sym is) }

-- a need that is there where a test says so
pub where_so : (state : StateValue) {Fact Lacking : Type 0} (b : Bool) (wanted : Need) → Tells b Fact → Tells (not (is_met state wanted)) Lacking → Tells (unmet state (cond b (Some wanted) None)) (Fact × Lacking)
where_so state true wanted so tells = record { so = λ is. (so.so refl, tells.so is); not_so = λ is both. tells.not_so is both.1 }
where_so state false wanted so tells = record { so = λ is. absurd (false≢true is); not_so = λ _ both. so.not_so refl both.0 }

pub unless_so : (state : StateValue) {Fact Lacking : Type 0} (b : Bool) (wanted : Need) → Tells (not b) Fact → Tells (not (is_met state wanted)) Lacking → Tells (unmet state (cond b None (Some wanted))) (Fact × Lacking)
unless_so state false wanted so tells = record { so = λ is. (so.so refl, tells.so is); not_so = λ is both. tells.not_so is both.1 }
unless_so state true wanted so tells = record { so = λ is. absurd (false≢true is); not_so = λ _ both. so.not_so refl both.0 }

-- a number is given that is another one
abbrev pub IsElsewhere : Option ℕ → ℕ → Type 0
IsElsewhere given here = (n : ℕ) × (given ≡ Some n) × (n ≢ here)

abbrev pub elsewhere : Option ℕ → ℕ → Option ChannelId
elsewhere given here = given_unless (λ (there : ChannelId). there.0 == here) (option_map channel given)

-- a need for a channel that is given and is not the present one
pub where_moved : (state : StateValue) (given : Option ℕ) (here : ℕ) (wanted : ChannelId → Need) (Lacking : ℕ → Type 0) → ((n : ℕ) → Tells (not (is_met state (wanted (channel n)))) (Lacking n))
    → Tells (unmet state (option_map wanted (elsewhere given here))) (IsElsewhere given here × Lacking (unwrap_or given 0))
where_moved state None here wanted Lacking tells = record { so = λ is. absurd (false≢true is); not_so = λ _ both. none-some both.0.0 both.0.1 }
where_moved state (Some n) here wanted Lacking tells = step (n == here) (tells_eq n here)
  where
    step : (b : Bool) → Tells b (n ≡ here) → Tells (unmet state (option_map wanted (cond b None (Some (channel n))))) (IsElsewhere (Some n) here × Lacking n)
    step true same = record {
      so = λ is. absurd (false≢true is);
      not_so = λ _ both. both.0.2 (sym (same_Some n both.0.0 both.0.1) ∙ same.so refl);
    }
    step false same = record {
      so = λ is. ((n, refl, (λ is_here. same.not_so refl is_here)), (tells n).so is);
      not_so = λ is both. (tells n).not_so is both.1;
    }
