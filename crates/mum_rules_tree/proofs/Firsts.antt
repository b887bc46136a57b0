-- The first of a list, and what a verdict says of the tables.
use Rattle.mum_rules_tree.proofs.Common.{◌≡◌, Bool, true, false, not, cond, List, [], ◌∷◌, ◌++◌, Option, Some, None, refl, ap, sym, ◌∙◌, subst, ⊎_elim, find, All, option_map, option_map_or, cases_Bool, not-false, not-true, All-cons, All-nil, All-weaker, ChannelId, SessionId, Perm, ChannelPolicy, Edit, Verdict, Accepted, Answer, Ignored, Lacks, Refused, StateValue, policy_of, DenyType, Lack, Reason, NotThere, Command, command_of, deny_code, reason_code, Case, Need, first_lack, first_standing, is_met, lack_of, AcceptsWhereNothingStands, AllMet, IsFirstMissing, NamesFirstMissing, NoneStands, needs_of, limits, answer_frame, outcome, reasons}

-- ---- the first of a list

none_found : {X : Type 0} (p : X → Bool) (xs : List X) → find p xs ≡ None → All (λ x. p x ≡ false) xs
none_found p [] none = All-nil (λ x. p x ≡ false)
none_found {X} p (x ∷ xs) none =
    ⊎_elim
    (λ (on : p x ≡ true). let gone : Some x ≡ None = subst (λ (b : Bool). cond b (Some x) (find p xs) ≡ None) on none in cc)
    (λ (off : p x ≡ false). All-cons (λ y. p y ≡ false) x xs off (none_found p xs (subst (λ (b : Bool). cond b (Some x) (find p xs) ≡ None) off none)))
    (cases_Bool (p x))

pub record IsFound {X : Type 0} (p : X → Bool) (xs : List X) (x : X) : Type 0 where
  pub before : List X
  pub after : List X
  pub whole : xs ≡ before ++ x ∷ after
  pub none : All (λ y. p y ≡ false) before
  pub passes : p x ≡ true

pub first_found : {X : Type 0} (p : X → Bool) (xs : List X) (x : X) → find p xs ≡ Some x → IsFound p xs x
first_found p [] x found = cc
first_found {X} p (y ∷ ys) x found =
    ⊎_elim
    (λ (on : p y ≡ true).
    let here : Some y ≡ Some x = subst (λ (b : Bool). cond b (Some y) (find p ys) ≡ Some x) on found in
    let same : y ≡ x = cc in
    record { before = []; after = ys; whole = ap (λ (z : X). z ∷ ys) same; none = All-nil (λ z. p z ≡ false); passes = ap p (sym same) ∙ on })
    (λ (off : p y ≡ false).
    let later = first_found p ys x (subst (λ (b : Bool). cond b (Some y) (find p ys) ≡ Some x) off found) in
    record {
      before = y ∷ later.before;
      after = later.after;
      whole = ap (λ (zs : List X). y ∷ zs) later.whole;
      none = All-cons (λ z. p z ≡ false) y later.before off later.none;
      passes = later.passes;
    })
    (cases_Bool (p y))

nothing_mapped : {X Y : Type 0} (f : X → Y) (found : Option X) → option_map f found ≡ None → found ≡ None
nothing_mapped f None none = refl
nothing_mapped f (Some x) none = cc

pub something_mapped : {X Y : Type 0} (f : X → Y) (found : Option X) (y : Y) → option_map f found ≡ Some y → (x : X) × (found ≡ Some x) × (f x ≡ y)
something_mapped f None y some = cc
something_mapped f (Some x) y some = (x, refl, cc)

pub none_stands : {Code : Type 0} (cases : List (Case Code)) → first_standing cases ≡ None → NoneStands cases
none_stands cases none = none_found (λ one. one.stands) cases (nothing_mapped (λ one. one.code) (find (λ one. one.stands) cases) none)

met_where : (state : StateValue) (needs : List Need) → All (λ wanted. not (is_met state wanted) ≡ false) needs → AllMet state needs
met_where state needs all = All-weaker (λ wanted. not (is_met state wanted) ≡ false) (λ wanted. is_met state wanted ≡ true) (λ wanted off. not-false (is_met state wanted) off) needs all

pub all_met_where : (state : StateValue) (needs : List Need) → first_lack state needs ≡ None → AllMet state needs
all_met_where state needs none =
    met_where state needs (none_found (λ wanted. not (is_met state wanted)) needs (nothing_mapped lack_of (find (λ wanted. not (is_met state wanted)) needs) none))

pub first_missing : (state : StateValue) (needs : List Need) (lack : Lack) (perm : Perm) (channel : ChannelId) → first_lack state needs ≡ Some lack → lack.perm ≡ perm → lack.channel ≡ channel → IsFirstMissing state needs perm channel
first_missing state needs lack perm channel some same_perm same_channel =
    let p : Need → Bool = λ wanted. not (is_met state wanted) in
    let (wanted, found, is) = something_mapped lack_of (find p needs) lack some in
    let place = first_found p needs wanted found in
    record {
      before = place.before;
      missing = wanted;
      after = place.after;
      whole = place.whole;
      met = met_where state place.before place.none;
      unmet = not-true (is_met state wanted) place.passes;
      named_perm = ap (λ (l : Lack). l.perm) is ∙ same_perm;
      named_channel = ap (λ (l : Lack). l.channel) is ∙ same_channel;
    }

-- ---- what a verdict says

abbrev pub told : Option Reason → Option Lack → Option DenyType → Verdict → Verdict
told reason lack kind rest =
    option_map_or (λ r. Ignored (reason_code r)) reason
    (option_map_or (λ l. Lacks l.perm l.channel) lack
    (option_map_or (λ k. Refused (deny_code k)) kind rest))

lacking_at : (reason : Option Reason) (lack : Option Lack) (kind : Option DenyType) (rest : Verdict) (perm : Perm) (channel : ChannelId) → (rest ≡ Lacks perm channel → ⊥) → told reason lack kind rest ≡ Lacks perm channel → (reason ≡ None) × ((one : Lack) × (lack ≡ Some one) × (one.perm ≡ perm) × (one.channel ≡ channel))
lacking_at (Some reason) lack kind rest perm channel never is = cc
lacking_at None (Some one) kind rest perm channel never is = (refl, (one, refl, cc, cc))
lacking_at None None (Some kind) rest perm channel never is = cc
lacking_at None None None rest perm channel never is = absurd (never is)

accepted_at : (reason : Option Reason) (lack : Option Lack) (kind : Option DenyType) (rest : Verdict) (edit : Edit) → told reason lack kind rest ≡ Accepted edit → (reason ≡ None) × (lack ≡ None) × (kind ≡ None)
accepted_at (Some reason) lack kind rest edit is = cc
accepted_at None (Some one) kind rest edit is = cc
accepted_at None None (Some kind) rest edit is = cc
accepted_at None None None rest edit is = (refl, refl, refl)

answer_lacks_not : (id : ChannelId) (policy : Option ChannelPolicy) (perm : Perm) (channel : ChannelId) → option_map_or (λ found. Answer (answer_frame id found)) policy (Ignored (reason_code NotThere)) ≡ Lacks perm channel → ⊥
answer_lacks_not id None perm channel is = cc
answer_lacks_not id (Some policy) perm channel is = cc

outcome_lacks_not : (state : StateValue) (actor : SessionId) (command : Command) (perm : Perm) (channel : ChannelId) → outcome state actor command ≡ Lacks perm channel → ⊥
outcome_lacks_not state actor (Command.make message) perm channel is = cc
outcome_lacks_not state actor (Command.edit id message) perm channel is = cc
outcome_lacks_not state actor (Command.remove id) perm channel is = cc
outcome_lacks_not state actor (Command.query id) perm channel is = answer_lacks_not id (policy_of state id) perm channel is
outcome_lacks_not state actor (Command.set id message) perm channel is = cc

pub names_first_missing_lem : NamesFirstMissing
names_first_missing_lem state actor message perm channel is =
    let command = command_of message in
    let (none, (lack, some, same_perm, same_channel)) = lacking_at (first_standing (reasons state actor message)) (first_lack state (needs_of state actor message)) (first_standing (limits state command)) (outcome state actor command) perm channel (outcome_lacks_not state actor command perm channel) is in
    (none_stands (reasons state actor message) none, first_missing state (needs_of state actor message) lack perm channel some same_perm same_channel)

pub accepts_where_nothing_stands_lem : AcceptsWhereNothingStands
accepts_where_nothing_stands_lem state actor message edit is =
    let command = command_of message in
    let (none, met, free) = accepted_at (first_standing (reasons state actor message)) (first_lack state (needs_of state actor message)) (first_standing (limits state command)) (outcome state actor command) edit is in
    (none_stands (reasons state actor message) none, all_met_where state (needs_of state actor message) met, none_stands (limits state command) free)
