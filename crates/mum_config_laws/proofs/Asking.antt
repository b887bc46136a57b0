-- A server password that is given is asked for.
use Rattle.mum_config_laws.proofs.Common.{◌≡◌, ◌≢◌, ℕ, Bool, true, false, cond, not, List, [], ◌∷◌, Option, None, Some, inl, inr, refl, sym, ap, subst, ◌∙◌, codes, find, unwrap_or, option_map_or, result_unwrap_or, bytes_eq, false≢true, same_Some, bytes_eq-Decides, decode_sized, sha256, Data, string, get, reason_code, reject_code, Reason, RejectType, InvalidUsername, WrongServerPW, WrongUserPW, WrongVersion, Account, Verdict, Accepted, Ignored, Rejected, led_to, is_name, StateValue, account_named, is_named, Case, case_of, first_standing, edit_to_join, is_no_guest, is_not_the_owner, is_old, limits_of_seat, reasons, Join, IsAllGiven, IsGivenThere, IsTurnedAway, ThePasswordIsAskedFor, IsDigest, IsText, Says, SaysMaybe}
use Rattle.mum_config_laws.proofs.{Lists.in_contained, Lists.In, Opening.nothing_else_is_there_lem, Opening.what_is_given_is_there_lem}

-- ---- no account has the name

none_named : (name : List ℕ) (accounts : List Account) → ((account : Account) → In account accounts → account.name ≡ name → ⊥) → find (is_named name) accounts ≡ None
none_named name [] never = refl
none_named name (account ∷ accounts) never = step (bytes_eq account.name name) refl (none_named name accounts (λ one inside. never one (inr inside)))
  where
    step : (b : Bool) → bytes_eq account.name name ≡ b → find (is_named name) accounts ≡ None → cond b (Some account) (find (is_named name) accounts) ≡ None
    step true is rest = absurd (never account (inl refl) ((bytes_eq-Decides account.name name).0 is))
    step false is rest = rest

text_there : (found : Option Data) (text : List ℕ) → Says IsText found text → found ≡ Some (string text)
text_there None text says = absurd says
text_there (Some value) text says = ap (λ (v : Data). Some v) says

-- ---- the digest is the one that is given

digest_there : (found : Option Data) (password : Option (List ℕ)) (value : Data) (digest : List ℕ) → found ≡ Some value → IsDigest value digest → SaysMaybe IsDigest found password → password ≡ Some digest
digest_there None password value digest is says set = absurd (cc)
digest_there (Some one) None value digest is says set = absurd set
digest_there (Some one) (Some bytes) value digest is says set =
    let same : one ≡ value = same_Some one value is in
    let texts : string set.0 ≡ string says.0 = sym set.1 ∙ same ∙ says.1 in
    let digits : set.0 ≡ says.0 = cc in
    ap (λ (b : List ℕ). Some b)
    (sym (ap (λ r. result_unwrap_or r []) set.2) ∙ ap (λ (text : List ℕ). result_unwrap_or (decode_sized text 32) []) digits ∙ ap (λ r. result_unwrap_or r []) says.2)

-- ---- what is answered

turned_away : (reason : Option Reason) (old bad : Bool) (owner guest : Bool) (rest : List (Case RejectType)) (accepted : Verdict) → owner ≡ false → guest ≡ true
    → IsTurnedAway (option_map_or (λ why. Ignored (reason_code why)) reason
    (option_map_or (λ kind. Rejected (reject_code kind))
    (first_standing (case_of WrongVersion old ∷ case_of InvalidUsername bad ∷ case_of WrongUserPW owner ∷ case_of WrongServerPW guest ∷ rest)) accepted))
turned_away (Some why) old bad owner guest rest accepted none asked = inr (inr (reason_code why, refl))
turned_away None true bad owner guest rest accepted none asked = inr (inl (inl refl))
turned_away None false true owner guest rest accepted none asked = inr (inl (inr refl))
turned_away None false false false true rest accepted none asked = inl refl
turned_away None false false true guest rest accepted none asked = absurd (false≢true (sym none))
turned_away None false false false false rest accepted none asked = absurd (false≢true asked)

not_the_password : (password digest : List ℕ) → sha256 password ≢ digest → not (bytes_eq (sha256 password) digest) ≡ true
not_the_password password digest other = step (bytes_eq (sha256 password) digest) refl
  where
    step : (b : Bool) → bytes_eq (sha256 password) digest ≡ b → not b ≡ true
    step true is = absurd (other ((bytes_eq-Decides (sha256 password) digest).0 is))
    step false is = refl

pub the_password_is_asked_for_lem : ThePasswordIsAskedFor
the_password_is_asked_for_lem text document config first reads is from value digest key spells state server accounts login version nobody other =
    let opened : StateValue = led_to first config.edits in
    let given : IsGivenThere document config opened = what_is_given_is_there_lem text document config first reads is from in
    let all : IsAllGiven document first opened = nothing_else_is_there_lem text document config first reads is from in
    let name : List ℕ = unwrap_or login.username [] in
    let password : List ℕ = unwrap_or login.password [] in
    let set : state.server.password ≡ Some digest =
    ap (λ s. s.password) server ∙ digest_there (get (codes "server_password_sha256") document) opened.server.password value digest key spells given.settings.password in
    let none : account_named state name ≡ None =
    ap (λ (list : List Account). find (is_named name) list) accounts
    ∙ none_named name opened.accounts (λ account inside named.
    let entry = all.accounts account (in_contained account opened.accounts inside) in
    nobody entry.0 entry.1 (text_there (get (codes "name") entry.0) name (subst (Says IsText (get (codes "name") entry.0)) named entry.2.name))) in
    turned_away (first_standing (reasons state None (Join login version))) (is_old version) (not (is_name name))
    (is_not_the_owner (account_named state name) password) (is_no_guest (account_named state name) state.server.password password) (limits_of_seat state.roster name)
    (Accepted (edit_to_join state login))
    (ap (λ (one : Option Account). is_not_the_owner one password) none)
    (ap (λ (one : Option Account). is_no_guest one state.server.password password) none ∙ ap (λ (o : Option (List ℕ)). is_no_guest None o password) set ∙ not_the_password password digest other)
