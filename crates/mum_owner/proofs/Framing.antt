-- What can be written of a command as a line of a journal.
use Rattle.mum_owner.proofs.Common.{◌≡◌, ◌∙◌, ℕ, ◌<◌, ◌≤◌, ◌^◌, List, [], length, Option, Some, None, ap, arith, refl, subst, sym, IfSome, IsTrue, eq-eqb, append-nil, IsOneFrame, kind_of, spelling_of, PAYLOAD_LIMIT, AUTHENTICATE, kind-reads_back, may_carry, payload_of, Join, Kick, Leave, Query, Target, Text, Asked, Tree, User, own_frame, version_of}
use Rattle.mum_rules_user.specs.declared.message.UserMessage.TheVariants as about

-- a type and a payload within the limit make one frame
pub one_frame : (kind : ℕ) (payload bytes : List ℕ) → kind < 2 ^ 16 → length payload ≤ PAYLOAD_LIMIT → bytes ≡ spelling_of kind payload → IsOneFrame bytes
one_frame kind payload bytes fits within is =
    (record { kind = kind; payload = payload }, record { kind_fits = fits; within_limit = within }, is)

pub kind_of-spelling_of : (kind : ℕ) (payload : List ℕ) → kind < 2 ^ 16 → kind_of (spelling_of kind payload) ≡ kind
unfolding kind_of
kind_of-spelling_of kind payload fits =
    ap kind_of (sym (append-nil (spelling_of kind payload))) ∙ kind-reads_back kind payload [] fits

-- only the frame of a login goes with a version
carries : (what : Asked) → IsTrue (may_carry (version_of what) (own_frame what))
carries (Tree message) = refl
carries (User (Join login None)) = refl
carries (User (Join login (Some version))) =
    eq-eqb _ _ (kind_of-spelling_of AUTHENTICATE (payload_of (Join login (Some version))) (omega arith))
carries (User (about.User message)) = refl
carries (User (Kick message)) = refl
carries (User (Text message)) = refl
carries (User (Target message)) = refl
carries (User (Query message)) = refl
carries (User Leave) = refl

pub writable : (what : Asked) (version : Option ℕ) (frame : Option (List ℕ)) → version ≡ version_of what → frame ≡ own_frame what
    → IfSome frame IsOneFrame → IfSome frame IsOneFrame × IsTrue (may_carry version frame)
writable what version frame version_is frame_is one =
    let carried = subst (λ (v : Option ℕ). IsTrue (may_carry v (own_frame what))) (sym version_is) (carries what) in
    (one, subst (λ (f : Option (List ℕ)). IsTrue (may_carry version f)) (sym frame_is) carried)
