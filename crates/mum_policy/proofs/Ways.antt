-- The whole way of a walk: where it ends, and which set it ends with.
use Rattle.mum_policy.proofs.Common.{◌≡◌, ℕ, ◌+◌, ◌||◌, Bool, true, false, List, [], ◌∷◌, ◌++◌, filter, refl, sym, ap, ◌∙◌, Option, Some, None, append-nil, if◌then◌else◌, list_any, none-some, same_Some, ChannelId, START, TRAVERSE, WRITE, AclEntry, Walk, Actor, PolicyMap, after_channel, along, applies, goes_on, holds, is_asked, AreDeniesIn32Bits, IsPermission, counting, held_after, matching, matching_at, starts_over}
use Rattle.mum_policy.proofs.Decisions.{held_after-append, set_passed, traverse_passed, write_passed}

-- ---- where it ends

-- after a walk came so far, a mark is left by these entries
abbrev pub leaves : Walk → List AclEntry → Bool
leaves walk entries = held_after TRAVERSE.0 walk.traverse entries || held_after WRITE.0 walk.write entries

goes_on_after : (policies : PolicyMap) (path : List ChannelId) (who : Actor) (place : ℕ) (asked : Bool) (channel : ChannelId) (walk : Walk)
    → goes_on (after_channel policies path who place asked (policies channel) walk) ≡ leaves walk (matching_at policies path who place channel)
goes_on_after policies path who place asked channel walk =
    ap (λ (b : Bool). b || (after_channel policies path who place asked (policies channel) walk).write) (traverse_passed policies path who place asked channel walk)
    ∙ ap (λ (b : Bool). held_after TRAVERSE.0 walk.traverse (matching_at policies path who place channel) || b) (write_passed policies path who place asked channel walk)

-- the entries of a channel, and then those of the channels below
leaves_further : (policies : PolicyMap) (path : List ChannelId) (who : Actor) (place : ℕ) (asked : Bool) (channel : ChannelId) (walk : Walk) (later : List AclEntry)
    → leaves (after_channel policies path who place asked (policies channel) walk) later ≡ leaves walk (matching_at policies path who place channel ++ later)
leaves_further policies path who place asked channel walk later =
    let own : List AclEntry = matching_at policies path who place channel in
    let after : Walk = after_channel policies path who place asked (policies channel) walk in
    ap (λ (b : Bool). held_after TRAVERSE.0 b later || held_after WRITE.0 after.write later) (traverse_passed policies path who place asked channel walk)
    ∙ ap (λ (b : Bool). b || held_after WRITE.0 after.write later) (sym (held_after-append TRAVERSE.0 walk.traverse own later))
    ∙ ap (λ (b : Bool). held_after TRAVERSE.0 walk.traverse (own ++ later) || held_after WRITE.0 b later) (write_passed policies path who place asked channel walk)
    ∙ ap (λ (b : Bool). held_after TRAVERSE.0 walk.traverse (own ++ later) || b) (sym (held_after-append WRITE.0 walk.write own later))

-- where the last of these channels leaves no mark
pub ends : (policies : PolicyMap) (path : List ChannelId) (who : Actor) (place : ℕ) (above below : List ChannelId) (channel : ChannelId) (walk : Walk)
    → leaves walk (matching policies path who place (above ++ channel ∷ [])) ≡ false
    → along policies path who place (above ++ channel ∷ below) walk ≡ None
unfolding along matching
ends policies path who place [] below channel walk closed =
    ap (λ (on : Bool). if on then along policies path who (place + 1) below (after_channel policies path who place (is_asked below) (policies channel) walk) else None)
    (goes_on_after policies path who place (is_asked below) channel walk ∙ ap (leaves walk) (sym (append-nil (matching_at policies path who place channel))) ∙ closed)
ends policies path who place (first ∷ above) below channel walk closed =
    let asked : Bool = is_asked (above ++ channel ∷ below) in
    let after : Walk = after_channel policies path who place asked (policies first) walk in
    let later : along policies path who (place + 1) (above ++ channel ∷ below) after ≡ None =
    ends policies path who (place + 1) above below channel after
    (leaves_further policies path who place asked first walk (matching policies path who (place + 1) (above ++ channel ∷ [])) ∙ closed) in
    elim (goes_on after) as (λ on. (if on then along policies path who (place + 1) (above ++ channel ∷ below) after else None) ≡ None) [
      | true ↦ later
      | false ↦ refl
    ]

-- where each of these channels leaves a mark
pub reaches : (policies : PolicyMap) (path : List ChannelId) (who : Actor) (place : ℕ) (channels : List ChannelId) (walk : Walk)
    → ((above below : List ChannelId) (channel : ChannelId) → channels ≡ above ++ channel ∷ below → leaves walk (matching policies path who place (above ++ channel ∷ [])) ≡ true)
    → (end : Walk) × (along policies path who place channels walk ≡ Some end)
unfolding along matching
reaches policies path who place [] walk open_ = (walk, refl)
reaches policies path who place (first ∷ rest) walk open_ =
    let asked : Bool = is_asked rest in
    let after : Walk = after_channel policies path who place asked (policies first) walk in
    let on : goes_on after ≡ true =
    goes_on_after policies path who place asked first walk ∙ ap (leaves walk) (sym (append-nil (matching_at policies path who place first))) ∙ open_ [] rest first refl in
    let further : (end : Walk) × (along policies path who (place + 1) rest after ≡ Some end) =
    reaches policies path who (place + 1) rest after
    (λ above below channel e.
    leaves_further policies path who place asked first walk (matching policies path who (place + 1) (above ++ channel ∷ []))
    ∙ open_ (first ∷ above) below channel (ap (λ (cs : List ChannelId). first ∷ cs) e)) in
    (further.0, ap (λ (b : Bool). if b then along policies path who (place + 1) rest after else None) on ∙ further.1)

-- ---- which set it ends with

-- a permission in the set with which the last channel that starts over begins, or the first of all
abbrev pub begun_on : ℕ → Bool → Walk → Bool
begun_on p again walk = if again then holds START.0 p else holds walk.set.0 p

pub test_holds : {X : Type 0} (b : Bool) (o : Option X) (x : X) → (if b then o else None) ≡ Some x → (b ≡ true) × (o ≡ Some x)
test_holds true o x e = (refl, e)
test_holds false o x e = absurd (none-some x e)

-- the set with which a channel begins is what the entries above leave, where none below starts over
begins : (p : ℕ) (again over : Bool) (walk after : Walk) (own : List AclEntry)
    → holds after.set.0 p ≡ held_after p (if over then holds START.0 p else holds walk.set.0 p) own
    → begun_on p again after ≡ held_after p (begun_on p (over || again) walk) (if again then [] else own)
begins p true true walk after own e = refl
begins p true false walk after own e = refl
begins p false true walk after own e = e
begins p false false walk after own e = e

pub set_at_end : (p : ℕ) → IsPermission p → (policies : PolicyMap) (path : List ChannelId) (who : Actor) (place : ℕ) (channels : List ChannelId) (walk end : Walk)
    → AreDeniesIn32Bits policies → along policies path who place channels walk ≡ Some end
    → holds end.set.0 p ≡ held_after p (begun_on p (list_any (λ lower. starts_over (policies lower)) channels) walk) (counting policies path who place channels)
unfolding along counting
set_at_end p is policies path who place [] walk end fit e = ap (λ (w : Walk). holds w.set.0 p) (sym (same_Some walk end e))
set_at_end p is policies path who place (channel ∷ below) walk end fit e =
    let again : Bool = list_any (λ lower. starts_over (policies lower)) below in
    let after : Walk = after_channel policies path who place (is_asked below) (policies channel) walk in
    let own : List AclEntry = filter (applies (is_asked below)) (matching_at policies path who place channel) in
    let later : List AclEntry = counting policies path who (place + 1) below in
    let start : Bool = begun_on p (starts_over (policies channel) || again) walk in
    let on = test_holds (goes_on after) (along policies path who (place + 1) below after) end e in
    set_at_end p is policies path who (place + 1) below after end fit on.1
    ∙ ap (λ (b : Bool). held_after p b later) (begins p again (starts_over (policies channel)) walk after own (set_passed p is policies path who place (is_asked below) channel walk fit))
    ∙ sym (held_after-append p start (if again then [] else own) later)
