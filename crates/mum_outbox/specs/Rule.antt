-- The rule of a queue: which items are where, whatever threads have offered and taken.
-- A hand is what one pass has done to the queue. Hands are of all passes ever made, each at its port: the place at which
-- the pass was made. A tag says which pass offered an item, and at which place. Numbers of passes and places of items
-- stay at their last value; what is said of an item is said where both are below it.
use lib.ListN.{get_elem?}
use mathlib.Core.Option.{some}
use Rattle.std.specs.Prelude.{◌≡◌, ◌≢◌, ℕ, ◌+◌, ◌-◌, ◌/◌, ◌<◌, ◌≤◌, ◌⊎◌, min, nat_lt, if◌then◌else◌, List, [], ◌++◌, length, map}
use Rattle.std.specs.List.{All, AllPairs, Contains}
use Rattle.mum_outbox.specs.declared.rule.{TheConstants.LAST, Tagged.Tagged, Hand.Hand}

-- the element at this place is this one
abbrev pub StandsAt : {A : Type 0} → List A → ℕ → A → Type 0
StandsAt list place element = get_elem? list place ≡ some element

module _ {I : Type 0} where
  -- an item without its tag
  abbrev pub item_of : Tagged I → I
  item_of x = x.item

  -- the items have tags with which this holds of them
  abbrev pub AreTagged : (List (Tagged I) → Type 0) → List I → Type 0
  AreTagged P items = (tagged : List (Tagged I)) × (map item_of tagged ≡ items) × P tagged

  -- neither the number of its pass nor its place stays
  abbrev pub IsNumbered : Tagged I → Type 0
  IsNumbered x = (x.by < LAST) × (x.place < LAST)

  -- of two items of one pass, the first was offered first
  abbrev pub IsBefore : Tagged I → Tagged I → Type 0
  IsBefore x y = IsNumbered x → IsNumbered y → x.by ≡ y.by → x.place < y.place

  -- this holds of the hand of each pass
  abbrev pub EachHand : List (Hand I) → (Hand I → Type 0) → Type 0
  EachHand hands P = (port : ℕ) (hand : Hand I) → StandsAt hands port hand → P hand

  -- this holds of the hands of any two passes
  abbrev pub EachTwo : List (Hand I) → (Hand I → Hand I → Type 0) → Type 0
  EachTwo hands R = (port other : ℕ) (hand second : Hand I) → port ≢ other
      → StandsAt hands port hand → StandsAt hands other second → R hand second

  -- the item equals the one at its place in what the pass of its number offered
  abbrev pub IsAsOffered : List (Hand I) → Tagged I → Type 0
  IsAsOffered hands x = IsNumbered x
      → (port : ℕ) × (hand : Hand I) × StandsAt hands port hand × (hand.number ≡ x.by)
      × StandsAt hand.offered x.place x.item

  -- the item is in the queue, or a pass has taken it
  abbrev pub IsSomewhere : List (Tagged I) → List (Hand I) → Tagged I → Type 0
  IsSomewhere items hands x =
      Contains items x ⊎ ((port : ℕ) × (hand : Hand I) × StandsAt hands port hand × Contains hand.taken x)

  -- each item that the pass has offered is in the queue, or a pass has taken it
  abbrev pub LosesNone : List (Tagged I) → List (Hand I) → Hand I → Type 0
  LosesNone items hands hand = hand.number < LAST
      → (place : ℕ) → place < length hand.offered → place < LAST
      → (x : Tagged I) × (x.by ≡ hand.number) × (x.place ≡ place) × IsSomewhere items hands x

  -- no item is in what both have taken
  abbrev pub TakeApart : Hand I → Hand I → Type 0
  TakeApart hand second = (x y : Tagged I) → Contains hand.taken x → Contains second.taken y
      → IsNumbered x → x.by ≡ y.by → x.place ≢ y.place

  -- the owner may give this number to a new pass
  abbrev pub MayGive : Hand I → ℕ → Type 0
  MayGive hand number = (hand.low ≤ number) × (number < hand.end)

  pub record HaveOwnNumbers (hands : List (Hand I)) : Type 0 where
    -- two passes of one number have the last one
    pub apart : EachTwo hands (λ hand second. hand.number ≡ second.number → LAST ≤ hand.number)
    -- no owner may give the number of a pass
    pub given : EachHand hands (λ owner. EachHand hands (λ hand. ¬ MayGive owner hand.number))
    -- no two owners may give one number
    pub not_twice : EachTwo hands (λ owner second. (number : ℕ) → MayGive owner number → ¬ MayGive second number)
    -- an owner may give numbers below the last one
    pub within : EachHand hands (λ owner. owner.end ≤ LAST)

  -- what holds of the items in a queue, front to back, and of the hands of all its passes
  pub record BoxRule (capacity : ℕ) (items : List (Tagged I)) (hands : List (Hand I)) : Type 0 where
    -- the queue holds at most its capacity
    pub bounded : length items ≤ capacity
    -- each item in the queue, and each that was taken, equals the one at its place in what its pass offered
    pub as_offered : All (IsAsOffered hands) items
    pub taken_as_offered : EachHand hands (λ hand. All (IsAsOffered hands) hand.taken)
    -- the places of one pass rise from the front of the queue to its back
    pub in_order : AllPairs IsBefore items
    -- the places of one pass rise in what a pass has taken, and are below all of that pass in the queue
    pub taken_in_order : EachHand hands (λ hand. AllPairs IsBefore (hand.taken ++ items))
    -- each offered item is in the queue or was taken, and none was taken by two passes
    pub none_lost : EachHand hands (LosesNone items hands)
    pub none_twice : EachTwo hands TakeApart
    -- each pass has a number of its own
    pub own_numbers : HaveOwnNumbers hands

  -- what holds of the items in a queue, whose tags only contracts see
  abbrev pub TaggedRule : ℕ → List I → List (Hand I) → Type 0
  TaggedRule capacity items hands = AreTagged (λ tagged. BoxRule capacity tagged hands) items

  -- at one moment the queue held these items under the rule, and a pass had done this
  abbrev pub IsMomentOf : ℕ → Hand I → List (Tagged I) → Type 0
  IsMomentOf capacity hand items =
      (hands : List (Hand I)) × (port : ℕ) × StandsAt hands port hand × BoxRule capacity items hands

-- the hand of an owner that may give the numbers from low up to end
abbrev pub owner_hand : {I : Type 0} → ℕ → ℕ → Hand I
owner_hand low end = record { number = LAST; low = low; end = end; offered = []; taken = [] }

-- the first owner may give every number below the last
abbrev pub first_hand : {I : Type 0} → Hand I
first_hand = owner_hand 0 LAST

-- the hand of a new pass
abbrev pub new_hand : {I : Type 0} → ℕ → Hand I
new_hand number = record { number = number; low = 0; end = 0; offered = []; taken = [] }

-- the least number from low up to end, or the last one where there is none
abbrev pub least_number : ℕ → ℕ → ℕ
least_number low end = if nat_lt low end then low else LAST

-- where the range begins after its least number is given
abbrev pub after_least : ℕ → ℕ → ℕ
after_least low end = min (low + 1) end

-- where the upper half of the range begins
abbrev pub middle : ℕ → ℕ → ℕ
middle low end = low + (end - low) / 2

module _ {I : Type 0} where
  abbrev pub after_giving : Hand I → Hand I
  after_giving owner = record owner { low = after_least owner.low owner.end }

  abbrev pub given_number : Hand I → Hand I
  given_number owner = new_hand (least_number owner.low owner.end)

  abbrev pub after_halving : Hand I → Hand I
  after_halving owner = record owner { end = middle owner.low owner.end }

  abbrev pub given_half : Hand I → Hand I
  given_half owner = owner_hand (middle owner.low owner.end) owner.end
