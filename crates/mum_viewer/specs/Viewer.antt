-- The viewer, and a turn of it.
use Rattle.std.specs.Prelude.{◌≡◌, ℕ, ◌<◌, ◌≤◌, ◌^◌, ◌==◌, ◌||◌, ◌&&◌, nat_le, Bool, true, false, length}
use Rattle.mum_io.specs.{Door.AcceptCounts, Door.DoorFacts, Door.given_after, Link.LinkFacts}
use Rattle.mum_io.specs.declared.door.Accept.{Accept}
use Rattle.mum_crew.specs.declared.role.Turn.{Turn}
use Rattle.mum_doorway.specs.Asking.{DoorwayFacts, failed_by, new_doorway, stopped_by}
use Rattle.mum_doorway.specs.Doors.{given_after_all}
use Rattle.mum_doorway.specs.declared.opening.DoorOpening.{DoorOpening}
use Rattle.mum_published.specs.Facts.{Opening, PassFacts}
use Rattle.mum_viewer.specs.Views.{Answers, StepsViews, ViewsFacts, no_views}
use Rattle.mum_viewer.specs.declared.{list.TheConstants.VIEWS_OPEN, viewer.ViewerOpening.ViewerOpening}
use Rattle.mum_crew.specs.declared.role.Turn.TheVariants as turns

-- its door, the views, and how many there may be in all
pub record ViewerFacts (D L : Type 0) : Type 0 where
  pub doorway : DoorwayFacts D
  pub views : ViewsFacts L
  pub limit : ℕ

-- the views are the connections that the door gave since the viewer was opened, one by one, and no more than there may
-- be
pub record IsViewer {L : Type 0} (opening : Opening) (before now : ℕ) (views : ViewsFacts L) (limit : ℕ) : Type 0 where
  pub opening_is : views.pass.opening ≡ opening
  pub gave : now ≡ given_after_all before views.given
  pub within : views.given ≤ limit
  -- a number of 32 bits
  pub fits : limit < 2 ^ 32

abbrev pub opening_of : DoorOpening → ℕ → ViewerOpening
opening_of door views = record { views = views; door = door }

-- what a turn comes to, by whether the viewer has ended, whether a view did anything, and whether the door gave, ended
-- or failed
abbrev pub turn_of : Bool → Bool → Bool → Turn
turn_of true stepped answered = turns.Done
turn_of false true answered = turns.Worked
turn_of false false true = turns.Worked
turn_of false false false = turns.Idle

module _ {D L : Type 0} where
  -- it is new, over this door, and nothing was asked
  abbrev pub IsOpened : PassFacts → D → ℕ → ViewerFacts D L → Type 0
  IsOpened pass door limit viewer = viewer ≡ record { doorway = new_doorway door; views = no_views pass; limit = limit }

  -- no more connections come
  abbrev pub is_over : ViewerFacts D L → Bool
  is_over viewer = viewer.doorway.stopped || (viewer.views.given == viewer.limit)

  -- no more connections come, or as many views are open as may be at once
  abbrev pub is_not_to_ask : ViewerFacts D L → Bool
  is_not_to_ask viewer = is_over viewer || nat_le VIEWS_OPEN (length viewer.views.list)

  -- no more connections come, and the link of each view was shut
  abbrev pub has_ended : ViewerFacts D L → Bool
  has_ended viewer = is_over viewer && (length viewer.views.list == 0)

  module _ (door_facts : D → DoorFacts) (facts : L → LinkFacts) where
    -- the door was asked once
    pub record AsksOnce (old : ViewerFacts D L) (worked : Bool) (new : ViewerFacts D L) : Type 0 where
      pub answer : Accept L
      pub counted : AcceptCounts answer (door_facts old.doorway.door).counts (door_facts new.doorway.door).counts
      pub gave : (door_facts new.doorway.door).given ≡ given_after answer (door_facts old.doorway.door).given
      pub stopped : new.doorway.stopped ≡ stopped_by answer false
      pub failed : new.doorway.failed ≡ failed_by answer old.doorway.failed
      pub limit : new.limit ≡ old.limit
      pub answers : Answers facts old.views answer worked new.views

    -- the door is asked where it may be
    pub record Asks (old : ViewerFacts D L) (worked : Bool) (new : ViewerFacts D L) : Type 0 where
      pub rests : is_not_to_ask old ≡ true → (worked ≡ false) × (new ≡ old)
      pub asks : is_not_to_ask old ≡ false → AsksOnce old worked new

    -- each view made its step, and then the door was asked, where it may be
    pub record ViewerTurned (old : ViewerFacts D L) (turn : Turn) (new : ViewerFacts D L) : Type 0 where
      pub stepped : Bool
      pub answered : Bool
      pub between : ViewsFacts L
      pub steps : StepsViews facts old.views stepped between
      pub asks : Asks (record old { views = between }) answered new
      pub came_to : turn ≡ turn_of (has_ended new) stepped answered
