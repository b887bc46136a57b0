-- The views of a server: the viewer, where a second door is asked for, and what it came to.
use Rattle.std.specs.{Option.option_map_or, List.AllByRecursion}
use Rattle.std.specs.Prelude.{◌≡◌, ⊤, ℕ, Bool, true, false, length, IfSome, Option, Some, None}
use Rattle.mum_io.specs.{Door.DoorFacts, Link.LinkFacts}
use Rattle.mum_crew.specs.Turns.{TurnsLead}
use Rattle.mum_doorway.specs.Doors.{IsSince, given_after_all}
use Rattle.mum_doorway.specs.declared.opening.DoorOpening.{DoorOpening}
use Rattle.mum_published.specs.Facts.{Opening, PublisherFacts}
use Rattle.mum_viewer.specs.Look.{IsViewAsk}
use Rattle.mum_viewer.specs.Viewer.{IsOpened, ViewerFacts, ViewerTurned, has_ended}
use Rattle.mum_serve.specs.{Asked.ViewService, OneList.IsWithin, Opened.fresh_pass}

-- how many passes views take
abbrev pub passes_for : Option ViewService → ℕ
passes_for asked = option_map_or (λ view. 1) asked 0

module _ {D L : Type 0} where
  -- a view found no memory
  abbrev pub viewer_memory : Option (ViewerFacts D L) → Bool
  viewer_memory viewer = option_map_or (λ one. one.views.no_memory) viewer false

  -- the door of the views failed
  abbrev pub viewer_failed : Option (ViewerFacts D L) → Bool
  viewer_failed viewer = option_map_or (λ one. one.doorway.failed) viewer false

  -- a viewer was opened over this door where views are asked for, and else the door is not used
  abbrev pub IsViewDoor : Opening → Option ViewService → D → Option (ViewerFacts D L) → Option D → Type 0
  IsViewDoor opening None door viewer unused = (viewer ≡ None) × (unused ≡ Some door)
  IsViewDoor opening (Some asked) door None unused = ⊥
  IsViewDoor opening (Some asked) door (Some viewer) unused = IsOpened (fresh_pass opening) door asked.views viewer

  -- what the viewer saw and learnt begins what was published and accepted
  abbrev pub SeesWithin : PublisherFacts → Option (ViewerFacts D L) → Type 0
  SeesWithin publisher viewer = IfSome viewer (λ one. IsWithin publisher one.views.pass)

module _ {D L : Type 0} (facts : L → LinkFacts) (door_facts : D → DoorFacts) where
  -- turns of its own led each viewer to what it is
  abbrev pub ViewersTurned : Option (ViewerFacts D L) → Option (ViewerFacts D L) → Type 0
  ViewersTurned None None = ⊤
  ViewersTurned None (Some new) = ⊥
  ViewersTurned (Some old) None = ⊥
  ViewersTurned (Some old) (Some new) = TurnsLead (ViewerTurned door_facts facts) old new

  -- a viewer was opened over this door, for n views, and turns of its own led it to its end
  pub record HasGivenViews (opening : Opening) (views : ℕ) (door : D) (viewer : ViewerFacts D L) : Type 0 where
    pub first : ViewerFacts D L
    pub begun : IsOpened (fresh_pass opening) door views first
    pub turned : TurnsLead (ViewerTurned door_facts facts) first viewer
    pub ended : has_ended viewer ≡ true

  -- there was a viewer exactly where views were asked for
  abbrev pub HasViewed : Opening → Option ViewService → D → Option (ViewerFacts D L) → Type 0
  HasViewed opening None door None = ⊤
  HasViewed opening None door (Some viewer) = ⊥
  HasViewed opening (Some asked) door None = ⊥
  HasViewed opening (Some asked) door (Some viewer) = HasGivenViews opening asked.views door viewer

module _ {D L : Type 0} (door_facts : D → DoorFacts) where
  -- what came of a viewer whose door had counted this: one look was asked for each connection that the door gave, and
  -- nothing else was; n views were written whole; and the door, at the address at which it was opened
  pub record Leaves (opening : DoorOpening) (viewer : ViewerFacts D L) (viewed : Option ℕ) (left : D) : Type 0 where
    pub viewed_is : viewed ≡ Some viewer.views.whole
    pub one_each : length viewer.views.pass.asks ≡ viewer.views.given
    pub asks : AllByRecursion IsViewAsk viewer.views.pass.asks
    pub gave : (door_facts left).given ≡ given_after_all opening.given viewer.views.given
    pub since : IsSince opening (door_facts left).counts
        (door_facts left).opened_at viewer.doorway.stopped viewer.doorway.failed
    pub door_is : left ≡ viewer.doorway.door

  -- without a viewer nothing is reported of views, and the door that was not used is as it was
  abbrev pub CameToViews : DoorOpening → Option D → Option (ViewerFacts D L) → Option ℕ → D → Type 0
  CameToViews opening unused None viewed left = (viewed ≡ None) × (unused ≡ Some left)
  CameToViews opening unused (Some viewer) viewed left = Leaves opening viewer viewed left
