-- The views of a viewer: those that are open, how many there were, and the pass that looks for them.
use Rattle.std.specs.Prelude.{◌≡◌, ◌+◌, ◌≤◌, ℕ, Bool, true, false, List, [], ◌∷◌, ◌++◌, length, IsTrue, Result, Ok, Err}
use Rattle.std.specs.List.{AllByRecursion}
use Rattle.std.specs.declared.alloc.AllocError.{AllocError}
use Rattle.mum_io.specs.Link.{Keeps, LinkFacts}
use Rattle.mum_io.specs.declared.door.Accept.{Accept}
use Rattle.mum_crew.specs.Along.{EachAlong}
use Rattle.mum_published.specs.Facts.{PassFacts}
use Rattle.mum_viewer.specs.{Look.IsViewAsk, Look.Looks, Text.view_text}
use Rattle.mum_viewer.specs.View.{ViewFacts, ViewMoves, is_open, new_view}
use Rattle.mum_viewer.specs.declared.list.TheConstants.{VIEWS_OPEN}
use Rattle.mum_io.specs.declared.door.Accept.TheVariants as accepted

pub record ViewsFacts (L : Type 0) : Type 0 where
  pub pass : PassFacts
  -- in the order in which they came
  pub list : List (ViewFacts L)
  -- how many there were
  pub given : ℕ
  -- how many texts were taken whole
  pub whole : ℕ
  -- one found no memory
  pub no_memory : Bool

-- no view yet
abbrev pub no_views : {L : Type 0} → PassFacts → ViewsFacts L
no_views pass = record { pass = pass; list = []; given = 0; whole = 0; no_memory = false }

-- one look was asked for each view, and nothing else was; few are open
pub record AreViews {L : Type 0} (pass : PassFacts) (given : ℕ) (list : List (ViewFacts L)) : Type 0 where
  pub one_each : length pass.asks ≡ given
  pub asks : AllByRecursion IsViewAsk pass.asks
  pub few : length list ≤ VIEWS_OPEN

module _ {L : Type 0} (facts : L → LinkFacts) where
  -- each view made its step, and those that were written whole are counted; views that are over are let go
  pub record StepsViews (old : ViewsFacts L) (worked : Bool) (new : ViewsFacts L) : Type 0 where
    pub steps : EachAlong (ViewMoves facts) is_open
        old.list (record { whole = old.whole; worked = false }) new.list (record { whole = new.whole; worked = worked })
    pub others : new ≡ record old { list = new.list; whole = new.whole }

  -- the link was shut, and nothing was written to it or read from it
  pub record IsTurnedAway (link : L) : Type 0 where
    pub after : L
    pub shut : IsTrue (facts after).is_shut
    pub same : Keeps (facts link).written (facts after).written
    pub reads_nothing : Keeps (facts link).left (facts after).left

  -- the text is to be written to the link, or there was no memory for it
  abbrev pub Takes : ViewsFacts L → L → Result (List ℕ) AllocError → ViewsFacts L → Type 0
  Takes old link (Ok text) new =
      new ≡ record old { pass = new.pass; given = old.given + 1; list = old.list ++ new_view link text ∷ [] }
  Takes old link (Err error) new =
      (new ≡ record old { pass = new.pass; given = old.given + 1; no_memory = true }) × IsTurnedAway link

  -- a connection came: one look was made for it, and it gets the text of what that look found
  pub record Admits (old : ViewsFacts L) (link : L) (new : ViewsFacts L) : Type 0 where
    pub text : Result (List ℕ) AllocError
    pub looks : Looks view_text old.pass text new.pass
    pub takes : Takes old link text new

  -- what the door's answer does to the views, and whether it was a connection, an end or a fault
  abbrev pub Answers : ViewsFacts L → Accept L → Bool → ViewsFacts L → Type 0
  Answers old (accepted.Conn link) worked new = (worked ≡ true) × Admits old link new
  Answers old accepted.NotYet worked new = (worked ≡ false) × (new ≡ old)
  Answers old accepted.End worked new = (worked ≡ true) × (new ≡ old)
  Answers old accepted.Failed worked new = (worked ≡ true) × (new ≡ old)
