-- The viewer of a server, from its opening to its end.
use Rattle.mum_serve.proofs.Common.{◌≡◌, ◌∙◌, ℕ, true, List, [], ◌∷◌, ◌++◌, take, Option, None, Some, is_some, false, refl, sym, ap, subst, All, All-head, All-tail, All-take, DoorOpening, LinkFacts, DoorFacts, IsFresh, Opening, PassFacts, ViewerFacts, ViewService, fresh_pass, CameToViews, HasViewed, IsViewDoor, ViewersTurned}
use Rattle.mum_viewer.specs.Viewer.{IsOpened, has_ended}

-- ---- the pass of the viewer is the last one

last_of : {X : Type 0} (P : X → Type 0) (xs : List X) (x : X) → All P (xs ++ x ∷ []) → P x
last_of P [] x all = All-head P x [] all
last_of P (first ∷ xs) x all = last_of P xs x (All-tail P first (xs ++ x ∷ []) all)

pub last_is_fresh : (opening : Opening) (old new : List PassFacts) (pass : PassFacts) → old ≡ new ++ pass ∷ [] → All (IsFresh opening) old → IsFresh opening pass
last_is_fresh opening old new pass popped fresh = last_of (IsFresh opening) new pass (subst (All (IsFresh opening)) popped fresh)

pub others_are_fresh : (opening : Opening) (old new : List PassFacts) (count : ℕ) → new ≡ take count old → All (IsFresh opening) old → All (IsFresh opening) new
others_are_fresh opening old new count rest fresh = subst (All (IsFresh opening)) (sym rest) (All-take (IsFresh opening) count old fresh)

module _ {D L : Type 0} where
  -- a viewer that was opened by a fresh pass
  pub is_view_door : (opening : Opening) (asked : ViewService) (pass : PassFacts) (door : D) (viewer : ViewerFacts D L) (unused : Option D) → pass ≡ fresh_pass opening → IsOpened pass door asked.views viewer
      → IsViewDoor opening (Some asked) door (Some viewer) unused
  is_view_door opening asked pass door viewer unused fresh opened = subst (λ (p : PassFacts). IsOpened p door asked.views viewer) fresh opened

  -- without a viewer its door is kept
  pub door_kept : (opening : Opening) (asked : Option ViewService) (door : D) (opened viewer : Option (ViewerFacts D L)) (unused : Option D) → IsViewDoor opening asked door opened unused → (viewer ≡ None → opened ≡ None)
      → is_some viewer ≡ false → is_some unused ≡ true
  door_kept opening asked door opened (Some viewer) unused is kept absent = absurd (cc absent)
  door_kept opening None door opened None unused is kept _ = ap (λ (u : Option D). is_some u) is.1
  door_kept opening (Some asked) door None None unused is kept _ = absurd is
  door_kept opening (Some asked) door (Some opened) None unused is kept _ = absurd (let same = kept refl in cc same)

  -- where the viewer made no turn, the door that comes back is the one that it was opened over
  pub view_back : (door_facts : D → DoorFacts) (counted : DoorOpening) (opening : Opening) (asked : Option ViewService) (door : D) (opened viewer : Option (ViewerFacts D L)) (unused : Option D) (viewed : Option ℕ) (left : D)
      → IsViewDoor opening asked door opened unused → viewer ≡ opened → CameToViews door_facts counted unused viewer viewed left → left ≡ door
  view_back door_facts counted opening None door opened (Some viewer) unused viewed left is same came = absurd (let no = same ∙ is.0 in cc no)
  view_back door_facts counted opening None door opened None unused viewed left is same came = let both = sym came.1 ∙ is.1 in cc both
  view_back door_facts counted opening (Some asked) door None viewer unused viewed left is same came = absurd is
  view_back door_facts counted opening (Some asked) door (Some opened) None unused viewed left is same came = absurd (cc same)
  view_back door_facts counted opening (Some asked) door (Some opened) (Some viewer) unused viewed left is same came =
      let one : viewer ≡ opened = cc same in
      came.door_is ∙ ap (λ (v : ViewerFacts D L). v.doorway.door) (one ∙ is)

module _ {D L : Type 0} (facts : L → LinkFacts) (door_facts : D → DoorFacts) where
  -- a viewer that turns led from its opening to its end
  pub has_viewed : (opening : Opening) (asked : Option ViewService) (door : D) (opened viewer : Option (ViewerFacts D L)) (unused : Option D) → IsViewDoor opening asked door opened unused
      → ViewersTurned facts door_facts opened viewer → ((one : ViewerFacts D L) → viewer ≡ Some one → has_ended one ≡ true) → HasViewed facts door_facts opening asked door viewer
  has_viewed opening None door None None unused is turned ended = tt
  has_viewed opening None door None (Some viewer) unused is turned ended = absurd turned
  has_viewed opening None door (Some opened) viewer unused is turned ended = absurd (let no = is.0 in cc no)
  has_viewed opening (Some asked) door None viewer unused is turned ended = absurd is
  has_viewed opening (Some asked) door (Some opened) None unused is turned ended = absurd turned
  has_viewed opening (Some asked) door (Some opened) (Some viewer) unused is turned ended =
      record { first = opened; begun = is; turned = turned; ended = ended viewer refl }

  -- what came of the door that was not used, or of the viewer
  pub views_came : (counted now : DoorOpening) (opening : Opening) (asked : Option ViewService) (door : D) (opened viewer : Option (ViewerFacts D L)) (unused : Option D) (viewed : Option ℕ) (left : D) → counted ≡ now
      → IsViewDoor opening asked door opened unused → ViewersTurned facts door_facts opened viewer → CameToViews door_facts now unused viewer viewed left
      → CameToViews door_facts counted (Some door) viewer viewed left
  views_came counted now opening None door None None unused viewed left same is turned came = (came.0, sym is.1 ∙ came.1)
  views_came counted now opening None door None (Some viewer) unused viewed left same is turned came = absurd turned
  views_came counted now opening None door (Some opened) viewer unused viewed left same is turned came = absurd (let no = is.0 in cc no)
  views_came counted now opening (Some asked) door None viewer unused viewed left same is turned came = absurd is
  views_came counted now opening (Some asked) door (Some opened) None unused viewed left same is turned came = absurd turned
  views_came counted now opening (Some asked) door (Some opened) (Some viewer) unused viewed left same is turned came =
      subst (λ (o : DoorOpening). CameToViews door_facts o unused (Some viewer) viewed left) (sym same) came
