-- The core with what its workers keep of earlier looks.
use Rattle.std.specs.Prelude.{◌≡◌, ◌⊎◌, ℕ, Bool, true, false, List, Option, Some, None, Result, Ok, Err, IsSome, length, slice_index_or}
use Rattle.std.specs.Option.{ForSome}
use Rattle.mum_record.specs.declared.step.Step.{Step, TheVariants.Look}
use Rattle.mum_state.specs.State.{StateValue}
use Rattle.mum_cache.specs.declared.{caches.Caches.Caches, routes.RouteEntry.RouteEntry}
use Rattle.mum_cache.specs.{Caches.AreSound, Routes.KeepsAsked, Routes.no_routes}
use Rattle.mum_core.specs.declared.machine.StepFault.{StepFault, TheVariants.Illegal, TheVariants.OutOfMemory}
use Rattle.mum_core.specs.{Core.CoreState, Core.state_at, Core.worker_at, Lists.changed_at, Worker.HeldPacket}

pub record CachedCore : Type 0 where
  pub state : CoreState
  -- the caches of each worker, which it has from its first look on
  pub caches : List (Option Caches)

abbrev pub caches_at : List (Option Caches) → ℕ → Option Caches
caches_at caches w = slice_index_or caches w None

-- the routes that a worker keeps
abbrev pub routes_in : Option Caches → List RouteEntry
routes_in None = no_routes
routes_in (Some caches) = caches.routes

-- ---- which of them are sound

-- those of each worker are sound at the state of its last look
pub record EachIsSound (state : CoreState) (caches : List (Option Caches)) : Type 0 where
  pub as_many : length caches ≡ length state.workers
  pub sound : (w : ℕ) → ForSome (caches_at caches w) (AreSound (state_at state (worker_at state w).seen))

-- ---- what a step leaves in them

-- of the routes, the entry that a packet asks for, if there is one
abbrev pub KeepsFor : StateValue → Option HeldPacket → List RouteEntry → List RouteEntry → Type 0
KeepsFor state None before later = later ≡ before
KeepsFor state (Some held) before later = KeepsAsked state held.speaker held.parts.target before later

-- a look leaves the entry that it asked for in the caches of its worker, and those of no other worker change
pub record LooksThrough (old : CachedCore) (w revision : ℕ) (caches : List (Option Caches)) : Type 0 where
  pub there : IsSome (caches_at caches w)
  pub others : (v : ℕ) → (v ≡ w → ⊥) → caches_at caches v ≡ caches_at old.caches v
  pub asked : KeepsFor (state_at old.state revision) (worker_at old.state w).held
      (routes_in (caches_at old.caches w)) (routes_in (caches_at caches w))

-- a step that is not a look changes no caches
abbrev pub Leaves : CachedCore → Step → List (Option Caches) → Type 0
Leaves old (Look w revision) caches = LooksThrough old w revision caches
Leaves old step caches = caches ≡ old.caches

-- where memory ran out all caches are as they were, but that a look may lose those of its worker
abbrev pub Loses : CachedCore → Step → List (Option Caches) → Type 0
Loses old (Look w revision) caches = (caches ≡ old.caches) ⊎ (caches ≡ changed_at w (λ _. None) old.caches)
Loses old step caches = caches ≡ old.caches

-- what becomes of the caches by a step that is answered so
abbrev pub Caching : {A : Type 0} → CachedCore → Step → Result A StepFault → List (Option Caches) → Type 0
Caching old step (Ok given) caches = Leaves old step caches
Caching old step (Err OutOfMemory) caches = Loses old step caches
Caching old step (Err (Illegal given against)) caches = caches ≡ old.caches

abbrev pub is_look : Step → Bool
is_look (Look w revision) = true
is_look others = false
