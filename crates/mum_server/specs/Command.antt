-- What the words of the command line ask for.
use Rattle.std.specs.{Borrow.Bor, Option.option_copied, Option.option_map, Option.option_map_or}
use Rattle.std.specs.Prelude.{◌≡◌, ℕ, ◌+◌, ◌^◌, ◌<◌, ◌≤◌, Bool, true, false, List, [], ◌∷◌, ◌++◌, IfSome, Option, Some, None, codes, decimal}
use Rattle.mum_serve.specs.Asked.{Service, ViewService, service, view_service}
use Rattle.mum_serve.specs.declared.asked.{Asked.Asked, ViewAsked.ViewAsked}
use Rattle.mum_server.specs.declared.command.{Command.Command, Tail.Tail}
use Rattle.mum_server.specs.declared.command.Command.TheVariants.{Replay, Audit, Exercise}
use Rattle.mum_server.specs.declared.command.TheConstants.{CONNECTIONS_LIMIT, ROUNDS_LIMIT, VIEWS_LIMIT}

abbrev pub replay_words : List (List ℕ)
replay_words = codes "replay" ∷ []

abbrev pub audit_words : List (List ℕ)
audit_words = codes "audit" ∷ []

-- numbers are decimal without leading zeros
abbrev pub exercise_words : ℕ → ℕ → List (List ℕ)
exercise_words seed rounds = codes "exercise" ∷ decimal seed ∷ decimal rounds ∷ []

-- the words ask for an exercise of this seed and n rounds
pub record IsExercise (words : List (List ℕ)) (seed rounds : ℕ) : Type 0 where
  pub words_are : words ≡ exercise_words seed rounds
  pub seed_fits : seed < 2 ^ 64
  pub within_limit : rounds ≤ ROUNDS_LIMIT

-- the words are those of a run that serves, or begin like them
abbrev pub BeginsWithServe : List (List ℕ) → Type 0
BeginsWithServe words = (others : List (List ℕ)) × (words ≡ codes "serve" ∷ others)

-- the word that asks for a journal, where one is asked for
abbrev pub journal_words : Bool → List (List ℕ)
journal_words false = []
journal_words true = codes "journal" ∷ []

-- the words that ask for a second door, where one is asked for
abbrev pub view_words : Option ViewService → List (List ℕ)
view_words None = []
view_words (Some view) = codes "view" ∷ view.address ∷ decimal view.views ∷ []

-- the words that ask that channels are kept at a path, where that is asked for
abbrev pub keep_words : Option (List ℕ) → List (List ℕ)
keep_words None = []
keep_words (Some path) = codes "keep" ∷ path ∷ []

-- what may follow the number of connections, in this order
abbrev pub tail_words : Bool → Option ViewService → Option (List ℕ) → List (List ℕ)
tail_words journal view keep = journal_words journal ++ (view_words view ++ keep_words keep)

-- the words of a run that serves; numbers are decimal without leading zeros
abbrev pub serve_words : Service → List (List ℕ)
serve_words asked = codes "serve" ∷ asked.address ∷ decimal asked.connections ∷ tail_words asked.journal asked.view asked.keep

-- a second door has an address, and gives some views
pub record IsView (view : ViewService) : Type 0 where
  pub named : view.address ≡ [] → ⊥
  pub some : 1 ≤ view.views
  pub within : view.views ≤ VIEWS_LIMIT

-- channels are kept at a path that is not empty
abbrev pub IsPath : List ℕ → Type 0
IsPath path = path ≡ [] → ⊥

-- the words ask for this run that serves: its door has an address, and gives some connections; and it does not both write a
-- journal and keep channels
pub record IsServe (words : List (List ℕ)) (asked : Service) : Type 0 where
  pub words_are : words ≡ serve_words asked
  pub named : asked.address ≡ [] → ⊥
  pub some : 1 ≤ asked.connections
  pub within : asked.connections ≤ CONNECTIONS_LIMIT
  pub view : IfSome asked.view IsView
  pub keep : IfSome asked.keep IsPath
  pub apart : asked.journal ≡ true → asked.keep ≡ None

-- what a run that serves is asked for; or the words ask for no such run
abbrev pub AsksRun : List (List ℕ) → Option Asked → Type 0
AsksRun words (Some asked) = IsServe words (service asked)
AsksRun words None = (asked : Service) → IsServe words asked → ⊥

-- how many roles follow the workers of such a run: one that gives views, and one that keeps channels
abbrev pub later_roles : Service → ℕ
later_roles asked = option_map_or (λ view. 1) asked.view 0 + option_map_or (λ path. 1) asked.keep 0

-- the words ask for nothing of what is done without a door
pub record IsNoCommand (words : List (List ℕ)) : Type 0 where
  pub no_replay : words ≡ replay_words → ⊥
  pub no_audit : words ≡ audit_words → ⊥
  pub no_exercise : (seed rounds : ℕ) → IsExercise words seed rounds → ⊥

abbrev pub Asks : List (List ℕ) → Option Command → Type 0
Asks words (Some Replay) = words ≡ replay_words
Asks words (Some Audit) = words ≡ audit_words
Asks words (Some (Exercise seed rounds)) = IsExercise words seed rounds
Asks words None = IsNoCommand words

-- ---- in the code

-- three words are this name, an address, and a number from 1 to the limit
pub record IsDoor (name : List ℕ) (limit : ℕ) (word address number : List ℕ) (count : ℕ) : Type 0 where
  pub name_is : word ≡ name
  pub named : address ≡ [] → ⊥
  pub number_is : number ≡ decimal count
  pub some : 1 ≤ count
  pub within : count ≤ limit

-- the address and the number of a door under this name; or three words are no such door
abbrev pub AsksDoor : List ℕ → ℕ → List ℕ → List ℕ → List ℕ → Option (Bor (List ℕ) × ℕ) → Type 0
AsksDoor name limit word address number (Some door) =
    (door.0.now ≡ address) × IsDoor name limit word address number door.1
AsksDoor name limit word address number None = (count : ℕ) → IsDoor name limit word address number count → ⊥

-- the door for views that words ask for; or they ask for none
abbrev pub AsksView : List (List ℕ) → Option ViewAsked → Type 0
AsksView words (Some asked) = (words ≡ view_words (Some (view_service asked))) × IsView (view_service asked)
AsksView words None = (view : ViewService) → words ≡ view_words (Some view) → IsView view → ⊥

-- the path at which words ask that channels are kept; or they ask for none
abbrev pub AsksKeep : List (List ℕ) → Option (Bor (List ℕ)) → Type 0
AsksKeep words (Some path) = (words ≡ keep_words (Some path.now)) × IsPath path.now
AsksKeep words None = (path : List ℕ) → words ≡ keep_words (Some path) → IsPath path → ⊥

-- words that follow the number of connections ask for this
pub record IsTail (words : List (List ℕ)) (journal : Bool) (view : Option ViewService)
    (keep : Option (List ℕ)) : Type 0 where
  pub words_are : words ≡ tail_words journal view keep
  pub views : IfSome view IsView
  pub path : IfSome keep IsPath
  pub apart : journal ≡ true → keep ≡ None

-- what they ask for; or they are no such words
abbrev pub AsksTail : List (List ℕ) → Option Tail → Type 0
AsksTail words (Some tail) = IsTail words tail.journal (option_map view_service tail.view) (option_copied tail.keep)
AsksTail words None =
    (journal : Bool) (view : Option ViewService) (keep : Option (List ℕ)) → IsTail words journal view keep → ⊥
