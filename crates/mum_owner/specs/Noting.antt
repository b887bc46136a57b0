-- The notes that the turns of an owner give, and what the bell of the store got.
use Rattle.std.specs.List.{filter_map, list_all}
use Rattle.std.specs.Prelude.{◌≡◌, ◌⊎◌, Bool, true, false, IsTrue, List, [], ◌∷◌, ◌++◌, Option, Some, MatchBool}
use Rattle.mum_io.specs.{Door.DoorFacts, Link.LinkFacts}
use Rattle.mum_crew.specs.declared.role.Turn.{Turn}
use Rattle.mum_published.specs.Facts.{NoteFacts, PublisherFacts, ReplyFacts}
use Rattle.mum_control.specs.Commanded.{note_of}
use Rattle.mum_keeper.specs.{Archive.ArchiveFacts, Archive.OffersRing, Bell.NoMore, Bell.Noted, Bell.Ring}
use Rattle.mum_owner.specs.{Facts.OwnerFacts, Laws.made, Turned.OwnerTurned}

-- ---- notes

abbrev pub note_in : ReplyFacts → Option NoteFacts
note_in reply = reply.note

-- the note of all that was published, where that was done
abbrev pub published_note : Bool → PublisherFacts → List NoteFacts
published_note true publisher = note_of publisher ∷ []
published_note false publisher = []

module _ {D L : Type 0} where
  -- in a turn, one that says the same was offered once to the bell of the store, which was as this before; or memory ran out
  -- for it, which the owner says at its end
  abbrev pub HasFurther : NoteFacts → ArchiveFacts → OwnerFacts D L → Type 0
  HasFurther note side new =
      ((took : Bool) × (after : ArchiveFacts) × OffersRing (Noted note) side took after × (new.archive ≡ Some after))
      ⊎ (IsTrue new.scribe.no_memory × (new.archive ≡ Some side))

module _ {D L : Type 0} (door_facts : D → DoorFacts) (link_facts : L → LinkFacts) where
  -- the notes that a turn gave, but for the further one: that in the reply that it made, and that of what it published
  abbrev pub notes_given : (old : OwnerFacts D L) (turn : Turn) (new : OwnerFacts D L)
      → OwnerTurned door_facts link_facts old turn new → List NoteFacts
  notes_given old turn new t =
      filter_map note_in (made t.after_offers.kept.reply t.after_desk.kept.reply)
      ++ published_note t.published t.after_press.control.publisher

-- ---- the end

abbrev pub is_note : Ring → Bool
is_note (Noted note) = true
is_note NoMore = false

abbrev pub AreNotes : List Ring → Type 0
AreNotes rings = IsTrue (list_all is_note rings)

-- notes were put, and after them, where the bell took it, once that none comes any more
abbrev pub EndsOnce : ArchiveFacts → Type 0
EndsOnce side =
    MatchBool side.is_told ((notes : List Ring) × (side.put ≡ notes ++ NoMore ∷ []) × AreNotes notes)
    (AreNotes side.put)
