-- A look of a store, and the comparison after it.
use Rattle.mum_keeper.proofs.Common.{◌≡◌, Ok, Err, true, refl, sym, subst, AllocError, kept, KeptRows, state_of, PassFacts, KeeperFacts, Looks, Compares, MirrorFacts, Observes, StoreFacts, KeepEnd, Found}
use Rattle.mum_keeper.proofs.Comparing.{starved}
use Rattle.mum_keeper.specs.declared.keeper.KeepEnd.TheVariants as ends

module _ {P : Type 0} (facts : P → KeeperFacts) where
  -- memory ran out before anything was compared
  pub starves : (old new : MirrorFacts P) (now : KeptRows) (end : KeepEnd) → end ≡ ends.NoMemory → new ≡ record old { no_memory = true } → Compares facts old now end new
  starves old new now end is so =
      subst (λ (e : KeepEnd). Compares facts old now e new) (sym is)
      (subst (λ (m : MirrorFacts P). Compares facts old now ends.NoMemory m) (sym so) (record { brings = starved facts old.keeper old.rows now; leaves = refl }))

  pub observes : (old : StoreFacts P) (pass : PassFacts) (found : Found) (mirror : MirrorFacts P) (end : KeepEnd) → Looks old.pass (Ok found) pass → Compares facts old.mirror found.rows end mirror
      → Observes facts old end (record old { pass = pass; mirror = mirror })
  observes old pass found mirror end looks compares = record {
    edits = looks.edits;
    met = looks.met;
    asked = looks.asked;
    settles = subst (λ (rows : KeptRows). Compares facts old.mirror rows end mirror) looks.finds.are compares;
    others = refl;
  }

  pub observes_nothing : (old : StoreFacts P) (pass : PassFacts) (error : AllocError) (mirror : MirrorFacts P) (end : KeepEnd) → Looks old.pass (Err error) pass
      → end ≡ ends.NoMemory → mirror ≡ record old.mirror { no_memory = true } → Observes facts old end (record old { pass = pass; mirror = mirror })
  observes_nothing old pass error mirror end looks is so = record {
    edits = looks.edits;
    met = looks.met;
    asked = looks.asked;
    settles = starves old.mirror mirror (kept (state_of old.pass.opening looks.edits)) end is so;
    others = refl;
  }
