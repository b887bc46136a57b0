-- What a write makes of a view.
use Rattle.mum_viewer.proofs.Common.{◌≡◌, ◌≢◌, ℕ, zero, suc, ◌≤◌, ◌==◌, true, false, List, [], ◌∷◌, ◌++◌, length, take, drop, IsTrue, refl, sym, ap, ◌∙◌, arith, Appends-kept, Appends-nil, eqb-true, take-append-drop, Appends, Keeps, LinkFacts, OpenSteps, ViewFacts, Finished, Wrote}

-- a list whose length is 0 is empty
pub nothing : (rest : List ℕ) → (length rest == 0) ≡ true → rest ≡ []
nothing [] e = refl
nothing (x ∷ rest) e = let zero_long : length (x ∷ rest) ≡ 0 = eqb-true (length (x ∷ rest)) 0 e in absurd (omega (arith, zero_long))

something : (rest : List ℕ) → (length rest == 0) ≡ false → rest ≢ []
something [] e = absurd (cc e)
something (x ∷ rest) e = λ none. absurd (cc none)

some_went : (rest : List ℕ) (n : ℕ) → 1 ≤ n → n ≤ length rest → take n rest ≢ []
some_went rest zero least most = absurd (omega (arith, least))
some_went [] (suc n) least most = absurd (omega (arith, most))
some_went (x ∷ rest) (suc n) least most = λ e. absurd (cc e)

module _ {L : Type 0} (facts : L → LinkFacts) where
  -- all was written before
  pub ends : (old new : ViewFacts L) → (length old.left == 0) ≡ true → new.left ≡ old.left → Keeps (facts old.link).written (facts new.link).written
      → (facts new.link).counts ≡ (facts old.link).counts → new.over ≡ true → IsTrue (facts new.link).is_shut → OpenSteps facts old Finished new
  ends old new none left keeps same over shut = (
    [],
    record { left = sym left; appended = Appends-kept (facts old.link).written (facts old.link).written (facts new.link).written [] (Appends-nil (facts old.link).written) keeps; counted = same },
    left ∙ nothing old.left none,
    record { over = over; shut = shut },
  )

  -- some bytes went
  pub writes : (old new : ViewFacts L) (n : ℕ) → 1 ≤ n → n ≤ length old.left → new.left ≡ drop n old.left → (length new.left == 0) ≡ false → Appends (facts old.link).written (facts new.link).written (take n old.left)
      → (facts new.link).counts ≡ (facts old.link).counts → new.over ≡ false → (facts new.link).is_shut ≡ (facts old.link).is_shut → OpenSteps facts old Wrote new
  writes old new n least most left more appended same over shut = (
    take n old.left,
    record { left = sym (take-append-drop n old.left) ∙ ap (λ l. take n old.left ++ l) (sym left); appended = appended; counted = same },
    some_went old.left n least most,
    something new.left more,
    record { over = over; same = shut },
  )

  -- the last byte went, and the link was shut
  pub finishes : (old new : ViewFacts L) (mid : L) (n : ℕ) → new.left ≡ drop n old.left → (length new.left == 0) ≡ true → Appends (facts old.link).written (facts mid).written (take n old.left)
      → Keeps (facts mid).written (facts new.link).written → (facts mid).counts ≡ (facts old.link).counts → (facts new.link).counts ≡ (facts mid).counts → new.over ≡ true → IsTrue (facts new.link).is_shut
      → OpenSteps facts old Finished new
  finishes old new mid n left none appended keeps first next over shut = (
    take n old.left,
    record {
      left = sym (take-append-drop n old.left) ∙ ap (λ l. take n old.left ++ l) (sym left);
      appended = Appends-kept (facts old.link).written (facts mid).written (facts new.link).written (take n old.left) appended keeps;
      counted = next ∙ first;
    },
    nothing new.left none,
    record { over = over; shut = shut },
  )
