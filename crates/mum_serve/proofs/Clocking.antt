-- The clock that an owner is given, and gives back.
use Rattle.mum_serve.proofs.Common.{◌≡◌, ◌∙◌, ℕ, ap, OwnerFacts, clock_at, clock_of}

module _ {D K L : Type 0} (last calls : K → ℕ) (clock : K) (owner : OwnerFacts D L) where
  pub clock_begins : (owner.warden.last ≡ last clock) × (owner.warden.calls ≡ calls clock) → clock_of owner ≡ clock_at last calls clock
  clock_begins same =
      ap (λ (moment : ℕ). record { last = moment; calls = owner.warden.calls }) same.0 ∙ ap (λ (count : ℕ). record { last = last clock; calls = count }) same.1

  pub clock_comes_back : (last clock ≡ owner.warden.last) × (calls clock ≡ owner.warden.calls) → clock_at last calls clock ≡ clock_of owner
  clock_comes_back same =
      ap (λ (moment : ℕ). record { last = moment; calls = calls clock }) same.0 ∙ ap (λ (count : ℕ). record { last = owner.warden.last; calls = count }) same.1
