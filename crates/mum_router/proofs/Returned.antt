-- A copy that comes back.
use Rattle.mum_router.proofs.Common.{◌≡◌, Bool, false, refl, subst, if◌then◌else◌, Offers, VOICE_CAPACITY, VoiceFacts, Offered, Sent, Full, PassFacts, is_sent}

pub came_back : (from old new : PassFacts VoiceFacts) (item parcel : VoiceFacts) (sent : Bool) → from ≡ old → item ≡ parcel → sent ≡ false
    → Offers VOICE_CAPACITY from item (if sent then Sent else Full item) new
    → (answer : Offered VoiceFacts) × Offers VOICE_CAPACITY old parcel answer new × (false ≡ is_sent answer)
came_back from old new item parcel sent view same off offers = (
  Full parcel,
  subst (λ (pass : PassFacts VoiceFacts). Offers VOICE_CAPACITY pass parcel (Full parcel) new) view
      (subst (λ (one : VoiceFacts). Offers VOICE_CAPACITY from one (Full one) new) same
      (subst (λ (b : Bool). Offers VOICE_CAPACITY from item (if b then Sent else Full item) new) off offers)),
  refl,
)
