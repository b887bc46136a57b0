-- A box of which a pass was made is the same box, and has one number less.
use Rattle.mum_worker.proofs.CommonNames.{◌≡◌, ℕ, ◌+◌, zero, suc, List, [], ◌∷◌, get_or, refl, ap, ◌∙◌, subst, sym, arith, AllZip, Some, None, slice_get, get_or_from_slice_get, set, Slot, PassFacts, QueueFacts, QueueId, PostFacts, VoiceFacts, HasNumbers, IsNewPass, after_least, has_fewer, one_less, pass_below, AreNewPasses, AreSameBoxes, BoxesFacts, CanPass, GaveOne, GivesPass, queues}

queues_set : (boxes : List QueueFacts) (place : ℕ) (new old : QueueFacts) → old ≡ get_or boxes place old → new.queue ≡ old.queue → queues (set boxes place new) ≡ queues boxes
queues_set [] zero new old read same = refl
queues_set [] (suc place) new old read same = refl
queues_set (box ∷ boxes) zero new old read same = ap (λ (q : QueueId). q ∷ queues boxes) (same ∙ ap (λ (b : QueueFacts). b.queue) read)
queues_set (box ∷ boxes) (suc place) new old read same = ap (λ (qs : List QueueId). box.queue ∷ qs) (queues_set boxes place new old read same)

-- an owner that gave none gave one at most, and so did each of these
gave_less : (box : QueueFacts) → GaveOne box box
gave_less box count has = has_fewer (count + 1) count box (omega arith) has

gave_none : (boxes : List QueueFacts) → AllZip GaveOne boxes boxes
gave_none [] = tt
gave_none (box ∷ boxes) = (gave_less box, gave_none boxes)

-- the owner at a place made a pass
gave_set : (boxes : List QueueFacts) (place : ℕ) (new old : QueueFacts) → old ≡ get_or boxes place old
    → new ≡ record old { low = after_least old.low old.end } → AllZip GaveOne boxes (set boxes place new)
gave_set [] zero new old read is = tt
gave_set [] (suc place) new old read is = tt
gave_set (box ∷ boxes) zero new old read is = ((λ count has. one_less count old new (subst (HasNumbers (count + 1)) (sym read) has) is), gave_none boxes)
gave_set (box ∷ boxes) (suc place) new old read is = (gave_less box, gave_set boxes place new old read is)

-- ---- passes of a slot

pub gives_pass : {I : Type 0} (boxes : List QueueFacts) (place : ℕ) (box after : QueueFacts) (pass : PassFacts I) → CanPass boxes place → box ≡ get_or boxes place box
    → IsNewPass box pass → after ≡ record box { low = after_least box.low box.end } → GivesPass boxes place pass (set boxes place after)
gives_pass boxes place box after pass can read new gave =
    let same : box ≡ can.0 = read ∙ get_or_from_slice_get boxes place can.0 box can.1 in
    let has : HasNumbers 1 box = subst (HasNumbers 1) (sym same) can.2 in record {
      box = box;
      there = can.1 ∙ ap (λ (b : QueueFacts). Some b) (sym same);
      new = new;
      number = pass_below box pass has new;
      same = queues_set boxes place after box read (ap (λ (b : QueueFacts). b.queue) gave);
      gave = gave_set boxes place after box read gave;
    }

pub passes_given : (old new : BoxesFacts) (slot : Slot) (place : ℕ) (post : PassFacts PostFacts) (voice : PassFacts VoiceFacts) → place ≡ slot.0
    → GivesPass old.posts place post new.posts → GivesPass old.voices place voice new.voices → AreNewPasses old slot (record { slot = slot; post = post; voice = voice; told = None })
passes_given old new slot place post voice is posts voices = record {
  slot_is = refl;
  none_told = refl;
  post_box = posts.box;
  voice_box = voices.box;
  post_there = ap (λ (n : ℕ). slice_get old.posts n) (sym is) ∙ posts.there;
  voice_there = ap (λ (n : ℕ). slice_get old.voices n) (sym is) ∙ voices.there;
  post = posts.new;
  voice = voices.new;
  post_number = posts.number;
  voice_number = voices.number;
}

pub boxes_given : (old new : BoxesFacts) (place : ℕ) (post : PassFacts PostFacts) (voice : PassFacts VoiceFacts)
    → GivesPass old.posts place post new.posts → GivesPass old.voices place voice new.voices → AreSameBoxes old new
boxes_given old new place post voice posts voices = record { posts = posts.same; voices = voices.same; post_numbers = posts.gave; voice_numbers = voices.gave }

pub boxes_kept : (boxes : BoxesFacts) → AreSameBoxes boxes boxes
boxes_kept boxes = record { posts = refl; voices = refl; post_numbers = gave_none boxes.posts; voice_numbers = gave_none boxes.voices }
