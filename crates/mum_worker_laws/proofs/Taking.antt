-- What the step of a port took is by the rules, and begins what came with its parcels.
use Rattle.mum_worker_laws.proofs.Common.{◌≡◌, ◌∙◌, ℕ, ◌==◌, Bool, true, false, cond, List, [], ◌∷◌, ◌++◌, filter, map, Option, Some, None, refl, ap, sym, subst, inl, inr, All, Contains, flat_map, option_to_list, append-nil, All-cons, All-contains, All-nil, Contains-push, filter-append, Takes, Tagged, PostFacts, VoiceFacts, PortDid, post_bytes, voice_bytes, HasTaken, HaveTaken, IsToldCopy, IsToldNotice, PassesFacts, PassesTake, TakesAtMostOne, edits_told, NoteFacts, Opening, Machine, session_of, Copied, IsTold, Noticed, Parcel, Take, bytes_of_take, take_of, takes_by}
use Rattle.mum_outbox.specs.Facts.{PassFacts}
use Rattle.mum_port.specs.Passes.{told_by}

-- what a pass took last is among what it took
took_one : {I : Type 0} (capacity : ℕ) (pass after : PassFacts I) (item : I) → Takes capacity pass (Some item) after
    → (x : Tagged I) × (x.item ≡ item) × Contains after.taken x
took_one capacity pass after item takes =
    (takes.0, takes.1, subst (λ (l : List _). Contains l takes.0) (sym (ap (λ (p : PassFacts _). p.taken) takes.2)) (Contains-push pass.taken takes.0))

-- where a pass took something, that is among what it took
took_at_most : {I : Type 0} (capacity : ℕ) (pass after : PassFacts I) (parcel : Option I) (item : I) → parcel ≡ Some item → TakesAtMostOne capacity pass parcel after
    → (x : Tagged I) × (x.item ≡ item) × Contains after.taken x
took_at_most capacity pass after parcel item is (inl none) = absurd (cc (is, none.0))
took_at_most {I} capacity pass after parcel item is (inr takes) =
    took_one capacity pass after item (subst (λ (o : Option I). Takes capacity pass o after) is takes)

-- ---- whose they are

-- the takes of one machine are of its connection
all_of : {X : Type 0} (connection : ℕ) (machine : Machine) (parcel : X → Parcel) (xs : List X) (b : Bool) → (machine.connection == connection) ≡ b
    → filter (λ (take : Take). take.connection == connection) (map (take_of machine parcel) xs) ≡ cond b (map (take_of machine parcel) xs) []
all_of connection machine parcel [] true is = refl
all_of connection machine parcel [] false is = refl
all_of connection machine parcel (x ∷ xs) b is =
    ap (λ (t : Bool). cond t (take_of machine parcel x ∷ filter (λ (take : Take). take.connection == connection) (map (take_of machine parcel) xs))
    (filter (λ (take : Take). take.connection == connection) (map (take_of machine parcel) xs))) is
    ∙ with_one b (all_of connection machine parcel xs b is)
  where
    with_one : (t : Bool) → filter (λ (take : Take). take.connection == connection) (map (take_of machine parcel) xs) ≡ cond t (map (take_of machine parcel) xs) []
        → cond t (take_of machine parcel x ∷ filter (λ (take : Take). take.connection == connection) (map (take_of machine parcel) xs))
        (filter (λ (take : Take). take.connection == connection) (map (take_of machine parcel) xs)) ≡ cond t (map (take_of machine parcel) (x ∷ xs)) []
    with_one true rest = ap (λ (l : List Take). take_of machine parcel x ∷ l) rest
    with_one false rest = rest

both_of : (b : Bool) (xs ys : List Take) → cond b xs [] ++ cond b ys [] ≡ cond b (xs ++ ys) []
both_of true xs ys = refl
both_of false xs ys = refl

pub takes_of_it : (connection : ℕ) (machine : Machine) (did : PortDid) (b : Bool) → (machine.connection == connection) ≡ b
    → filter (λ (take : Take). take.connection == connection) (takes_by machine did) ≡ cond b (takes_by machine did) []
takes_of_it connection machine did b is =
    let posts = map (take_of machine Noticed) (option_to_list did.post) in
    let voices = map (take_of machine Copied) (option_to_list did.voice) in
    let its : Take → Bool = λ take. take.connection == connection in
    filter-append its posts voices
    ∙ (ap (λ (l : List Take). l ++ filter its voices) (all_of connection machine Noticed (option_to_list did.post) b is)
    ∙ (ap (λ (l : List Take). cond b posts [] ++ l) (all_of connection machine Copied (option_to_list did.voice) b is)
    ∙ both_of b posts voices))

-- ---- what a step took

module _ (opening : Opening) (machine : Machine) where
  -- each of these is sent
  told_options : (edits : List _) (post : Option PostFacts) (voice : Option VoiceFacts)
      → ((one : PostFacts) → post ≡ Some one → IsTold opening edits (take_of machine Noticed one))
      → ((one : VoiceFacts) → voice ≡ Some one → IsTold opening edits (take_of machine Copied one))
      → All (IsTold opening edits) (map (take_of machine Noticed) (option_to_list post) ++ map (take_of machine Copied) (option_to_list voice))
  told_options edits None None posts voices = All-nil (IsTold opening edits)
  told_options edits (Some post) None posts voices =
      All-cons (IsTold opening edits) (take_of machine Noticed post) [] (posts post refl) (All-nil (IsTold opening edits))
  told_options edits None (Some voice) posts voices =
      All-cons (IsTold opening edits) (take_of machine Copied voice) [] (voices voice refl) (All-nil (IsTold opening edits))
  told_options edits (Some post) (Some voice) posts voices =
      All-cons (IsTold opening edits) (take_of machine Noticed post) (take_of machine Copied voice ∷ []) (posts post refl)
      (All-cons (IsTold opening edits) (take_of machine Copied voice) [] (voices voice refl) (All-nil (IsTold opening edits)))

  notice_told : (told : Option NoteFacts) (x : Tagged PostFacts) (one : PostFacts) → x.item ≡ one → IsToldNotice opening told x → IsTold opening (edits_told told) (take_of machine Noticed one)
  notice_told told x one is known =
      subst (λ (p : PostFacts). IsTold opening (edits_told told) (take_of machine Noticed p)) is (record { rules = known.rules; begins = known.begins })

  copy_told : (told : Option NoteFacts) (x : Tagged VoiceFacts) (one : VoiceFacts) → x.item ≡ one → IsToldCopy opening told x → IsTold opening (edits_told told) (take_of machine Copied one)
  copy_told told x one is known =
      subst (λ (p : VoiceFacts). IsTold opening (edits_told told) (take_of machine Copied p)) is (record { rules = known.rules; begins = known.begins })

  taken_told : (old new : PassesFacts) (did : PortDid) → PassesTake (Some old) did (Some new) → HaveTaken opening new → All (IsTold opening (edits_told new.told)) (takes_by machine did)
  taken_told old new did takes held =
      told_options (edits_told new.told) did.post did.voice
      (λ one is. let found = took_at_most _ old.post new.post did.post one is takes.post in
      notice_told new.told found.0 one found.1 (All-contains (IsToldNotice opening new.told) new.post.taken found.0 held.notices found.2))
      (λ one is. let found = took_at_most _ old.voice new.voice did.voice one is takes.voice in
      copy_told new.told found.0 one found.1 (All-contains (IsToldCopy opening new.told) new.voice.taken found.0 held.copies found.2))

  -- what a step took is sent
  pub takes_told : (old new : Option PassesFacts) (did : PortDid) → PassesTake old did new → HasTaken opening new → All (IsTold opening (edits_told (told_by new))) (takes_by machine did)
  takes_told None None did takes held =
      told_options [] did.post did.voice (λ one is. absurd (cc (is, takes.0))) (λ one is. absurd (cc (is, takes.1)))
  takes_told None (Some new) did takes held = absurd takes
  takes_told (Some old) None did takes held = absurd takes
  takes_told (Some old) (Some new) did takes held = taken_told old new did takes held

-- ---- what is written of it

pub written : (machine : Machine) (post : Option PostFacts) (voice : Option VoiceFacts)
    → post_bytes (session_of machine.stage) post ++ voice_bytes (session_of machine.stage) voice
    ≡ flat_map bytes_of_take (map (take_of machine Noticed) (option_to_list post) ++ map (take_of machine Copied) (option_to_list voice))
written machine None None = refl
written machine (Some post) None = refl
written machine None (Some voice) = sym (append-nil (voice_bytes (session_of machine.stage) (Some voice)))
written machine (Some post) (Some voice) =
    ap (λ (l : List ℕ). post_bytes (session_of machine.stage) (Some post) ++ l) (sym (append-nil (voice_bytes (session_of machine.stage) (Some voice))))
