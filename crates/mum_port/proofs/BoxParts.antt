-- What the takes from the boxes leave, by the parcels that were taken.
use Rattle.mum_port.proofs.Common.{◌≡◌, ◌≢◌, ℕ, Bool, true, false, ◌&&◌, ◌||◌, not, List, [], ◌∷◌, ◌++◌, length, Option, Some, None, refl, sym, ap, subst, ◌∙◌, ◌⊎◌, inl, inr, arith, true≢false, ◌==◌, slice_get, MatchOption, if◌then◌else◌, append-nil, eq-eqb, ne_eqb, SessionId, UDP_TUNNEL, spelling_of, Takes, QueueFacts, POST_CAPACITY, VOICE_CAPACITY, PostFacts, VoiceFacts, session_of, is_for, is_last, post_bytes, stray_posts, stray_voices, voice_bytes, PortFacts, taking_session, is_live, CollectsPost, DrainsVoice, Collects, Drains, HearsParcel, PostsParcel, PassesCollect, PassesDrain, foreign_count, has_taken, stage_after_post, FindsNothing, TakesAtMostOne, Taking, Nothing, Own, Foreign, PassesFacts, Stage, Live}
use Rattle.mum_port.specs.declared.outbound.Taking.TheVariants.{NotDue}
use Rattle.mum_port.proofs.Closing.{live-is}

-- ---- who may look

if_some : {S : Type 0} (test : Bool) (found : Option S) (session : S) → (if test then found else None) ≡ Some session → (test ≡ true) × (found ≡ Some session)
if_some true found session is = (refl, is)
if_some false found session is = absurd (cc is)

both_true : (a b : Bool) → (a && b) ≡ true → (a ≡ true) × (b ≡ true)
both_true true true both = (refl, refl)
both_true true false both = absurd (true≢false (sym both))
both_true false b both = absurd (true≢false (sym both))

pub is_empty : {A : Type 0} (xs : List A) → (length xs == 0) ≡ true → xs ≡ []
is_empty [] is = refl
is_empty (x ∷ xs) is = absurd (true≢false (sym is ∙ ne_eqb (length (x ∷ xs)) 0 (λ none. absurd (omega (arith, none)))))

module _ {L : Type 0} where
  pub taking-is : (port : PortFacts L) (session : SessionId) → taking_session port ≡ Some session
      → (port.stage ≡ Live) × (port.out ≡ []) × (session_of port.machine.stage ≡ Some session)
  taking-is port session is =
      let found = if_some (is_live port.stage && (length port.out == 0)) (session_of port.machine.stage) session is in
      let both = both_true (is_live port.stage) (length port.out == 0) found.0 in
      (live-is port.stage both.0, is_empty port.out both.1, found.1)

-- ---- for whom a parcel is

own-is : (session to : SessionId) → to ≡ session → is_for (Some session) to ≡ true
own-is session to own = eq-eqb to.0 session.0 (ap (λ (s : SessionId). s.0) own)

foreign-is : (session to : SessionId) → to ≢ session → is_for (Some session) to ≡ false
foreign-is session to foreign = ne_eqb to.0 session.0 (λ (same : to.0 ≡ session.0). foreign (ap (λ (n : ℕ). record { 0 = n }) same))

-- ---- the post box

-- what a take came to, by what the box gave
pub record PostCounts (session : SessionId) (post : Option PostFacts) (took : Taking) (out : List ℕ) (stage after : Stage) : Type 0 where
  pub bytes : out ≡ post_bytes (Some session) post
  pub stage_is : after ≡ stage_after_post (is_last (Some session) post) stage
  pub count : foreign_count took ≡ stray_posts (Some session) post
  pub idle : has_taken took ≡ false → post ≡ None
  pub worked : has_taken took ≡ true → post ≢ None

parcel-counts : (session : SessionId) (parcel : PostFacts) (took : Taking) (out : List ℕ) (stage after : Stage)
    → PostsParcel parcel session took out stage after → PostCounts session (Some parcel) took out stage after
parcel-counts session parcel NotDue out stage after posts = absurd posts
parcel-counts session parcel Nothing out stage after posts = absurd posts
parcel-counts session parcel Own out stage after posts =
    let own = own-is session parcel.to posts.0 in record {
      bytes = posts.1 ∙ ap (λ (b : Bool). if b then parcel.bytes else []) (sym own);
      stage_is = posts.2 ∙ ap (λ (b : Bool). stage_after_post (b && parcel.last) stage) (sym own);
      count = ap (λ (b : Bool). if b then 0 else 1) (sym own);
      idle = λ is. absurd (true≢false is);
      worked = λ is none. absurd (cc none);
    }
parcel-counts session parcel Foreign out stage after posts =
    let other = foreign-is session parcel.to posts.0 in record {
      bytes = posts.1 ∙ ap (λ (b : Bool). if b then parcel.bytes else []) (sym other);
      stage_is = posts.2 ∙ ap (λ (b : Bool). stage_after_post (b && parcel.last) stage) (sym other);
      count = ap (λ (b : Bool). if b then 0 else 1) (sym other);
      idle = λ is. absurd (true≢false is);
      worked = λ is none. absurd (cc none);
    }

taken-counts : (session : SessionId) (post : Option PostFacts) (took : Taking) (out : List ℕ) (stage after : Stage)
    → MatchOption post ((took ≡ Nothing) × (out ≡ []) × (after ≡ stage)) (λ one. PostsParcel one session took out stage after) → PostCounts session post took out stage after
taken-counts session (Some parcel) took out stage after posts = parcel-counts session parcel took out stage after posts
taken-counts session None took out stage after posts = record {
  bytes = posts.1;
  stage_is = posts.2;
  count = ap foreign_count posts.0;
  idle = λ is. refl;
  worked = λ is. absurd (true≢false (sym is ∙ ap has_taken posts.0));
}

untaken-counts : (session : SessionId) (took : Taking) (out : List ℕ) (stage after : Stage) → took ≡ NotDue → out ≡ [] → after ≡ stage
    → PostCounts session None took out stage after
untaken-counts session took out stage after not_due none same = record {
  bytes = none;
  stage_is = same;
  count = ap foreign_count not_due;
  idle = λ is. refl;
  worked = λ is. absurd (true≢false (sym is ∙ ap has_taken not_due));
}

-- what becomes of the passes
abbrev pub PassesAfterPost : List QueueFacts → Option PassesFacts → Option PostFacts → Option PassesFacts → Type 0
PassesAfterPost posts None post None = post ≡ None
PassesAfterPost posts None post (Some after) = ⊥
PassesAfterPost posts (Some passes) post None = ⊥
PassesAfterPost posts (Some passes) post (Some after) =
    (after.slot ≡ passes.slot) × (after.voice ≡ passes.voice) × TakesAtMostOne POST_CAPACITY passes.post post after.post
    × (post ≡ None → FindsNothing POST_CAPACITY posts passes.slot.0 passes.post after.post)

abbrev pub post_in_passes : (posts : List QueueFacts) (session : SessionId) (passes : PassesFacts) (stage : Stage) (took : Taking) (passes_after : PassesFacts) (out : List ℕ) (after : Stage)
    → PassesCollect posts session passes stage took passes_after out after → Option PostFacts
post_in_passes posts session passes stage took passes_after out after (inl none) = None
post_in_passes posts session passes stage took passes_after out after (inr takes) = takes.parcel

abbrev pub post_in : (posts : List QueueFacts) (session : SessionId) (passes : Option PassesFacts) (stage : Stage) (took : Taking) (passes_after : Option PassesFacts) (out : List ℕ) (after : Stage)
    → Collects posts session passes stage took passes_after out after → Option PostFacts
post_in posts session None stage took None out after collects = None
post_in posts session None stage took (Some passes_after) out after collects = None
post_in posts session (Some passes) stage took None out after collects = None
post_in posts session (Some passes) stage took (Some passes_after) out after collects = post_in_passes posts session passes stage took passes_after out after collects

no_box_there : {P : Type 0} (found : Option QueueFacts) (queue : QueueFacts) → found ≡ None → found ≡ Some queue → P
no_box_there found queue none some = absurd (cc (sym none ∙ some))

post_passes : (posts : List QueueFacts) (session : SessionId) (passes : PassesFacts) (stage : Stage) (took : Taking) (passes_after : PassesFacts) (out : List ℕ) (after : Stage)
    (collects : PassesCollect posts session passes stage took passes_after out after)
    → PostCounts session (post_in_passes posts session passes stage took passes_after out after collects) took out stage after
    × PassesAfterPost posts (Some passes) (post_in_passes posts session passes stage took passes_after out after collects) (Some passes_after)
post_passes posts session passes stage took passes_after out after (inl (none, same)) = (
  untaken-counts session took out stage after none.not_due none.out_same same,
  (
    ap (λ (s : PassesFacts). s.slot) none.passes_same,
    ap (λ (s : PassesFacts). s.voice) none.passes_same,
    inl (refl, ap (λ (s : PassesFacts). s.post) none.passes_same),
    λ unused queue found. no_box_there (slice_get posts passes.slot.0) queue none.no_box found,
  ),
)
post_passes posts session passes stage took passes_after out after (inr takes) =
    let given : Takes POST_CAPACITY passes.post takes.parcel passes_after.post = subst (λ (s : PassesFacts). Takes POST_CAPACITY passes.post takes.parcel s.post) (sym takes.after) takes.takes in (
      taken-counts session takes.parcel took out stage after takes.posted,
      (
        ap (λ (s : PassesFacts). s.slot) takes.after,
        ap (λ (s : PassesFacts). s.voice) takes.after,
        inr given,
        λ none queue found. subst (λ (p : Option PostFacts). Takes POST_CAPACITY passes.post p passes_after.post) none given,
      ),
    )

post_option : (posts : List QueueFacts) (session : SessionId) (passes : Option PassesFacts) (stage : Stage) (took : Taking) (passes_after : Option PassesFacts) (out : List ℕ) (after : Stage)
    (collects : Collects posts session passes stage took passes_after out after)
    → PostCounts session (post_in posts session passes stage took passes_after out after collects) took out stage after
    × PassesAfterPost posts passes (post_in posts session passes stage took passes_after out after collects) passes_after
post_option posts session None stage took None out after collects = (untaken-counts session took out stage after collects.0 collects.1 collects.2, refl)
post_option posts session None stage took (Some passes_after) out after collects = absurd collects
post_option posts session (Some passes) stage took None out after collects = absurd collects
post_option posts session (Some passes) stage took (Some passes_after) out after collects = post_passes posts session passes stage took passes_after out after collects

module _ {L : Type 0} (posts : List QueueFacts) where
  abbrev pub post_of : (old : PortFacts L) (took : Taking) (new : PortFacts L) → CollectsPost posts old took new → Option PostFacts
  post_of old took new (inl nothing) = None
  post_of old took new (inr one) = post_in posts one.session old.passes old.stage took new.passes new.out new.stage one.taken

  -- the box was not looked at, or the port might look at it
  abbrev pub LookedForPost : PortFacts L → Option PostFacts → PortFacts L → Type 0
  LookedForPost old post new =
      ((post ≡ None) × (new ≡ old) × (taking_session old ≡ None))
      ⊎ ((session : SessionId) × (taking_session old ≡ Some session) × PassesAfterPost posts old.passes post new.passes)

  pub record PostLeaves (old : PortFacts L) (took : Taking) (new : PortFacts L) (post : Option PostFacts) : Type 0 where
    pub out : new.out ≡ old.out ++ post_bytes (session_of old.machine.stage) post
    pub stage : new.stage ≡ stage_after_post (is_last (session_of old.machine.stage) post) old.stage
    pub count : foreign_count took ≡ stray_posts (session_of old.machine.stage) post
    pub idle : has_taken took ≡ false → post ≡ None
    pub worked : has_taken took ≡ true → post ≢ None
    pub looked : LookedForPost old post new
    pub first : new.voice_first ≡ (has_taken took || old.voice_first)
    pub link : new.link ≡ old.link
    pub machine : new.machine ≡ old.machine
    pub framer : new.framer ≡ old.framer
    pub waiting : new.waiting ≡ old.waiting

  pub post-leaves : (old : PortFacts L) (took : Taking) (new : PortFacts L) (collects : CollectsPost posts old took new) → PostLeaves old took new (post_of old took new collects)
  post-leaves old took new (inl nothing) = record {
    out = ap (λ (p : PortFacts L). p.out) nothing.same ∙ sym (append-nil old.out);
    stage = ap (λ (p : PortFacts L). p.stage) nothing.same;
    count = ap foreign_count nothing.so;
    idle = λ is. refl;
    worked = λ is. absurd (true≢false (sym is ∙ ap has_taken nothing.so));
    looked = inl (refl, nothing.same, nothing.forbidden);
    first = ap (λ (p : PortFacts L). p.voice_first) nothing.same ∙ ap (λ (t : Taking). has_taken t || old.voice_first) (sym nothing.so);
    link = ap (λ (p : PortFacts L). p.link) nothing.same;
    machine = ap (λ (p : PortFacts L). p.machine) nothing.same;
    framer = ap (λ (p : PortFacts L). p.framer) nothing.same;
    waiting = ap (λ (p : PortFacts L). p.waiting) nothing.same;
  }
  post-leaves old took new (inr one) =
      let may = taking-is old one.session one.allowed in
      let both = post_option posts one.session old.passes old.stage took new.passes new.out new.stage one.taken in
      let counts = both.0 in record {
        out = counts.bytes ∙ ap (λ (s : Option SessionId). post_bytes s (post_of old took new (inr one))) (sym may.2)
            ∙ ap (λ (l : List ℕ). l ++ post_bytes (session_of old.machine.stage) (post_of old took new (inr one))) (sym may.1);
        stage = counts.stage_is ∙ ap (λ (s : Option SessionId). stage_after_post (is_last s (post_of old took new (inr one))) old.stage) (sym may.2);
        count = counts.count ∙ ap (λ (s : Option SessionId). stray_posts s (post_of old took new (inr one))) (sym may.2);
        idle = counts.idle;
        worked = counts.worked;
        looked = inr (one.session, one.allowed, both.1);
        first = ap (λ (p : PortFacts L). p.voice_first) one.left;
        link = ap (λ (p : PortFacts L). p.link) one.left;
        machine = ap (λ (p : PortFacts L). p.machine) one.left;
        framer = ap (λ (p : PortFacts L). p.framer) one.left;
        waiting = ap (λ (p : PortFacts L). p.waiting) one.left;
      }

-- ---- the voice box

pub record VoiceCounts (session : SessionId) (voice : Option VoiceFacts) (took : Taking) (out : List ℕ) : Type 0 where
  pub bytes : out ≡ voice_bytes (Some session) voice
  pub count : foreign_count took ≡ stray_voices (Some session) voice
  pub idle : has_taken took ≡ false → voice ≡ None
  pub worked : has_taken took ≡ true → voice ≢ None

packet-counts : (session : SessionId) (parcel : VoiceFacts) (took : Taking) (out : List ℕ) → HearsParcel parcel session took out → VoiceCounts session (Some parcel) took out
packet-counts session parcel NotDue out hears = absurd hears
packet-counts session parcel Nothing out hears = absurd hears
packet-counts session parcel Own out hears =
    let own = own-is session parcel.to hears.0 in record {
      bytes = hears.1 ∙ ap (λ (b : Bool). if b then spelling_of UDP_TUNNEL parcel.bytes else []) (sym own);
      count = ap (λ (b : Bool). if b then 0 else 1) (sym own);
      idle = λ is. absurd (true≢false is);
      worked = λ is none. absurd (cc none);
    }
packet-counts session parcel Foreign out hears =
    let other = foreign-is session parcel.to hears.0 in record {
      bytes = hears.1 ∙ ap (λ (b : Bool). if b then spelling_of UDP_TUNNEL parcel.bytes else []) (sym other);
      count = ap (λ (b : Bool). if b then 0 else 1) (sym other);
      idle = λ is. absurd (true≢false is);
      worked = λ is none. absurd (cc none);
    }

heard-counts : (session : SessionId) (voice : Option VoiceFacts) (took : Taking) (out : List ℕ) → MatchOption voice ((took ≡ Nothing) × (out ≡ [])) (λ one. HearsParcel one session took out) → VoiceCounts session voice took out
heard-counts session (Some parcel) took out hears = packet-counts session parcel took out hears
heard-counts session None took out hears = record {
  bytes = hears.1;
  count = ap foreign_count hears.0;
  idle = λ is. refl;
  worked = λ is. absurd (true≢false (sym is ∙ ap has_taken hears.0));
}

unheard-counts : (session : SessionId) (took : Taking) (out : List ℕ) → took ≡ NotDue → out ≡ [] → VoiceCounts session None took out
unheard-counts session took out not_due none = record {
  bytes = none;
  count = ap foreign_count not_due;
  idle = λ is. refl;
  worked = λ is. absurd (true≢false (sym is ∙ ap has_taken not_due));
}

abbrev pub PassesAfterVoice : List QueueFacts → Option PassesFacts → Option VoiceFacts → Option PassesFacts → Type 0
PassesAfterVoice voices None voice None = voice ≡ None
PassesAfterVoice voices None voice (Some after) = ⊥
PassesAfterVoice voices (Some passes) voice None = ⊥
PassesAfterVoice voices (Some passes) voice (Some after) =
    (after.slot ≡ passes.slot) × (after.post ≡ passes.post) × TakesAtMostOne VOICE_CAPACITY passes.voice voice after.voice
    × (voice ≡ None → FindsNothing VOICE_CAPACITY voices passes.slot.0 passes.voice after.voice)

abbrev pub voice_in_passes : (voices : List QueueFacts) (session : SessionId) (passes : PassesFacts) (took : Taking) (passes_after : PassesFacts) (out : List ℕ)
    → PassesDrain voices session passes took passes_after out → Option VoiceFacts
voice_in_passes voices session passes took passes_after out (inl none) = None
voice_in_passes voices session passes took passes_after out (inr takes) = takes.parcel

abbrev pub voice_in : (voices : List QueueFacts) (session : SessionId) (passes : Option PassesFacts) (took : Taking) (passes_after : Option PassesFacts) (out : List ℕ)
    → Drains voices session passes took passes_after out → Option VoiceFacts
voice_in voices session None took None out drains = None
voice_in voices session None took (Some passes_after) out drains = None
voice_in voices session (Some passes) took None out drains = None
voice_in voices session (Some passes) took (Some passes_after) out drains = voice_in_passes voices session passes took passes_after out drains

voice_passes : (voices : List QueueFacts) (session : SessionId) (passes : PassesFacts) (took : Taking) (passes_after : PassesFacts) (out : List ℕ)
    (drains : PassesDrain voices session passes took passes_after out)
    → VoiceCounts session (voice_in_passes voices session passes took passes_after out drains) took out
    × PassesAfterVoice voices (Some passes) (voice_in_passes voices session passes took passes_after out drains) (Some passes_after)
voice_passes voices session passes took passes_after out (inl none) = (
  unheard-counts session took out none.not_due none.out_same,
  (
    ap (λ (s : PassesFacts). s.slot) none.passes_same,
    ap (λ (s : PassesFacts). s.post) none.passes_same,
    inl (refl, ap (λ (s : PassesFacts). s.voice) none.passes_same),
    λ unused queue found. no_box_there (slice_get voices passes.slot.0) queue none.no_box found,
  ),
)
voice_passes voices session passes took passes_after out (inr takes) =
    let given : Takes VOICE_CAPACITY passes.voice takes.parcel passes_after.voice = subst (λ (s : PassesFacts). Takes VOICE_CAPACITY passes.voice takes.parcel s.voice) (sym takes.after) takes.takes in (
      heard-counts session takes.parcel took out takes.heard,
      (
        ap (λ (s : PassesFacts). s.slot) takes.after,
        ap (λ (s : PassesFacts). s.post) takes.after,
        inr given,
        λ none queue found. subst (λ (p : Option VoiceFacts). Takes VOICE_CAPACITY passes.voice p passes_after.voice) none given,
      ),
    )

voice_option : (voices : List QueueFacts) (session : SessionId) (passes : Option PassesFacts) (took : Taking) (passes_after : Option PassesFacts) (out : List ℕ)
    (drains : Drains voices session passes took passes_after out)
    → VoiceCounts session (voice_in voices session passes took passes_after out drains) took out
    × PassesAfterVoice voices passes (voice_in voices session passes took passes_after out drains) passes_after
voice_option voices session None took None out drains = (unheard-counts session took out drains.0 drains.1, refl)
voice_option voices session None took (Some passes_after) out drains = absurd drains
voice_option voices session (Some passes) took None out drains = absurd drains
voice_option voices session (Some passes) took (Some passes_after) out drains = voice_passes voices session passes took passes_after out drains

module _ {L : Type 0} (voices : List QueueFacts) where
  abbrev pub voice_of : (old : PortFacts L) (took : Taking) (new : PortFacts L) → DrainsVoice voices old took new → Option VoiceFacts
  voice_of old took new (inl nothing) = None
  voice_of old took new (inr one) = voice_in voices one.session old.passes took new.passes new.out one.taken

  abbrev pub LookedForVoice : PortFacts L → Option VoiceFacts → PortFacts L → Type 0
  LookedForVoice old voice new =
      ((voice ≡ None) × (new ≡ old) × (taking_session old ≡ None))
      ⊎ ((session : SessionId) × (taking_session old ≡ Some session) × PassesAfterVoice voices old.passes voice new.passes)

  pub record VoiceLeaves (old : PortFacts L) (took : Taking) (new : PortFacts L) (voice : Option VoiceFacts) : Type 0 where
    pub out : new.out ≡ old.out ++ voice_bytes (session_of old.machine.stage) voice
    pub stage : new.stage ≡ old.stage
    pub count : foreign_count took ≡ stray_voices (session_of old.machine.stage) voice
    pub idle : has_taken took ≡ false → voice ≡ None
    pub worked : has_taken took ≡ true → voice ≢ None
    pub looked : LookedForVoice old voice new
    pub first : new.voice_first ≡ (not (has_taken took) && old.voice_first)
    pub link : new.link ≡ old.link
    pub machine : new.machine ≡ old.machine
    pub framer : new.framer ≡ old.framer
    pub waiting : new.waiting ≡ old.waiting

  pub voice-leaves : (old : PortFacts L) (took : Taking) (new : PortFacts L) (drains : DrainsVoice voices old took new) → VoiceLeaves old took new (voice_of old took new drains)
  voice-leaves old took new (inl nothing) = record {
    out = ap (λ (p : PortFacts L). p.out) nothing.same ∙ sym (append-nil old.out);
    stage = ap (λ (p : PortFacts L). p.stage) nothing.same;
    count = ap foreign_count nothing.so;
    idle = λ is. refl;
    worked = λ is. absurd (true≢false (sym is ∙ ap has_taken nothing.so));
    looked = inl (refl, nothing.same, nothing.forbidden);
    first = ap (λ (p : PortFacts L). p.voice_first) nothing.same ∙ ap (λ (t : Taking). not (has_taken t) && old.voice_first) (sym nothing.so);
    link = ap (λ (p : PortFacts L). p.link) nothing.same;
    machine = ap (λ (p : PortFacts L). p.machine) nothing.same;
    framer = ap (λ (p : PortFacts L). p.framer) nothing.same;
    waiting = ap (λ (p : PortFacts L). p.waiting) nothing.same;
  }
  voice-leaves old took new (inr one) =
      let may = taking-is old one.session one.allowed in
      let both = voice_option voices one.session old.passes took new.passes new.out one.taken in
      let counts = both.0 in record {
        out = counts.bytes ∙ ap (λ (s : Option SessionId). voice_bytes s (voice_of old took new (inr one))) (sym may.2)
            ∙ ap (λ (l : List ℕ). l ++ voice_bytes (session_of old.machine.stage) (voice_of old took new (inr one))) (sym may.1);
        stage = ap (λ (p : PortFacts L). p.stage) one.left;
        count = counts.count ∙ ap (λ (s : Option SessionId). stray_voices s (voice_of old took new (inr one))) (sym may.2);
        idle = counts.idle;
        worked = counts.worked;
        looked = inr (one.session, one.allowed, both.1);
        first = ap (λ (p : PortFacts L). p.voice_first) one.left;
        link = ap (λ (p : PortFacts L). p.link) one.left;
        machine = ap (λ (p : PortFacts L). p.machine) one.left;
        framer = ap (λ (p : PortFacts L). p.framer) one.left;
        waiting = ap (λ (p : PortFacts L). p.waiting) one.left;
      }
