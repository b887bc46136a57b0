-- What the takes from both boxes leave, whichever came first, by the parcels that were taken.
use Rattle.mum_port.proofs.Common.{◌≡◌, ◌≢◌, ℕ, Bool, true, false, ◌&&◌, ◌||◌, not, List, [], ◌∷◌, ◌++◌, Option, Some, None, refl, sym, ap, subst, ◌∙◌, ◌⊎◌, inl, inr, ⊎_elim, true≢false, append-nil, SessionId, POST_CAPACITY, VOICE_CAPACITY, PassFacts, QueueFacts, PostFacts, VoiceFacts, Machine, session_of, is_last, post_bytes, stray_posts, stray_voices, voice_bytes, PortFacts, taking_session, CollectsBehind, TakesParcels, foreign_count, has_taken, stage_after_post, FindsNothing, FindsPostEmpty, FindsVoiceEmpty, TakesAtMostOne, voice_first_after, Taking, PassesFacts, Stage, Live}
use Rattle.mum_port.specs.declared.outbound.Taking.TheVariants.{NotDue}
use Rattle.mum_port.proofs.BoxParts.{PassesAfterPost, PassesAfterVoice, PostLeaves, VoiceLeaves, post-leaves, post_of, taking-is, voice-leaves, voice_of}

-- ---- passes

-- what was taken from both boxes, each looked at or not
abbrev pub BothTaken : Option PassesFacts → Option PostFacts → Option VoiceFacts → Option PassesFacts → Type 0
BothTaken None post voice None = (post ≡ None) × (voice ≡ None)
BothTaken None post voice (Some after) = ⊥
BothTaken (Some passes) post voice None = ⊥
BothTaken (Some passes) post voice (Some after) =
    (after.slot ≡ passes.slot) × TakesAtMostOne POST_CAPACITY passes.post post after.post × TakesAtMostOne VOICE_CAPACITY passes.voice voice after.voice

-- what one take leaves, whether the box was looked at or not
abbrev PostTaken : Option PassesFacts → Option PostFacts → Option PassesFacts → Type 0
PostTaken None post None = post ≡ None
PostTaken None post (Some after) = ⊥
PostTaken (Some passes) post None = ⊥
PostTaken (Some passes) post (Some after) = (after.slot ≡ passes.slot) × (after.voice ≡ passes.voice) × TakesAtMostOne POST_CAPACITY passes.post post after.post

abbrev VoiceTaken : Option PassesFacts → Option VoiceFacts → Option PassesFacts → Type 0
VoiceTaken None voice None = voice ≡ None
VoiceTaken None voice (Some after) = ⊥
VoiceTaken (Some passes) voice None = ⊥
VoiceTaken (Some passes) voice (Some after) = (after.slot ≡ passes.slot) × (after.post ≡ passes.post) × TakesAtMostOne VOICE_CAPACITY passes.voice voice after.voice

post_unlooked : (passes : Option PassesFacts) (post : Option PostFacts) → post ≡ None → PostTaken passes post passes
post_unlooked None post none = none
post_unlooked (Some passes) post none = (refl, refl, inl (none, refl))

post_looked : (posts : List QueueFacts) (passes : Option PassesFacts) (post : Option PostFacts) (after : Option PassesFacts) → PassesAfterPost posts passes post after → PostTaken passes post after
post_looked posts None post None takes = takes
post_looked posts None post (Some after) takes = takes
post_looked posts (Some passes) post None takes = takes
post_looked posts (Some passes) post (Some after) takes = (takes.0, takes.1, takes.2)

voice_unlooked : (passes : Option PassesFacts) (voice : Option VoiceFacts) → voice ≡ None → VoiceTaken passes voice passes
voice_unlooked None voice none = none
voice_unlooked (Some passes) voice none = (refl, refl, inl (none, refl))

voice_looked : (voices : List QueueFacts) (passes : Option PassesFacts) (voice : Option VoiceFacts) (after : Option PassesFacts) → PassesAfterVoice voices passes voice after → VoiceTaken passes voice after
voice_looked voices None voice None takes = takes
voice_looked voices None voice (Some after) takes = takes
voice_looked voices (Some passes) voice None takes = takes
voice_looked voices (Some passes) voice (Some after) takes = (takes.0, takes.1, takes.2)

post_then_voice : (passes mid after : Option PassesFacts) (post : Option PostFacts) (voice : Option VoiceFacts) → PostTaken passes post mid → VoiceTaken mid voice after → BothTaken passes post voice after
post_then_voice None None None post voice posted heard = (posted, heard)
post_then_voice None None (Some after) post voice posted heard = absurd heard
post_then_voice None (Some mid) after post voice posted heard = absurd posted
post_then_voice (Some passes) None after post voice posted heard = absurd posted
post_then_voice (Some passes) (Some mid) None post voice posted heard = absurd heard
post_then_voice (Some passes) (Some mid) (Some after) post voice posted heard = (
  heard.0 ∙ posted.0,
  subst (λ (p : PassFacts PostFacts). TakesAtMostOne POST_CAPACITY passes.post post p) (sym heard.1) posted.2,
  subst (λ (p : PassFacts VoiceFacts). TakesAtMostOne VOICE_CAPACITY p voice after.voice) posted.1 heard.2,
)

voice_then_post : (passes mid after : Option PassesFacts) (post : Option PostFacts) (voice : Option VoiceFacts) → VoiceTaken passes voice mid → PostTaken mid post after → BothTaken passes post voice after
voice_then_post None None None post voice heard posted = (posted, heard)
voice_then_post None None (Some after) post voice heard posted = absurd posted
voice_then_post None (Some mid) after post voice heard posted = absurd heard
voice_then_post (Some passes) None after post voice heard posted = absurd heard
voice_then_post (Some passes) (Some mid) None post voice heard posted = absurd posted
voice_then_post (Some passes) (Some mid) (Some after) post voice heard posted = (
  posted.0 ∙ heard.0,
  subst (λ (p : PassFacts PostFacts). TakesAtMostOne POST_CAPACITY p post after.post) heard.1 posted.2,
  subst (λ (p : PassFacts VoiceFacts). TakesAtMostOne VOICE_CAPACITY passes.voice voice p) (sym posted.1) heard.2,
)

-- ---- boxes that had nothing

post_empty : (posts : List QueueFacts) (passes mid after : Option PassesFacts) (post : Option PostFacts) (voice : Option VoiceFacts)
    → PassesAfterPost posts passes post mid → post ≡ None → VoiceTaken mid voice after → FindsPostEmpty posts passes after
post_empty posts None None None post voice posted none heard = refl
post_empty posts None None (Some after) post voice posted none heard = absurd heard
post_empty posts None (Some mid) after post voice posted none heard = absurd posted
post_empty posts (Some passes) None after post voice posted none heard = absurd posted
post_empty posts (Some passes) (Some mid) None post voice posted none heard = absurd heard
post_empty posts (Some passes) (Some mid) (Some after) post voice posted none heard =
    subst (λ (p : PassFacts PostFacts). FindsNothing POST_CAPACITY posts passes.slot.0 passes.post p) (sym heard.1) (posted.3 none)

voice_empty : (voices : List QueueFacts) (passes mid after : Option PassesFacts) (post : Option PostFacts) (voice : Option VoiceFacts)
    → PassesAfterVoice voices passes voice mid → voice ≡ None → PostTaken mid post after → FindsVoiceEmpty voices passes after
voice_empty voices None None None post voice heard none posted = refl
voice_empty voices None None (Some after) post voice heard none posted = absurd posted
voice_empty voices None (Some mid) after post voice heard none posted = absurd heard
voice_empty voices (Some passes) None after post voice heard none posted = absurd heard
voice_empty voices (Some passes) (Some mid) None post voice heard none posted = absurd posted
voice_empty voices (Some passes) (Some mid) (Some after) post voice heard none posted =
    subst (λ (p : PassFacts VoiceFacts). FindsNothing VOICE_CAPACITY voices passes.slot.0 passes.voice p) (sym posted.1) (heard.3 none)

-- the second box was looked at with the passes that the first left
voice_empty_behind : (voices : List QueueFacts) (passes mid after : Option PassesFacts) (post : Option PostFacts) (voice : Option VoiceFacts)
    → PostTaken passes post mid → PassesAfterVoice voices mid voice after → voice ≡ None → FindsVoiceEmpty voices passes after
voice_empty_behind voices None None None post voice posted heard none = refl
voice_empty_behind voices None None (Some after) post voice posted heard none = absurd heard
voice_empty_behind voices None (Some mid) after post voice posted heard none = absurd posted
voice_empty_behind voices (Some passes) None after post voice posted heard none = absurd posted
voice_empty_behind voices (Some passes) (Some mid) None post voice posted heard none = absurd heard
voice_empty_behind voices (Some passes) (Some mid) (Some after) post voice posted heard none =
    subst (λ (n : ℕ). FindsNothing VOICE_CAPACITY voices n passes.voice after.voice) (ap (λ (s : _). s.0) posted.0)
    (subst (λ (p : PassFacts VoiceFacts). FindsNothing VOICE_CAPACITY voices mid.slot.0 p after.voice) posted.1 (heard.3 none))

post_empty_behind : (posts : List QueueFacts) (passes mid after : Option PassesFacts) (post : Option PostFacts) (voice : Option VoiceFacts)
    → VoiceTaken passes voice mid → PassesAfterPost posts mid post after → post ≡ None → FindsPostEmpty posts passes after
post_empty_behind posts None None None post voice heard posted none = refl
post_empty_behind posts None None (Some after) post voice heard posted none = absurd posted
post_empty_behind posts None (Some mid) after post voice heard posted none = absurd heard
post_empty_behind posts (Some passes) None after post voice heard posted none = absurd heard
post_empty_behind posts (Some passes) (Some mid) None post voice heard posted none = absurd posted
post_empty_behind posts (Some passes) (Some mid) (Some after) post voice heard posted none =
    subst (λ (n : ℕ). FindsNothing POST_CAPACITY posts n passes.post after.post) (ap (λ (s : _). s.0) heard.0)
    (subst (λ (p : PassFacts PostFacts). FindsNothing POST_CAPACITY posts mid.slot.0 p after.post) heard.1 (posted.3 none))

-- ---- which box comes first then

next_first : (post : Option PostFacts) (voice : Option VoiceFacts) (posted heard before : Bool)
    → (posted ≡ false → post ≡ None) → (posted ≡ true → post ≢ None) → (heard ≡ false → voice ≡ None) → (heard ≡ true → voice ≢ None)
    → (not heard && (posted || before)) ≡ voice_first_after post voice before
next_first post (Some voice) posted true before no_post some_post no_voice some_voice = refl
next_first post (Some voice) posted false before no_post some_post no_voice some_voice = absurd (cc (no_voice refl))
next_first post None posted true before no_post some_post no_voice some_voice = absurd (some_voice refl refl)
next_first (Some post) None true false before no_post some_post no_voice some_voice = refl
next_first (Some post) None false false before no_post some_post no_voice some_voice = absurd (cc (no_post refl))
next_first None None true false before no_post some_post no_voice some_voice = absurd (some_post refl refl)
next_first None None false false before no_post some_post no_voice some_voice = refl

-- ---- who looks

pub not_last : (last : Bool) (stage : Stage) → stage_after_post last stage ≡ Live → stage ≡ Live
not_last true stage live = absurd (cc live)
not_last false stage live = live

pub nothing_before : (before more : List ℕ) → before ++ more ≡ [] → before ≡ []
nothing_before [] more none = refl
nothing_before (x ∷ before) more none = absurd (cc none)

pub taking-of : {L : Type 0} (port : PortFacts L) (session : SessionId) → port.stage ≡ Live → port.out ≡ [] → session_of port.machine.stage ≡ Some session → taking_session port ≡ Some session
taking-of port session live none there = rw (live, none) there

pub taking_same : {L : Type 0} (later port : PortFacts L) → later.stage ≡ port.stage → later.out ≡ port.out → session_of later.machine.stage ≡ session_of port.machine.stage
    → taking_session later ≡ taking_session port
taking_same later port stage out session = rw (stage, out, session) refl

none_some : {P : Type 0} (found : Option SessionId) (session : SessionId) → found ≡ None → found ≡ Some session → P
none_some found session none some = absurd (cc (sym none ∙ some))

module _ {L : Type 0} (posts : List QueueFacts) where
  abbrev pub post_behind : (taken : Bool) (old : PortFacts L) (posted : Taking) (new : PortFacts L) → CollectsBehind posts taken old posted new → Option PostFacts
  post_behind true old posted new collects = None
  post_behind false old posted new collects = post_of posts old posted new collects

module _ {L : Type 0} (posts voices : List QueueFacts) where
  -- the boxes were not looked at, or the port might look at them
  abbrev pub LookedForParcels : PortFacts L → Option PostFacts → Option VoiceFacts → PortFacts L → Type 0
  LookedForParcels old post voice new =
      ((post ≡ None) × (voice ≡ None) × (new.passes ≡ old.passes)) ⊎ ((session : SessionId) × (taking_session old ≡ Some session))

  pub record ParcelsLeave (old : PortFacts L) (posted heard : Taking) (new : PortFacts L) (post : Option PostFacts) (voice : Option VoiceFacts) : Type 0 where
    pub out : new.out ≡ (old.out ++ post_bytes (session_of old.machine.stage) post) ++ voice_bytes (session_of old.machine.stage) voice
    pub stage : new.stage ≡ stage_after_post (is_last (session_of old.machine.stage) post) old.stage
    pub post_count : foreign_count posted ≡ stray_posts (session_of old.machine.stage) post
    pub voice_count : foreign_count heard ≡ stray_voices (session_of old.machine.stage) voice
    pub post_idle : has_taken posted ≡ false → post ≡ None
    pub post_worked : has_taken posted ≡ true → post ≢ None
    pub voice_idle : has_taken heard ≡ false → voice ≡ None
    pub voice_worked : has_taken heard ≡ true → voice ≢ None
    pub looked : LookedForParcels old post voice new
    pub taken : BothTaken old.passes post voice new.passes
    pub post_empty_so : (session : SessionId) → taking_session old ≡ Some session → post ≡ None → (old.voice_first ≡ true → voice ≡ None) → FindsPostEmpty posts old.passes new.passes
    pub voice_empty_so : (session : SessionId) → taking_session old ≡ Some session → voice ≡ None
        → (old.voice_first ≡ false → (post_bytes (Some session) post ≡ []) × (is_last (Some session) post ≡ false)) → FindsVoiceEmpty voices old.passes new.passes
    pub notice_behind_notice : old.voice_first ≡ true → post ≢ None → (voice ≡ None) × FindsVoiceEmpty voices old.passes new.passes
    pub voice_behind_voice : old.voice_first ≡ false → voice ≢ None → post ≡ None → FindsPostEmpty posts old.passes new.passes
    pub next : new.voice_first ≡ voice_first_after post voice old.voice_first
    pub link : new.link ≡ old.link
    pub machine : new.machine ≡ old.machine
    pub framer : new.framer ≡ old.framer
    pub waiting : new.waiting ≡ old.waiting

  -- ---- each part by itself

  post_took : (old : PortFacts L) (posted : Taking) (new : PortFacts L) (post : Option PostFacts) → PostLeaves posts old posted new post → PostTaken old.passes post new.passes
  post_took old posted new post leaves = ⊎_elim
      (λ unlooked. subst (PostTaken old.passes post) (sym (ap (λ (p : PortFacts L). p.passes) unlooked.1)) (post_unlooked old.passes post unlooked.0))
      (λ looked. post_looked posts old.passes post new.passes looked.2) leaves.looked

  voice_took : (old : PortFacts L) (heard : Taking) (new : PortFacts L) (voice : Option VoiceFacts) → VoiceLeaves voices old heard new voice → VoiceTaken old.passes voice new.passes
  voice_took old heard new voice leaves = ⊎_elim
      (λ unlooked. subst (VoiceTaken old.passes voice) (sym (ap (λ (p : PortFacts L). p.passes) unlooked.1)) (voice_unlooked old.passes voice unlooked.0))
      (λ looked. voice_looked voices old.passes voice new.passes looked.2) leaves.looked

  -- where the port might look it did, and where it took something it might
  post_was_looked : (old : PortFacts L) (posted : Taking) (new : PortFacts L) (post : Option PostFacts) (session : SessionId) → PostLeaves posts old posted new post
      → taking_session old ≡ Some session → PassesAfterPost posts old.passes post new.passes
  post_was_looked old posted new post session leaves may = ⊎_elim (λ unlooked. none_some (taking_session old) session unlooked.2 may) (λ looked. looked.2) leaves.looked

  voice_was_looked : (old : PortFacts L) (heard : Taking) (new : PortFacts L) (voice : Option VoiceFacts) (session : SessionId) → VoiceLeaves voices old heard new voice
      → taking_session old ≡ Some session → PassesAfterVoice voices old.passes voice new.passes
  voice_was_looked old heard new voice session leaves may = ⊎_elim (λ unlooked. none_some (taking_session old) session unlooked.2 may) (λ looked. looked.2) leaves.looked

  post_might : (old : PortFacts L) (posted : Taking) (new : PortFacts L) (post : Option PostFacts) → PostLeaves posts old posted new post → post ≢ None
      → (session : SessionId) × (taking_session old ≡ Some session)
  post_might old posted new post leaves some = ⊎_elim (λ unlooked. absurd (some unlooked.0)) (λ looked. (looked.0, looked.1)) leaves.looked

  voice_might : (old : PortFacts L) (heard : Taking) (new : PortFacts L) (voice : Option VoiceFacts) → VoiceLeaves voices old heard new voice → voice ≢ None
      → (session : SessionId) × (taking_session old ≡ Some session)
  voice_might old heard new voice leaves some = ⊎_elim (λ unlooked. absurd (some unlooked.0)) (λ looked. (looked.0, looked.1)) leaves.looked

  -- ---- the post box first

  module _ (old mid new : PortFacts L) (posted heard : Taking) (post : Option PostFacts) (voice : Option VoiceFacts)
      (turn : old.voice_first ≡ false) (p : PostLeaves posts old posted mid post) (v : VoiceLeaves voices mid heard new voice) where
    session_mid : session_of mid.machine.stage ≡ session_of old.machine.stage
    session_mid = ap (λ (m : Machine). session_of m.stage) p.machine

    -- a port that might look at its voice box then might have looked at both before
    might_mid : (session : SessionId) → taking_session mid ≡ Some session → taking_session old ≡ Some session
    might_mid session looks =
        let is = taking-is mid session looks in
        taking-of old session (not_last _ old.stage (sym p.stage ∙ is.0)) (nothing_before old.out _ (sym p.out ∙ is.1)) (sym session_mid ∙ is.2)

    -- and one that might look before, where the post box gave nothing that is to come before, might look then
    might_still : (session : SessionId) → taking_session old ≡ Some session → (post_bytes (Some session) post ≡ []) × (is_last (Some session) post ≡ false)
        → taking_session mid ≡ Some session
    might_still session may gave =
        let there = (taking-is old session may).2 in
        taking_same mid old
        (p.stage ∙ (ap (λ (s : Option SessionId). stage_after_post (is_last s post) old.stage) there ∙ ap (λ (b : Bool). stage_after_post b old.stage) gave.1))
        (p.out ∙ (ap (λ (s : Option SessionId). old.out ++ post_bytes s post) there ∙ (ap (λ (l : List ℕ). old.out ++ l) gave.0 ∙ append-nil old.out)))
        session_mid ∙ may

    pub post-first : ParcelsLeave old posted heard new post voice
    post-first = record {
      out = v.out ∙ (ap (λ (s : Option SessionId). mid.out ++ voice_bytes s voice) session_mid ∙ ap (λ (l : List ℕ). l ++ voice_bytes (session_of old.machine.stage) voice) p.out);
      stage = v.stage ∙ p.stage;
      post_count = p.count;
      voice_count = v.count ∙ ap (λ (s : Option SessionId). stray_voices s voice) session_mid;
      post_idle = p.idle;
      post_worked = p.worked;
      voice_idle = v.idle;
      voice_worked = v.worked;
      looked = ⊎_elim
          (λ unlooked. ⊎_elim
          (λ unheard. inl (unlooked.0, unheard.0, ap (λ (x : PortFacts L). x.passes) unheard.1 ∙ ap (λ (x : PortFacts L). x.passes) unlooked.1))
          (λ heard_it. inr (heard_it.0, might_mid heard_it.0 heard_it.1)) v.looked)
          (λ looked. inr (looked.0, looked.1)) p.looked;
      taken = post_then_voice old.passes mid.passes new.passes post voice (post_took old posted mid post p) (voice_took mid heard new voice v);
      post_empty_so = λ session may no_post gave.
          post_empty posts old.passes mid.passes new.passes post voice (post_was_looked old posted mid post session p may) no_post (voice_took mid heard new voice v);
      voice_empty_so = λ session may no_voice gave.
          voice_empty_behind voices old.passes mid.passes new.passes post voice (post_took old posted mid post p)
          (voice_was_looked mid heard new voice session v (might_still session may (gave turn))) no_voice;
      notice_behind_notice = λ first some. absurd (true≢false (sym first ∙ turn));
      voice_behind_voice = λ first some no_post.
          let might = voice_might mid heard new voice v some in
          post_empty posts old.passes mid.passes new.passes post voice (post_was_looked old posted mid post might.0 p (might_mid might.0 might.1)) no_post (voice_took mid heard new voice v);
      next = v.first ∙ (ap (λ (b : Bool). not (has_taken heard) && b) p.first
          ∙ next_first post voice (has_taken posted) (has_taken heard) old.voice_first p.idle p.worked v.idle v.worked);
      link = v.link ∙ p.link;
      machine = v.machine ∙ p.machine;
      framer = v.framer ∙ p.framer;
      waiting = v.waiting ∙ p.waiting;
    }

  -- ---- the voice box first

  module _ (old mid new : PortFacts L) (posted heard : Taking) (post : Option PostFacts) (voice : Option VoiceFacts)
      (turn : old.voice_first ≡ true) (v : VoiceLeaves voices old heard mid voice) where
    -- after a voice packet the post box was not looked at
    pub voice-alone : has_taken heard ≡ true → posted ≡ NotDue → post ≡ None → new ≡ mid → ParcelsLeave old posted heard new post voice
    voice-alone took not_due none same =
        let untaken : has_taken posted ≡ false = ap has_taken not_due in
        let no_notice : has_taken posted ≡ true → post ≢ None = λ is. absurd (true≢false (sym is ∙ untaken)) in record {
          out = ap (λ (x : PortFacts L). x.out) same ∙ (v.out ∙ ap (λ (l : List ℕ). l ++ voice_bytes (session_of old.machine.stage) voice)
              (sym (ap (λ (x : Option PostFacts). old.out ++ post_bytes (session_of old.machine.stage) x) none ∙ append-nil old.out)));
          stage = ap (λ (x : PortFacts L). x.stage) same ∙ (v.stage ∙ ap (λ (x : Option PostFacts). stage_after_post (is_last (session_of old.machine.stage) x) old.stage) (sym none));
          post_count = ap foreign_count not_due ∙ ap (λ (x : Option PostFacts). stray_posts (session_of old.machine.stage) x) (sym none);
          voice_count = v.count;
          post_idle = λ is. none;
          post_worked = no_notice;
          voice_idle = v.idle;
          voice_worked = v.worked;
          looked = ⊎_elim (λ unheard. absurd (v.worked took unheard.0)) (λ heard_it. inr (heard_it.0, heard_it.1)) v.looked;
          taken = subst (λ (x : PortFacts L). BothTaken old.passes post voice x.passes) (sym same)
              (voice_then_post old.passes mid.passes mid.passes post voice (voice_took old heard mid voice v) (post_unlooked mid.passes post none));
          post_empty_so = λ session may no_post gave. absurd (v.worked took (gave turn));
          voice_empty_so = λ session may no_voice gave. absurd (v.worked took no_voice);
          notice_behind_notice = λ first some. absurd (some none);
          voice_behind_voice = λ first some no_post. absurd (true≢false (sym turn ∙ first));
          next = ap (λ (x : PortFacts L). x.voice_first) same ∙ (v.first
              ∙ (ap (λ (b : Bool). not (has_taken heard) && (b || old.voice_first)) (sym untaken)
              ∙ next_first post voice (has_taken posted) (has_taken heard) old.voice_first (λ is. none) no_notice v.idle v.worked));
          link = ap (λ (x : PortFacts L). x.link) same ∙ v.link;
          machine = ap (λ (x : PortFacts L). x.machine) same ∙ v.machine;
          framer = ap (λ (x : PortFacts L). x.framer) same ∙ v.framer;
          waiting = ap (λ (x : PortFacts L). x.waiting) same ∙ v.waiting;
        }

    module _ (untaken : has_taken heard ≡ false) (p : PostLeaves posts mid posted new post) where
      no_voice : voice ≡ None
      no_voice = v.idle untaken

      session_then : session_of mid.machine.stage ≡ session_of old.machine.stage
      session_then = ap (λ (m : Machine). session_of m.stage) v.machine

      out_then : mid.out ≡ old.out
      out_then = v.out ∙ (ap (λ (x : Option VoiceFacts). old.out ++ voice_bytes (session_of old.machine.stage) x) no_voice ∙ append-nil old.out)

      might_then : taking_session mid ≡ taking_session old
      might_then = taking_same mid old v.stage out_then session_then

      first_then : mid.voice_first ≡ old.voice_first
      first_then = v.first ∙ ap (λ (b : Bool). not b && old.voice_first) untaken

      out_last : new.out ≡ old.out ++ post_bytes (session_of old.machine.stage) post
      out_last = p.out ∙ (ap (λ (s : Option SessionId). mid.out ++ post_bytes s post) session_then ∙ ap (λ (l : List ℕ). l ++ post_bytes (session_of old.machine.stage) post) out_then)

      pub voice-then-post : ParcelsLeave old posted heard new post voice
      voice-then-post = record {
        out = out_last ∙ (sym (append-nil (old.out ++ post_bytes (session_of old.machine.stage) post))
            ∙ ap (λ (x : Option VoiceFacts). (old.out ++ post_bytes (session_of old.machine.stage) post) ++ voice_bytes (session_of old.machine.stage) x) (sym no_voice));
        stage = p.stage ∙ (ap (λ (s : Option SessionId). stage_after_post (is_last s post) mid.stage) session_then
            ∙ ap (λ (s : Stage). stage_after_post (is_last (session_of old.machine.stage) post) s) v.stage);
        post_count = p.count ∙ ap (λ (s : Option SessionId). stray_posts s post) session_then;
        voice_count = v.count;
        post_idle = p.idle;
        post_worked = p.worked;
        voice_idle = v.idle;
        voice_worked = v.worked;
        looked = ⊎_elim
            (λ unlooked. ⊎_elim
            (λ unheard. inl (unlooked.0, unheard.0, ap (λ (x : PortFacts L). x.passes) unlooked.1 ∙ ap (λ (x : PortFacts L). x.passes) unheard.1))
            (λ heard_it. inr (heard_it.0, heard_it.1)) v.looked)
            (λ looked. inr (looked.0, sym might_then ∙ looked.1)) p.looked;
        taken = voice_then_post old.passes mid.passes new.passes post voice (voice_took old heard mid voice v) (post_took mid posted new post p);
        post_empty_so = λ session may no_post gave.
            post_empty_behind posts old.passes mid.passes new.passes post voice (voice_took old heard mid voice v)
            (post_was_looked mid posted new post session p (might_then ∙ may)) no_post;
        voice_empty_so = λ session may none gave.
            voice_empty voices old.passes mid.passes new.passes post voice (voice_was_looked old heard mid voice session v may) no_voice (post_took mid posted new post p);
        notice_behind_notice = λ first some.
            let might = post_might mid posted new post p some in (
              no_voice,
              voice_empty voices old.passes mid.passes new.passes post voice (voice_was_looked old heard mid voice might.0 v (sym might_then ∙ might.1)) no_voice (post_took mid posted new post p),
            );
        voice_behind_voice = λ first some no_post. absurd (true≢false (sym turn ∙ first));
        next = p.first ∙ (ap (λ (b : Bool). has_taken posted || b) first_then
            ∙ (ap (λ (b : Bool). not b && (has_taken posted || old.voice_first)) (sym untaken)
            ∙ next_first post voice (has_taken posted) (has_taken heard) old.voice_first p.idle p.worked v.idle v.worked));
        link = p.link ∙ v.link;
        machine = p.machine ∙ v.machine;
        framer = p.framer ∙ v.framer;
        waiting = p.waiting ∙ v.waiting;
      }

  -- ---- both

  abbrev pub post_taken : (old : PortFacts L) (posted heard : Taking) (new : PortFacts L) → TakesParcels posts voices old posted heard new → Option PostFacts
  post_taken old posted heard new (inl first) = post_of posts old posted first.mid first.collects
  post_taken old posted heard new (inr first) = post_behind posts (has_taken heard) first.mid posted new first.collects

  abbrev pub voice_taken : (old : PortFacts L) (posted heard : Taking) (new : PortFacts L) → TakesParcels posts voices old posted heard new → Option VoiceFacts
  voice_taken old posted heard new (inl first) = voice_of voices first.mid heard new first.drains
  voice_taken old posted heard new (inr first) = voice_of voices old heard first.mid first.drains

  behind-leaves : (old mid new : PortFacts L) (posted heard : Taking) (voice : Option VoiceFacts) (turn : old.voice_first ≡ true) (v : VoiceLeaves voices old heard mid voice)
      (taken : Bool) (collects : CollectsBehind posts taken mid posted new) → has_taken heard ≡ taken
      → ParcelsLeave old posted heard new (post_behind posts taken mid posted new collects) voice
  behind-leaves old mid new posted heard voice turn v true collects is = voice-alone old mid new posted heard None voice turn v is collects.0 refl collects.1
  behind-leaves old mid new posted heard voice turn v false collects is =
      voice-then-post old mid new posted heard (post_of posts mid posted new collects) voice turn v is (post-leaves posts mid posted new collects)

  pub parcels-leave : (old : PortFacts L) (posted heard : Taking) (new : PortFacts L) (takes : TakesParcels posts voices old posted heard new)
      → ParcelsLeave old posted heard new (post_taken old posted heard new takes) (voice_taken old posted heard new takes)
  parcels-leave old posted heard new (inl first) =
      post-first old first.mid new posted heard _ _ first.turn (post-leaves posts old posted first.mid first.collects) (voice-leaves voices first.mid heard new first.drains)
  parcels-leave old posted heard new (inr first) =
      behind-leaves old first.mid new posted heard _ first.turn (voice-leaves voices old heard first.mid first.drains) (has_taken heard) first.collects refl
