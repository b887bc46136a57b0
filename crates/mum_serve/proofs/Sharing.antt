-- The queues that workers share, one worker after another.
use Rattle.mum_serve.proofs.Common.{◌≡◌, ◌∙◌, ℕ, ◌+◌, ◌*◌, ◌^◌, ◌<◌, ◌≤◌, List, [], ◌∷◌, ◌++◌, length, length-append, map, refl, sym, ap, subst, arith, All, AllByRecursion, length-map, map-append, All-nil, All-push, HasNumbers, IsFirst, lower_half, new_pass, upper_half, LAST, QueueFacts, QueueId, first_has, has_fewer, lower_has, upper_has, SLOTS, queues_of, Shared, post_queues, AreNamedFrom, AreShared, HasBoxes, HaveShared, SharesHalf, SharesQueues, bells_of, numbers_behind, Ends}
use Rattle.mum_serve.specs.Queues.{HaveNumbers}
use Rattle.mum_serve.proofs.Naming.{have_fewer, lower_have, named_apart, named_more, numbers_at_first, numbers_left, numbers_step, same_lower, same_upper, upper_have}

-- what holds of each holds of each with one more
pub all_behind : {X : Type 0} (P : X → Type 0) (xs : List X) (x : X) → AllByRecursion P xs → P x → AllByRecursion P (xs ++ x ∷ [])
all_behind P [] x all holds = (holds, tt)
all_behind P (first ∷ xs) x all holds = (all.0, all_behind P xs x all.1 holds)

-- new passes of the post boxes are of these boxes
pub new_posts : (boxes : List QueueFacts) → post_queues (map new_pass boxes) ≡ queues_of boxes
new_posts [] = refl
new_posts (box ∷ boxes) = ap (λ (qs : List QueueId). box.queue ∷ qs) (new_posts boxes)

one_longer : {X : Type 0} (old new : List X) (x : X) (many : ℕ) → new ≡ old ++ x ∷ [] → length old ≡ many → length new ≡ many + 1
one_longer old new x many pushed is =
    let all = ap (λ (xs : List _). length xs) pushed in
    let last = length-append old (x ∷ []) in
    omega (arith, all, last, is)

module _ {L N : Type 0} where
  -- what one worker more shares
  shared_more : (posts later_posts voices later_voices : List QueueId) (desk later_desk : QueueId) (old new : List (Shared L N)) (one : Shared L N)
      → later_posts ≡ posts → later_voices ≡ voices → later_desk ≡ desk → new ≡ old ++ one ∷ []
      → AllByRecursion (SharesQueues posts voices desk) old → SharesQueues posts voices desk one → AllByRecursion (SharesQueues later_posts later_voices later_desk) new
  shared_more posts later_posts voices later_voices desk later_desk old new one same_posts same_voices same_desk pushed all shares =
      rw (same_posts, same_voices, same_desk, pushed) (all_behind (SharesQueues posts voices desk) old one all shares)

  -- and its bell
  bells_more : (old new : List (Shared L N)) (one : Shared L N) (bells later : List QueueFacts) (bell : QueueFacts)
      → bells_of old ≡ queues_of bells → new ≡ old ++ one ∷ [] → later ≡ bells ++ bell ∷ [] → one.bell.queue ≡ bell.queue → bells_of new ≡ queues_of later
  bells_more old new one bells later bell so pushed hung is =
      ap (λ (xs : List (Shared L N)). bells_of xs) pushed
      ∙ map-append (λ (s : Shared L N). s.bell.queue) old (one ∷ [])
      ∙ ap (λ (names : List QueueId). names ++ one.bell.queue ∷ []) so
      ∙ ap (λ (name : QueueId). queues_of bells ++ name ∷ []) is
      ∙ sym (map-append (λ (q : QueueFacts). q.queue) bells (bell ∷ []))
      ∙ sym (ap (λ (qs : List QueueFacts). queues_of qs) hung)

  -- the owners that are left have half of the numbers
  numbers_halved : (count : ℕ) (old new : Ends N) (bell : QueueFacts) (one : Shared L N) → SharesHalf old new bell one → HaveNumbers (2 * count) old → HaveNumbers count new
  numbers_halved count old new bell one half has = record {
    voices = subst (All (HasNumbers count)) (sym half.voices) (lower_have count old.voices.items has.voices);
    posts = subst (All (HasNumbers count)) (sym half.posts) (lower_have count old.posts.items has.posts);
    desk = subst (HasNumbers count) (sym half.desk) (lower_has count old.desk has.desk);
  }

  -- and so has the worker
  boxes_halved : (count : ℕ) (old new : Ends N) (bell : QueueFacts) (one : Shared L N) → SharesHalf old new bell one → HaveNumbers (2 * count) old → 2 ^ 33 ≤ count
      → length old.voices.items ≡ SLOTS → length old.posts.items ≡ SLOTS → HasBoxes one
  boxes_halved count old new bell one half has enough voices posts = record {
    voice = ap (λ (qs : List QueueFacts). length qs) half.voice_half ∙ length-map old.voices.items upper_half ∙ voices;
    posts = ap (λ (qs : List QueueFacts). length qs) half.post_half ∙ length-map old.posts.items upper_half ∙ posts;
    voice_numbers = have_fewer count (2 ^ 33) one.voice.items enough (subst (All (HasNumbers count)) (sym half.voice_half) (upper_have count old.voices.items has.voices));
    post_numbers = have_fewer count (2 ^ 33) one.posts.items enough (subst (All (HasNumbers count)) (sym half.post_half) (upper_have count old.posts.items has.posts));
    desk_numbers = has_fewer count (2 ^ 33) one.desk enough (subst (HasNumbers count) (sym half.desk_half) (upper_has count old.desk has.desk));
  }

  pub one_more : (workers : ℕ) (old new : Ends N) (bell end : QueueFacts) (one : Shared L N) (bells later : List QueueFacts) (shared all : List (Shared L N))
      → workers < 8 → HaveShared workers old bells shared → SharesHalf old new end one → end.queue ≡ bell.queue → bell.queue.name ≡ workers
      → later ≡ bells ++ bell ∷ [] → all ≡ shared ++ one ∷ [] → HaveShared (workers + 1) new later all
  one_more workers old new bell end one bells later shared all few so half same name hung pushed =
      let twice : HaveNumbers (2 * numbers_behind (workers + 1)) old = subst (λ (n : ℕ). HaveNumbers n old) (numbers_step workers few) so.numbers in
      let same_voices : queues_of new.voices.items ≡ queues_of old.voices.items = ap (λ (qs : List QueueFacts). queues_of qs) half.voices ∙ same_lower old.voices.items in
      let same_posts : queues_of new.posts.items ≡ queues_of old.posts.items = ap (λ (qs : List QueueFacts). queues_of qs) half.posts ∙ same_lower old.posts.items in
      record {
        numbers = numbers_halved (numbers_behind (workers + 1)) old new end one half twice;
        voices = ap (λ (qs : List QueueFacts). length qs) half.voices ∙ length-map old.voices.items lower_half ∙ so.voices;
        posts = ap (λ (qs : List QueueFacts). length qs) half.posts ∙ length-map old.posts.items lower_half ∙ so.posts;
        voices_named = subst (AreNamedFrom 0) (sym same_voices) so.voices_named;
        posts_named = subst (AreNamedFrom 0) (sym same_posts) so.posts_named;
        bells_named = named_more bells later bell hung (name ∙ sym so.bells_many) so.bells_named;
        bells_many = one_longer bells later bell workers hung so.bells_many;
        shares = one_longer shared all one workers pushed so.shares;
        boxes = subst (All HasBoxes) (sym pushed)
            (All-push HasBoxes shared one so.boxes (boxes_halved (numbers_behind (workers + 1)) old new end one half twice (numbers_left (workers + 1)) so.voices so.posts));
        bells_are = bells_more shared all one bells later bell so.bells_are pushed hung (ap (λ (b : QueueFacts). b.queue) half.bell_is ∙ same);
        each = shared_more (queues_of old.posts.items) (queues_of new.posts.items) (queues_of old.voices.items) (queues_of new.voices.items) old.desk.queue new.desk.queue shared all one
            same_posts same_voices (ap (λ (q : QueueFacts). q.queue) half.desk) pushed so.each (record {
              posts_are = ap (λ (qs : List QueueFacts). queues_of qs) half.post_half ∙ same_upper old.posts.items;
              voices_are = ap (λ (qs : List QueueFacts). queues_of qs) half.voice_half ∙ same_upper old.voices.items;
              desk_is = ap (λ (q : QueueFacts). q.queue) half.desk_half;
            });
      }

  -- no worker got its half yet
  pub none_shared : (ends : Ends N) (bells : List QueueFacts) (shared : List (Shared L N)) → bells ≡ [] → shared ≡ [] → length ends.voices.items ≡ SLOTS → length ends.posts.items ≡ SLOTS
      → AreNamedFrom 0 (queues_of ends.voices.items) → AreNamedFrom 0 (queues_of ends.posts.items) → All (HasNumbers LAST) ends.voices.items → All (HasNumbers LAST) ends.posts.items
      → IsFirst 0 ends.desk → HaveShared 0 ends bells shared
  none_shared ends bells shared no_bell nobody voices posts voices_named posts_named voice_numbers post_numbers desk = record {
    numbers = record {
      voices = have_fewer LAST (numbers_behind 0) ends.voices.items numbers_at_first voice_numbers;
      posts = have_fewer LAST (numbers_behind 0) ends.posts.items numbers_at_first post_numbers;
      desk = has_fewer LAST (numbers_behind 0) ends.desk numbers_at_first (first_has 0 ends.desk desk);
    };
    voices = voices;
    posts = posts;
    voices_named = voices_named;
    posts_named = posts_named;
    bells_named = subst (λ (bs : List QueueFacts). AreNamedFrom 0 (queues_of bs)) (sym no_bell) tt;
    bells_many = ap (λ (bs : List QueueFacts). length bs) no_bell;
    shares = ap (λ (ss : List (Shared L N)). length ss) nobody;
    boxes = subst (All HasBoxes) (sym nobody) (All-nil HasBoxes);
    bells_are = ap (λ (ss : List (Shared L N)). bells_of ss) nobody ∙ sym (ap (λ (bs : List QueueFacts). queues_of bs) no_bell);
    each = subst (AllByRecursion (SharesQueues (queues_of ends.posts.items) (queues_of ends.voices.items) ends.desk.queue)) (sym nobody) tt;
  }

  pub are_shared : (workers : ℕ) (ends : Ends N) (bells : List QueueFacts) (shared : List (Shared L N)) → HaveShared workers ends bells shared
      → AreShared (queues_of ends.posts.items) ends.desk.queue (queues_of bells) shared
  are_shared workers ends bells shared so = record {
    bells_are = so.bells_are;
    voices = queues_of ends.voices.items;
    each = so.each;
    bells_apart = named_apart 0 (queues_of bells) so.bells_named;
    posts_apart = named_apart 0 (queues_of ends.posts.items) so.posts_named;
    voices_apart = named_apart 0 (queues_of ends.voices.items) so.voices_named;
  }

  -- the passes of the post boxes stand for the boxes
  pub shared_by : (posts names : List QueueId) (desk : QueueId) (bells : List QueueId) (shared : List (Shared L N)) → names ≡ posts → AreShared posts desk bells shared → AreShared names desk bells shared
  shared_by posts names desk bells shared same are = rw same are
