-- What a port puts on the desk: each command once, in order, and then its farewell.
use Rattle.mum_port.proofs.Common.{◌≡◌, ℕ, Bool, true, false, IsTrue, List, [], ◌∷◌, ◌++◌, Option, Some, None, refl, sym, ap, subst, ◌∙◌, inl, inr, true≢false, append_assoc, is_none, not, append-nil, option_to_list, Cause, SessionId, ReplyEnd, Frame, LinkFacts, Machine, session_of, PortDid, asked_item, is_last, port_after_put, stage_once_put, waiting_after_put, PortFacts, leave, may_handle, new_port, next_item, next_word, waiting_after, Event, Lives, Steps, items_asked, items_put, lagged, replied, stepped, words_said, is_closed, is_live, stage_after_reply, stage_after_post, Settled, DeskItem, Leave, LastWord, Done, Stage, Live, Ending, Closed}
use Rattle.mum_port.proofs.{Closing.and-left, Course.stage_once_put-closed, Idle.and-right, Idle.none_of, Living.quiet}
use Rattle.mum_base.specs.declared.reply.ReplyEnd.TheVariants as ends
use Rattle.mum_port.specs.declared.item.DeskItem.TheVariants as items

-- the desk has a word of the farewell
abbrev has_left : Stage → Bool
has_left Live = false
has_left (Ending parting) = false
has_left (Closed cause Leave) = false
has_left (Closed cause LastWord) = true
has_left (Closed cause Done) = true

no_words : (machine : Machine) (stage : Stage) → has_left stage ≡ false → words_said machine stage ≡ []
no_words machine Live none = refl
no_words machine (Ending parting) none = refl
no_words machine (Closed cause Leave) none = refl
no_words machine (Closed cause LastWord) none = absurd (true≢false none)
no_words machine (Closed cause Done) none = absurd (true≢false none)

open-stays : (stage : Stage) → is_closed stage ≡ false → has_left stage ≡ false
open-stays Live opened = refl
open-stays (Ending parting) opened = refl
open-stays (Closed cause farewell) opened = absurd (true≢false opened)

after_post-open : (last : Bool) (stage : Stage) → is_closed stage ≡ false → is_closed (stage_after_post last stage) ≡ false
after_post-open true stage opened = refl
after_post-open false stage opened = opened

after_reply-open : (end : ReplyEnd) (stage : Stage) → is_closed stage ≡ false → is_closed (stage_after_reply end stage) ≡ false
after_reply-open (ends.Joined session slot) stage opened = opened
after_reply-open ends.Decided stage opened = opened
after_reply-open ends.Rejected Live opened = refl
after_reply-open ends.Rejected (Ending parting) opened = refl
after_reply-open ends.Rejected (Closed cause farewell) opened = opened

not_left : (stage : Stage) {P : Type 0} → has_left stage ≡ false → has_left stage ≡ true → P
not_left stage none some = absurd (true≢false (sym some ∙ none))

left_or_not : (test : Bool) → (test ≡ true → ⊥) → test ≡ false
left_or_not false never = refl
left_or_not true never = absurd (never refl)

-- ---- one put

abbrev PutSo : Option DeskItem → Option DeskItem → Machine → Stage → List DeskItem → List DeskItem → Type 0
PutSo put waiting machine stage so_far asked =
    (commands : List DeskItem) × (so_far ++ option_to_list put ≡ commands ++ words_said machine (stage_once_put put waiting stage))
    × (asked ≡ commands ++ option_to_list (waiting_after_put put waiting))

word_put : (machine : Machine) (stage : Stage) (item : DeskItem) (so_far asked commands : List DeskItem) → next_word machine stage ≡ Some item
    → so_far ≡ commands ++ words_said machine stage → asked ≡ commands ++ [] → PutSo (Some item) None machine stage so_far asked
word_put machine Live item so_far asked commands due is asks = absurd (cc due)
word_put machine (Ending parting) item so_far asked commands due is asks = absurd (cc due)
word_put machine (Closed cause Leave) item so_far asked commands due is asks =
    let same : item ≡ items.Command (leave machine) = cc (sym due) in
    (commands, ap (λ (l : List DeskItem). l ++ item ∷ []) (is ∙ append-nil commands) ∙ ap (λ (i : DeskItem). commands ++ i ∷ []) same, asks)
word_put machine (Closed cause LastWord) item so_far asked commands due is asks =
    let same : item ≡ items.Closed machine.connection = cc (sym due) in
    (commands, ap (λ (l : List DeskItem). l ++ item ∷ []) is ∙ (append_assoc commands (items.Command (leave machine) ∷ []) (item ∷ []) ∙ ap (λ (i : DeskItem). commands ++ items.Command (leave machine) ∷ i ∷ []) same), asks)
word_put machine (Closed cause Done) item so_far asked commands due is asks = absurd (cc due)

put_so : (put waiting : Option DeskItem) (machine : Machine) (stage : Stage) (so_far asked commands : List DeskItem) → ((item : DeskItem) → put ≡ Some item → next_item waiting machine stage ≡ Some item)
    → so_far ≡ commands ++ words_said machine stage → asked ≡ commands ++ option_to_list waiting → (has_left stage ≡ true → waiting ≡ None) → PutSo put waiting machine stage so_far asked
put_so None waiting machine stage so_far asked commands due is asks rests = (commands, append-nil so_far ∙ is, asks)
put_so (Some item) (Some waits) machine stage so_far asked commands due is asks rests =
    let same : waits ≡ item = cc (due item refl) in
    let none : words_said machine stage ≡ [] = no_words machine stage (left_or_not (has_left stage) (λ left. cc (rests left))) in (
      commands ++ item ∷ [],
      ap (λ (l : List DeskItem). l ++ item ∷ []) (is ∙ (ap (λ (l : List DeskItem). commands ++ l) none ∙ append-nil commands))
          ∙ (sym (append-nil (commands ++ item ∷ [])) ∙ ap (λ (l : List DeskItem). (commands ++ item ∷ []) ++ l) (sym none)),
      asks ∙ (ap (λ (i : DeskItem). commands ++ i ∷ []) same ∙ sym (append-nil (commands ++ item ∷ []))),
    )
put_so (Some item) None machine stage so_far asked commands due is asks rests = word_put machine stage item so_far asked commands (due item refl) is asks

-- ---- one command

ask_so : (asked : Option DeskItem) (waiting : Option DeskItem) (so_far commands : List DeskItem) → ((item : DeskItem) → asked ≡ Some item → waiting ≡ None)
    → so_far ≡ commands ++ option_to_list waiting → so_far ++ option_to_list asked ≡ commands ++ option_to_list (waiting_after asked waiting)
ask_so None waiting so_far commands free is = append-nil so_far ∙ is
ask_so (Some item) waiting so_far commands free is =
    ap (λ (l : List DeskItem). l ++ item ∷ []) (is ∙ (ap (λ (w : Option DeskItem). commands ++ option_to_list w) (free item refl) ∙ append-nil commands))

handled_there : (machine : Machine) (frame : Option Frame) (item : DeskItem) → asked_item machine frame ≡ Some item → (f : Frame) × (frame ≡ Some f)
handled_there machine None item asks = absurd (cc asks)
handled_there machine (Some frame) item asks = (frame, refl)

nothing_waits : {L : Type 0} (port : PortFacts L) → IsTrue (may_handle port) → port.waiting ≡ None
nothing_waits port may = none_of port.waiting (and-left (is_none port.waiting) _ (and-right (not port.machine.awaits) _ (and-right (is_live port.stage) _ may)))

module _ {L : Type 0} where
  pub record DeskSo (port : PortFacts L) (put asked : List DeskItem) : Type 0 where
    pub commands : List DeskItem
    pub put_is : put ≡ commands ++ words_said port.machine port.stage
    pub asked_is : asked ≡ commands ++ option_to_list port.waiting
    pub rests : has_left port.stage ≡ true → port.waiting ≡ None

  -- a port that was open and goes on to wait for the same
  moves : (old new : PortFacts L) (put asked : List DeskItem) → DeskSo old put asked → has_left old.stage ≡ false → has_left new.stage ≡ false → new.waiting ≡ old.waiting → DeskSo new put asked
  moves old new put asked so before now waiting = record {
    commands = so.commands;
    put_is = so.put_is ∙ ap (λ (l : List DeskItem). so.commands ++ l) (no_words old.machine old.stage before ∙ sym (no_words new.machine new.stage now));
    asked_is = so.asked_is ∙ ap (λ (w : Option DeskItem). so.commands ++ option_to_list w) (sym waiting);
    rests = λ left. not_left new.stage now left;
  }

  stays_so : (old new : PortFacts L) (put asked : List DeskItem) → DeskSo old put asked → new ≡ old → DeskSo new put asked
  stays_so old new put asked so same = subst (λ (p : PortFacts L). DeskSo p put asked) (sym same) so

module _ {L V : Type 0} (facts : L → LinkFacts) (routed : V → ℕ → SessionId → List ℕ → V → Type 0) where
  -- an open port comes to no word of its farewell in a step
  open_step : (old : PortFacts L) (did : PortDid) (new : PortFacts L) (closed : Option Cause) → Settled facts old did new closed → is_closed old.stage ≡ false → has_left new.stage ≡ false
  open_step old did new None stays opened =
      open-stays new.stage (ap is_closed stays.stage ∙ after_post-open (is_last (session_of old.machine.stage) did.post) _ (stage_once_put-closed did.put old.waiting old.stage ∙ opened))
  open_step old did new (Some cause) closes opened = ap has_left closes.stage

  -- the words that were said, by the stage once the put was made
  words_step : (old : PortFacts L) (machine : Machine) (did : PortDid) (new : PortFacts L) (closed : Bool) → is_closed old.stage ≡ closed → Steps facts routed old machine did new
      → (words_said new.machine new.stage ≡ words_said old.machine (stage_once_put did.put old.waiting old.stage)) × (has_left new.stage ≡ true → new.waiting ≡ waiting_after_put did.put old.waiting × (new.stage ≡ stage_once_put did.put old.waiting old.stage))
  words_step old machine did new true closed steps =
      let rests = quiet facts routed old machine did new steps closed in (
        ap (λ (s : Stage). words_said new.machine s) rests.stage ∙ ap (λ (m : Machine). words_said m (stage_once_put did.put old.waiting old.stage)) rests.machine,
        λ said. (steps.turn.puts.waiting ∙ ap (λ (f : Option Frame). waiting_after (asked_item old.machine f) (waiting_after_put did.put old.waiting)) rests.no_frame, rests.stage),
      )
  words_step old machine did new false opened steps =
      let now = open_step old did new did.closed steps.turn.ends.settled opened in
      let before = open-stays (stage_once_put did.put old.waiting old.stage) (stage_once_put-closed did.put old.waiting old.stage ∙ opened) in (
        no_words new.machine new.stage now ∙ sym (no_words old.machine _ before),
        λ said. not_left new.stage now said,
      )

  rests_put : (put waiting : Option DeskItem) (stage : Stage) → (has_left stage ≡ true → waiting ≡ None) → has_left (stage_once_put put waiting stage) ≡ true → waiting_after_put put waiting ≡ None
  rests_put (Some item) waiting stage rests said = refl
  rests_put None waiting stage rests said = rests said

  step_so : (old : PortFacts L) (machine : Machine) (did : PortDid) (new : PortFacts L) (put asked : List DeskItem) → DeskSo old put asked → Steps facts routed old machine did new
      → DeskSo new (put ++ option_to_list did.put) (asked ++ option_to_list (asked_item machine did.handled))
  step_so old machine did new put asked so steps =
      let placed = put_so did.put old.waiting old.machine old.stage put asked so.commands steps.turn.puts.due so.put_is so.asked_is so.rests in
      let words = words_step old machine did new (is_closed old.stage) refl steps in
      let free = λ (item : DeskItem) (asks : asked_item old.machine did.handled ≡ Some item).
      let there = handled_there old.machine did.handled item asks in nothing_waits (port_after_put did.put old) (steps.turn.handles.allowed there.0 there.1) in
      record {
        commands = placed.0;
        put_is = placed.1 ∙ ap (λ (l : List DeskItem). placed.0 ++ l) (sym words.0);
        asked_is = ap (λ (m : Machine). asked ++ option_to_list (asked_item m did.handled)) steps.of_port
            ∙ (ask_so (asked_item old.machine did.handled) (waiting_after_put did.put old.waiting) asked placed.0 free placed.2
            ∙ ap (λ (w : Option DeskItem). placed.0 ++ option_to_list w) (sym steps.turn.puts.waiting));
        rests = λ said. (words.1 said).0 ∙ rests_put did.put old.waiting old.stage so.rests (sym (ap has_left (words.1 said).1) ∙ said);
      }

  pub life_so : (old : PortFacts L) (events : List Event) (new : PortFacts L) (put asked : List DeskItem) → DeskSo old put asked → Lives facts routed old events new
      → DeskSo new (put ++ items_put events) (asked ++ items_asked events)
  life_so old [] new put asked so same =
      subst (λ (l : List DeskItem). DeskSo new l (asked ++ [])) (sym (append-nil put)) (subst (λ (l : List DeskItem). DeskSo new put l) (sym (append-nil asked)) (stays_so old new put asked so same))
  life_so old (stepped machine did ∷ events) new put asked so (mid, steps, lives) =
      let next = life_so mid events new _ _ (step_so old machine did mid put asked so steps) lives in
      subst (λ (l : List DeskItem). DeskSo new l (asked ++ (option_to_list (asked_item machine did.handled) ++ items_asked events))) (append_assoc put (option_to_list did.put) (items_put events))
      (subst (λ (l : List DeskItem). DeskSo new ((put ++ option_to_list did.put) ++ items_put events) l) (append_assoc asked (option_to_list (asked_item machine did.handled)) (items_asked events)) next)
  life_so old (replied heard cause ∷ events) new put asked so (mid, inl stays, lives) = life_so mid events new put asked (stays_so old mid put asked so stays.same) lives
  life_so old (replied heard cause ∷ events) new put asked so (mid, inr (inl takes), lives) =
      let now = open-stays mid.stage (ap (λ (p : PortFacts L). is_closed p.stage) takes.rest ∙ after_reply-open heard.end old.stage takes.was_open) in
      life_so mid events new put asked (moves old mid put asked so (open-stays old.stage takes.was_open) now (ap (λ (p : PortFacts L). p.waiting) takes.rest)) lives
  life_so old (replied heard cause ∷ events) new put asked so (mid, inr (inr closes), lives) =
      life_so mid events new put asked (moves old mid put asked so (open-stays old.stage closes.was_open) (ap (λ (p : PortFacts L). has_left p.stage) closes.closes.rest) (ap (λ (p : PortFacts L). p.waiting) closes.closes.rest)) lives
  life_so old (lagged cause ∷ events) new put asked so (mid, inl stays, lives) = life_so mid events new put asked (stays_so old mid put asked so stays.same) lives
  life_so old (lagged cause ∷ events) new put asked so (mid, inr lags, lives) =
      life_so mid events new put asked (moves old mid put asked so (open-stays old.stage lags.0) (ap (λ (p : PortFacts L). has_left p.stage) lags.2.rest) (ap (λ (p : PortFacts L). p.waiting) lags.2.rest)) lives

  pub put_once : (connection worker : ℕ) (link : L) (events : List Event) (port : PortFacts L) → Lives facts routed (new_port connection worker link) events port
      → (commands : List DeskItem) × (items_put events ≡ commands ++ words_said port.machine port.stage) × (items_asked events ≡ commands ++ option_to_list port.waiting)
  put_once connection worker link events port lives =
      let so = life_so (new_port connection worker link) events port [] [] (record { commands = []; put_is = refl; asked_is = refl; rests = λ said. absurd (true≢false (sym said)) }) lives in
      (so.commands, so.put_is, so.asked_is)
