-- What was taken from the desk, logins that wait, and what was posted.
use Rattle.mum_owner.proofs.Common.{◌≡◌, ◌∙◌, ℕ, Bool, true, false, cond, List, [], ◌∷◌, ◌++◌, length, Option, Some, None, ap, subst, sym, ◌==◌, IsTrue, MatchBool, is_none, is_some, AllByRecursion, option_map, ControlFacts, PostsNext, due_notices, Posted, Takes, DESK_CAPACITY, WasAsked, DeskItem, Command, DeskFacts, OwnerFacts, ReceivesItem, Rests, TakesItem, WasAskedIn, blocker, may_go, with_pass, PostsNotice, PostsOne, has_posted, lag_at, with_lag, Guest}
use Rattle.mum_port.specs.declared.item.DeskItem.TheVariants as items

-- one more after
pub all_more : {X : Type 0} (P : X → Type 0) (xs : List X) (x : X) → AllByRecursion P xs → P x → AllByRecursion P (xs ++ x ∷ [])
all_more {X} P [] x all last = (last, tt)
all_more {X} P (first ∷ xs) x all last = (all.0, all_more P xs x all.1 last)

asked_of : (item : Option DeskItem) → WasAskedIn item → (command : Command) → item ≡ Some (items.Command command) → WasAsked command.what
asked_of None was command is = cc
asked_of (Some (items.Closed connection)) was command is = cc
asked_of (Some (items.Command other)) was command is = let same : other ≡ command = cc in subst (λ (c : Command). WasAsked c.what) same was
asked_of (Some (items.Bans connection session payload)) was command is = cc

-- a command keeps what it asks, whatever session it gets
pub owned_what : (found : Option Guest) (command own : Command) → option_map (λ guest. record command { session = guest.session }) found ≡ Some own → own.what ≡ command.what
owned_what None command own is = cc
owned_what (Some guest) command own is = let same : record command { session = guest.session } ≡ own = cc in sym (ap (λ (c : Command). c.what) same)

module _ {D L : Type 0} where
  pub taken_item : (old before : OwnerFacts D L) (desk : DeskFacts) (item : Option DeskItem) (worked : Bool) (new : OwnerFacts D L) → before ≡ old
      → Takes DESK_CAPACITY before.desk.pass item desk.pass → desk.leave ≡ before.desk.leave → worked ≡ is_some item → ReceivesItem (record before { desk = desk }) item new
      → WasAskedIn item → TakesItem old worked new
  taken_item old before desk item worked new is takes leave so received was =
      let kept : record before { desk = desk } ≡ with_pass desk.pass old =
      ap (λ (l : Option ℕ). record before { desk = record { pass = desk.pass; leave = l } }) leave
      ∙ ap (λ (o : OwnerFacts D L). with_pass desk.pass o) is in
      record {
        item = item;
        pass = desk.pass;
        taken = subst (λ (o : OwnerFacts D L). Takes DESK_CAPACITY o.desk.pass item desk.pass) is takes;
        so = so;
        received = subst (λ (o : OwnerFacts D L). ReceivesItem o item new) kept received;
        asked = λ command here. asked_of item was command here;
      }

  -- where no login waits, none may go
  pub none_may_go : (owner : OwnerFacts D L) → owner.logins ≡ [] → IsTrue (may_go owner) → ⊥
  none_may_go owner empty may =
      let never : false ≡ true = subst (λ (l : List Command). cond (length l == 0) false (is_none (blocker owner)) ≡ true) empty may in
      cc

  pub posted_one : (old before : OwnerFacts D L) (answer : Posted) (after : ControlFacts) (worked : Bool) (new : OwnerFacts D L) → before ≡ old
      → is_some before.kept.lag ≡ false → PostsNext before.control (due_notices before.control) answer after → worked ≡ has_posted answer
      → new ≡ with_lag (lag_at answer before.guests.rows) (record before { control = after }) → PostsNotice old worked new
  posted_one old before answer after worked new is none posts so others =
      let here : PostsOne old worked new = record {
        answer = answer;
        after = after;
        posts = subst (λ (o : OwnerFacts D L). PostsNext o.control (due_notices o.control) answer after) is posts;
        so = so;
        others = others ∙ ap (λ (o : OwnerFacts D L). with_lag (lag_at answer o.guests.rows) (record o { control = after })) is;
      } in
      subst (λ (b : Bool). MatchBool b (Rests old worked new) (PostsOne old worked new)) (sym none ∙ ap (λ (o : OwnerFacts D L). is_some o.kept.lag) is) here
