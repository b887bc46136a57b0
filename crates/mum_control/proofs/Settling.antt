-- What verdicts, publishes and replies come to.
use Rattle.mum_control.proofs.Common.{◌≡◌, ℕ, Bool, true, false, not, List, [], Option, Some, None, Result, Ok, Err, IfOk, OnErr, OnOk, refl, ap, sym, subst, ◌∙◌, inl, inr, ◌⊎◌, IsTrue, is_none, is_some, result_ok, SessionId, ReplyEnd, Edit, Verdict, Accepted, Lacks, Refused, Rejected, Answer, Ignored, Notice, all_published, Login, NoteFacts, PublisherFacts, ReplyFacts, is_admitted, mark, reply_end, edits_of, Accepts, accepted, Decides, Denies, IsDropped, Publishes, note_of, with_accepted, with_edit, with_login, ControlFacts, Posts, Posted}

-- ---- a verdict that accepts no edit

-- its outcome has no revision
pub mark_of_denied : (one other : ℕ) (denied : Verdict) → edits_of denied ≡ [] → mark one denied ≡ mark other denied
mark_of_denied one other (Accepted edit) none = cc
mark_of_denied one other (Lacks perm channel) none = refl
mark_of_denied one other (Refused kind) none = refl
mark_of_denied one other (Rejected kind) none = refl
mark_of_denied one other (Answer frame) none = refl
mark_of_denied one other (Ignored why) none = refl

-- it is denied
pub denied_so : (old : ControlFacts) (connection : ℕ) (session : Option SessionId) (denied : Verdict) (reply : ReplyFacts) (new : ControlFacts)
    → edits_of denied ≡ [] → Denies old connection session denied reply new → Decides old connection session denied reply new
denied_so old connection session (Accepted edit) reply new none so = cc
denied_so old connection session (Lacks perm channel) reply new none so = so
denied_so old connection session (Refused kind) reply new none so = so
denied_so old connection session (Rejected kind) reply new none so = so
denied_so old connection session (Answer frame) reply new none so = so
denied_so old connection session (Ignored why) reply new none so = so

-- its end reports no login
pub denied_admits_none : (denied : Verdict) (connection : ℕ) (roll : List Login) → edits_of denied ≡ [] → IsTrue (is_admitted (reply_end denied) connection roll)
denied_admits_none (Accepted edit) connection roll none = cc
denied_admits_none (Lacks perm channel) connection roll none = refl
denied_admits_none (Refused kind) connection roll none = refl
denied_admits_none (Rejected kind) connection roll none = refl
denied_admits_none (Answer frame) connection roll none = refl
denied_admits_none (Ignored why) connection roll none = refl

-- ---- a publish that may be refused

pub publishes_so : {E : Type 0} (answer : Result NoteFacts E) (before after : PublisherFacts) → OnOk answer (after ≡ all_published before) → OnErr answer (after ≡ before)
    → IfOk answer (λ note. note ≡ note_of before) → Publishes before (result_ok answer) after
publishes_so (Ok note) before after ok err is = (is, ok)
publishes_so (Err error) before after ok err is = err

-- it leaves the roll
pub roll_left : (before after : PublisherFacts) (note : Option NoteFacts) → Publishes before note after → before.roll ≡ after.roll
roll_left before after None same = sym (ap (λ (p : PublisherFacts). p.roll) same)
roll_left before after (Some note) published = sym (ap (λ (p : PublisherFacts). p.roll) published.1)

-- whether there is no note
pub none_so : {A : Type 0} (note : Option A) (none : Bool) → is_some note ≡ not none → none ≡ is_none note
none_so {A} None true is = refl
none_so {A} None false is = cc
none_so {A} (Some note) true is = cc
none_so {A} (Some note) false is = refl

-- ---- a reply, part by part

pub reply_so : (a b : ℕ) (e f : ReplyEnd) (n m : Option NoteFacts) (w v : List ℕ) (p q : Bool) (r s : List Login) → a ≡ b → e ≡ f → n ≡ m → w ≡ v → p ≡ q → r ≡ s
    → ◌≡◌ {A = ReplyFacts} (record { connection = a; end = e; note = n; wire = w; no_memory = p; roll = r })
    (record { connection = b; end = f; note = m; wire = v; no_memory = q; roll = s })
reply_so a b e f n m w v p q r s one two three four five six = cc

-- ---- what a verdict comes to is what is done of it

pub settled_accepting : (old : ControlFacts) (connection : ℕ) (session : Option SessionId) (decided : Verdict) (edit : Edit) (reply : ReplyFacts) (new : ControlFacts)
    → decided ≡ Accepted edit → IsDropped old connection reply new ⊎ Accepts old connection edit reply new
    → IsDropped old connection reply new ⊎ Decides old connection session decided reply new
settled_accepting old connection session decided edit reply new is done =
    subst (λ (v : Verdict). IsDropped old connection reply new ⊎ Decides old connection session v reply new) (sym is) done

denied_or_dropped : (old : ControlFacts) (connection : ℕ) (session : Option SessionId) (denied : Verdict) (reply : ReplyFacts) (new : ControlFacts) → edits_of denied ≡ []
    → IsDropped old connection reply new ⊎ Denies old connection session denied reply new → IsDropped old connection reply new ⊎ Decides old connection session denied reply new
denied_or_dropped old connection session denied reply new none (inl dropped) = inl dropped
denied_or_dropped old connection session denied reply new none (inr so) = inr (denied_so old connection session denied reply new none so)

pub settled_denying : (old : ControlFacts) (connection : ℕ) (session : Option SessionId) (decided denied : Verdict) (reply : ReplyFacts) (new : ControlFacts)
    → decided ≡ denied → edits_of denied ≡ [] → IsDropped old connection reply new ⊎ Denies old connection session denied reply new
    → IsDropped old connection reply new ⊎ Decides old connection session decided reply new
settled_denying old connection session decided denied reply new is none done =
    subst (λ (v : Verdict). IsDropped old connection reply new ⊎ Decides old connection session v reply new) (sym is)
    (denied_or_dropped old connection session denied reply new none done)

-- ---- a notice that is taken and then posted

pub posts_on : (old mid : ControlFacts) (rest : List Notice) (notice : Notice) (result : Posted) (new : ControlFacts)
    → mid ≡ record old { pending = rest } → Posts mid notice mid.pending result new → Posts old notice rest result new
posts_on old mid rest notice result new taken posted =
    let own : Posts (record old { pending = rest }) notice rest result new = subst (λ (m : ControlFacts). Posts m notice m.pending result new) taken posted in
    record { offered = own.offered; offers = own.offers; others = own.others; answer = own.answer }

-- ---- an edit that is appended, its login put on the roll, then published

pub accepts_so : (old mid on new : ControlFacts) (edit : Edit) (connection : ℕ) (end : ReplyEnd) (reply : ReplyFacts) → mid ≡ accepted old edit
    → on ≡ record mid { publisher = with_login mid.publisher connection end }
    → Publishes on.publisher reply.note new.publisher → new ≡ record on { publisher = new.publisher }
    → reply.connection ≡ connection → reply.end ≡ end → end ≡ reply_end (Accepted edit) → reply.wire ≡ [] → reply.no_memory ≡ is_none reply.note
    → reply.roll ≡ new.publisher.roll → Accepts old connection edit reply new
accepts_so old mid on new edit connection end reply accepts admits published others one two three four five six =
    let admitted : on ≡ record (accepted old edit) { publisher = with_login (with_edit old.publisher edit) connection end } =
    admits ∙ ap (λ (k : ControlFacts). record k { publisher = with_login k.publisher connection end }) accepts in
    let publisher : on.publisher ≡ with_accepted old.publisher connection edit =
    ap (λ (k : ControlFacts). k.publisher) admitted ∙ ap (with_login (with_edit old.publisher edit) connection) three in
    record {
      published = subst (λ (p : PublisherFacts). Publishes p reply.note new.publisher) publisher published;
      others = others ∙ ap (λ (k : ControlFacts). record k { publisher = new.publisher }) admitted;
      answer = reply_so reply.connection connection reply.end (reply_end (Accepted edit)) reply.note reply.note reply.wire [] reply.no_memory (is_none reply.note)
          reply.roll new.publisher.roll one (two ∙ three) refl four five six;
    }
