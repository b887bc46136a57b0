-- What becomes of lists of bans that are answered.
use Rattle.std.proofs.Common.{◌≡◌, ◌≢◌, ◌∙◌, ℕ, Bool, List, [], Option, None, Result, Ok, Err, IsTrue, refl, ap, length, cond}
use Rattle.std.proofs.lemmas.Bool.{le-leb}
use Rattle.mum_base.specs.declared.number.SessionId.{SessionId}
use Rattle.mum_frame.specs.Frame.{spelling_of}
use Rattle.mum_frame.specs.declared.frame.TheConstants.{PAYLOAD_LIMIT}
use Rattle.mum_fields.specs.declared.message.MessageFault.{MessageFault}
use Rattle.mum_bans.proofs.Public.{answer_fits}
use Rattle.mum_bans.specs.declared.{ban.Ban.Ban, ban_list.BanList.BanList, verdict.BanVerdict.BanVerdict}
use Rattle.mum_bans.specs.{Answer.answer, Book.Book, Book.after_call, Limits.is_sound_book, Verdict.event_of}
use Rattle.mum_session.specs.declared.action.TheConstants.{BAN_LIST}
use Rattle.mum_warden.specs.Answer.{answer_to, sent}
use Rattle.mum_bans.specs.declared.verdict.BanVerdict.TheVariants as bans

-- a list that is answered sets no bans
pub no_event : (moment : ℕ) (verdict : BanVerdict) (list : Result BanList MessageFault) → answer_to verdict ≢ None → event_of moment verdict list ≡ None
no_event moment verdict (Err fault) answered = refl
no_event moment bans.Ignored (Ok list) answered = refl
no_event moment bans.Lacks (Ok list) answered = refl
no_event moment (bans.Answer payload) (Ok list) answered = refl
no_event moment bans.Refused (Ok list) answered = refl
no_event moment bans.Set (Ok list) answered = absurd (answered refl)

same_book : (old new : Book) → new.bans ≡ old.bans → new.reserved ≡ old.reserved → new ≡ old
same_book old new bans reserved =
    ap (λ (b : List Ban). record new { bans = b }) bans ∙ ap (λ (r : Option (List ℕ)). record old { reserved = r }) reserved

-- so the book is as it was
pub book_stays : (old new : Book) (moment : ℕ) (verdict : BanVerdict) (list : Result BanList MessageFault) → answer_to verdict ≢ None
    → new.bans ≡ after_call old.bans (event_of moment verdict list) → new.reserved ≡ old.reserved → new ≡ old
book_stays old new moment verdict list answered bans reserved =
    same_book old new (bans ∙ ap (after_call old.bans) (no_event moment verdict list answered)) reserved

pub whole_frame : (book : List Ban) (session : SessionId) → IsTrue (is_sound_book book) → sent session (bans.Answer (answer book)) ≡ spelling_of BAN_LIST (answer book)
whole_frame book session sound =
    ap (λ (b : Bool). cond b (spelling_of BAN_LIST (answer book)) []) (le-leb (length (answer book)) PAYLOAD_LIMIT (answer_fits book sound))
