-- Logins that were tested, removals with a ban, and lists of bans.
use Rattle.mum_owner.proofs.Common.{◌≡◌, ◌∙◌, ℕ, Bool, List, Option, ap, subst, sym, inl, inr, ◌↔◌, IsTrue, refuses, Book, Reserves, after_call, Ban, SessionId, ROOT, BAN, current, MayIn, Rose, ReplyFacts, Command, sent, WardenFacts, event_in, verdict_in, LacksRoom, ListComesTo, Removes, SettlesList, TestedBy, TestsLogin, book_after, is_banned, list_reply, reason_in, with_ban, with_warden, KeptFacts, OwnerFacts, IsGiven, roll_of, starved, with_reply, address_of, guest_with, Guest}

same_book : (old new : Book) (bans : List Ban) → new.bans ≡ bans → new.reserved ≡ old.reserved → new ≡ record old { bans = bans }
same_book old new bans is reserved =
    ap (λ (b : List Ban). record new { bans = b }) is ∙ ap (λ (r : Option (List ℕ)). record { bans = bans; reserved = r }) reserved

module _ {D L : Type 0} where
  -- a login, where the warden was asked
  pub tested : (old before : OwnerFacts D L) (login : Command) (warden : WardenFacts) (address : List ℕ) (answer banned : Bool) (new : OwnerFacts D L) → before ≡ old
      → address ≡ address_of login.connection before.guests.rows → answer ≡ refuses warden.book.bans address warden.last → warden.book ≡ before.warden.book
      → Rose before.warden.calls warden.calls → answer ≡ banned → TestedBy banned (with_warden warden before) login new → TestsLogin old login new
  tested old before login warden address answer banned new is from so book asked found tests =
      let same : warden.book ≡ old.warden.book = book ∙ ap (λ (o : OwnerFacts D L). o.warden.book) is in
      let whence : address ≡ address_of login.connection old.guests.rows = from ∙ ap (λ (o : OwnerFacts D L). address_of login.connection o.guests.rows) is in
      let so_found : banned ≡ is_banned old login warden.last =
      sym found ∙ so ∙ ap (λ (b : Book). refuses b.bans address warden.last) same
      ∙ ap (λ (a : List ℕ). refuses old.warden.book.bans a warden.last) whence in
      record {
        warden = warden;
        clock = record { asked = subst (λ (o : OwnerFacts D L). Rose o.warden.calls warden.calls) is asked; book = same };
        tested =
            subst (λ (b : Bool). TestedBy b (with_warden warden old) login new) so_found
            (subst (λ (o : OwnerFacts D L). TestedBy banned (with_warden warden o) login new) is tests);
      }

  -- a removal, where there was no memory for its ban
  pub lacked : (old before : OwnerFacts D L) (connection : ℕ) (warden : WardenFacts) (new : OwnerFacts D L) → before ≡ old → warden.book ≡ before.warden.book
      → Rose before.warden.calls warden.calls → new ≡ starved connection (with_warden warden before) → LacksRoom old connection new
  lacked old before connection warden new is book asked so = record {
    warden = warden;
    clock = record {
      asked = subst (λ (o : OwnerFacts D L). Rose o.warden.calls warden.calls) is asked;
      book = book ∙ ap (λ (o : OwnerFacts D L). o.warden.book) is;
    };
    others = so ∙ ap (λ (o : OwnerFacts D L). starved connection (with_warden warden o)) is;
  }

  -- a command that is given changes nothing of the warden
  pub warden_stays : (old : OwnerFacts D L) (command : Command) (new : OwnerFacts D L) → IsGiven old command new → new.warden ≡ old.warden
  warden_stays old command new (inl gives) = ap (λ (o : OwnerFacts D L). o.warden) gives.others
  warden_stays old command new (inr drops) = ap (λ (o : OwnerFacts D L). o.warden) drops.others

  pub removed : (old before : OwnerFacts D L) (banned : SessionId) (command : Command) (warden : WardenFacts) (guest : Option Guest) (reason : List ℕ) (after new : OwnerFacts D L) → before ≡ old
      → guest ≡ guest_with banned before.guests.rows → reason ≡ reason_in command.what → Rose before.warden.calls warden.calls → Reserves before.warden.book reason warden.book
      → IsGiven (with_warden warden before) command after → new ≡ with_warden (with_ban guest after.kept.reply after.warden) after → Removes old banned command new
  removed old before banned command warden guest reason after new is whom why asked reserves given so = record {
    warden = warden;
    asked = subst (λ (o : OwnerFacts D L). Rose o.warden.calls warden.calls) is asked;
    reserves =
        subst (λ (r : List ℕ). Reserves old.warden.book r warden.book) why
        (subst (λ (o : OwnerFacts D L). Reserves o.warden.book reason warden.book) is reserves);
    after = after;
    given = subst (λ (o : OwnerFacts D L). IsGiven (with_warden warden o) command after) is given;
    others =
        so ∙ ap (λ (g : Option Guest). with_warden (with_ban g after.kept.reply after.warden) after)
        (whom ∙ ap (λ (o : OwnerFacts D L). guest_with banned o.guests.rows) is);
  }

  -- a list of bans that was decided
  listed : (before : OwnerFacts D L) (connection : ℕ) (session : SessionId) (payload bytes : List ℕ) (allowed : Bool) (warden : WardenFacts) (wire : List ℕ) (reply : ReplyFacts) (kept : KeptFacts L)
      → bytes ≡ payload → wire ≡ sent session (verdict_in before.warden.book allowed bytes)
      → warden.book.bans ≡ after_call before.warden.book.bans (event_in before.warden.book allowed bytes warden.last) → warden.book.reserved ≡ before.warden.book.reserved
      → reply ≡ list_reply (roll_of before) connection wire → kept ≡ with_reply reply before.kept
      → ListComesTo warden before (list_reply (roll_of before) connection (sent session (verdict_in before.warden.book allowed payload))) (book_after before.warden.book allowed payload warden.last)
      (record before { warden = warden; kept = kept })
  listed before connection session payload bytes allowed warden wire reply kept same told bans reserved answer keeps =
      inl (
        same_book before.warden.book warden.book (after_call before.warden.book.bans (event_in before.warden.book allowed payload warden.last))
            (bans ∙ ap (λ (p : List ℕ). after_call before.warden.book.bans (event_in before.warden.book allowed p warden.last)) same) reserved,
        ap (λ (k : KeptFacts L). record before { warden = warden; kept = k }) keeps
            ∙ ap (λ (r : ReplyFacts). record before { warden = warden; kept = with_reply r before.kept })
            (answer ∙ ap (λ (w : List ℕ). list_reply (roll_of before) connection w) (told ∙ ap (λ (p : List ℕ). sent session (verdict_in before.warden.book allowed p)) same)),
      )

  pub settled : (old before : OwnerFacts D L) (connection : ℕ) (session : SessionId) (payload : List ℕ) (allowed : Bool) (warden : WardenFacts) (new : OwnerFacts D L) → before ≡ old
      → (IsTrue allowed ↔ MayIn (current before.control) session BAN ROOT) → Rose before.warden.calls warden.calls
      → ListComesTo warden before (list_reply (roll_of before) connection (sent session (verdict_in before.warden.book allowed payload))) (book_after before.warden.book allowed payload warden.last) new
      → SettlesList old connection session payload new
  settled old before connection session payload allowed warden new is may asked comes = record {
    allowed = allowed;
    may_ban = subst (λ (o : OwnerFacts D L). IsTrue allowed ↔ MayIn (current o.control) session BAN ROOT) is may;
    warden = warden;
    asked = subst (λ (o : OwnerFacts D L). Rose o.warden.calls warden.calls) is asked;
    comes_to =
        subst
        (λ (o : OwnerFacts D L). ListComesTo warden o (list_reply (roll_of o) connection (sent session (verdict_in o.warden.book allowed payload))) (book_after o.warden.book allowed payload warden.last) new)
        is comes;
  }

  pub decided : (old before : OwnerFacts D L) (connection : ℕ) (session : SessionId) (payload bytes : List ℕ) (allowed : Bool) (warden : WardenFacts) (wire : List ℕ) (reply : ReplyFacts) (kept : KeptFacts L) → before ≡ old
      → (IsTrue allowed ↔ MayIn (current before.control) session BAN ROOT) → Rose before.warden.calls warden.calls → bytes ≡ payload
      → wire ≡ sent session (verdict_in before.warden.book allowed bytes)
      → warden.book.bans ≡ after_call before.warden.book.bans (event_in before.warden.book allowed bytes warden.last) → warden.book.reserved ≡ before.warden.book.reserved
      → reply ≡ list_reply (roll_of before) connection wire → kept ≡ with_reply reply before.kept
      → SettlesList old connection session payload (record before { warden = warden; kept = kept })
  decided old before connection session payload bytes allowed warden wire reply kept is may asked same told bans reserved answer keeps =
      settled old before connection session payload allowed warden (record before { warden = warden; kept = kept }) is may asked
      (listed before connection session payload bytes allowed warden wire reply kept same told bans reserved answer keeps)
