-- A payload that was heard as a message is one whose own encoding is heard as this message.
use Rattle.mum_heard.proofs.Common.{◌≡◌, ℕ, ◌≤◌, Bool, true, false, cond, List, length, Result, Ok, Err, refl, sym, ap, subst, ◌∙◌, arith, nat_lt, ltb-false, MessageFault, Layout, Table, Values, decoded, items, layout, missing, parts, rising, spelled, AreTyped, written, read_back, COMMAND_LIMIT, heard_map, read, read_from, Message, TooLong}
use Rattle.mum_heard.proofs.Taken.{all_narrow, decoded_sound}

-- ---- what is heard of a payload

record WasRead (form : Layout) (found : Result (Values form) MessageFault) (values : Values form) : Type 0 where
  decodes : found ≡ Ok values
  short : nat_lt COMMAND_LIMIT (length (written (items form values))) ≡ false

was_read : (form : Layout) (found : Result (Values form) MessageFault) (values : Values form) → read_from form found ≡ Message values → WasRead form found values
was_read form (Err e) values heard = absurd (cc)
was_read form (Ok found) values heard = by_length (nat_lt COMMAND_LIMIT (length (written (items form found)))) refl heard
  where
    by_length : (b : Bool) → nat_lt COMMAND_LIMIT (length (written (items form found))) ≡ b → cond b TooLong (Message found) ≡ Message values → WasRead form (Ok found) values
    by_length true is heard = absurd (cc)
    by_length false is heard =
        let same : found ≡ values = cc in
        subst (λ (v : Values form). WasRead form (Ok found) v) same (record { decodes = refl; short = is })

module _ {M : Type 0} (rows : Table M) (make : Values (layout rows) → M) (makes : (values : Values (layout rows)) → parts rows (make values) ≡ values)
    (up : rising 0 (layout rows) ≡ true) (narrow : all_narrow (layout rows) ≡ true) where
  -- the encoding of what was read is read as it
  encoding_read : (payload : List ℕ) (values : Values (layout rows)) → read rows payload ≡ Message values → read rows (spelled rows (make values)) ≡ Message values
  encoding_read payload values heard =
      let form = layout rows in
      let was = was_read form (decoded rows payload) values heard in
      let low : length (written (items form values)) ≤ COMMAND_LIMIT = ltb-false COMMAND_LIMIT (length (written (items form values))) was.short in
      let sound = decoded_sound form narrow up payload values was.decodes (omega (arith, low)) in
      let typed = subst (λ (v : Values form). AreTyped form v) (sym (makes values)) sound.typed in
      let whole = ap (missing form) (makes values) ∙ sound.nothing_missing in
      let again : decoded rows (spelled rows (make values)) ≡ Ok values = read_back rows (make values) up typed whole ∙ ap (λ (v : Values form). Ok v) (makes values) in
      ap (read_from form) again ∙ ap (λ (b : Bool). cond b TooLong (Message values)) was.short

  -- so is the message of it
  pub message_heard : {Y : Type 0} (f : Values (layout rows) → Y) (payload : List ℕ) (values : Values (layout rows)) → read rows payload ≡ Message values
      → heard_map f (read rows (spelled rows (make values))) ≡ Message (f values)
  message_heard f payload values heard = ap (heard_map f) (encoding_read payload values heard)
