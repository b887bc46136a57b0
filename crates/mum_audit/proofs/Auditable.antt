-- A journal that has lines can be written.
use Rattle.mum_audit.proofs.Common.{◌≡◌, ℕ, List, [], ◌∷◌, None, document_fault, Each, IsControl, IsEntry, IsTextOf, IsWritableControl, IsWritableEntry, ControlEntry, Journal, WorkerEntry, IsAuditable}

each_weaker : {X : Type 0} (P Q : X → Type 0) → ((x : X) → P x → Q x) → (xs : List X) → Each P xs → Each Q xs
each_weaker P Q weaker [] all = tt
each_weaker P Q weaker (x ∷ xs) all = (weaker x all.0, each_weaker P Q weaker xs all.1)

pub auditable : (text : List ℕ) (journal : Journal) → IsTextOf text journal → document_fault journal.config ≡ None → IsAuditable journal
auditable text journal is faultless =
    let has = is.recordable in
    record {
      writable = record {
        least = has.least;
        greatest = has.greatest;
        lists = has.lists;
        limits = has.limits;
        controls = each_weaker IsControl IsWritableControl (λ (entry : ControlEntry) right. right.1) journal.controls has.controls;
        entries = each_weaker (Each IsEntry) (Each IsWritableEntry)
            (λ (entries : List WorkerEntry) right. each_weaker IsEntry IsWritableEntry (λ (entry : WorkerEntry) one. one.1) entries right) journal.by_worker has.entries;
      };
      faultless = faultless;
    }
