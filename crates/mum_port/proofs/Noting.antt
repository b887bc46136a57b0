-- What stays true of what a port took, when it takes one parcel more.
use Rattle.mum_port.proofs.Common.{◌≡◌, ◌∙◌, ℕ, List, [], ◌∷◌, ◌++◌, Option, Some, None, refl, sym, ap, subst, ForSome, All-push, All-same, All-weaker, IsPrefix, Takes, PassFacts, Tagged, PostFacts, VoiceFacts, IsCopy, IsNotice, prefix_self, prefix_trans, TakesUp, edits_told, NoteFacts, Opening, Edit, HaveTaken, IsToldCopy, IsToldNotice, NotesParcel, PassesFacts}

module _ (opening : Opening) (told after : Option NoteFacts) (longer : IsPrefix (edits_told told) (edits_told after)) where
  notice_on : (x : Tagged PostFacts) → IsToldNotice opening told x → IsToldNotice opening after x
  notice_on x was = record {
    rules = was.rules;
    begins = prefix_trans x.item.edits (edits_told told) (edits_told after) was.begins longer;
  }

  copy_on : (x : Tagged VoiceFacts) → IsToldCopy opening told x → IsToldCopy opening after x
  copy_on x was = record {
    rules = was.rules;
    begins = prefix_trans x.item.edits (edits_told told) (edits_told after) was.begins longer;
  }

-- the note that is kept is of the same ledger
named : (opening : Opening) (note : NoteFacts) (after : Option NoteFacts) → note.book ≡ opening.book
    → ForSome after (λ one. one.book ≡ note.book) → ForSome after (λ one. one.book ≡ opening.book)
named opening note after of same = λ one is. same one is ∙ of

-- a notice more
pub took_notice : (capacity : ℕ) (opening : Opening) (passes : PassesFacts) (note : NoteFacts) (after : Option NoteFacts) (parcel : PostFacts) (pass : PassFacts PostFacts)
    → HaveTaken opening passes → NotesParcel passes.told note after → note.book ≡ opening.book → note.edits ≡ parcel.edits → IsNotice opening parcel
    → Takes capacity passes.post (Some parcel) pass
    → HaveTaken opening (record passes { post = pass; told = after })
took_notice capacity opening passes note after parcel pass held noted of edits rules takes =
    let x = takes.0 in
    let one : IsToldNotice opening after x = record {
      rules = subst (IsNotice opening) (sym takes.1) rules;
      begins = subst (λ (l : List Edit). IsPrefix l (edits_told after)) (edits ∙ sym (ap (λ (p : PostFacts). p.edits) takes.1)) noted.its;
    } in record {
      book = named opening note after of noted.book;
      notices = All-same (IsToldNotice opening after) pass.taken (passes.post.taken ++ x ∷ []) (ap (λ (p : PassFacts PostFacts). p.taken) takes.2)
          (All-push (IsToldNotice opening after) passes.post.taken x
          (All-weaker (IsToldNotice opening passes.told) (IsToldNotice opening after) (notice_on opening passes.told after noted.mine) passes.post.taken held.notices) one);
      copies = All-weaker (IsToldCopy opening passes.told) (IsToldCopy opening after) (copy_on opening passes.told after noted.mine) passes.voice.taken held.copies;
    }

-- a copy more
pub took_copy : (capacity : ℕ) (opening : Opening) (passes : PassesFacts) (note : NoteFacts) (after : Option NoteFacts) (parcel : VoiceFacts) (pass : PassFacts VoiceFacts)
    → HaveTaken opening passes → NotesParcel passes.told note after → note.book ≡ opening.book → note.edits ≡ parcel.edits → IsCopy opening parcel
    → Takes capacity passes.voice (Some parcel) pass
    → HaveTaken opening (record passes { voice = pass; told = after })
took_copy capacity opening passes note after parcel pass held noted of edits rules takes =
    let x = takes.0 in
    let one : IsToldCopy opening after x = record {
      rules = subst (IsCopy opening) (sym takes.1) rules;
      begins = subst (λ (l : List Edit). IsPrefix l (edits_told after)) (edits ∙ sym (ap (λ (p : VoiceFacts). p.edits) takes.1)) noted.its;
    } in record {
      book = named opening note after of noted.book;
      notices = All-weaker (IsToldNotice opening passes.told) (IsToldNotice opening after) (notice_on opening passes.told after noted.mine) passes.post.taken held.notices;
      copies = All-same (IsToldCopy opening after) pass.taken (passes.voice.taken ++ x ∷ []) (ap (λ (p : PassFacts VoiceFacts). p.taken) takes.2)
          (All-push (IsToldCopy opening after) passes.voice.taken x
          (All-weaker (IsToldCopy opening passes.told) (IsToldCopy opening after) (copy_on opening passes.told after noted.mine) passes.voice.taken held.copies) one);
    }

-- nothing more
pub took_nothing : (opening : Opening) (passes : PassesFacts) (post : PassFacts PostFacts) (voice : PassFacts VoiceFacts) → HaveTaken opening passes
    → post.taken ≡ passes.post.taken → voice.taken ≡ passes.voice.taken
    → HaveTaken opening (record passes { post = post; voice = voice })
took_nothing opening passes post voice held posts voices = record {
  book = held.book;
  notices = All-same (IsToldNotice opening passes.told) post.taken passes.post.taken posts held.notices;
  copies = All-same (IsToldCopy opening passes.told) voice.taken passes.voice.taken voices held.copies;
}

-- ---- the note that is kept

-- that of the first parcel
pub noted_first : (note : NoteFacts) → NotesParcel None note (Some note)
noted_first note = record {
  book = λ one is. let same : note ≡ one = cc is in ap (λ (n : NoteFacts). n.book) (sym same);
  mine = (note.edits, refl);
  its = prefix_self note.edits;
}

-- that of the longer list
pub noted_more : (one note after : NoteFacts) → note.book ≡ one.book → TakesUp one note after → NotesParcel (Some one) note (Some after)
noted_more one note after named_so takes = record {
  book = λ n is. let same : after ≡ n = cc is in ap (λ (m : NoteFacts). m.book) (sym same) ∙ takes.book ∙ sym named_so;
  mine = takes.mine;
  its = takes.its;
}

-- the note of a parcel is of the ledger of those before
pub of_one : (opening : Opening) (told : Option NoteFacts) (note : NoteFacts) → ForSome told (λ one. one.book ≡ opening.book) → note.book ≡ opening.book
    → ForSome told (λ one. one.book ≡ note.book)
of_one opening told note all of = λ one is. all one is ∙ sym of
