use Rattle.mum_address.proofs.Common.{◌≡◌, ℕ, List, subst, ◌∙◌, ◌↔◌, IsHeader, BeginsNone, plain, whole, refused}
use Rattle.mum_address.proofs.reader.HeaderReader.header.Goals as goal

pub returns-clause-whole : goal.returns-clause-whole
returns-clause-whole c = λ told.
    subst (λ (bytes : List ℕ). (plain c.header_of.result ≡ whole told) ↔ IsHeader bytes told) (c.deref.ensures.0 ∙ c.self.view_is) (c.header_of.ensures.whole told)

pub returns-clause-refused : goal.returns-clause-refused
returns-clause-refused c = subst (λ (bytes : List ℕ). (plain c.header_of.result ≡ refused) ↔ BeginsNone bytes) (c.deref.ensures.0 ∙ c.self.view_is) c.header_of.ensures.refused
