-- A journal passes its audit where it is legal, and nowhere else.
use Rattle.mum_server.proofs.Common.{◌≡◌, ℕ, List, [], Option, Some, None, Ok, refl, sym, ap, ◌∙◌, subst, ◌↔◌, Fault, document_fault, Journal, audited, findings, first_line, first_wrong, IsLegal, from_legal, legal_from, answered, audit_of, found, judged_with, journal_read, Outcome, Finished}
use Rattle.mum_audit.specs.Audit.{answer}

abbrev TypeOf : {A : Type 0} → A → Type 0
TypeOf {A} x = A

-- what is found first of wrong lines, which has no name here
abbrev FirstWrong : Type 0
FirstWrong = TypeOf (first_wrong 0 [])

passes_by : (journal : Journal) (first : FirstWrong) → first_wrong (first_line journal) (findings journal) ≡ first → ((found (answer journal first)).ending ≡ Finished) ↔ IsLegal journal
passes_by journal None is = (λ ends. legal_from journal is, λ legal. refl)
passes_by journal (Some wrong) is = (λ ends. cc, λ legal. let none = sym (from_legal journal legal) ∙ is in cc)

passes_found : (journal : Journal) → ((found (audited journal)).ending ≡ Finished) ↔ IsLegal journal
unfolding audited
passes_found journal = passes_by journal (first_wrong (first_line journal) (findings journal)) refl

pub passes : (bytes : List ℕ) (journal : Journal) → journal_read bytes ≡ Ok journal → document_fault journal.config ≡ None → ((audit_of bytes).ending ≡ Finished) ↔ IsLegal journal
unfolding audit_of
passes bytes journal read faultless =
    let outcome : audit_of bytes ≡ found (audited journal) = ap answered read ∙ ap (λ (fault : Option Fault). judged_with fault journal) faultless in
    subst (λ (o : Outcome). (o.ending ≡ Finished) ↔ IsLegal journal) (sym outcome) (passes_found journal)
